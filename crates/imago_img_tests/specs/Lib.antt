-- SPDX-License-Identifier: MIT
pub mod MemoryFiles
pub mod Pairs
