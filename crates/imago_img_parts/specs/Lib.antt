-- SPDX-License-Identifier: MIT
pub mod Reaches
pub mod Commands
pub mod Locks
