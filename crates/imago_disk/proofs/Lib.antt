-- SPDX-License-Identifier: MIT
pub mod Shown
