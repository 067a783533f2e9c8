-- SPDX-License-Identifier: MIT
pub mod Handles
pub mod Refusals
pub mod Values
