-- SPDX-License-Identifier: MIT
pub mod Reading
pub mod Sizes
pub mod Settings
pub mod Options
pub mod Commands
pub mod Line
pub mod Laws
