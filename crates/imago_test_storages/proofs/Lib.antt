-- SPDX-License-Identifier: MIT
pub mod Torn
pub mod Forgotten
pub mod OwnZeroes
