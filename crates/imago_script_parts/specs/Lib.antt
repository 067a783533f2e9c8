-- SPDX-License-Identifier: MIT
pub mod ScriptStorage
pub mod Digits
pub mod Words
