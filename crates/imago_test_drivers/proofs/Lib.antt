-- SPDX-License-Identifier: MIT
pub mod Variants
pub mod CopySteps
pub mod ChoppySteps
