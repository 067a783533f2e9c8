-- SPDX-License-Identifier: MIT
pub mod FileSteps
mod LongestLaws
pub mod DescribedSteps
pub mod PrintedSteps
