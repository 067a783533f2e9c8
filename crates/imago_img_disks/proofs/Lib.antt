-- SPDX-License-Identifier: MIT
pub mod Disks
pub mod NewFiles
mod Measures
mod OneDisk
mod Overwritten
mod Resizes
mod TextSteps
pub mod RowSteps
mod Cleared
mod HeldSteps
mod Elsewhere
mod Opened
