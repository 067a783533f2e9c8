-- SPDX-License-Identifier: MIT
pub mod Answer
pub mod Held
pub mod Images
pub mod Plan
pub mod Records
