-- SPDX-License-Identifier: MIT
pub mod Created
pub mod Counting
pub mod Faulty
pub mod FaultyPlan
pub mod Forgetful
pub mod Recording
pub mod WideNull
