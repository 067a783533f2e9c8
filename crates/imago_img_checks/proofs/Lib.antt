-- SPDX-License-Identifier: MIT
pub mod FaultSteps
pub mod VetSteps
mod SeenSteps
pub mod VetLaws
