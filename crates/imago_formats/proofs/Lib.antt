-- SPDX-License-Identifier: MIT
pub mod TextSteps
pub mod HeadLaws
pub mod TakenSteps
pub mod SignatureSteps
