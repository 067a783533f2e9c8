-- SPDX-License-Identifier: MIT
pub mod ReadingSteps
pub mod LineLaws
pub mod SettingSteps
