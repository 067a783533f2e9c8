-- SPDX-License-Identifier: MIT
mod Told
mod ConvertedSteps
