-- SPDX-License-Identifier: MIT
pub mod Checked
pub mod Vetted
pub mod VettedParts
