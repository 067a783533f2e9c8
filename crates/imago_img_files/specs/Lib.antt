-- SPDX-License-Identifier: MIT
pub mod Files
pub mod Failures
pub mod Openings
pub mod Extents
pub mod Described
pub mod Printed
