-- SPDX-License-Identifier: MIT
pub mod Files
pub mod Names
pub mod Openings
pub mod RoundTrips
pub mod Sizes
