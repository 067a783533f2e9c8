-- SPDX-License-Identifier: MIT
pub mod AnyCalls
pub mod AnyDriver
