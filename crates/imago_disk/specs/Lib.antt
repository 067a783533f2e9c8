-- SPDX-License-Identifier: MIT
pub mod Disk
pub mod Files
pub mod Shows
