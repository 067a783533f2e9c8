-- SPDX-License-Identifier: MIT
pub mod Mapped
pub mod Pieces
pub mod Disks
pub mod Layers
pub mod Described
