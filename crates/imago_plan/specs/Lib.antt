-- SPDX-License-Identifier: MIT
pub use Rattle.imago_file.specs.Names
pub mod Pieces
pub mod PieceBytes
pub mod StoredBytes
