-- SPDX-License-Identifier: MIT
pub mod Table
pub mod Pair
pub mod Sparse
pub mod SparseLaws
pub mod SparseImage
