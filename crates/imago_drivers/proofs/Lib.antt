-- SPDX-License-Identifier: MIT
pub mod StorageBytes
pub mod AlignedParts
pub mod Lengths
pub mod RawSteps
pub mod Stays
pub mod Ensured
pub mod Room
