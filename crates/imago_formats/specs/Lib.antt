-- SPDX-License-Identifier: MIT
pub mod Bytes
pub mod Text
pub mod Probes
pub mod Laws
pub mod Signatures
