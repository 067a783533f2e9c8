-- SPDX-License-Identifier: MIT
pub mod ReadOnly
pub mod BehindHeader
pub mod BehindHeaderLaws
pub mod ByPath
