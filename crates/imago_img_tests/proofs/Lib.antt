-- SPDX-License-Identifier: MIT
mod Zeroes
mod LeftOver
