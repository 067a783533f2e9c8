-- The clusters of a file, and which of them some of its bytes touch.
-- SPDX-License-Identifier: MIT
use Rattle.std.specs.Prelude.{ℕ, ◌+◌, ◌-◌, ◌*◌, ◌/◌, Bool, ◌||◌, ◌&&◌, not, nat_lt, nat_eq}
use Rattle.std.specs.Prelude.{if◌then◌else◌}
use Rattle.std.specs.Int.{div_ceil}
use Rattle.imago_qcow2_check.specs.Sums.{one_if}

-- What entries are looked at by: the length of the file and of a cluster in bytes, the version, and
-- which clusters have the reference count 1.
pub record Setting : Type 0 where
  pub file : ℕ
  pub cluster : ℕ
  pub version : ℕ
  pub once : ℕ → Bool

-- how many clusters the file has, of which the last one may be cut
abbrev pub cluster_count : Setting → ℕ
cluster_count s = div_ceil s.file s.cluster

-- so many bytes from an offset on, some at least, don't end in a cluster of the file
unfoldable pub passes : Setting → ℕ → ℕ → Bool
passes s at count = not (nat_eq count 0) && nat_lt (cluster_count s * s.cluster) (at + count)

-- Cluster n is used once by bytes that lie in it, however many; a range of bytes uses each cluster
-- from that of its first byte to that of its last one. What passes the end uses none.
unfoldable pub use_of : Setting → ℕ → ℕ → ℕ → ℕ
use_of s at count n =
    if nat_eq count 0 || passes s at count then 0 else
    (if nat_lt n (at / s.cluster) || nat_lt ((at + count - 1) / s.cluster) n then 0 else 1)

-- bytes that pass the end are a fault
abbrev pub past_fault : Setting → ℕ → ℕ → ℕ
past_fault s at count = one_if (passes s at count)
