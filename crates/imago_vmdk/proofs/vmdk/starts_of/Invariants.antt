-- SPDX-License-Identifier: MIT
use Rattle.std.proofs.Common.{◌≡◌, ◌+◌, ◌++◌, ◌≤◌, drop}
use Rattle.std.specs.List.{sum_by}
use Rattle.imago_vmdk.specs.Reading.{size_of}
use Rattle.imago_vmdk.specs.Starts.{starts_from}
use Rattle.imago_vmdk.proofs.vmdk.starts_of.Given as goal

abbrev pub invariant-loop-extent : goal.invariant-loop-extent
invariant-loop-extent l = record {
  starts : l.starts.items ++ starts_from l.offset l.storage (drop l.extent-index l.extents) ≡ starts_from 0 1 l.extents;
  sum : l.offset + sum_by size_of (drop l.extent-index l.extents) ≡ sum_by size_of l.extents;
  count : l.storage ≤ l.extent-index + 1;
}
