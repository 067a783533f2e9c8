-- SPDX-License-Identifier: MIT
use Rattle.std.proofs.Common.{◌-◌, ◌+◌, ◌≡◌, ℕ, ◌<◌, ◌≤◌, length, drop, get_or}
use Rattle.imago_qcow2_new.specs.declared.extent.Extent.{Extent}
use Rattle.imago_qcow2_new.specs.Extents.{spot}
use Rattle.imago_qcow2_new.proofs.extents.Extents.passed.Given as goal

abbrev pub invariant-loop-low : goal.invariant-loop-low
invariant-loop-low l = record {
  order : l.low ≤ l.high;
  within : l.high ≤ length l.self.extents.items;
  low : (q : ℕ) → l.offset ≤ q → spot l.self.stored (drop l.low l.self.extents.items) q ≡ spot l.self.stored l.self.extents.items q;
  high : (run : Extent) → l.high < length l.self.extents.items → l.offset < (get_or l.self.extents.items l.high run).start + (get_or l.self.extents.items l.high run).count;
}

abbrev pub decreases-loop-low : goal.decreases-loop-low
decreases-loop-low l = l.high - l.low
