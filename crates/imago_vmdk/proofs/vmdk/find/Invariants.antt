-- SPDX-License-Identifier: MIT
use Rattle.std.proofs.Common.{◌-◌, ◌<◌, ◌≤◌, length, get_or}
use Rattle.imago_vmdk.specs.declared.vmdk.Start.{Start}
use Rattle.imago_vmdk.proofs.vmdk.find.Given as goal

abbrev pub decreases-loop-high : goal.decreases-loop-high
decreases-loop-high l = l.high - l.low

abbrev pub invariant-loop-high : goal.invariant-loop-high
invariant-loop-high l = record {
  order : l.low < l.high;
  inside : l.high ≤ length l.starts;
  begins : (d : Start) → (get_or l.starts l.low d).offset ≤ l.offset;
  last : (d : Start) → l.high < length l.starts → l.offset < (get_or l.starts l.high d).offset;
}
