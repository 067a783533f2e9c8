-- SPDX-License-Identifier: MIT
use Rattle.std.proofs.Common.{◌≡◌, ◌+◌, ◌*◌, ℕ, List}
use Rattle.std.specs.Prelude.{slice_index}
use Rattle.imago_qcow2.specs.Numbers.{be64}
use Rattle.imago_qcow2_check.specs.Sums.{total}
use Rattle.imago_qcow2_check.specs.Faults.{shared_fault}
use Rattle.imago_qcow2_check.specs.Tallies.{setting_of}
use Rattle.imago_qcow2_check.proofs.blocks.look_for_shared.Given as goal

abbrev pub invariant-loop-index : goal.invariant-loop-index
invariant-loop-index l = record {
  same : l.tally.uses.items ≡ l.initial.tally.uses.items;
  corruptions : (counts : List ℕ) → l.tally.corruptions ≡ l.initial.tally.corruptions
      + total (λ i. shared_fault (setting_of l.shape counts) (slice_index l.initial.tally.uses.items) (be64 l.table (8 * i))) l.index;
  leaks : l.tally.leaks ≡ l.initial.tally.leaks;
}
