-- SPDX-License-Identifier: MIT
use Rattle.std.proofs.Common.{◌≡◌, ◌*◌, ℕ, List, length}
use Rattle.imago_qcow2.specs.Numbers.{be64}
use Rattle.imago_qcow2_check.specs.Sums.{total}
use Rattle.imago_qcow2_check.specs.Bitmaps.{bits_use, bits_faults}
use Rattle.imago_qcow2_check.specs.Tallies.{setting_of, Adds}
use Rattle.imago_qcow2_check.proofs.bitmaps.look_at_entries.Given as goal

abbrev pub invariant-loop-index : goal.invariant-loop-index
invariant-loop-index l = record {
  all : length l.tally.uses.items ≡ l.shape.clusters;
  counted : (counts : List ℕ) → Adds l.initial.tally l.tally
      (λ n. total (λ i. bits_use (setting_of l.shape counts) (be64 l.table (8 * i)) n) l.index)
      (total (λ i. bits_faults (setting_of l.shape counts) (be64 l.table (8 * i))) l.index);
}
