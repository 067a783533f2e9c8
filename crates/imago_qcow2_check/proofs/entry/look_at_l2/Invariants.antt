-- SPDX-License-Identifier: MIT
use Rattle.std.proofs.Common.{◌*◌}
use Rattle.imago_qcow2.specs.Numbers.{be64}
use Rattle.imago_qcow2_check.specs.Sums.{total}
use Rattle.imago_qcow2_check.specs.Entries.{l2_entry_use, l2_entry_faults}
use Rattle.imago_qcow2_check.specs.Tallies.{setting_of, Adds}
use Rattle.imago_qcow2_check.proofs.entry.look_at_l2.Given as goal

abbrev pub invariant-loop-index : goal.invariant-loop-index
invariant-loop-index l = Adds l.initial.tally l.tally
    (λ n. total (λ j. l2_entry_use (setting_of l.shape l.counts) (be64 l.table (8 * j)) n) l.index)
    (total (λ j. l2_entry_faults (setting_of l.shape l.counts) l.place.active (be64 l.table (8 * j))) l.index)
