-- SPDX-License-Identifier: MIT
use Rattle.std.proofs.Common.{refl}
use Rattle.imago_qcow2.specs.Entry.{table_in_entry}
use Rattle.imago_qcow2.proofs.laws.worked_l1_entries.Goals as goal

pub returns : goal.returns
unfolding table_in_entry
returns c = record {
  stored = refl;
  absent = refl;
  low_bit = refl;
  high_bit = refl;
  to_the_end = refl;
  past_the_end = refl;
}
