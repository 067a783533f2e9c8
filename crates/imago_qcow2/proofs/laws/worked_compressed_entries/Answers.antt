-- SPDX-License-Identifier: MIT
use Rattle.std.proofs.Common.{refl}
use Rattle.std.specs.Int.Count.{count_trailing_zeros}
use Rattle.imago_qcow2.specs.Entry.{cluster_in_entry, compressed_in_entry}
use Rattle.imago_qcow2.proofs.laws.worked_compressed_entries.Goals as goal

pub returns : goal.returns
unfolding cluster_in_entry compressed_in_entry count_trailing_zeros
returns c = record {
  bits_9 = refl;
  bits_12 = refl;
  bits_16 = refl;
  bits_21 = refl;
}
