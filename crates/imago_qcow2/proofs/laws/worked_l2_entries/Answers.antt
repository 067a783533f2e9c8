-- SPDX-License-Identifier: MIT
use Rattle.std.proofs.Common.{refl}
use Rattle.std.specs.Int.Count.{count_trailing_zeros}
use Rattle.imago_qcow2.specs.Entry.{cluster_in_entry, compressed_in_entry}
use Rattle.imago_qcow2.proofs.laws.worked_l2_entries.Goals as goal

pub returns : goal.returns
unfolding cluster_in_entry compressed_in_entry count_trailing_zeros
returns c = record {
  stored = refl;
  not_allocated = refl;
  copied_bit_alone = refl;
  zero = refl;
  zero_with_a_cluster = refl;
  zero_in_version_2 = refl;
  compressed = refl;
  unaligned = refl;
  in_clusters_of_512 = refl;
  reserved_bit = refl;
}
