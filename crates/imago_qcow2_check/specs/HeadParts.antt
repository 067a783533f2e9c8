-- What the header says, as it is kept.
-- SPDX-License-Identifier: MIT
use Rattle.std.specs.Prelude.{◌≡◌, ℕ, List}
use Rattle.imago_qcow2.specs.Entry.{version_of, cluster_length, l1_start}
use Rattle.imago_qcow2_check.specs.declared.head.Head.{Head}
use Rattle.imago_qcow2_check.specs.Counts.{count_order, blocks_start, blocks_length}
use Rattle.imago_qcow2_check.specs.Snapshots.{snapshot_count, snapshots_start}
use Rattle.imago_qcow2_check.specs.Uses.{l1_count}

-- the header of a file says this, but for the length of the file
pub record IsHead (bytes : List ℕ) (h : Head) : Type 0 where
  pub cluster : h.cluster ≡ cluster_length bytes
  pub version : h.version ≡ version_of bytes
  pub order : h.order ≡ count_order bytes
  pub blocks_start : h.blocks_start ≡ blocks_start bytes
  pub blocks_length : h.blocks_length ≡ blocks_length bytes
  pub l1_start : h.l1_start ≡ l1_start bytes
  pub l1_count : h.l1_count ≡ l1_count bytes
  pub snapshots_start : h.snapshots_start ≡ snapshots_start bytes
  pub snapshots_count : h.snapshots_count ≡ snapshot_count bytes
