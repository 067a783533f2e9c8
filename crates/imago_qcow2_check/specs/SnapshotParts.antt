-- A snapshot as it is read.
-- SPDX-License-Identifier: MIT
use Rattle.std.specs.Prelude.{◌≡◌, ℕ, List}
use Rattle.imago_qcow2_check.specs.declared.snapshots.Snapshot.{Snapshot}
use Rattle.imago_qcow2_check.specs.Snapshots.{snapshot_l1, snapshot_l1_count, snapshot_end}
use Rattle.imago_qcow2_check.specs.Snapshots.{snapshot_extra}

-- what the entry of a snapshot says that begins there
pub record IsSnapshot (bytes : List ℕ) (at : ℕ) (s : Snapshot) : Type 0 where
  pub start : s.l1_start ≡ snapshot_l1 bytes at
  pub count : s.l1_count ≡ snapshot_l1_count bytes at
  pub extra : s.extra ≡ snapshot_extra bytes at
  pub ends : s.end ≡ snapshot_end bytes at
