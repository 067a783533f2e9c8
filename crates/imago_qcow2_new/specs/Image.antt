-- What a new file has, and what its reader makes of it.
-- SPDX-License-Identifier: MIT
use Rattle.std.specs.Prelude.{◌≡◌, ℕ, ◌*◌, ◌<◌, List, length, slice_index, false, Option}
use Rattle.std.specs.Prelude.{Some, None, IsOk}
use Rattle.imago_drivers.specs.Place.{Value, Byte, Lower, shown}
use Rattle.imago_access.specs.Disk.{value_at}
use Rattle.imago_qcow2.specs.Header.{header_of}
use Rattle.imago_qcow2.specs.Entry.{disk_size, qcow2_place}
use Rattle.imago_qcow2_check.specs.Clusters.{cluster_count}
use Rattle.imago_qcow2_check.specs.Counts.{count_of}
use Rattle.imago_qcow2_check.specs.Known.{IsKnown}
use Rattle.imago_qcow2_check.specs.Uses.{setting, uses_of}
use Rattle.imago_qcow2_check.specs.Verdicts.{IsFaultless}
use Rattle.imago_qcow2_new.specs.declared.format.Format.{Format}
use Rattle.imago_qcow2_new.specs.declared.layout.Layout.{Layout}
use Rattle.imago_qcow2_new.specs.Names.{HasNames, HasNoNames, IsNamed}
use Rattle.imago_qcow2_new.specs.Words.{byte_of}
use Rattle.imago_qcow2_new.specs.Space.{spot_of, byte_at, StoresData}
use Rattle.imago_qcow2_new.specs.Layout.{IsLayoutOf, head_word, table_word}

-- What a file has, by the words of its tables and the values of a disk: before the L2 tables; in
-- the space of all L2 tables, of which some are stored; and on the disk, of which some clusters
-- are.
pub record IsWritten (l : Layout) (values : ℕ → Value) (file : List ℕ) : Type 0 where
  pub len : length file ≡ l.end
  pub head : (p : ℕ) → p < l.tables_start → slice_index file p ≡ byte_of (head_word l) p
  pub tables : (p : ℕ) → p < l.header.l1_count * l.cluster
      → byte_at l.tables_start file (spot_of l.tables p) ≡ byte_of (table_word l) p
  pub clusters : (p : ℕ) → p < l.length
      → values p ≡ Byte (byte_at l.data_start file (spot_of l.clusters p))

-- A file whose disk has that size by the reader's definition, and shows these values over that
-- layer below.
pub record ShowsDisk (below : ℕ → Value) (size : ℕ) (values : ℕ → Value) (file : List ℕ) : Type 0
  where
    pub size_is : disk_size file ≡ size
    pub bytes : (p : ℕ) → p < size → shown below (qcow2_place file p) ≡ values p

-- It shows them over each layer below, or, where clusters that aren't stored are left to the layer
-- below, over each that is zero; and none is one that is zero.
abbrev pub ShowsOver : Layout → (ℕ → Value) → List ℕ → Type 0
ShowsOver l values file = (below : ℕ → Value) → (l.gap ≡ 0 → (q : ℕ) → below q ≡ Byte 0)
    → ShowsDisk below l.header.size values file

-- where clusters that aren't stored are left to the layer below, their bytes are those there
abbrev pub IsLeftBelow : Layout → List ℕ → Type 0
IsLeftBelow l file = l.gap ≡ 0 → (p : ℕ) → p < l.header.size
    → (spot_of l.clusters p).stored ≡ false → qcow2_place file p ≡ Lower p false

-- each cluster of a file is used once, and its reference count says so
abbrev pub IsUsedOnce : List ℕ → Type 0
IsUsedOnce file = (n : ℕ) → n < cluster_count (setting file)
    → (uses_of file n ≡ 1) × (count_of file n ≡ 1)

-- A new file of a disk: what it has, and what its reader makes of it. Its header has no fault, and
-- it shows the disk. It names the layer below, if that has a name, and everything in it is known
-- that may use clusters. Each of its clusters is used once and has the reference count 1, and no
-- entry of its tables has a fault.
pub record IsNewFile (l : Layout) (values : ℕ → Value) (file : List ℕ) : Type 0 where
  pub written : IsWritten l values file
  pub opens : IsOk (header_of file (length file))
  pub shows : ShowsOver l values file
  pub left : IsLeftBelow l file
  pub named : (name format : List ℕ) → HasNames l name format → 0 < length name
      → IsNamed name format file
  pub known : HasNoNames l → IsKnown file
  pub once : IsUsedOnce file
  pub faultless : IsFaultless file

-- a target that was empty has such a file, where that is known
abbrev pub IsNewFileIn : Layout → (ℕ → Value) → Option (List ℕ) → Option (List ℕ) → Type 0
IsNewFileIn l values None new = Unit {0}
IsNewFileIn l values (Some old) new =
    (file : List ℕ) × (new ≡ Some file) × IsNewFile l values file

-- A new qcow2 file of that format for a disk, with no layer below. By the definitions of its reader
-- and of its check its header has no fault; its disk is that one, with zeroes up to the next whole
-- sector; each of its clusters is used once, and has the reference count 1; and no entry of a table
-- has a fault. Each table is as small as it can be.
abbrev pub IsQcow2Of : Format → List Value → List ℕ → Type 0
IsQcow2Of format disk file = (l : Layout) × IsLayoutOf format (length disk) l × HasNoNames l
    × IsNewFile l (value_at disk) file

-- Such a file as short as it can be: each cluster of the disk that is stored has a byte that isn't 0.
abbrev pub IsSparseQcow2Of : Format → List Value → List ℕ → Type 0
IsSparseQcow2Of format disk file = (l : Layout) × IsLayoutOf format (length disk) l × HasNoNames l
    × StoresData l.clusters (value_at disk) × IsNewFile l (value_at disk) file

-- a target that was empty has such a file, where that is known
abbrev pub IsQcow2In : Format → List Value → Option (List ℕ) → Option (List ℕ) → Type 0
IsQcow2In format disk None new = Unit {0}
IsQcow2In format disk (Some old) new =
    (file : List ℕ) × (new ≡ Some file) × IsSparseQcow2Of format disk file
