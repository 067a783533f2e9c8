-- Why an image isn't opened, or looked at, and what the header of one that is says.
-- SPDX-License-Identifier: MIT
use Rattle.std.specs.Prelude.{◌≡◌, ℕ, ◌+◌, ◌*◌, ◌<◌, ◌≤◌, ◌⊎◌, Bool, false, ◌&&◌, ◌||◌, List}
use Rattle.std.specs.Prelude.{length, nat_eq, IsOk, Ok, Err, IsTrue}
use Rattle.std.specs.Int.{div_ceil}
use Rattle.imago_storage.specs.declared.error.Error.{Error}
use Rattle.imago_storage.specs.Features.{Features, IsAlignedRequest, MayRunOut}
use Rattle.imago_storage.specs.Padding.{Wraps}
use Rattle.imago_drivers.specs.Reasons.{Reasons, none, allowed}
use Rattle.imago_qcow2.specs.declared.header.Header.{Header}
use Rattle.imago_qcow2.specs.declared.entry.L2Table.{L2Table}
use Rattle.imago_qcow2.specs.Numbers.{be32}
use Rattle.imago_qcow2.specs.Header.{header_of, magic, NamesBacking}
use Rattle.imago_qcow2.specs.Tables.{IsHeadRead, IsAccepted, AreEntriesRead, says_entry}
use Rattle.imago_qcow2.specs.Tables.{header_cluster, header_tables}
use Rattle.imago_qcow2.specs.Entry.{disk_size, cluster_length, per_table, l1_start, table_of}

-- why n bytes of the file can't be read into memory that is taken for them
abbrev pub read_reasons : Features → ℕ → ℕ → Reasons
read_reasons f at n = record none {
  cause = λ e. (e ≡ Error.WrapAround) × Wraps f at n;
  device =
      f.is_reliable ≡ false;
  memory = Unit {0};
}

-- why the header can't be read, into memory that it needs not be taken for
abbrev pub header_reasons : Features → List ℕ → Reasons
header_reasons f bytes = record (read_reasons f 0 112) {
  memory = IsAlignedRequest f 0 112
      → MayRunOut f.read_memory (length bytes) (0 + 112);
}

-- how many L2 tables a disk has
abbrev pub table_count : List ℕ → ℕ
table_count bytes = div_ceil (disk_size bytes) (per_table bytes * cluster_length bytes)

-- a request for a table's bytes passes the greatest offset once it is padded: for those of the L1
-- table, or of an L2 table that it names
abbrev pub TablesWrap : Features → List ℕ → Type 0
TablesWrap f bytes = Wraps f (l1_start bytes) (8 * table_count bytes)
    ⊎ ((i : ℕ) × (at : ℕ) × (i < table_count bytes) × (table_of bytes i ≡ L2Table.Stored at)
    × Wraps f at (cluster_length bytes))

-- the same for an L2 table that one of these L1 entries names, which were read of the file
abbrev pub EntryWraps : Features → List ℕ → ℕ → List ℕ → Type 0
EntryWraps f bytes cluster entries = (i : ℕ) × (at : ℕ) × (8 * i + 8 ≤ length entries)
    × (says_entry bytes cluster entries i ≡ L2Table.Stored at) × Wraps f at cluster

-- why the L2 tables that these L1 entries name can't be read into memory
abbrev pub entries_reasons : Features → List ℕ → ℕ → List ℕ → Reasons
entries_reasons f bytes cluster entries = record none {
  cause = λ e. (e ≡ Error.WrapAround) × EntryWraps f bytes cluster entries;
  device = f.is_reliable ≡ false;
  memory = Unit {0};
}

-- why so many L1 entries, from the start on, and the L2 tables that they name can't be read into
-- memory
abbrev pub tables_reasons : Features → List ℕ → ℕ → ℕ → ℕ → Reasons
tables_reasons f bytes start count cluster = record none {
  cause = λ e. (e ≡ Error.WrapAround) × (Wraps f start (8 * count)
      ⊎ ((entries : List ℕ) × AreEntriesRead f bytes start count entries
      × EntryWraps f bytes cluster entries));
  device = f.is_reliable ≡ false;
  memory = Unit {0};
}

-- Why an image isn't opened whose header has no fault, or can't be read, where the storage tells
-- its bytes: a request that wraps around, for the header or, where it has no fault, for a table; a
-- device that isn't reliable; or memory, for the tables, for the header where the storage takes
-- some, or to tell the storage's length.
abbrev pub open_reasons : Features → List ℕ → Reasons
open_reasons f bytes = record none {
  cause = λ e. (e ≡ Error.WrapAround)
      × (Wraps f 0 112 ⊎ (IsOk (header_of bytes (length bytes)) × TablesWrap f bytes));
  device = f.is_reliable ≡ false;
  memory = IsOk (header_of bytes (length bytes))
      ⊎ (IsAlignedRequest f 0 112 → MayRunOut f.read_memory (length bytes) (0 + 112))
      ⊎ MayRunOut f.other_memory 0 0;
}

-- why nothing is known of the header: it can't be read, or the storage's length isn't told
abbrev pub start_reasons : Features → List ℕ → Reasons
start_reasons f bytes = record (header_reasons f bytes) {
  memory = (IsAlignedRequest f 0 112 → MayRunOut f.read_memory (length bytes) (0 + 112))
      ⊎ MayRunOut f.other_memory 0 0;
}

-- Why an image isn't opened, by what was read of its file: the header can't be read; it was read
-- and has this fault; or it has none, and the tables that it names can't be read.
abbrev pub IsRefusedAsRead : Features → List ℕ → Error → Type 0
IsRefusedAsRead f bytes e = allowed (start_reasons f bytes) e
    ⊎ ((head : List ℕ) × IsHeadRead f bytes head × (header_of head (length bytes) ≡ Err e))
    ⊎ ((h : Header) × IsAccepted f bytes h
    × allowed (tables_reasons f bytes h.l1_start (header_tables h) (header_cluster h)) e)

-- Why an image isn't opened: so by what was read, and, where the storage tells its bytes, by these.
abbrev pub IsRefusedOpening : Features → List ℕ → Error → Type 0
IsRefusedOpening f bytes e = IsRefusedAsRead f bytes e × (IsTrue f.tells_bytes
    → (header_of bytes (length bytes) ≡ Err e) ⊎ allowed (open_reasons f bytes) e)

-- The header of an image that was opened says this: by what was read, and, where the storage tells
-- its bytes, by these.
abbrev pub IsOpened : Features → List ℕ → Header → Type 0
IsOpened f bytes h = IsAccepted f bytes h × (IsTrue f.tells_bytes
    → header_of bytes (length bytes) ≡ Ok h)

-- The image isn't opened since its header names a backing file, which nobody lays below it.
abbrev pub IsRefusedOverlay : Features → List ℕ → Error → Type 0
IsRefusedOverlay f bytes e = (e ≡ Error.Unsupported) × ((h : Header) × IsOpened f bytes h
    × NamesBacking h)

-- Why an image isn't opened below which nobody lays a file, by what was read of its own: the header
-- can't be read; it was read and has this fault; it names a backing file; or it names none, and the
-- tables that it names can't be read.
abbrev pub IsRefusedAlone : Features → List ℕ → Error → Type 0
IsRefusedAlone f bytes e = allowed (start_reasons f bytes) e
    ⊎ ((head : List ℕ) × IsHeadRead f bytes head × (header_of head (length bytes) ≡ Err e))
    ⊎ IsRefusedOverlay f bytes e
    ⊎ ((h : Header) × IsAccepted f bytes h × (NamesBacking h → ⊥)
    × allowed (tables_reasons f bytes h.l1_start (header_tables h) (header_cluster h)) e)

-- whether a file that begins so looks like an image: the magic number, and a version that is known
unfoldable pub probe_of : List ℕ → Bool
probe_of bytes = nat_eq (be32 bytes 0) magic
    && (nat_eq (be32 bytes 4) 2 || nat_eq (be32 bytes 4) 3)

-- why the file can't be read for that
abbrev pub probe_reasons_of : Features → List ℕ → Reasons
probe_reasons_of f bytes = record (read_reasons f 0 8) {
  memory = IsAlignedRequest f 0 8
      → MayRunOut f.read_memory (length bytes) (0 + 8);
}
