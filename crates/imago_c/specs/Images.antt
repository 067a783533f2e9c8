-- What a caller in C is told of an image, and tells.
-- SPDX-License-Identifier: MIT
use Rattle.std.specs.Prelude.{◌≡◌, ℕ, ◌+◌, ◌-◌, ◌^◌, ◌⊎◌, min, Bool, not, true, Option, Some, None}
use Rattle.std.specs.Prelude.{nat_eq, if◌then◌else◌, length}
use Rattle.imago_storage.specs.declared.error.Error.{Error}
use Rattle.imago_drivers.specs.declared.format.Format.{Format}
use Rattle.imago_vmdk.specs.declared.line.Accepted.{Accepted}
use Rattle.imago_plan.specs.declared.piece.Piece.{Piece}
use Rattle.imago_plan.specs.declared.piece.Source.{Source}
use Rattle.imago_plan.specs.declared.piece.Source.TheVariants as From
use Rattle.imago_session.specs.declared.session.Session.{Session}
use Rattle.imago_session.specs.declared.session.State.{State}
use Rattle.imago_session.specs.declared.compressed.Compressed.{Compressed}
use Rattle.imago_session.specs.declared.session.Mapped.{Mapped}
use Rattle.imago_session.specs.declared.session.Mapped.TheVariants as M
use Rattle.imago_session.specs.declared.permitted.Permitted.{Permitted}
use Rattle.imago_session.specs.declared.session.Want.{Want}
use Rattle.imago_session.specs.declared.session.Want.TheVariants as W
use Rattle.imago_session.specs.Files.{File}
use Rattle.imago_session.specs.Opening.{IsOf}
use Rattle.imago_session.specs.Refusals.{IsCause, IsRefusalOf}
use Rattle.imago_c.specs.Answer.{code_of}
use Rattle.imago_c.specs.declared.opening.WantRecord.{WantRecord}
use Rattle.imago_c.specs.declared.reading.PlaceRecord.{PlaceRecord}

-- a handle has a session of which this holds
abbrev pub Has : Option Session → (Session → Type 0) → Type 0
Has None P = ⊥
Has (Some s) P = P s

-- the greatest number of a format
abbrev pub most_formats : ℕ
most_formats = 3

-- the format of a number: 0 leaves it open
abbrev pub format_of : ℕ → Option Format
format_of n =
    if nat_eq n 1 then Some Format.Raw
    else (if nat_eq n 2 then Some Format.Vmdk
    else (if nat_eq n 3 then Some Format.Qcow2 else None))

-- what a descriptor may contain: VMFS extents, and keys that aren't known unless it is strict
abbrev pub accepted_by : Bool → Accepted
accepted_by strict = record { unknown_keys = not strict; vmfs = true }

-- what an image may contain whose qcow2 files have tables of so many bytes
abbrev pub permitted_by : Bool → ℕ → Permitted
permitted_by strict tables = record { accepted = accepted_by strict; tables = tables }

-- a backing file is asked for
abbrev pub AsksBacking : Want → Type 0
AsksBacking (W.Backing k) = Unit {0}
AsksBacking (W.Bytes k from count) = ⊥
AsksBacking (W.Extent k) = ⊥
AsksBacking W.Nothing = ⊥
AsksBacking W.Refused = ⊥

-- the file of an extent is asked for
abbrev pub AsksExtent : Want → Type 0
AsksExtent (W.Extent k) = Unit {0}
AsksExtent (W.Bytes k from count) = ⊥
AsksExtent (W.Backing k) = ⊥
AsksExtent W.Nothing = ⊥
AsksExtent W.Refused = ⊥

-- An opening doesn't begin, for a cause that each top file has of that length and format.
abbrev pub IsRefusedBegin : Permitted → ℕ → Option Format → ℕ → Type 0
IsRefusedBegin permitted count format code =
    (e : Error) × (code ≡ code_of e)
    × ((f : File) → length f.bytes ≡ count → f.format ≡ format → IsCause permitted f e)

-- What was asked for and given isn't taken, for a cause that all files have which agree with it and
-- with what was given before. So the opening is over, or there was no memory and nothing changed.
abbrev pub IsRefusedGive : Session → Option Session → ((ℕ → File) → Type 0) → ℕ → Type 0
IsRefusedGive a after agree code =
    (e : Error) × (code ≡ code_of e)
    × Has after (λ b. (b.state ≡ State.Refused) ⊎ ((e ≡ Error.Memory) × (b ≡ a)))
    × ((files : ℕ → File) → agree files → IsOf files a → IsRefusalOf files a e)

-- what is asked for as a record
abbrev pub record_of : ℕ → ℕ → ℕ → ℕ → WantRecord
record_of kind file offset count = record {
  file = file;
  offset = offset;
  count = count;
  kind = kind;
  unused = 0;
}

abbrev pub want_record : Want → WantRecord
want_record W.Nothing = record_of 0 0 0 0
want_record (W.Bytes file offset count) = record_of 1 file offset count
want_record (W.Backing file) = record_of 2 file 0 0
want_record (W.Extent file) = record_of 3 file 0 0
want_record W.Refused = record_of 0 0 0 0

-- which file a source is in, counted from 1 as files are numbered, and from where on; 0 and 0 for
-- zeroes
abbrev pub source_file : Source → ℕ
source_file From.Zero = 0
source_file (From.Stored from) = min (from.layer + from.storage + 1) (2 ^ 64 - 1)

abbrev pub source_offset : Source → ℕ
source_offset From.Zero = 0
source_offset (From.Stored from) = from.offset

-- zeroes, and bytes as they are read of their file, are of two kinds
abbrev pub source_kind : Source → ℕ
source_kind From.Zero = 0
source_kind (From.Stored from) = 1

-- a piece as a record
abbrev pub piece_place : Piece → PlaceRecord
piece_place p = record {
  at = p.at;
  count = p.count;
  file = source_file p.source;
  offset = source_offset p.source;
  stream = 0;
  cluster = 0;
  skip = 0;
  kind = source_kind p.source;
  unused = 0;
}

-- a part of a compressed cluster as a record
abbrev pub compressed_place : Compressed → PlaceRecord
compressed_place c = record {
  at = c.at;
  count = c.count;
  file = min (c.file + 1) (2 ^ 64 - 1);
  offset = c.offset;
  stream = c.length;
  cluster = c.cluster;
  skip = c.skip;
  kind = 2;
  unused = 0;
}

-- what is told of where bytes are as a record
abbrev pub place_record : Mapped → PlaceRecord
place_record (M.Plain p) = piece_place p
place_record (M.Compressed c) = compressed_place c
