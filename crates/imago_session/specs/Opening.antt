-- How far the opening of an image is, and what it asks for.
-- SPDX-License-Identifier: MIT
use Rattle.std.specs.Prelude.{◌≡◌, ℕ, ◌+◌, ◌-◌, ◌^◌, ◌<◌, ◌≤◌, ◌⊎◌, List, [], length, map}
use Rattle.std.specs.Prelude.{Option, slice_index, slice_index_or}
use Rattle.std.specs.String.{string_bytes}
use Rattle.imago_drivers.specs.Place.{Byte}
use Rattle.imago_drivers.specs.declared.format.Format.{Format}
use Rattle.imago_session.specs.declared.permitted.Permitted.{Permitted}
use Rattle.imago_plan.specs.declared.piece.Piece.{Piece}
use Rattle.imago_plan.specs.declared.piece.Source.{Source}
use Rattle.imago_plan.specs.declared.piece.Source.TheVariants as From
use Rattle.imago_storage.specs.Bytes.{bytes_at}
use Rattle.imago_access.specs.declared.access.FormatAccess.{FormatAccess}
use Rattle.imago_session.specs.declared.extents.Extents.{Extents}
use Rattle.imago_session.specs.declared.session.State.{State}
use Rattle.imago_session.specs.declared.session.State.TheVariants as S
use Rattle.imago_session.specs.declared.session.Session.{Session}
use Rattle.imago_session.specs.declared.session.Want.{Want}
use Rattle.imago_session.specs.declared.session.Want.TheVariants as W
use Rattle.imago_session.specs.Files.{File, Layer, AreAbove, AreLayersOf, described_value}
use Rattle.imago_session.specs.Files.{backing_name, names_in, layers_in}
use Rattle.imago_session.specs.Loaded.{Loads}
use Rattle.imago_session.specs.declared.layer.Found.{Found}
use Rattle.imago_session.specs.declared.layer.Found.TheVariants as F
use Rattle.imago_session.specs.Blocks.{IsMissing}
use Rattle.imago_session.specs.Found.{IsLoadingOf, block_start, block_count}

-- How far an opening is, of these files, with so many layers above: what is in memory of a file is
-- its own, a name that is told is that of the layer above, and the layers of an image are those of
-- the files.
abbrev pub IsStateOf : Permitted → (ℕ → File) → ℕ → State → Type 0
IsStateOf permitted files k (S.Loading l) = IsLoadingOf permitted (files k) l
IsStateOf permitted files k (S.Below named) =
    named.name.items ≡ backing_name (files (k - 1)).bytes
IsStateOf permitted files k (S.Extents p) =
    AreLayersOf permitted files p.image
    × (map string_bytes p.names.items ≡ names_in files p.image) × (p.first ≡ layers_in p.image)
IsStateOf permitted files k (S.Open image) = AreLayersOf permitted files image
IsStateOf permitted files k S.Refused = Unit {0}

-- All that a session was given is of these files, the top one first.
abbrev pub IsOf : (ℕ → File) → Session → Type 0
IsOf files s =
    AreAbove s.permitted files s.above.items
    × IsStateOf s.permitted files (length s.above.items) s.state

-- the image is open, and is one that this holds of
abbrev pub IsOpenWith : State → (FormatAccess Layer → Type 0) → Type 0
IsOpenWith (S.Loading l) P = ⊥
IsOpenWith (S.Below named) P = ⊥
IsOpenWith (S.Extents p) P = ⊥
IsOpenWith (S.Open image) P = P image
IsOpenWith S.Refused P = ⊥

-- this holds of the image, if it is open
abbrev pub IfOpen : State → (FormatAccess Layer → Type 0) → Type 0
IfOpen (S.Loading l) P = Unit {0}
IfOpen (S.Below named) P = Unit {0}
IfOpen (S.Extents p) P = Unit {0}
IfOpen (S.Open image) P = P image
IfOpen S.Refused P = Unit {0}

-- What is asked for: a block of the file that is loaded, as far as the file has it; or the next
-- file. Files are numbered in the order in which they are asked for, the top one by 0.
abbrev pub wanted_in : ℕ → State → Want
wanted_in k (S.Loading l) = W.Bytes k (block_start l) (block_count l)
wanted_in k (S.Below named) = W.Backing k
wanted_in k (S.Extents p) = W.Extent (p.first + p.next)
wanted_in k (S.Open image) = W.Nothing
wanted_in k S.Refused = W.Refused

abbrev pub wanted : Session → Want
wanted s = wanted_in (length s.above.items) s.state

-- bytes are those that are asked for, of these files
abbrev pub IsAnswer : (ℕ → File) → Want → List ℕ → Type 0
IsAnswer files (W.Bytes k from count) bytes = bytes ≡ bytes_at (files k).bytes from count
IsAnswer files (W.Backing k) bytes = ⊥
IsAnswer files (W.Extent k) bytes = ⊥
IsAnswer files W.Nothing bytes = ⊥
IsAnswer files W.Refused bytes = ⊥

-- The file that is asked for has that length, and is to be opened in that format. Nothing has to be
-- known of the file of an extent.
abbrev pub IsFileAnswer : (ℕ → File) → Want → ℕ → Option Format → Type 0
IsFileAnswer files (W.Backing k) count format =
    (length (files k).bytes ≡ count) × ((files k).format ≡ format)
IsFileAnswer files (W.Extent k) count format = Unit {0}
IsFileAnswer files (W.Bytes k from n) count format = ⊥
IsFileAnswer files W.Nothing count format = ⊥
IsFileAnswer files W.Refused count format = ⊥

-- the name of the file that is asked for, by the files that are there: that of the backing file of
-- the last one, or, once all layers are there, that of the file of the lowest one's next extent
abbrev pub IsNameIn : (ℕ → File) → ℕ → State → List ℕ → Type 0
IsNameIn files k (S.Loading l) name = ⊥
IsNameIn files k (S.Below named) name = name ≡ backing_name (files (k - 1)).bytes
IsNameIn files k (S.Extents p) name = name ≡ slice_index_or (names_in files p.image) p.next []
IsNameIn files k (S.Open image) name = ⊥
IsNameIn files k S.Refused name = ⊥

abbrev pub IsNameWanted : (ℕ → File) → Session → List ℕ → Type 0
IsNameWanted files s name = IsNameIn files (length s.above.items) s.state name

-- where a source of a piece is: the number of its file, as files are numbered
abbrev pub source_byte : (ℕ → File) → Source → ℕ → ℕ
source_byte files From.Zero i = 0
source_byte files (From.Stored from) i =
    slice_index (files (from.layer + from.storage)).bytes (from.offset + i)

-- each byte of a piece is that of the disk which the files say
abbrev pub ShowsBytes : (ℕ → File) → ℕ → Piece → FormatAccess Layer → Type 0
ShowsBytes files at piece image = (i : ℕ) → i < piece.count
    → described_value files image (at + i) ≡ Byte (source_byte files piece.source i)

-- A block that was given brings an opening on: it is in memory from then on, with all that was there
-- before, or the file is open.
abbrev pub IsBroughtOn : State → State → Type 0
IsBroughtOn (S.Loading old) (S.Loading new) = Loads old.file new.file old.number
IsBroughtOn (S.Loading old) (S.Below named) = Unit {0}
IsBroughtOn (S.Loading old) (S.Extents p) = Unit {0}
IsBroughtOn (S.Loading old) (S.Open image) = Unit {0}
IsBroughtOn (S.Loading old) S.Refused = ⊥
IsBroughtOn (S.Below named) new = ⊥
IsBroughtOn (S.Extents p) new = ⊥
IsBroughtOn (S.Open image) new = ⊥
IsBroughtOn S.Refused new = ⊥

-- Which file of an extent is asked for once the lowest layer is open: the first one, or none where
-- that layer names none.
abbrev pub IsAtFirst : (ℕ → File) → State → Type 0
IsAtFirst files (S.Loading l) = Unit {0}
IsAtFirst files (S.Below named) = Unit {0}
IsAtFirst files (S.Extents p) = p.next ≡ 0
IsAtFirst files (S.Open image) = names_in files image ≡ []
IsAtFirst files S.Refused = Unit {0}

-- The file of the next extent of the same image is asked for, or the image is open behind the last
-- one, or where files have no greater numbers.
abbrev pub IsAtNext : Extents → State → Type 0
IsAtNext p (S.Loading l) = ⊥
IsAtNext p (S.Below named) = ⊥
IsAtNext p (S.Extents q) =
    (q.next ≡ p.next + 1) × (q.image ≡ p.image) × (q.names ≡ p.names) × (q.first ≡ p.first)
IsAtNext p (S.Open image) =
    ((length p.names.items ≤ p.next + 1) ⊎ (2 ^ 64 ≤ p.first + (p.next + 1))) × (image ≡ p.image)
IsAtNext p S.Refused = ⊥

-- what was given leads on to the extents, one after the other
abbrev pub IsLedOn : (ℕ → File) → State → State → Type 0
IsLedOn files (S.Loading l) new = IsAtFirst files new
IsLedOn files (S.Below named) new = IsAtFirst files new
IsLedOn files (S.Extents p) new = IsAtNext p new
IsLedOn files (S.Open image) new = Unit {0}
IsLedOn files S.Refused new = Unit {0}

-- a file was opened, so the next one is asked for, or the image is open
abbrev pub IsBehind : State → Type 0
IsBehind (S.Loading l) = ⊥
IsBehind (S.Below named) = Unit {0}
IsBehind (S.Extents p) = Unit {0}
IsBehind (S.Open image) = Unit {0}
IsBehind S.Refused = ⊥

-- how far an opening is with what was made of a file
abbrev pub IsStateWith : Found → State → Type 0
IsStateWith (F.Loading l) s = s ≡ S.Loading l
IsStateWith (F.Layer d names) s = IsBehind s

-- the block that is asked for isn't in memory
abbrev pub AsksOnce : State → Type 0
AsksOnce (S.Loading l) = IsMissing l.file l.number
AsksOnce (S.Below named) = Unit {0}
AsksOnce (S.Extents p) = Unit {0}
AsksOnce (S.Open image) = Unit {0}
AsksOnce S.Refused = Unit {0}

-- bytes are asked for, so many
abbrev pub AsksCount : Want → ℕ → Type 0
AsksCount (W.Bytes k from count) n = n ≡ count
AsksCount (W.Backing k) n = ⊥
AsksCount (W.Extent k) n = ⊥
AsksCount W.Nothing n = ⊥
AsksCount W.Refused n = ⊥

-- bytes are asked for, but not so many
abbrev pub AsksOtherCount : Want → ℕ → Type 0
AsksOtherCount (W.Bytes k from count) n = n ≡ count → ⊥
AsksOtherCount (W.Backing k) n = ⊥
AsksOtherCount (W.Extent k) n = ⊥
AsksOtherCount W.Nothing n = ⊥
AsksOtherCount W.Refused n = ⊥

-- no bytes are asked for
abbrev pub AsksNoBytes : Want → Type 0
AsksNoBytes (W.Bytes k from count) = ⊥
AsksNoBytes (W.Backing k) = Unit {0}
AsksNoBytes (W.Extent k) = Unit {0}
AsksNoBytes W.Nothing = Unit {0}
AsksNoBytes W.Refused = Unit {0}

-- a file is asked for
abbrev pub AsksFile : Want → Type 0
AsksFile (W.Bytes k from count) = ⊥
AsksFile (W.Backing k) = Unit {0}
AsksFile (W.Extent k) = Unit {0}
AsksFile W.Nothing = ⊥
AsksFile W.Refused = ⊥

-- no file is asked for
abbrev pub AsksNoFile : Want → Type 0
AsksNoFile (W.Bytes k from count) = Unit {0}
AsksNoFile (W.Backing k) = ⊥
AsksNoFile (W.Extent k) = ⊥
AsksNoFile W.Nothing = Unit {0}
AsksNoFile W.Refused = Unit {0}
