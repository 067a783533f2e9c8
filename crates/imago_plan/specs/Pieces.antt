-- SPDX-License-Identifier: MIT
use Rattle.std.specs.Prelude.{◌≡◌, ℕ, ◌+◌, ◌^◌, ◌-◌, ◌<◌, ◌≤◌, ◌⊎◌, ◌&&◌, ◌==◌, Bool, true, false}
use Rattle.std.specs.Prelude.{List, [], ◌∷◌, ◌++◌, Option, Some, None, if◌then◌else◌, nat_lt}
use Rattle.imago_storage.specs.declared.error.Error.{Error}
use Rattle.imago_storage.specs.declared.error.Error.TheVariants as E
use Rattle.imago_drivers.specs.Place.{Value, Stored, Zeroed, Special, End, Unreadable}
use Rattle.imago_drivers.specs.Reasons.{allowed}
use Rattle.imago_drivers.specs.View.{View}
use Rattle.imago_access.specs.declared.access.FormatAccess.{FormatAccess}
use Rattle.imago_access.specs.declared.mapping.Mapping.{Mapping}
use Rattle.imago_access.specs.declared.mapping.Mapping.TheVariants as M
use Rattle.imago_access.specs.Chain.{driver, disk_value}
use Rattle.imago_access.specs.Resolved.{chain_map_reasons}
use Rattle.imago_access.specs.Target.{Target, target}
use Rattle.imago_plan.specs.declared.piece.Location.{Location}
use Rattle.imago_plan.specs.declared.piece.Source.{Source}
use Rattle.imago_plan.specs.declared.piece.Source.TheVariants as S
use Rattle.imago_plan.specs.declared.piece.Piece.{Piece}

-- the i-th byte of a source is what an offset leads to: a zero of no storage, or that byte of the
-- layer's storage
abbrev pub Stands : Source → ℕ → Target → Type 0
Stands S.Zero i t = ((v : Bool) × (t.place ≡ Zeroed v)) ⊎ (t.place ≡ End)
Stands (S.Stored from) i t =
    (from.layer ≡ t.depth)
    × ((b : ℕ) × (v : Bool) × (t.place ≡ Stored b from.storage (from.offset + i) v))

-- a piece that begins at p: it isn't empty, and each of its bytes stands where that offset of the
-- disk leads
abbrev pub IsPieceAt : (ℕ → Target) → ℕ → Piece → Type 0
IsPieceAt leads p piece =
    (piece.at ≡ p) × (0 < piece.count)
    × ((i : ℕ) → i < piece.count → Stands piece.source i (leads (p + i)))

-- pieces one after the other, from one offset to another
abbrev pub Covers : (ℕ → Target) → ℕ → ℕ → List Piece → Type 0
Covers leads from to [] = from ≡ to
Covers leads from to (piece ∷ pieces) =
    IsPieceAt leads from piece × Covers leads (from + piece.count) to pieces

-- pieces that are an image's disk, in order: without gap or overlap, from its start to its end
abbrev pub IsPlan : {D St : Type 0} → (D → View St) → FormatAccess D → List Piece → Type 0
IsPlan view x pieces = Covers (target view x) 0 (view (driver x)).size pieces

-- whether a place is right behind the n bytes from another one on
abbrev pub is_behind : Location → ℕ → Location → Bool
is_behind from n next =
    (from.layer == next.layer) && (from.storage == next.storage) && (from.offset + n == next.offset)

-- whether a source goes on as another one behind that many bytes
abbrev pub goes_on : Source → ℕ → Source → Bool
goes_on S.Zero n S.Zero = true
goes_on S.Zero n (S.Stored next) = false
goes_on (S.Stored from) n S.Zero = false
goes_on (S.Stored from) n (S.Stored next) = is_behind from n next

-- whether a piece that is next on the disk also stands right behind that one
abbrev pub continues : Piece → Piece → Bool
continues piece next = goes_on piece.source piece.count next.source

-- the two as one
abbrev pub joined : Piece → Piece → Piece
joined piece next = record piece { count = piece.count + next.count }

-- the first of these pieces, if there is one, doesn't continue that one
abbrev pub IsApart : Piece → List Piece → Type 0
IsApart piece [] = Unit {0}
IsApart piece (next ∷ pieces) = continues piece next ≡ false

-- no piece continues the one before
abbrev pub IsMerged : List Piece → Type 0
IsMerged [] = Unit {0}
IsMerged (piece ∷ pieces) = IsApart piece pieces × IsMerged pieces

-- a piece continues the last of these, and they end as one with it
abbrev pub IsPutOn : List Piece → Piece → List Piece → Type 0
IsPutOn old next new =
    (before : List Piece) × (last : Piece) × (old ≡ before ++ last ∷ [])
    × (continues last next ≡ true) × (new ≡ before ++ joined last next ∷ [])

-- a piece continues none of these, and stands behind them
abbrev pub IsPutBehind : List Piece → Piece → List Piece → Type 0
IsPutBehind old next new =
    (new ≡ old ++ next ∷ [])
    × ((before : List Piece) (last : Piece) → old ≡ before ++ last ∷ []
    → continues last next ≡ false)

-- a piece is put to others: as a part of the last where it continues it, else as one of its own
abbrev pub IsPut : List Piece → Piece → List Piece → Type 0
IsPut old next new = IsPutOn old next new ⊎ IsPutBehind old next new

-- what a mapping names, as a source: the end of an image is none, nor are bytes that a driver makes
-- up, nor is a layer so deep that its depth isn't told
abbrev pub named_source : Mapping → Option Source
named_source (M.Raw layer storage offset writable) =
    if nat_lt layer (2 ^ 64 - 1)
    then Some (S.Stored (record { layer = layer; storage = storage; offset = offset }))
    else None
named_source (M.Zero explicit) = Some S.Zero
named_source M.Eof = None
named_source (M.Special layer offset) = None

-- what stands at an offset is no piece of a plan: the offset has no place, a driver makes the byte
-- up, or the layer is deeper than a mapping tells
abbrev pub HasNoSource : Target → Type 0
HasNoSource t =
    (t.place ≡ End)
    ⊎ (((b : Value) × (o : ℕ) × (t.place ≡ Special b o)) ⊎ (2 ^ 64 - 1 ≤ t.depth))

-- Why there is no piece at p, where n bytes were asked for: the mapping is refused, or what stands
-- there is no piece. A mapping that is refused as invalid data or as barred from access is that of
-- a byte whose read is refused so.
abbrev pub IsNoPiece : {D St : Type 0} → (D → View St) → FormatAccess D → ℕ → ℕ → Error → Type 0
IsNoPiece view x p n e =
    (allowed (chain_map_reasons view x p n) e
    × ((e ≡ E.InvalidData) ⊎ (e ≡ E.NoAccess) → disk_value view x p ≡ Unreadable e))
    ⊎ ((e ≡ E.Unsupported) × HasNoSource (target view x p))

-- why an image has no plan: there is no piece at some offset of its disk, or no room for all
abbrev pub IsNoPlan : {D St : Type 0} → (D → View St) → FormatAccess D → Error → Type 0
IsNoPlan view x e =
    (e ≡ E.Memory)
    ⊎ ((p : ℕ) × (p < (view (driver x)).size) × IsNoPiece view x p ((view (driver x)).size - p) e)
