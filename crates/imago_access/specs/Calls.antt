-- SPDX-License-Identifier: MIT
use Rattle.std.specs.Prelude.{◌≡◌, ℕ, ◌+◌, ◌^◌, ◌<◌, ◌≤◌, ◌⊎◌, ◌&&◌, Bool, true, false, None, List}
use Rattle.std.specs.Prelude.{length, IsTrue, Result, IsOk, IfOk, IfErr, OnOk, OnErr, IsErrOf}
use Rattle.imago_storage.specs.declared.error.Error.{Error}
use Rattle.imago_storage.specs.Faults.{CountsFaults, RoseOrSaturated}
use Rattle.imago_drivers.specs.declared.mapping.PreparedDataMapping.{PreparedDataMapping}
use Rattle.imago_drivers.specs.Operation.{Operation, Map, Read, Write, Zero, DiscardToZero}
use Rattle.imago_drivers.specs.Operation.{DiscardToAny, DiscardToBacking, Grow, Shrink, Flush}
use Rattle.imago_drivers.specs.Place.{End}
use Rattle.imago_drivers.specs.Reasons.{Reasons, allowed}
use Rattle.imago_drivers.specs.Causes.{IsSettled, IsOnRange}
use Rattle.imago_drivers.specs.View.{View}
use Rattle.imago_drivers.specs.Changes.{IsChanged, into, partly, overwritten}
use Rattle.imago_drivers.specs.Frame.{IsKind, IsFramed, IsUnchanged, ReachesNoMore}
use Rattle.imago_drivers.specs.Lengths.{GrowTo, AreNoShorter}
use Rattle.imago_drivers.specs.Done.{lending_reasons}
use Rattle.imago_access.specs.declared.access.FormatAccess.{FormatAccess}
use Rattle.imago_access.specs.Writing.{CommitMayTakeMemory, WasPrepared, StandsAlone, filled}
use Rattle.imago_access.specs.Writing.{shown_length, shown_change, settles_by, mapping_reasons}
use Rattle.imago_access.specs.Writing.{write_reasons}
use Rattle.imago_access.specs.Chain.{driver, backing, disk_value, lent_image, keeps_data}
use Rattle.imago_access.specs.Moves.{MovesWithin}

-- The range's end passes the greatest number of 64 bits, in a call that tests this by itself: a
-- zero write or a discard. A write or a mapping only tests whether it passes the disk's size.
abbrev pub Overflows : Operation → ℕ → ℕ → Type 0
Overflows Zero o n = 2 ^ 64 ≤ o + n
Overflows DiscardToZero o n = 2 ^ 64 ≤ o + n
Overflows DiscardToAny o n = 2 ^ 64 ≤ o + n
Overflows DiscardToBacking o n = 2 ^ 64 ≤ o + n
Overflows Write o n = ⊥
Overflows Map o n = ⊥
Overflows Read o n = ⊥
Overflows (Grow mode) o n = ⊥
Overflows Shrink o n = ⊥
Overflows Flush o n = ⊥

-- the first test that a changing call on a range fails: the driver isn't writable, the range's end
-- is no number of 64 bits, or it passes the disk's size
abbrev pub FailsTest : {St : Type 0} → View St → Operation → ℕ → ℕ → Error → Type 0
FailsTest v op o n e =
    ((e ≡ Error.ReadOnly) × (v.abilities.is_writable ≡ false))
    ⊎ (((e ≡ Error.RangeOverflow) × (v.abilities.is_writable ≡ true) × Overflows op o n)
    ⊎ ((e ≡ Error.BeyondDisk) × (v.abilities.is_writable ≡ true) × (Overflows op o n → ⊥)
    × (v.size < o + n)))

-- A changing call may be made on the range: the driver is writable, no prepared mapping waits, and
-- the range lies in the disk.
pub record TakesChange {St : Type 0} (v : View St) (o n : ℕ) : Type 0 where
  pub writable : v.abilities.is_writable ≡ true
  pub spent : v.pending ≡ None
  pub inside : o + n ≤ v.size

-- The tests were made: they passed, or that one failed.
pub record IsTested {St : Type 0} (v : View St) (op : Operation) (o n : ℕ)
    (result : Result Unit Error) : Type 0 where
  pub passed : OnOk result ((v.abilities.is_writable ≡ true) × (o + n ≤ v.size) × (o + n < 2 ^ 64))
  pub failed : IfErr result (FailsTest v op o n)

-- What no call of an image changes: the layers below, and what the driver is good for.
pub record IsKept {D St : Type 0} (view : D → View St) (old new : FormatAccess D) : Type 0 where
  pub below : backing new ≡ backing old
  pub kind : IsKind (view (driver old)) (view (driver new))

-- What only a resize changes, or a discard: the size, which places are ends, and which lead to the
-- layer below. The layers below stay too, and what the driver is good for.
pub record KeepsShape {D St : Type 0} (view : D → View St) (old new : FormatAccess D) : Type 0 where
  pub framed : IsFramed (view (driver old)) (view (driver new))
  pub reaches : ReachesNoMore (view (driver old)) (view (driver new))
  pub kept : IsKept view old new

-- neither the driver's devices fail, nor those of a layer that it may be lent
abbrev pub devices_reliable : {D St : Type 0} → (D → View St) → FormatAccess D → Bool
devices_reliable view x = (view (driver x)).abilities.is_reliable
    && (lent_image view (backing x)).is_reliable

-- The count of faults over a call. A failed device shows in it, but for one that no count shows,
-- where there may be such.
pub record ShowsFaults {T : Type 0} (hidden : Type 0) (is_reliable : Bool) (before now : ℕ)
    (result : Result T Error) : Type 0 where
  pub later : before ≤ now
  pub reliable : IsTrue is_reliable → now ≡ before
  pub device : IsErrOf result Error.Device → RoseOrSaturated before now ⊎ hidden

-- why a changing call on a range may be refused, once its tests passed; a failed device shows in
-- the count of faults
abbrev pub range_refusals : {D St : Type 0} → (D → View St) → FormatAccess D → Operation → ℕ → ℕ
    → Reasons
range_refusals view x op o n = lending_reasons (view (driver x)) (lent_image view (backing x)) op o
    n

-- the call may leave places to the layer below that were not: a discard whose bytes are unspecified
-- or given back
abbrev pub IsLoose : Operation → Type 0
IsLoose DiscardToAny = Unit {0}
IsLoose DiscardToBacking = Unit {0}
IsLoose Write = ⊥
IsLoose Zero = ⊥
IsLoose DiscardToZero = ⊥
IsLoose Map = ⊥
IsLoose Read = ⊥
IsLoose (Grow mode) = ⊥
IsLoose Shrink = ⊥
IsLoose Flush = ⊥

-- which operations a success leaves no new cause for: each one, but none after such a discard,
-- since a driver may do nothing of it, and isn't bound then
abbrev pub settles : Operation → Operation → Type 0
settles op of = IsOnRange of × (IsLoose op → ⊥)

-- why a write may be refused, once its tests passed
abbrev pub write_refusals : {D St : Type 0} → (D → View St) → FormatAccess D → ℕ → ℕ → Reasons
write_refusals view x o n = write_reasons (view (driver x)) (lent_image view (backing x))
    (CommitMayTakeMemory view (driver x)) o n

-- A changing call on a range of an image: `nothing` is when there is nothing to do, `reasons` why
-- it may be refused after its tests,
-- `hidden` when a device may fail that no count of faults shows. A success has the effect, for the
-- part that its answer tells, and leaves no new
-- cause for the operations `of`; a refusal past the tests leaves what remains.
pub record IsRangeCall {D St T : Type 0} (view : D → View St) (op : Operation) (o n : ℕ)
    (nothing : Type 0) (of : Operation → Type 0) (reasons : Reasons) (hidden : Type 0)
    (part : T → ℕ) (keeps : Bool) (effect : T → Type 0) (remains : Type 0)
    (old new : FormatAccess D)
    (result : Result T Error) : Type 0 where
  -- the first test that fails is answered, and nothing is changed
  pub tested : (e : Error) → FailsTest (view (driver old)) op o n e → IsErrOf result e × (new ≡ old)
  -- where there is nothing to do the call succeeds once its tests passed, and nothing is changed
  pub idle : nothing → ((e : Error) → FailsTest (view (driver old)) op o n e → ⊥) → IsOk result
      × (new ≡ old)
  -- what it did, where all that it needs is kept
  pub done : IsTrue keeps → IfOk result effect
  pub torn : IsTrue keeps → OnErr result remains
  -- no place leads below that didn't before, and a cause for a piece of the part that is done was
  -- one for the whole
  pub reaches : (IsLoose op → ⊥) → ReachesNoMore (view (driver old)) (view (driver new))
  pub settled : IfOk result
      (λ r. IsSettled of (view (driver old)).limits.cause (view (driver new)).limits.cause
      (view (driver old)).limits.copies (view (driver new)).limits.copies o (part r))
  pub same_size : (view (driver new)).size ≡ (view (driver old)).size
  -- no place becomes an end, and no storage becomes shorter
  pub ends : (p : ℕ) → (view (driver new)).place p ≡ End → (view (driver old)).place p ≡ End
  pub no_shorter : AreNoShorter (view (driver old)).stores (view (driver new)).stores
  pub kept : IsKept view old new
  pub nothing_pending : (view (driver new)).pending ≡ None
  pub faults : ShowsFaults hidden (devices_reliable view old) (view (driver old)).fault_count
      (view (driver new)).fault_count result
  pub refusals : IfErr result (λ e. FailsTest (view (driver old)) op o n e ⊎ allowed reasons e)
  -- what lies outside the range, its blocks and its granules keeps where it stands, at every result
  pub outside : MovesWithin op o n (view (driver old)) (view (driver new))

-- a write: the bytes stand in their range, in the image's own layer, whatever is below, or, where
-- it is refused, each of them may
abbrev pub IsWrite : {D St : Type 0} → (D → View St) → FormatAccess D → FormatAccess D → ℕ → List ℕ
    → Result Unit Error → Type 0
IsWrite view old new o bytes result = IsRangeCall view Write o (length bytes) (length bytes ≡ 0)
    (settles Write) (write_refusals view old o (length bytes)) ⊥ (λ u. length bytes)
    (keeps_data view old)
    (λ u. IsChanged o (length bytes) (into bytes) (disk_value view old) (disk_value view new)
    × StandsAlone (view (driver new)).place o (length bytes))
    (IsChanged o (length bytes) (partly (into bytes)) (disk_value view old) (disk_value view new))
    old new result

-- why a write through a mapping may be refused, once its tests passed
abbrev pub mapped_refusals : {D St : Type 0} → (D → View St) → FormatAccess D → ℕ → ℕ → List ℕ
    → Bool → Reasons
mapped_refusals view x o n bytes commit = mapping_reasons (view (driver x))
    (lent_image view (backing x)) (CommitMayTakeMemory view (driver x)) o n bytes commit

-- A write through one mapping, which is prepared for at most n bytes from o on, filled with what
-- fits of the bytes, and committed or cancelled. It answers how long the mapping was, and whether
-- it had no state. What shows of it stands in the image's own layer.
pub record IsMappedWrite {D St : Type 0} (view : D → View St) (old new : FormatAccess D) (o n : ℕ)
    (overwrite : Bool) (bytes : List ℕ) (commit : Bool) (result : Result (ℕ × Bool) Error) : Type 0
  where
    pub told : IfOk result (WasPrepared view (lent_image view (backing old)).tells_bytes
        (disk_value view old) (driver old) o n overwrite)
    pub call : IsRangeCall view Write o n ⊥ (settles_by commit)
        (mapped_refusals view old o n bytes commit) ⊥ (λ m. m.0) (keeps_data view old)
        (λ m. IsChanged o (shown_length commit m) (shown_change overwrite bytes m)
        (disk_value view old) (disk_value view new) × StandsAlone (view (driver new)).place o
        (shown_length commit m))
        (IsChanged o n (partly (filled overwrite bytes)) (disk_value view old)
        (disk_value view new))
        old new result

-- a data mapping: the disk stays, but for overwriting the part that is answered, or, refused, the
-- range may show anything
abbrev pub IsEnsured : {D St : Type 0} → (D → View St) → FormatAccess D → FormatAccess D → ℕ → ℕ
    → Bool → Result (ℕ × ℕ × ℕ) Error → Type 0
IsEnsured view old new o n overwrite result = IsRangeCall view Write o n ⊥ (settles Write)
    (range_refusals view old Write o n) ⊥ (λ r. r.2) (keeps_data view old)
    (λ r. IsChanged o r.2 (overwritten overwrite) (disk_value view old) (disk_value view new))
    (IsChanged o n (overwritten overwrite) (disk_value view old) (disk_value view new))
    old new result

-- The preparing of a mapping: no byte changes, at any result, and, refused, nothing is prepared.
pub record IsPreparing {D St : Type 0} (view : D → View St) (old new : FormatAccess D) (o n : ℕ)
    (result : Result (PreparedDataMapping St) Error) : Type 0 where
  -- the first test that fails is answered, and nothing is changed
  pub tested : (e : Error) → FailsTest (view (driver old)) Write o n e → IsErrOf result e
      × (new ≡ old)
  pub same_size : (view (driver new)).size ≡ (view (driver old)).size
  pub unchanged : IsTrue (view (driver old)).abilities.keeps_data → (p : ℕ)
      → disk_value view new p ≡ disk_value view old p
  -- each place stands where it stood
  pub same_layer : IsUnchanged (view (driver old)) (view (driver new))
  -- no storage becomes shorter, and none longer than the driver says
  pub lengths : GrowTo ((view (driver old)).limits.longest Write o n) (view (driver old)).stores
      (view (driver new)).stores
  -- no place leads below that didn't before, and a cause for a piece of the mapping's range was one
  -- for the whole
  pub reaches : ReachesNoMore (view (driver old)) (view (driver new))
  pub settled : IfOk result (λ m. IsSettled IsOnRange (view (driver old)).limits.cause
      (view (driver new)).limits.cause (view (driver old)).limits.copies
      (view (driver new)).limits.copies o m.length)
  pub ends : (p : ℕ) → (view (driver new)).place p ≡ End → (view (driver old)).place p ≡ End
  pub kept : IsKept view old new
  pub nothing_pending : OnErr result ((view (driver new)).pending ≡ None)
  pub faults : CountsFaults (devices_reliable view old) (view (driver old)).fault_count
      (view (driver new)).fault_count result
  pub refusals : IfErr result (λ e. FailsTest (view (driver old)) Write o n e
      ⊎ allowed (range_refusals view old Write o n) e)
