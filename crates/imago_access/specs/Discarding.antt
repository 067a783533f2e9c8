-- SPDX-License-Identifier: MIT
use Rattle.std.specs.Prelude.{◌≡◌, ℕ, ◌+◌, ◌≤◌, ◌⊎◌, Bool, List, None, IsTrue, Result, IfOk, IfErr}
use Rattle.imago_storage.specs.declared.error.Error.{Error}
use Rattle.imago_storage.specs.Faults.{CountsFaults}
use Rattle.imago_drivers.specs.Operation.{Operation, DiscardToAny, DiscardToBacking}
use Rattle.imago_drivers.specs.Place.{Value}
use Rattle.imago_drivers.specs.Reasons.{Reasons, allowed}
use Rattle.imago_drivers.specs.Causes.{IsSettled}
use Rattle.imago_drivers.specs.View.{View}
use Rattle.imago_drivers.specs.Changes.{IsChanged, given_back}
use Rattle.imago_drivers.specs.Done.{range_reasons}
use Rattle.imago_drivers.specs.CallRelations.{Calls}
use Rattle.imago_access.specs.Framed.{StaysFramed}
use Rattle.imago_access.specs.declared.access.FormatAccess.{FormatAccess}
use Rattle.imago_access.specs.declared.discard.DiscardCall.{DiscardCall}
use Rattle.imago_access.specs.declared.discard.DiscardCall.TheVariants as C
use Rattle.imago_access.specs.Chain.{driver, backing, disk_value, lent_image}
use Rattle.imago_access.specs.Calls.{devices_reliable, settles, FailsTest, IsRangeCall}
use Rattle.imago_access.specs.DiscardParts.{discard_by, IsDiscardedInParts}
use Rattle.imago_access.specs.Zeroing.{IsFree}
use Rattle.imago_access.specs.Moves.{MovesWithin}

-- what a discard is, for its causes
abbrev pub discard_of : DiscardCall → Operation
discard_of C.ToAny = DiscardToAny
discard_of C.ToBacking = DiscardToBacking

-- what a discard may turn the value at an offset into: anything, or what it is left to the layers
-- below as
abbrev pub loosened : DiscardCall → Bool → (ℕ → Value) → ℕ → Value → Value → Type 0
loosened C.ToAny takes_backing below p v w = Unit {0}
loosened C.ToBacking takes_backing below p v w = (w ≡ v) ⊎ (w ≡ given_back takes_backing below p)

-- each value of the range may be such a one afterwards, all others are as they were
abbrev pub IsLoosened : {D St : Type 0} → (D → View St) → DiscardCall → ℕ → ℕ → FormatAccess D
    → FormatAccess D → Type 0
IsLoosened view call o n old new =
    IsChanged o n (λ k. loosened call (view (driver old)).abilities.takes_backing
    (lent_image view (backing old)).at (o + k)) (disk_value view old) (disk_value view new)

-- why a discard may be refused: as the driver's is, for memory only where that may leave a rest, or
-- takes some
abbrev pub discard_reasons : {St : Type 0} → View St → Operation → ℕ → ℕ → Reasons
discard_reasons v op o n = record (range_reasons v op o n) { memory = IsFree v op o n → ⊥ }

-- A discard, or a part of one, at any result.
pub record HasLoosened {D St T : Type 0} (view : D → View St) (call : DiscardCall) (o n : ℕ)
    (old new : FormatAccess D) (result : Result T Error) : Type 0 where
  pub left : IsTrue (view (driver old)).abilities.keeps_data → IsLoosened view call o n old new
  pub below : backing new ≡ backing old
  pub framed : StaysFramed (view (driver old)) (view (driver new))
  pub spent : (view (driver new)).pending ≡ None
  pub faults : CountsFaults (devices_reliable view old) (view (driver old)).fault_count
      (view (driver new)).fault_count result
  pub refusals : IfErr result (allowed (discard_reasons (view (driver old)) (discard_of call) o n))
  pub outside : MovesWithin (discard_of call) o n (view (driver old)) (view (driver new))

-- The driver's own discard of a range, as the image sees it: it answers the part that is done.
pub record HasLoosenedPart {D St : Type 0} (view : D → View St) (call : DiscardCall) (o n : ℕ)
    (old new : FormatAccess D) (result : Result (ℕ × ℕ) Error) : Type 0 where
  pub left : HasLoosened view call o n old new result
  pub inside : IfOk result (λ r. (r.1 ≡ 0) ⊎ ((o ≤ r.0) × (r.0 + r.1 ≤ o + n)))
  pub whole : (view (driver old)).limits.whole (discard_of call) o n
      → IfOk result (λ r. (r.0 ≡ o) × (r.1 ≡ n))
  pub settled : IfOk result
      (λ r. IsSettled (λ op. op ≡ discard_of call) (view (driver old)).limits.cause
      (view (driver new)).limits.cause (view (driver old)).limits.copies
      (view (driver new)).limits.copies r.0 r.1)

-- A discard of an image, whose success and refusal leave the same.
pub record IsImageDiscard {D St : Type 0} (view : D → View St) (its : Calls D St)
    (call : DiscardCall) (old new : FormatAccess D) (o n : ℕ) (result : Result (Unit {0}) Error)
    : Type 0 where
  pub range : IsRangeCall view (discard_of call) o n (n ≡ 0) (settles (discard_of call))
      (discard_reasons (view (driver old)) (discard_of call) o n) ⊥ (λ u. 0)
      (view (driver old)).abilities.keeps_data
      (λ u. IsLoosened view call o n old new)
      (IsLoosened view call o n old new)
      old new result
  -- once its tests passed, it is the driver's own, made until nothing is left or the driver does
  -- nothing more
  pub performed : ((e : Error) → FailsTest (view (driver old)) (discard_of call) o n e → ⊥)
      → (parts : List (ℕ × ℕ)) × IsDiscardedInParts (discard_by its call) o n parts (driver old)
      (driver new) result
