-- SPDX-License-Identifier: MIT
use Rattle.std.specs.Prelude.{◌≡◌, ℕ, ◌+◌, ◌≤◌, ◌⊎◌, Bool, false, None, IsTrue, Result, IfOk, IfErr}
use Rattle.std.specs.Prelude.{IsErrOf}
use Rattle.imago_storage.specs.declared.error.Error.{Error}
use Rattle.imago_storage.specs.Faults.{CountsFaults, RoseOrSaturated}
use Rattle.imago_drivers.specs.Operation.{Operation, Map, Write, Zero, DiscardToZero}
use Rattle.imago_drivers.specs.Place.{Value, Byte, IsIn}
use Rattle.imago_drivers.specs.Reasons.{Reasons, allowed, none}
use Rattle.imago_drivers.specs.Causes.{CauseOver, IsSettled, IsOnRange}
use Rattle.imago_drivers.specs.View.{View, EndsIn}
use Rattle.imago_drivers.specs.Changes.{IsChanged, zeroes, partly}
use Rattle.imago_drivers.specs.Frame.{ReachesNoMore}
use Rattle.imago_drivers.specs.Done.{range_reasons}
use Rattle.imago_access.specs.Framed.{StaysFramed}
use Rattle.imago_access.specs.declared.access.FormatAccess.{FormatAccess}
use Rattle.imago_access.specs.declared.zero.ZeroCall.{ZeroCall}
use Rattle.imago_access.specs.declared.zero.ZeroCall.TheVariants as Z
use Rattle.imago_access.specs.Chain.{driver, backing, disk_value, is_reliable, lent_image, keeps_data}
use Rattle.imago_access.specs.Chain.{chain_cause}
use Rattle.imago_access.specs.Writing.{StandsAlone}
use Rattle.imago_access.specs.Calls.{devices_reliable, settles, IsRangeCall}
use Rattle.imago_access.specs.Moves.{MovesWithin}

-- what a zeroing call of the driver is, for its causes
abbrev pub operation_of : ZeroCall → Operation
operation_of Z.EnsureZero = Zero
operation_of Z.DiscardToZero = DiscardToZero

-- the n values from o on are zero
abbrev pub AreZero : (ℕ → Value) → ℕ → ℕ → Type 0
AreZero at o n = (p : ℕ) → IsIn o n p → at p ≡ Byte 0

-- A count of faults that doesn't fall, and stays where no device fails.
pub record IsLaterCount (is_reliable : Bool) (before now : ℕ) : Type 0 where
  pub later : before ≤ now
  pub reliable : IsTrue is_reliable → now ≡ before

-- What a part of a zero write leaves of an image, at any result: each byte of the range is as it
-- was or zero, all others are as they were, no layer below changed, no place leads below that
-- didn't, and nothing waits.
pub record IsPartlyZeroed {D St : Type 0} (view : D → View St) (o n : ℕ) (old new : FormatAccess D)
    : Type 0 where
  pub torn : IsTrue (keeps_data view old)
      → IsChanged o n (partly zeroes) (disk_value view old) (disk_value view new)
  pub below : backing new ≡ backing old
  pub framed : StaysFramed (view (driver old)) (view (driver new))
  pub reaches : ReachesNoMore (view (driver old)) (view (driver new))
  pub spent : (view (driver new)).pending ≡ None
  pub count : IsLaterCount (devices_reliable view old) (view (driver old)).fault_count
      (view (driver new)).fault_count
  pub outside : MovesWithin Zero o n (view (driver old)) (view (driver new))

-- A cause for a part of a range that holds that one was a cause for it before, and no place leads
-- below that didn't.
pub record Carries {St : Type 0} (o n : ℕ) (old new : View St) : Type 0 where
  pub settled : IsSettled IsOnRange old.limits.cause new.limits.cause old.limits.copies
      new.limits.copies o n
  pub reaches : ReachesNoMore old new

-- why zeroes as data may be refused: as a write, or as the resolved mappings that are asked for
abbrev pub data_reasons : {D St : Type 0} → (D → View St) → FormatAccess D → ℕ → ℕ → Reasons
data_reasons view x o n = record none {
  beyond_disk = EndsIn (view (driver x)).place o n;
  cause = λ e. CauseOver (view (driver x)).limits.cause (view (driver x)).limits.copies
      (lent_image view (backing x)) Write o n e ⊎ chain_cause view x Map o n e;
  device = Unit {0};
  memory = Unit {0};
}

-- the driver does an operation on that range at once, and takes no memory for it
abbrev pub IsFree : {St : Type 0} → View St → Operation → ℕ → ℕ → Type 0
IsFree v op o n = v.limits.no_memory op o n × v.limits.whole op o n

-- why a zero write may be refused: by the driver's own call, or as zeroes as data; for memory only
-- where that call may leave a rest
abbrev pub zero_reasons : {D St : Type 0} → (D → View St) → FormatAccess D → Operation → ℕ → ℕ
    → Reasons
zero_reasons view x op o n = record (data_reasons view x o n) {
  cause = λ e. (view (driver x)).limits.cause op o n e ⊎ (data_reasons view x o n).cause e;
  memory = IsFree (view (driver x)) op o n → ⊥;
}

-- A part of a zero write: what it leaves, and where it succeeds, how many bytes from o on are zero
-- then.
pub record HasZeroed {D St T : Type 0} (view : D → View St) (o n : ℕ) (count : T → ℕ)
    (reasons : Reasons) (old new : FormatAccess D) (result : Result T Error) : Type 0 where
  pub left : IsPartlyZeroed view o n old new
  pub done : IsTrue (keeps_data view old)
      → IfOk result (λ r. IsChanged o (count r) zeroes (disk_value view old) (disk_value view new))
  -- they are the image's own, whatever is below
  pub alone : IsTrue (keeps_data view old)
      → IfOk result (λ r. StandsAlone (view (driver new)).place o (count r))
  pub carries : IfOk result (λ r. Carries o n (view (driver old)) (view (driver new)))
  -- a device that fails shows in the count of faults, or is one that is only read
  pub device : IsErrOf result Error.Device → RoseOrSaturated (view (driver old)).fault_count
      (view (driver new)).fault_count ⊎ (is_reliable view old ≡ false)
  pub refusals : IfErr result (allowed reasons)

-- The driver's own zeroing call, as the image sees it: the part that it answers is zero.
pub record HasZeroedPart {D St : Type 0} (view : D → View St) (op : Operation) (o n : ℕ)
    (old new : FormatAccess D) (result : Result (ℕ × ℕ) Error) : Type 0 where
  pub left : IsPartlyZeroed view o n old new
  pub inside : IfOk result (λ r. (r.1 ≡ 0) ⊎ ((o ≤ r.0) × (r.0 + r.1 ≤ o + n)))
  pub whole : (view (driver old)).limits.whole op o n → IfOk result (λ r. (r.0 ≡ o) × (r.1 ≡ n))
  pub done : IsTrue (keeps_data view old)
      → IfOk result (λ r. IsChanged r.0 r.1 zeroes (disk_value view old) (disk_value view new))
  pub alone : IsTrue (keeps_data view old)
      → IfOk result (λ r. StandsAlone (view (driver new)).place r.0 r.1)
  -- at any result, for any range
  pub carries : (a m : ℕ) → Carries a m (view (driver old)) (view (driver new))
  pub faults : CountsFaults (devices_reliable view old) (view (driver old)).fault_count
      (view (driver new)).fault_count result
  pub refusals : IfErr result (allowed (range_reasons (view (driver old)) op o n))

-- What the driver's own zeroing calls leave, one after another: beside the bytes, that no cause
-- comes in for any range.
pub record IsZeroedByDriver {D St : Type 0} (view : D → View St) (o n : ℕ)
    (old new : FormatAccess D) : Type 0 where
  pub left : IsPartlyZeroed view o n old new
  pub carries : (a m : ℕ) → Carries a m (view (driver old)) (view (driver new))

-- A zero write: zeroes stand in the range, and stay there whatever is below, or, where it is
-- refused, each of its bytes may be zero.
abbrev pub IsZeroWrite : {D St : Type 0} → (D → View St) → Operation → FormatAccess D
    → FormatAccess D → ℕ → ℕ → Result (Unit {0}) Error → Type 0
IsZeroWrite view op old new o n result = IsRangeCall view op o n (n ≡ 0) (settles op)
    (zero_reasons view old op o n) (is_reliable view old ≡ false) (λ u. n) (keeps_data view old)
    (λ u. IsChanged o n zeroes (disk_value view old) (disk_value view new)
    × StandsAlone (view (driver new)).place o n)
    (IsChanged o n (partly zeroes) (disk_value view old) (disk_value view new))
    old new result
