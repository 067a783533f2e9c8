-- SPDX-License-Identifier: MIT
use Rattle.std.specs.Prelude.{◌≡◌, ℕ, ◌<◌, ◌≤◌, ◌⊎◌, Bool, true, false, min, max, IsTrue, Result}
use Rattle.std.specs.Prelude.{IsOk, IfErr, OnOk, OnErr, IsErrOf}
use Rattle.imago_storage.specs.declared.error.Error.{Error}
use Rattle.imago_storage.specs.Faults.{CountsFaults}
use Rattle.imago_drivers.specs.Operation.{Operation, Grow, Shrink, Flush}
use Rattle.imago_drivers.specs.declared.format.PreallocateMode.{PreallocateMode}
use Rattle.imago_drivers.specs.Place.{Value, End}
use Rattle.imago_drivers.specs.Reasons.{Reasons, allowed}
use Rattle.imago_drivers.specs.View.{View}
use Rattle.imago_drivers.specs.Causes.{AddsNone}
use Rattle.imago_drivers.specs.Frame.{IsUnchanged}
use Rattle.imago_drivers.specs.Lengths.{GrowTo, AreNoLonger}
use Rattle.imago_drivers.specs.Resized.{grown_into, IsGrown, IsCut, IsSameDisk, IsListed}
use Rattle.imago_drivers.specs.Done.{driver_reasons}
use Rattle.imago_access.specs.declared.access.FormatAccess.{FormatAccess}
use Rattle.imago_access.specs.Chain.{driver, backing, disk_value, lent_image, keeps_data}
use Rattle.imago_access.specs.Calls.{IsKept, devices_reliable, range_refusals}

-- A growth: the size is the larger one, old bytes stay, and new ones are what the mode says, over
-- the layer below.
pub record HasGrown {D St : Type 0} (view : D → View St) (mode : PreallocateMode) (new_size : ℕ)
    (old new : FormatAccess D) : Type 0 where
  pub size : (view (driver new)).size ≡ max (view (driver old)).size new_size
  pub stays : IsTrue (keeps_data view old) → (p : ℕ)
      → p < (view (driver old)).size → disk_value view new p ≡ disk_value view old p
  pub added : IsTrue (keeps_data view old) → (p : ℕ) → (view (driver old)).size
      ≤ p → p < new_size
      → grown_into mode (view (driver old)).abilities.takes_backing
      (lent_image view (backing old)).at p (disk_value view new p)

-- A cut: the size is the smaller one, and the bytes below it stay.
pub record HasShrunk {D St : Type 0} (view : D → View St) (new_size : ℕ) (old new : FormatAccess D)
    : Type 0 where
  pub size : (view (driver new)).size ≡ min (view (driver old)).size new_size
  pub stays : IsTrue (view (driver old)).abilities.keeps_data → (p : ℕ)
      → p < (view (driver new)).size → disk_value view new p ≡ disk_value view old p

-- The disk is as it was.
pub record IsSameImage {D St : Type 0} (view : D → View St) (old new : FormatAccess D) : Type 0
  where
    pub size : (view (driver new)).size ≡ (view (driver old)).size
    pub values : IsTrue (view (driver old)).abilities.keeps_data → (p : ℕ)
        → disk_value view new p ≡ disk_value view old p

-- the test of a resize
abbrev pub FailsWritable : {St : Type 0} → View St → Error → Type 0
FailsWritable v e = (e ≡ Error.ReadOnly) × (v.abilities.is_writable ≡ false)

-- there is nothing to do: the disk has that size already, or a larger one for a growth, a smaller
-- one for a cut
abbrev pub IsIdle : Operation → ℕ → ℕ → Type 0
IsIdle (Grow mode) size new_size = new_size ≤ size
IsIdle Shrink size new_size = size ≤ new_size
IsIdle _ size new_size = ⊥

-- whether the devices that a resize counts on never fail: a growth is lent the layer below, a cut
-- is not
abbrev pub resize_reliable : {D St : Type 0} → (D → View St) → FormatAccess D → Operation → Bool
resize_reliable view x Shrink = (view (driver x)).abilities.is_reliable
resize_reliable view x _ = devices_reliable view x

-- why a resize may be refused, once its test passed
abbrev pub resize_refusals : {D St : Type 0} → (D → View St) → FormatAccess D → Operation → ℕ
    → Reasons
resize_refusals view x Shrink new_size = driver_reasons (view (driver x)) Shrink new_size 0
resize_refusals view x op new_size = record
    (range_refusals view x op new_size 0) { beyond_disk = ⊥ }

-- what a resize did to a layer over one with these values
abbrev pub IsResizedLayer : {St : Type 0} → Operation → Bool → (ℕ → Value) → ℕ → View St → View St → Type 0
IsResizedLayer (Grow mode) told below new_size old new = IsGrown mode told below new_size old new
IsResizedLayer Shrink told below new_size old new = IsCut new_size old new
IsResizedLayer _ told below new_size old new = ⊥

-- A resize: what holds where it succeeds; refused, the disk is as it was.
pub record IsResize {D St : Type 0} (view : D → View St) (op : Operation) (new_size : ℕ)
    (effect : Type 0) (old new : FormatAccess D) (result : Result Unit Error) : Type 0 where
  pub tested : (e : Error) → FailsWritable (view (driver old)) e → IsErrOf result e × (new ≡ old)
  pub done : OnOk result effect
  -- where there is nothing to do, nothing is done and nothing refused, once its test has passed
  pub idle : (view (driver old)).abilities.is_writable ≡ true
      → IsIdle op (view (driver old)).size new_size → IsOk result × (new ≡ old)
  pub unchanged : OnErr result (IsSameImage view old new)
  -- of the layer itself: what the driver did to it, and, refused, that each place stands where it
  -- stood, and no storage was cut
  pub layer : OnOk result (IsResizedLayer op (lent_image view (backing old)).tells_bytes
      (lent_image view (backing old)).at new_size
      (view (driver old)) (view (driver new)))
  pub same_layer : OnErr result (IsSameDisk (view (driver old)) (view (driver new)))
  -- a layer whose places are as many as its size says stays so
  pub listed : IsListed (view (driver old)) → IsListed (view (driver new))
  -- no storage becomes longer than the driver says
  pub no_longer : AreNoLonger ((view (driver old)).limits.longest op new_size 0)
      (view (driver old)).stores (view (driver new)).stores
  -- no place below the old and the new size becomes an end
  pub ends : (p : ℕ) → p < (view (driver old)).size → p < (view (driver new)).size
      → (view (driver new)).place p ≡ End → (view (driver old)).place p ≡ End
  pub kept : IsKept view old new
  pub faults : CountsFaults (resize_reliable view old op) (view (driver old)).fault_count
      (view (driver new)).fault_count result
  pub refusals : IfErr result (λ e. FailsWritable (view (driver old)) e
      ⊎ allowed (resize_refusals view old op new_size) e)

-- A resize to a size: a cut where it is smaller, else a growth.
pub record IsResizeTo {D St : Type 0} (view : D → View St) (new_size : ℕ) (mode : PreallocateMode)
    (old new : FormatAccess D) (result : Result Unit Error) : Type 0 where
  pub cut : new_size < (view (driver old)).size
      → IsResize view Shrink new_size (HasShrunk view new_size old new) old new result
  pub grown : (view (driver old)).size ≤ new_size
      → IsResize view (Grow mode) new_size (HasGrown view mode new_size old new) old new result

-- A flush, a sync, or an invalidation of caches: it is the driver's, with its result, and no byte
-- changes, at any result.
pub record IsFlushed {D St : Type 0} (view : D → View St) (relation : D → D → Result Unit Error
    → Type 0) (old new : FormatAccess D) (result : Result Unit Error) : Type 0 where
  pub performed : relation (driver old) (driver new) result
  pub unchanged : IsSameImage view old new
  -- each place stands where it stood, and none leads below that didn't
  pub same_layer : IsUnchanged (view (driver old)) (view (driver new))
  -- no cause of a refusal comes in
  pub causes : AddsNone (view (driver old)).limits.cause (view (driver new)).limits.cause
      (view (driver old)).limits.copies (view (driver new)).limits.copies
  -- no storage becomes shorter, and none longer than the driver says
  pub lengths : GrowTo ((view (driver old)).limits.longest Flush 0 0) (view (driver old)).stores
      (view (driver new)).stores
  pub ends : (p : ℕ) → (view (driver new)).place p ≡ End → (view (driver old)).place p ≡ End
  pub kept : IsKept view old new
  pub pending : (view (driver new)).pending ≡ (view (driver old)).pending
  pub faults : CountsFaults (view (driver old)).abilities.is_reliable
      (view (driver old)).fault_count (view (driver new)).fault_count result
  pub refusals : IfErr result (allowed (driver_reasons (view (driver old)) Flush 0 0))
