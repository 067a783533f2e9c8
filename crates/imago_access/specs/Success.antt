-- SPDX-License-Identifier: MIT
use Rattle.std.specs.Prelude.{◌≡◌, ℕ, ◌+◌, ◌^◌, ◌<◌, ◌≤◌, ◌⊎◌, ◌↔◌, max, Bool, true, false, List}
use Rattle.std.specs.Prelude.{length, Result, IfErr, IsOk, IsErrOf}
use Rattle.imago_storage.specs.declared.error.Error.{Error}
use Rattle.imago_drivers.specs.declared.format.PreallocateMode.{PreallocateMode}
use Rattle.imago_storage.specs.Faults.{CountsFaults}
use Rattle.imago_drivers.specs.Operation.{Operation, Map, Write, Grow, Shrink, Flush}
use Rattle.imago_drivers.specs.Place.{Value, Unreadable, IsIn}
use Rattle.imago_drivers.specs.Causes.{CauseOver}
use Rattle.imago_drivers.specs.Reasons.{allowed}
use Rattle.imago_drivers.specs.View.{View, EndsIn}
use Rattle.imago_drivers.specs.CallRelations.{Calls}
use Rattle.imago_access.specs.declared.access.FormatAccess.{FormatAccess}
use Rattle.imago_access.specs.declared.mapping.Mapping.{Mapping}
use Rattle.imago_drivers.specs.Done.{mapping_write_reasons}
use Rattle.imago_drivers.specs.Prepared.{IsForeign, IsForeignWrite, IsFor, CommitTakesMemory}
use Rattle.imago_drivers.specs.Commit.{IsCommit, commit_reasons}
use Rattle.imago_access.specs.Writing.{CommitMayTakeMemory}
use Rattle.imago_drivers.specs.declared.mapping.PreparedDataMapping.{PreparedDataMapping}
use Rattle.imago_access.specs.Chain.{driver, backing, disk_value, lent_image, is_reliable}
use Rattle.imago_access.specs.Chain.{chain_cause, read_cause, read_reasons, no_memory_to_read}
use Rattle.imago_access.specs.Resolved.{chain_map_reasons}
use Rattle.imago_access.specs.declared.discard.DiscardCall.{DiscardCall}
use Rattle.imago_access.specs.Calls.{devices_reliable, Overflows, IsWrite, IsEnsured, IsPreparing}
use Rattle.imago_access.specs.Zeroing.{IsFree, IsZeroWrite, zero_reasons}
use Rattle.imago_access.specs.Discarding.{discard_of, IsImageDiscard}
use Rattle.imago_access.specs.Sizes.{IsResize, IsFlushed, HasGrown, HasShrunk}

-- The call is refused for want of memory alone, and succeeds where it takes none.
pub record Succeeds {T : Type 0} (takes_none : Type 0) (result : Result T Error) : Type 0 where
  pub refusals : IfErr result (λ e. e ≡ Error.Memory)
  pub sure : takes_none → IsOk result

-- each byte of a range can be read
abbrev pub IsReadable : (ℕ → Value) → ℕ → ℕ → Type 0
IsReadable at o n = (p : ℕ) (e : Error) → IsIn o n p → at p ≡ Unreadable e → ⊥

-- what is left to refuse a read for where devices are reliable and each byte can be read: memory, a
-- wrap-around at a storage, or what a driver doesn't offer
abbrev pub IsMildRefusal : Error → Type 0
IsMildRefusal e = (e ≡ Error.Memory) ⊎ ((e ≡ Error.WrapAround) ⊎ (e ≡ Error.Unsupported))

-- a read of a chain of reliable devices, with no cause of a refusal
abbrev pub ReadsSucceed : {D St : Type 0} → (D → View St) → Type 0
ReadsSucceed {D} view = (x : FormatAccess D) (o n : ℕ) (result : Result Unit Error)
    → is_reliable view x ≡ true
    → ((e : Error) → read_cause view x o n e → ⊥) → IfErr result (allowed (read_reasons view x o n))
    → Succeeds (no_memory_to_read view x o n) result

abbrev pub ReadableRangesAreRead : {D St : Type 0} → (D → View St) → Type 0
ReadableRangesAreRead {D} view = (x : FormatAccess D) (o n : ℕ) (result : Result Unit Error)
    → is_reliable view x ≡ true
    → IsReadable (disk_value view x) o n → IfErr result (allowed (read_reasons view x o n))
    → IfErr result IsMildRefusal

-- a mapping of a chain of reliable devices, with no cause of a refusal: it takes no memory, so it
-- succeeds
abbrev pub MappingsSucceed : {D St : Type 0} → (D → View St) → Type 0
MappingsSucceed {D} view = (x : FormatAccess D) (o n : ℕ) (result : Result (Mapping × ℕ) Error)
    → is_reliable view x ≡ true
    → ((e : Error) → chain_cause view x Map o (max n 1) e → ⊥)
    → IfErr result (allowed (chain_map_reasons view x o n)) → IsOk result

-- A changing call may count on the image: it is writable, its devices don't fail, nor those of a
-- layer that it is lent, and the count of faults is below its greatest value.
pub record IsSound {D St : Type 0} (view : D → View St) (x : FormatAccess D) : Type 0 where
  pub writable : (view (driver x)).abilities.is_writable ≡ true
  pub reliable : devices_reliable view x ≡ true
  pub counts : (view (driver x)).fault_count + 1 < 2 ^ 64

-- the causes of a changing call on an image
abbrev pub change_cause : {D St : Type 0} → (D → View St) → FormatAccess D → Operation → ℕ → ℕ
    → Error → Type 0
change_cause view x op o n e = CauseOver (view (driver x)).limits.cause
    (view (driver x)).limits.copies (lent_image view (backing x)) op o n e

-- The tests of a write pass, its range has places to its end, and there is no cause of a refusal.
pub record IsReadyToWrite {D St : Type 0} (view : D → View St) (x : FormatAccess D) (o n : ℕ) : Type
    0 where
  pub sound : IsSound view x
  pub inside : o + n ≤ (view (driver x)).size
  pub no_end : EndsIn (view (driver x)).place o n → ⊥
  pub no_cause : (e : Error) → change_cause view x Write o n e → ⊥

-- a write of that range takes no memory: neither the driver's mapping of it, which is the whole of
-- it, nor a commit
abbrev pub TakesNoneToWrite : {D St : Type 0} → (D → View St) → FormatAccess D → ℕ → ℕ → Type 0
TakesNoneToWrite view x o n = (view (driver x)).limits.whole Write o n
    × (view (driver x)).limits.no_memory Write o n × (CommitMayTakeMemory view (driver x) → ⊥)

abbrev pub WritesSucceed : {D St : Type 0} → (D → View St) → Type 0
WritesSucceed {D} view = (old new : FormatAccess D) (o : ℕ) (bytes : List ℕ)
    (result : Result Unit Error) → IsReadyToWrite view old o (length bytes)
    → IsWrite view old new o bytes result → Succeeds (TakesNoneToWrite view old o (length bytes))
    result

-- a data mapping, for overwriting or not, and the preparing of one
abbrev pub DataMappingsSucceed : {D St : Type 0} → (D → View St) → Type 0
DataMappingsSucceed {D} view = (old new : FormatAccess D) (o n : ℕ) (overwrite : Bool)
    (result : Result (ℕ × ℕ × ℕ) Error) → IsReadyToWrite view old o n
    → IsEnsured view old new o n overwrite result
    → Succeeds ((view (driver old)).limits.no_memory Write o n) result

abbrev pub PreparesSucceed : {D St : Type 0} → (D → View St) → Type 0
PreparesSucceed {D} {St} view = (old new : FormatAccess D) (o n : ℕ)
    (result : Result (PreparedDataMapping St) Error) → IsReadyToWrite view old o n
    → IsPreparing view old new o n result
    → Succeeds ((view (driver old)).limits.no_memory Write o n) result

-- the driver's device doesn't fail, and the count of faults is below its greatest value
pub record HasSoundDevice {St : Type 0} (v : View St) : Type 0 where
  pub reliable : v.abilities.is_reliable ≡ true
  pub counts : v.fault_count + 1 < 2 ^ 64

-- A write into a prepared mapping that is the driver's own, with no cause of a refusal for any
-- places that it is for.
pub record IsReadyForPrepared {St : Type 0} (v : View St) (m : PreparedDataMapping St)
    (at n : ℕ) : Type 0 where
  pub device : HasSoundDevice v
  pub own : IsForeignWrite v m → ⊥
  pub no_cause : (e : Error) → (mapping_write_reasons v m at n).cause e → ⊥

abbrev pub PreparedWritesSucceed : {D St : Type 0} → (D → View St) → Type 0
PreparedWritesSucceed {D} {St} view = (old new : FormatAccess D) (m : PreparedDataMapping St)
    (at n : ℕ) (result : Result Unit Error) → IsReadyForPrepared (view (driver old)) m at n
    → (IsErrOf result Error.ForeignMapping ↔ IsForeignWrite (view (driver old)) m)
    → CountsFaults (view (driver old)).abilities.is_reliable (view (driver old)).fault_count
    (view (driver new)).fault_count result
    → IfErr result (allowed (mapping_write_reasons (view (driver old)) m at n))
    → Succeeds ((o : ℕ) × IsFor (view (driver old)) m at n o
    × (view (driver old)).limits.no_memory Write o n) result

-- A commit of a mapping that is no foreign one, with no cause of a refusal.
pub record IsReadyToCommit {St : Type 0} (v : View St) (m : PreparedDataMapping St) : Type 0 where
  pub device : HasSoundDevice v
  pub own : IsForeign v m → ⊥
  pub no_cause : (e : Error) → (commit_reasons v m).cause e → ⊥

abbrev pub CommitsSucceed : {D St : Type 0} → (D → View St) → Type 0
CommitsSucceed {D} {St} view = (old new : FormatAccess D) (m : PreparedDataMapping St)
    (result : Result Unit Error) → IsReadyToCommit (view (driver old)) m
    → IsCommit view (driver old) (driver new) m result
    → Succeeds (CommitTakesMemory (view (driver old)) m → ⊥) result

-- a flush, a sync or an invalidation of caches, on a device that doesn't fail
abbrev pub FlushesSucceed : {D St : Type 0} → (D → View St) → (D → D → Result Unit Error → Type 0)
    → Type 0
FlushesSucceed {D} view relation = (old new : FormatAccess D) (result : Result Unit Error)
    → HasSoundDevice (view (driver old))
    → ((e : Error) → (view (driver old)).limits.cause Flush 0 0 e → ⊥)
    → IsFlushed view relation old new result
    → Succeeds ((view (driver old)).limits.no_memory Flush 0 0) result

-- The test of a resize passes, and each cause of a refusal is that the driver doesn't offer it.
pub record IsReadyToResize {D St : Type 0} (view : D → View St) (x : FormatAccess D)
    (op : Operation) (new_size : ℕ) : Type 0 where
  pub sound : IsSound view x
  pub no_cause : (e : Error) → change_cause view x op new_size 0 e → (e ≡ Error.Unsupported)
      × ((view (driver x)).abilities.offers op ≡ false)

-- The call is refused for want of memory, or as not offered, alone; it succeeds where it is offered
-- and takes no memory.
pub record SucceedsIfOffered {T : Type 0} (is_offered : Bool) (takes_none : Type 0)
    (result : Result T Error) : Type 0 where
  pub refusals : IfErr result (λ e. (e ≡ Error.Memory)
      ⊎ ((e ≡ Error.Unsupported) × (is_offered ≡ false)))
  pub sure : is_offered ≡ true → takes_none → IsOk result

-- The tests of a zero write or a discard pass, every device of the chain is reliable, no place of
-- the range is an end, and each cause of a refusal is that the driver doesn't offer the call.
pub record IsReadyToZero {D St : Type 0} (view : D → View St) (x : FormatAccess D) (op : Operation)
    (o n : ℕ) (cause : Error → Type 0) : Type 0 where
  pub sound : IsSound view x
  pub reliable : is_reliable view x ≡ true
  pub inside : o + n ≤ (view (driver x)).size
  pub fits : Overflows op o n → ⊥
  pub no_end : EndsIn (view (driver x)).place o n → ⊥
  pub no_cause : (e : Error) → cause e → (e ≡ Error.Unsupported)
      × ((view (driver x)).abilities.offers op ≡ false)

-- a zero write, or a discard to zero: it takes no memory where the driver does the range at once
-- and takes none for it
abbrev pub ZeroWritesSucceed : {D St : Type 0} → (D → View St) → Type 0
ZeroWritesSucceed {D} view = (old new : FormatAccess D) (op : Operation) (o n : ℕ)
    (result : Result Unit Error)
    → IsReadyToZero view old op o n (zero_reasons view old op o n).cause
    → IsZeroWrite view op old new o n result
    → SucceedsIfOffered ((view (driver old)).abilities.offers op)
    (IsFree (view (driver old)) op o n) result

-- a discard to any or to backing
abbrev pub DiscardsSucceed : {D St : Type 0} → (D → View St) → Calls D St → Type 0
DiscardsSucceed {D} view its = (old new : FormatAccess D) (call : DiscardCall) (o n : ℕ)
    (result : Result Unit Error) → IsReadyToZero view old (discard_of call) o n
    ((view (driver old)).limits.cause (discard_of call) o n)
    → IsImageDiscard view its call old new o n result
    → SucceedsIfOffered ((view (driver old)).abilities.offers (discard_of call))
    (IsFree (view (driver old)) (discard_of call) o n) result

abbrev pub GrowthsSucceed : {D St : Type 0} → (D → View St) → Type 0
GrowthsSucceed {D} view = (old new : FormatAccess D) (mode : PreallocateMode) (n : ℕ)
    (result : Result Unit Error) → IsReadyToResize view old (Grow mode) n
    → IsResize view (Grow mode) n (HasGrown view mode n old new) old new result
    → SucceedsIfOffered ((view (driver old)).abilities.offers (Grow mode))
    ((view (driver old)).limits.no_memory (Grow mode) n 0) result

abbrev pub CutsSucceed : {D St : Type 0} → (D → View St) → Type 0
CutsSucceed {D} view = (old new : FormatAccess D) (n : ℕ) (result : Result Unit Error)
    → IsReadyToResize view old Shrink n
    → IsResize view Shrink n (HasShrunk view n old new) old new result
    → SucceedsIfOffered ((view (driver old)).abilities.offers Shrink)
    ((view (driver old)).limits.no_memory Shrink n 0) result
