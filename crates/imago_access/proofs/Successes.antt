-- SPDX-License-Identifier: MIT
use Rattle.std.proofs.Common.{◌≡◌, ℕ, ◌+◌, ◌^◌, ◌<◌, ◌≤◌, ◌⊎◌, inl, inr, ⊎_elim, Bool, true, false, List, length, refl, arith, Result, Ok, Err}
use Rattle.std.specs.Prelude.{IfErr, IsOk, IsErrOf, max}
use Rattle.imago_storage.specs.declared.error.Error.{Error}
use Rattle.imago_storage.specs.declared.error.Error.TheVariants as E
use Rattle.imago_storage.specs.Faults.{CountsFaults}
use Rattle.imago_drivers.specs.declared.format.PreallocateMode.{PreallocateMode}
use Rattle.imago_drivers.specs.Place.{Value}
use Rattle.imago_drivers.specs.LayerBelow.{ReadBound}
use Rattle.imago_drivers.specs.Operation.{Operation, Map, Write, Grow, Shrink, Flush}
use Rattle.imago_drivers.specs.CallRelations.{Calls}
use Rattle.imago_drivers.specs.View.{View, EndsIn}
use Rattle.imago_drivers.specs.Laws.{IsLawful, AreCauses}
use Rattle.imago_drivers.specs.Reasons.{Reasons, allowed}
use Rattle.imago_access.proofs.Weaker.{and_left}
use Rattle.imago_access.specs.declared.access.FormatAccess.{FormatAccess}
use Rattle.imago_access.specs.Chain.{driver, disk_value, is_reliable, chain_cause, read_cause, read_reasons, no_memory_to_read}
use Rattle.imago_access.specs.Resolved.{chain_map_reasons}
use Rattle.imago_access.specs.ChainLaws.{image_is_layer}
use Rattle.imago_access.specs.Calls.{FailsTest, ShowsFaults, range_refusals, write_refusals, devices_reliable, IsRangeCall, IsWrite}
use Rattle.imago_access.specs.Zeroing.{zero_reasons}
use Rattle.imago_access.specs.Discarding.{discard_of, discard_reasons}
use Rattle.imago_drivers.specs.Done.{driver_reasons}
use Rattle.imago_access.specs.Sizes.{IsResize, HasGrown, HasShrunk, FailsWritable}
use Rattle.imago_access.specs.Success.{Succeeds, IsReadable, IsMildRefusal, IsReadyToWrite, IsReadyToResize, HasSoundDevice, TakesNoneToWrite, SucceedsIfOffered, IsReadyToZero, ZeroWritesSucceed, DiscardsSucceed, FlushesSucceed, change_cause}
use Rattle.imago_access.proofs.Images.{both_ways, not_failed}

-- a refusal that is for nothing else is for want of memory, or has a cause
cause_or_memory : (r : Reasons) (e : Error) → (r.read_only → ⊥) → (r.beyond_disk → ⊥) → (r.range_overflow → ⊥) → (e ≡ Error.Device → r.device → ⊥) → (e ≡ Error.ForeignMapping → r.foreign_mapping → ⊥) → allowed r e → ((e ≡ Error.Memory) × r.memory) ⊎ r.cause e
cause_or_memory r E.ReadOnly a b c d f h = absurd (a h)
cause_or_memory r E.BeyondDisk a b c d f h = absurd (b h)
cause_or_memory r E.RangeOverflow a b c d f h = absurd (c h)
cause_or_memory r E.WrapAround a b c d f h = inr h
cause_or_memory r E.InvalidData a b c d f h = inr h
cause_or_memory r E.Unsupported a b c d f h = inr h
cause_or_memory r E.NoAccess a b c d f h = inr h
cause_or_memory r E.Device a b c d f h = absurd (d refl h)
cause_or_memory r E.Memory a b c d f h = inl (refl, h)
cause_or_memory r E.ForeignMapping a b c d f h = absurd (f refl h)
cause_or_memory r E.Denied a b c d f h = absurd h
cause_or_memory r E.NotFound a b c d f h = absurd h

-- a cause of a read whose bytes can all be read
mild : (shows : ℕ → Value) (o n : ℕ) (e : Error) → IsReadable shows o n → ReadBound shows o n e → IsMildRefusal e
mild shows o n E.WrapAround g b = inr (inl refl)
mild shows o n E.Unsupported g b = inr (inr refl)
mild shows o n E.InvalidData g b = absurd (g b.0 Error.InvalidData b.1 b.2)
mild shows o n E.NoAccess g b = absurd (g b.0 Error.NoAccess b.1 b.2)
mild shows o n E.Memory g b = absurd b
mild shows o n E.ReadOnly g b = absurd b
mild shows o n E.BeyondDisk g b = absurd b
mild shows o n E.RangeOverflow g b = absurd b
mild shows o n E.Device g b = absurd b
mild shows o n E.ForeignMapping g b = absurd b
mild shows o n E.Denied g b = absurd b
mild shows o n E.NotFound g b = absurd b

succeeds : {T takes_none : Type 0} (result : Result T Error) → IfErr result (λ e. (e ≡ Error.Memory) × (takes_none → ⊥)) → Succeeds takes_none result
succeeds (Ok t) h = record { refusals = tt; sure = λ n. refl }
succeeds (Err e) h = record { refusals = h.0; sure = λ n. absurd (h.1 n) }

succeeds_if_offered : {T takes_none : Type 0} (is_offered : Bool) (result : Result T Error) → IfErr result (λ e. ((e ≡ Error.Memory) × (takes_none → ⊥)) ⊎ ((e ≡ Error.Unsupported) × (is_offered ≡ false))) → SucceedsIfOffered is_offered takes_none result
succeeds_if_offered b (Ok t) h = record { refusals = tt; sure = λ o n. refl }
succeeds_if_offered b (Err e) h = record {
  refusals = ⊎_elim (λ m. inl m.0) (λ u. inr u) h;
  sure = λ o n. absurd (⊎_elim (λ m. m.1 n) (λ u. both_ways b o u.1) h);
}

-- a reliable device whose count of faults can rise doesn't fail
no_fault : {T : Type 0} (is_reliable : Bool) (before now : ℕ) (e : Error) → is_reliable ≡ true → before + 1 < 2 ^ 64 → CountsFaults {T = T} is_reliable before now (Err e) → e ≡ Error.Device → ⊥
no_fault b before now e r lt f d =
    let same : now ≡ before = f.reliable r in
    let rose = f.device (cc) in
    ⊎_elim (λ (k : before < now). omega arith) (λ (k : 2 ^ 64 ≤ now + 1). omega arith) rose

-- a count that shows each fault
pub counts_faults : {T : Type 0} (r : Bool) (a b : ℕ) (result : Result T Error) → ShowsFaults ⊥ r a b result → CountsFaults r a b result
counts_faults r a b result h = record { later = h.later; reliable = h.reliable; device = λ e. ⊎_elim (λ x. x) (λ (z : ⊥). absurd z) (h.device e) }

-- a call of the driver that counts on its own device alone
pub driver_succeeds : {St takes_none : Type 0} (old : View St) (now : ℕ) (r : Reasons) (result : Result Unit Error) → HasSoundDevice old → (r.read_only → ⊥) → (r.beyond_disk → ⊥) → (r.range_overflow → ⊥)
    → (IsErrOf result Error.ForeignMapping → r.foreign_mapping → ⊥) → ((e : Error) → r.cause e → ⊥) → (r.memory → takes_none → ⊥)
    → CountsFaults old.abilities.is_reliable old.fault_count now result → IfErr result (allowed r) → Succeeds takes_none result
driver_succeeds old now r (Ok t) s a b c f k m faults h = succeeds (Ok t) tt
driver_succeeds old now r (Err e) s a b c f k m faults h = succeeds (Err e) (⊎_elim (λ w. (w.0, m w.1)) (λ z. absurd (k e z))
    (cause_or_memory r e a b c (λ d z. no_fault old.abilities.is_reliable old.fault_count now e s.reliable s.counts faults d) (λ d z. f (cc) z) h))

module _ {D St : Type 0} (view : D → View St) where
  pub read_succeeds : (x : FormatAccess D) (o n : ℕ) (result : Result Unit Error) → is_reliable view x ≡ true
      → ((e : Error) → read_cause view x o n e → ⊥) → IfErr result (allowed (read_reasons view x o n)) → Succeeds (no_memory_to_read view x o n) result
  read_succeeds x o n (Ok t) r c h = succeeds (Ok t) tt
  read_succeeds x o n (Err e) r c h = succeeds (Err e) (⊎_elim (λ m. m) (λ k. absurd (c e k))
      (cause_or_memory (read_reasons view x o n) e (λ z. z) (λ z. z) (λ z. z) (λ d z. both_ways (is_reliable view x) r z) (λ d z. z) h))

  pub readable_is_read : ((d : D) → IsLawful (view d)) → ((d : D) → AreCauses (view d)) → (x : FormatAccess D) (o n : ℕ) (result : Result Unit Error) → is_reliable view x ≡ true
      → IsReadable (disk_value view x) o n → IfErr result (allowed (read_reasons view x o n)) → IfErr result IsMildRefusal
  readable_is_read lawful causes x o n (Ok t) r g h = tt
  readable_is_read lawful causes x o n (Err e) r g h = ⊎_elim (λ m. inl m.0) (λ k. mild (disk_value view x) o n e g ((image_is_layer view causes lawful x).bound o n e k))
      (cause_or_memory (read_reasons view x o n) e (λ z. z) (λ z. z) (λ z. z) (λ d z. both_ways (is_reliable view x) r z) (λ d z. z) h)

  pub mapping_succeeds : {T : Type 0} (x : FormatAccess D) (o n : ℕ) (result : Result T Error) → is_reliable view x ≡ true
      → ((e : Error) → chain_cause view x Map o (max n 1) e → ⊥) → IfErr result (allowed (chain_map_reasons view x o n)) → IsOk result
  mapping_succeeds x o n (Ok t) r c h = refl
  mapping_succeeds x o n (Err e) r c h = absurd (⊎_elim (λ m. m.1) (λ k. c e k)
      (cause_or_memory (chain_map_reasons view x o n) e (λ z. z) (λ z. z) (λ z. z) (λ d z. both_ways (is_reliable view x) r z) (λ d z. z) h))

  -- a call on a range, whatever it answers
  pub range_succeeds : {T takes_none : Type 0} (old new : FormatAccess D) (o n : ℕ) (r : Reasons) (result : Result T Error) → IsReadyToWrite view old o n
      → (r.read_only → ⊥) → (r.beyond_disk → EndsIn (view (driver old)).place o n) → (r.range_overflow → ⊥) → (r.foreign_mapping → ⊥)
      → ((e : Error) → r.cause e → change_cause view old Write o n e) → (r.memory → takes_none → ⊥)
      → CountsFaults (devices_reliable view old) (view (driver old)).fault_count (view (driver new)).fault_count result
      → IfErr result (λ e. FailsTest (view (driver old)) Write o n e ⊎ allowed r e) → Succeeds takes_none result
  range_succeeds old new o n r (Ok t) g ro bd ov fo over m f h = succeeds (Ok t) tt
  range_succeeds {T} old new o n r (Err e) g ro bd ov fo over m f h = succeeds (Err e) (⊎_elim
      (λ k. absurd (not_failed (view (driver old)) Write o n g.sound.writable g.inside (λ z. z) e k))
      (λ a. ⊎_elim (λ w. (w.0, m w.1)) (λ k. absurd (g.no_cause e (over e k)))
      (cause_or_memory r e ro (λ z. g.no_end (bd z)) ov (λ d z. no_fault {T = T} (devices_reliable view old) (view (driver old)).fault_count (view (driver new)).fault_count e g.sound.reliable g.sound.counts f d) (λ d z. fo z) a))
      h)

  -- a call on a range that the driver may not offer
  offered_succeeds : {T takes_none nothing : Type 0} {of : Operation → Type 0} {hidden : Type 0} {part : T → ℕ} {keeps : Bool} {effect : T → Type 0} {remains : Type 0} (old new : FormatAccess D) (op : Operation) (o n : ℕ) (r : Reasons) (result : Result T Error)
      → IsReadyToZero view old op o n r.cause → (hidden → ⊥) → (r.read_only → ⊥) → (r.beyond_disk → EndsIn (view (driver old)).place o n) → (r.range_overflow → ⊥) → (r.foreign_mapping → ⊥) → (r.memory → takes_none → ⊥)
      → IsRangeCall view op o n nothing of r hidden part keeps effect remains old new result → SucceedsIfOffered ((view (driver old)).abilities.offers op) takes_none result
  offered_succeeds old new op o n r (Ok t) g shown ro bd ov fo m h = succeeds_if_offered _ (Ok t) tt
  offered_succeeds {T} {hidden = hidden} old new op o n r (Err e) g shown ro bd ov fo m h = succeeds_if_offered _ (Err e) (⊎_elim
      (λ k. absurd (not_failed (view (driver old)) op o n g.sound.writable g.inside g.fits e k))
      (λ a. ⊎_elim (λ w. inl (w.0, m w.1)) (λ k. inr (g.no_cause e k))
      (cause_or_memory r e ro (λ z. g.no_end (bd z)) ov (λ d z. no_fault {T = T} (devices_reliable view old) (view (driver old)).fault_count (view (driver new)).fault_count e g.sound.reliable g.sound.counts counts d) (λ d z. fo z) a))
      h.refusals)
    where
      counts : CountsFaults {T = T} (devices_reliable view old) (view (driver old)).fault_count (view (driver new)).fault_count (Err e)
      counts = record { later = h.faults.later; reliable = h.faults.reliable; device = λ x. ⊎_elim (λ y. y) (λ (z : hidden). absurd (shown z)) (h.faults.device x) }

  pub zero_write_succeeds : ZeroWritesSucceed view
  zero_write_succeeds = λ old new op o n result g h. offered_succeeds old new op o n (zero_reasons view old op o n) result g (λ z. both_ways (is_reliable view old) g.reliable z) (λ z. z) (λ z. z) (λ z. z) (λ z. z) (λ k free. k free) h

  pub discard_succeeds : (its : Calls D St) → DiscardsSucceed view its
  discard_succeeds its = λ old new call o n result g h. offered_succeeds old new (discard_of call) o n (discard_reasons (view (driver old)) (discard_of call) o n) result g (λ z. z) (λ z. z) (λ z. z) (λ z. z) (λ z. z) (λ k free. k free) h.range

  -- a data mapping, or the preparing of one
  pub mapped_succeeds : {T : Type 0} (old new : FormatAccess D) (o n : ℕ) (result : Result T Error) → IsReadyToWrite view old o n
      → CountsFaults (devices_reliable view old) (view (driver old)).fault_count (view (driver new)).fault_count result
      → IfErr result (λ e. FailsTest (view (driver old)) Write o n e ⊎ allowed (range_refusals view old Write o n) e) → Succeeds ((view (driver old)).limits.no_memory Write o n) result
  mapped_succeeds old new o n result g f h = range_succeeds old new o n (range_refusals view old Write o n) result g (λ z. z) (λ z. z) (λ z. z) (λ z. z) (λ e c. c) (λ k none. k none) f h

  pub write_succeeds : (old new : FormatAccess D) (o : ℕ) (bytes : List ℕ) (result : Result Unit Error) → IsReadyToWrite view old o (length bytes)
      → IsWrite view old new o bytes result → Succeeds (TakesNoneToWrite view old o (length bytes)) result
  write_succeeds old new o bytes result g h =
      range_succeeds old new o (length bytes) (write_refusals view old o (length bytes)) result g (λ z. z) (λ z. z) (λ z. z) (λ z. z) (λ e c. c)
      (λ k none. ⊎_elim (λ taken. taken (none.0, none.1)) (λ may. none.2 may) k) (counts_faults _ _ _ result h.faults) h.refusals

  pub flush_succeeds : (relation : D → D → Result Unit Error → Type 0) → FlushesSucceed view relation
  flush_succeeds relation = λ old new result sound no_cause h.
      let v = view (driver old) in
      driver_succeeds v (view (driver new)).fault_count (driver_reasons v Flush 0 0) result sound (λ z. z) (λ z. z) (λ z. z) (λ e z. z) no_cause (λ k none. k none) h.faults h.refusals

  -- what is left of a refusal of a resize that may count on its devices
  resize_left : (old new : FormatAccess D) (op : Operation) (n : ℕ) (r : Reasons) (b : Bool) (e : Error) → IsReadyToResize view old op n → b ≡ true
      → (r.read_only → ⊥) → (r.beyond_disk → ⊥) → (r.range_overflow → ⊥) → (r.foreign_mapping → ⊥) → ((z : Error) → r.cause z → change_cause view old op n 0 z)
      → CountsFaults {T = Unit {0}} b (view (driver old)).fault_count (view (driver new)).fault_count (Err e) → FailsWritable (view (driver old)) e ⊎ allowed r e
      → ((e ≡ Error.Memory) × r.memory) ⊎ ((e ≡ Error.Unsupported) × ((view (driver old)).abilities.offers op ≡ false))
  resize_left old new op n r b e g reliable ro bd ov fo over faults refused = ⊎_elim
      (λ f. absurd (both_ways (view (driver old)).abilities.is_writable g.sound.writable f.1))
      (λ a. ⊎_elim (λ m. inl m) (λ k. inr (g.no_cause e (over e k)))
      (cause_or_memory r e ro bd ov (λ d z. no_fault b (view (driver old)).fault_count (view (driver new)).fault_count e reliable g.sound.counts faults d) (λ d z. fo z) a))
      refused

  pub growth_succeeds : (old new : FormatAccess D) (mode : PreallocateMode) (n : ℕ) (result : Result Unit Error) → IsReadyToResize view old (Grow mode) n
      → IsResize view (Grow mode) n (HasGrown view mode n old new) old new result → SucceedsIfOffered ((view (driver old)).abilities.offers (Grow mode)) ((view (driver old)).limits.no_memory (Grow mode) n 0) result
  growth_succeeds old new mode n (Ok t) g h = succeeds_if_offered _ (Ok t) tt
  growth_succeeds old new mode n (Err e) g h = succeeds_if_offered _ (Err e)
      (resize_left old new (Grow mode) n (record (range_refusals view old (Grow mode) n 0) { beyond_disk = ⊥ }) (devices_reliable view old) e g g.sound.reliable (λ z. z) (λ z. z) (λ z. z) (λ z. z) (λ z c. c) h.faults h.refusals)

  pub cut_succeeds : (old new : FormatAccess D) (n : ℕ) (result : Result Unit Error) → IsReadyToResize view old Shrink n
      → IsResize view Shrink n (HasShrunk view n old new) old new result → SucceedsIfOffered ((view (driver old)).abilities.offers Shrink) ((view (driver old)).limits.no_memory Shrink n 0) result
  cut_succeeds old new n (Ok t) g h = succeeds_if_offered _ (Ok t) tt
  cut_succeeds old new n (Err e) g h = succeeds_if_offered _ (Err e)
      (resize_left old new Shrink n (driver_reasons (view (driver old)) Shrink n 0) (view (driver old)).abilities.is_reliable e g (and_left _ _ g.sound.reliable) (λ z. z) (λ z. z) (λ z. z) (λ z. z) (λ z c. inl c) h.faults h.refusals)
