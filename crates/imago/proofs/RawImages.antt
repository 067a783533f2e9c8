-- SPDX-License-Identifier: MIT
use Rattle.std.proofs.Common.{◌≡◌, ℕ, ◌+◌, ◌-◌, ◌^◌, ◌<◌, ◌≤◌, ◌⊎◌, ◌&&◌, inl, inr, ⊎_elim, Bool, true, false, Option, Some, None, List, length, min, max, refl, sym, subst, arith, Result, Ok, Err}
use Rattle.std.proofs.lemmas.Bool.{cases_lt}
use Rattle.std.specs.Prelude.{IfErr, IsOk}
use Rattle.imago_storage.specs.declared.error.Error.{Error}
use Rattle.imago_storage.specs.Features.{Features, MayRunOut, IsAlignedRequest, IsAlignedTo, InPlace}
use Rattle.imago_storage.specs.Mem.{null_features}
use Rattle.imago_drivers.specs.Operation.{Operation, Map, Read, Write, Zero, DiscardToAny, Flush}
use Rattle.imago_drivers.specs.Place.{Lower}
use Rattle.imago_drivers.specs.Raw.{raw_view, raw_cause, raw_offers}
use Rattle.imago_drivers.specs.RawLaws.{raw_in, raw_lower}
use Rattle.imago_drivers.specs.Reasons.{allowed}
use Rattle.imago_drivers.specs.Room.{HasRoom, IsPadded}
use Rattle.imago_drivers.specs.declared.mapping.Ticket.{Ticket}
use Rattle.imago_drivers.specs.View.{View, EndsIn}
use Rattle.imago_access.specs.declared.access.FormatAccess.{FormatAccess, FormatAccess', Held-FormatAccess-backing, None', Some', is-FormatAccess'}
use Rattle.imago_access.specs.declared.mapping.Mapping.{Mapping}
use Rattle.imago_access.specs.Chain.{driver, backing, lent_image, is_reliable, is_reliable_below, chain_cause, chain_no_memory, takes_no_memory, no_memory_to_read, read_reasons}
use Rattle.imago_access.specs.Resolved.{chain_map_reasons}
use Rattle.imago_access.specs.Calls.{devices_reliable, IsWrite}
use Rattle.imago_access.specs.Sizes.{IsFlushed}
use Rattle.imago_access.specs.Success.{Succeeds, SucceedsIfOffered, ReadsSucceed, MappingsSucceed, WritesSucceed, ZeroWritesSucceed, FlushesSucceed, IsSound, IsReadyToZero, change_cause}
use Rattle.imago_access.specs.Zeroing.{IsZeroWrite}
use Rattle.imago_access.proofs.ZeroLoops.{cause_split}
use Rattle.imago_access.proofs.Images.{both_ways}

both_true : (a b : Bool) → a ≡ true → b ≡ true → (a && b) ≡ true
both_true true b h k = k
both_true false b h k = h

-- what is offered, and refused for nothing else, is refused for want of memory alone
pub memory_alone : {T takes_none : Type 0} (result : Result T Error) → SucceedsIfOffered true takes_none result → Succeeds takes_none result
memory_alone (Ok t) s = record { refusals = tt; sure = λ n. refl }
memory_alone (Err e) s = record { refusals = ⊎_elim (λ m. m) (λ u. absurd (both_ways true refl u.1)) s.refusals; sure = λ n. s.sure refl n }

-- Images whose drivers never fail, and lead to no layer below.
module _ {D St : Type 0} (view : D → View St) (never_fails : (d : D) → (view d).abilities.is_reliable ≡ true) (leads_nowhere : (d : D) (p q : ℕ) (w : Bool) → (view d).place p ≡ Lower q w → ⊥) where
  mutual
    chain_is_reliable : (x : FormatAccess D) → is_reliable view x ≡ true
    chain_is_reliable (FormatAccess' b inner) = both_true _ _ (never_fails inner) (below_is_reliable b)

    below_is_reliable : (b : Held-FormatAccess-backing D) → is_reliable_below view b ≡ true
    below_is_reliable None' = refl
    below_is_reliable (Some' k x) = chain_is_reliable x

  lent_is_reliable : (b : Option (FormatAccess D)) → (lent_image view b).is_reliable ≡ true
  lent_is_reliable None = refl
  lent_is_reliable (Some x) = chain_is_reliable x

  devices_are_reliable : (x : FormatAccess D) → devices_reliable view x ≡ true
  devices_are_reliable x = both_true _ _ (never_fails (driver x)) (lent_is_reliable (backing x))

  -- a cause of the chain is one of the driver
  own_cause : (x : FormatAccess D) (op : Operation) (o n : ℕ) (e : Error) → chain_cause view x op o n e → (view (driver x)).limits.cause op o n e
  own_cause x op o n e c = ⊎_elim (λ a. a) (λ r. let k = (r.5) 0 (r.4) in absurd (leads_nowhere (driver x) _ _ _ (k.3))) (cause_split view x op o n e c)

  -- nothing is read below
  own_memory : (x : FormatAccess D) (o n : ℕ) → 0 < n → (view (driver x)).limits.whole Read o n → (view (driver x)).limits.no_memory Read o n → chain_no_memory view x o n
  own_memory x o n some whole none = subst (λ (y : FormatAccess D). chain_no_memory view y o n) (sym (is-FormatAccess' x))
      (whole, none, λ q r. let k = r 0 some in absurd (leads_nowhere (driver x) _ _ _ (k.3)))

  own_memory_to_read : (x : FormatAccess D) (o n : ℕ) → o + n ≤ (view (driver x)).size → (view (driver x)).limits.whole Read o n → (view (driver x)).limits.no_memory Read o n → no_memory_to_read view x o n
  own_memory_to_read x o n inside whole none =
      let e : min n ((view (driver x)).size - o) ≡ n = omega (arith, inside) in
      subst (λ (m : ℕ). (m ≡ 0) ⊎ takes_no_memory view x o m) (sym e) (⊎_elim (λ some. inr (inl (own_memory x o n some whole none))) (λ (z : n ≤ 0). inl (omega (arith, z))) (cases_lt 0 n))

-- Images of raw drivers over storages that never fail, by their drivers' features, bytes, size, writability and count of faults.
module _ {R : Type 0} (f : R → Features) (bytes : R → List ℕ) (size : R → ℕ) (writable : R → Bool) (faults : R → ℕ) (never_fails : (r : R) → (f r).is_reliable ≡ true) (no_faults : (r : R) → faults r ≡ 0) where
  abbrev pub raw_images : R → View Ticket
  raw_images r = raw_view (f r) (faults r) (bytes r) (size r) (writable r)

  leads_nowhere : (r : R) (p q : ℕ) (w : Bool) → (raw_images r).place p ≡ Lower q w → ⊥
  leads_nowhere r p q w e = raw_lower (size r) (bytes r) p q w e

  -- a raw driver refuses what it doesn't offer alone
  abbrev pub Refuses : R → Type 0
  Refuses r = (op : Operation) (o n : ℕ) (e : Error) → (IsPadded op → HasRoom (f r) o n) → raw_cause (f r) (size r) op o n e → (e ≡ Error.Unsupported) × (raw_offers (f r) op ≡ false)

  -- An image of such a driver.
  module _ (x : FormatAccess R) (d : R) (is : d ≡ driver x) (refuses : Refuses d) where
    no_cause : (op : Operation) (o n : ℕ) → raw_offers (f (driver x)) op ≡ true → (IsPadded op → HasRoom (f (driver x)) o n) → (e : Error) → raw_cause (f (driver x)) (size (driver x)) op o n e → ⊥
    no_cause op o n offered room e c = let k = subst (λ (r : R). Refuses r) is refuses in both_ways (raw_offers (f (driver x)) op) offered ((k op o n e room c).1)

    no_change_cause : (op : Operation) (o n : ℕ) → raw_offers (f (driver x)) op ≡ true → (IsPadded op → HasRoom (f (driver x)) o n) → (e : Error) → change_cause raw_images x op o n e → ⊥
    no_change_cause op o n offered room e c = ⊎_elim (λ a. no_cause op o n offered room e a) (λ r. absurd ((r.3) (r.0) (omega arith, omega (arith, r.2)))) c

    no_end : (o n : ℕ) → o + n ≤ size (driver x) → EndsIn (raw_images (driver x)).place o n → ⊥
    no_end o n inside h = let s = raw_in (size (driver x)) (bytes (driver x)) (h.0) (omega (arith, h.1.1, inside)) in let t = h.2 in cc

    counts : faults (driver x) + 1 < 2 ^ 64
    counts = let k = no_faults (driver x) in omega (arith, k)

    is_sound : writable (driver x) ≡ true → IsSound raw_images x
    is_sound w = record { writable = w; reliable = devices_are_reliable raw_images (λ r. never_fails r) leads_nowhere x; counts = counts }

    fits_too : size d < 2 ^ 64 → size (driver x) < 2 ^ 64
    fits_too fits = subst (λ (r : R). size r < 2 ^ 64) is fits

    -- a read inside the disk
    pub read_inside : ReadsSucceed raw_images → (o n : ℕ) (result : Result Unit Error) → o + n ≤ size (driver x) → size d < 2 ^ 64 → (size (driver x) < 2 ^ 64 → HasRoom (f (driver x)) o n) → IfErr result (allowed (read_reasons raw_images x o n))
        → Succeeds (IsAlignedRequest (f (driver x)) o n × (MayRunOut (f (driver x)).read_memory (length (bytes (driver x))) (o + n) → ⊥)) result
    read_inside law o n result inside fits room h =
        let has : HasRoom (f (driver x)) o n = room (fits_too fits) in
        let s = law x o n result (chain_is_reliable raw_images (λ r. never_fails r) leads_nowhere x) (λ e c. ⊎_elim
        (λ a. no_cause Read o n refl (λ u. has) e (own_cause raw_images (λ r. never_fails r) leads_nowhere x Read o n e a))
        (λ a. no_cause Map o n refl (λ u. has) e (own_cause raw_images (λ r. never_fails r) leads_nowhere x Map o n e a)) c) h in
        record { refusals = s.refusals; sure = λ k. s.sure (own_memory_to_read raw_images (λ r. never_fails r) leads_nowhere x o n inside inside (inside, k.0, k.1)) }

    -- a mapping of any range
    pub mapping_of_range : MappingsSucceed raw_images → (o n : ℕ) (result : Result (Mapping × ℕ) Error) → IfErr result (allowed (chain_map_reasons raw_images x o n)) → IsOk result
    mapping_of_range law o n result h = law x o n result (chain_is_reliable raw_images (λ r. never_fails r) leads_nowhere x)
        (λ e c. no_cause Map o (max n 1) refl (λ u. absurd u) e (own_cause raw_images (λ r. never_fails r) leads_nowhere x Map o (max n 1) e c)) h

    -- a write inside the disk
    pub write_inside : WritesSucceed raw_images → (new : FormatAccess R) (o : ℕ) (source : List ℕ) (result : Result Unit Error) → writable (driver x) ≡ true → o + length source ≤ size (driver x) → size d < 2 ^ 64 → (size (driver x) < 2 ^ 64 → HasRoom (f (driver x)) o (length source))
        → IsWrite raw_images x new o source result
        → Succeeds (IsAlignedRequest (f (driver x)) o (length source) × (MayRunOut (f (driver x)).write_memory (length (bytes (driver x))) (o + length source) → ⊥)) result
    write_inside law new o source result w inside fits room h =
        let s = law x new o source result (record { sound = is_sound w; inside = inside; no_end = no_end o (length source) inside; no_cause = no_change_cause Write o (length source) refl (λ u. room (fits_too fits)) }) h in
        record { refusals = s.refusals; sure = λ k. s.sure (inside, (inside, k.0, k.1), λ c. c.2) }

    -- a zero write inside the disk, where the storage zeroes in place
    pub zero_write_inside : ZeroWritesSucceed raw_images → (new : FormatAccess R) (o n : ℕ) (result : Result Unit Error) → writable (driver x) ≡ true → o + n ≤ size (driver x) → size d < 2 ^ 64 → (size (driver x) < 2 ^ 64 → HasRoom (f (driver x)) o n)
        → (f (driver x)).zeroes ≡ InPlace → IsZeroWrite raw_images Zero x new o n result
        → Succeeds (IsAlignedTo (f (driver x)).zero_align o n × (MayRunOut (f (driver x)).zero_memory (length (bytes (driver x))) (o + n) → ⊥)) result
    zero_write_inside law new o n result w inside fits room in_place h =
        let fit : size (driver x) < 2 ^ 64 = fits_too fits in
        let has : HasRoom (f (driver x)) o n = room fit in
        let s = law x new Zero o n result (record {
          sound = is_sound w;
          reliable = chain_is_reliable raw_images (λ r. never_fails r) leads_nowhere x;
          inside = inside;
          fits = λ z. omega (arith, z, inside, fit);
          no_end = no_end o n inside;
          no_cause = λ e c. absurd (⊎_elim (λ a. no_cause Zero o n refl (λ u. has) e a) (λ b. ⊎_elim
              (λ a. no_change_cause Write o n refl (λ u. has) e a)
              (λ a. no_cause Map o n refl (λ u. has) e (own_cause raw_images (λ r. never_fails r) leads_nowhere x Map o n e a)) b) c);
        }) h in
        let t = memory_alone result s in
        record { refusals = t.refusals; sure = λ k. t.sure (record { inside = inside; aligned = k.0; in_place = in_place; no_growth = k.1 }, k.0) }

    -- a discard to any inside the disk
    pub ready_to_discard : (o n : ℕ) → writable (driver x) ≡ true → o + n ≤ size (driver x) → size d < 2 ^ 64 → IsReadyToZero raw_images x DiscardToAny o n (raw_cause (f (driver x)) (size (driver x)) DiscardToAny o n)
    ready_to_discard o n w inside fits = record {
      sound = is_sound w;
      reliable = chain_is_reliable raw_images (λ r. never_fails r) leads_nowhere x;
      inside = inside;
      fits = λ z. omega (arith, z, inside, fits_too fits);
      no_end = no_end o n inside;
      no_cause = λ e c. absurd (no_cause DiscardToAny o n refl (λ u. absurd u) e c);
    }

    -- a flush, a sync, or an invalidation of caches
    pub flush_of_all : (relation : R → R → Result Unit Error → Type 0) → FlushesSucceed raw_images relation → (new : FormatAccess R) (result : Result Unit Error) → IsFlushed raw_images relation x new result
        → Succeeds (MayRunOut (f (driver x)).other_memory 0 0 → ⊥) result
    flush_of_all relation law new result h = law x new result (record { reliable = never_fails (driver x); counts = counts }) (no_cause Flush 0 0 refl (λ u. absurd u)) h

-- What holds of a range inside a disk that is shorter than 2 ^ 64 bytes.
module _ (size o n : ℕ) (inside : o + n ≤ size) where
  -- it doesn't grow a storage that the disk stands in
  pub no_growth : (len : ℕ) → size ≤ len → len < o + n → ⊥
  no_growth len stored grows = omega (arith, stored, inside, grows)

  -- where each alignment is 1, it has room, and is aligned
  pub null_room : size < 2 ^ 64 → HasRoom null_features o n
  null_room fits = omega (arith, inside, fits)

  pub null_aligned : size < 2 ^ 64 → IsAlignedTo 1 o n
  null_aligned fits = record { start = omega arith; whole = omega arith; ends = omega (arith, inside, fits) }

  pub null_request : size < 2 ^ 64 → IsAlignedRequest null_features o n
  null_request fits = record { start = omega arith; whole = omega arith; ends = omega (arith, inside, fits) }
