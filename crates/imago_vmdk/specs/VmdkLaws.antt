-- SPDX-License-Identifier: MIT
use Rattle.std.specs.Prelude.{◌≡◌, ℕ, ◌+◌, ◌-◌, ◌*◌, ◌<◌, ◌≤◌, ◌⊎◌, Bool, true, false, List, []}
use Rattle.std.specs.Prelude.{◌∷◌, ◌^◌, slice_index, slice_index_or, nat_lt, refl}
use Rattle.std.specs.List.{sum_by}
use Rattle.std.proofs.Common.{arith, sym, ◌∙◌, ⊎_elim, inl, inr}
use Rattle.std.proofs.lemmas.Bool.{cases_lt}
use Rattle.std.proofs.lemmas.Bool.Decides.{nat_tests}
use Rattle.std.proofs.lemmas.List.Sums.{sum_by-cons}
use Rattle.imago_storage.specs.declared.error.Error.{Error}
use Rattle.imago_storage.specs.declared.error.Error.TheVariants as E
use Rattle.imago_storage.specs.Features.{Features}
use Rattle.imago_drivers.specs.Operation.{Operation, Map, Read, Write, Zero, DiscardToZero}
use Rattle.imago_drivers.specs.Operation.{DiscardToAny, DiscardToBacking, Grow, Shrink, Flush}
use Rattle.imago_drivers.specs.Place.{Value, Unreadable, Place, Stored, Zeroed, Special, Lower}
use Rattle.imago_drivers.specs.Place.{Refused, End}
use Rattle.imago_drivers.specs.Laws.{IsLawful, AreCauses, CauseBound, IsRefusedIn}
use Rattle.imago_drivers.specs.Laws.{refused_unreadable}
use Rattle.imago_vmdk.specs.declared.line.Extent.{Extent}
use Rattle.imago_vmdk.specs.Reading.{size_of}
use Rattle.imago_vmdk.specs.Vmdk.{flat_place, extent_place, storages_of, storages_in, places_from}
use Rattle.imago_vmdk.specs.Vmdk.{vmdk_offers, vmdk_cause, vmdk_view}

-- a byte of a FLAT extent is stored or refused
flat_is : (bytes : ℕ → List ℕ) (index at : ℕ) (w : Bool)
    → (flat_place bytes index w at ≡ Stored (slice_index (bytes index) at) index at w)
    ⊎ (flat_place bytes index w at ≡ Refused Error.InvalidData)
flat_is bytes index at w = ⊎_elim
    (λ below. let t : nat_lt at (2 ^ 64 - 1) ≡ true = grind (arith, nat_tests) in inl (rw t refl))
    (λ above. let t : nat_lt at (2 ^ 64 - 1) ≡ false = grind (arith, nat_tests) in inr (rw t refl))
    (cases_lt at (2 ^ 64 - 1))

-- two places of one extent that share a storage byte are the same
flat_own : (bytes : ℕ → List ℕ) (index at other b c s o : ℕ) (u v w x : Bool)
    → flat_place bytes index u at ≡ Stored b s o v → flat_place bytes index w other ≡ Stored c s o x
    → at ≡ other
flat_own bytes index at other b c s o u v w x h k = ⊎_elim
    (λ here. ⊎_elim
    (λ there. let y = sym here ∙ h in let z = sym there ∙ k in let p : at ≡ o = cc in
    let q : other ≡ o = cc in p ∙ sym q)
    (λ there. let y = sym there ∙ k in let z : ⊥ = cc in absurd z)
    (flat_is bytes index other w))
    (λ here. let y = sym here ∙ h in let z : ⊥ = cc in absurd z)
    (flat_is bytes index at u)

module _ {N : Type 0} (bytes : ℕ → List ℕ) where
  -- a place in the first extent, and one behind it
  pub first_extent : (index : ℕ) (e : Extent N) (es : List (Extent N)) (p : ℕ) → p < size_of e
      → places_from bytes index (e ∷ es) p ≡ extent_place bytes index e p
  first_extent index e es p h = let t : nat_lt p (size_of e) ≡ true = grind (arith, nat_tests) in
      rw t refl

  pub next_extents : (index : ℕ) (e : Extent N) (es : List (Extent N)) (p : ℕ) → size_of e ≤ p
      → places_from bytes index (e ∷ es) p ≡ places_from bytes (index + storages_of e) es
      (p - size_of e)
  next_extents index e es p h = let t : nat_lt p (size_of e) ≡ false = grind (arith, nat_tests) in
      rw t refl

  -- what stands in an extent: a stored byte at its own offset, a zero, or a refusal
  pub record ExtentHas (index : ℕ) (e : Extent N) (i : ℕ) (x : Place) : Type 0 where
    pub never_end : x ≡ End → ⊥
    pub never_special : (b : Value) (o : ℕ) → x ≡ Special b o → ⊥
    pub never_lower : (o : ℕ) (w : Bool) → x ≡ Lower o w → ⊥
    pub refusal : (r : Error) → x ≡ Refused r → (r ≡ Error.InvalidData) ⊎ (r ≡ Error.NoAccess)
    pub stored : (b s o : ℕ) (w : Bool) → x ≡ Stored b s o w → (s ≡ index) × (storages_of e ≡ 1)
        × (slice_index (bytes s) o ≡ b)

  zero_has : (index : ℕ) (e : Extent N) (i : ℕ) → ExtentHas index e i (Zeroed true)
  zero_has index e i = record {
    never_end = λ h. let z : ⊥ = cc in z;
    never_special = λ b o h. let z : ⊥ = cc in z;
    never_lower = λ o w h. let z : ⊥ = cc in z;
    refusal = λ r h. let z : ⊥ = cc in absurd z;
    stored = λ b s o w h. let z : ⊥ = cc in absurd z;
  }

  refused_has : (index : ℕ) (e : Extent N) (i : ℕ) (d : Error) → (d ≡ Error.InvalidData)
      ⊎ (d ≡ Error.NoAccess) → ExtentHas index e i (Refused d)
  refused_has index e i d k = record {
    never_end = λ h. let z : ⊥ = cc in z;
    never_special = λ b o h. let z : ⊥ = cc in z;
    never_lower = λ o w h. let z : ⊥ = cc in z;
    refusal = λ r h. let q : d ≡ r = cc in rw (← q) k;
    stored = λ b s o w h. let z : ⊥ = cc in absurd z;
  }

  stored_has : (index : ℕ) (e : Extent N) (i at : ℕ) (v : Bool) → storages_of e ≡ 1
      → ExtentHas index e i (Stored (slice_index (bytes index) at) index at v)
  stored_has index e i at v k = record {
    never_end = λ h. let z : ⊥ = cc in z;
    never_special = λ b o h. let z : ⊥ = cc in z;
    never_lower = λ o w h. let z : ⊥ = cc in z;
    refusal = λ r h. let z : ⊥ = cc in absurd z;
    stored = λ b s o w h. let x : index ≡ s = cc in let y : at ≡ o = cc in
        let t : slice_index (bytes index) at ≡ b = cc in let u : slice_index (bytes s) o
        ≡ b = rw (x, y) at t in (sym x, k, u);
  }

  pub extent_has : (index : ℕ) (e : Extent N) (i : ℕ)
      → ExtentHas index e i (extent_place bytes index e i)
  extent_has index (Extent.Zero sectors) i = zero_has index (Extent.Zero sectors) i
  extent_has index (Extent.NoAccess sectors) i = refused_has index (Extent.NoAccess sectors) i
      Error.NoAccess (inr refl)
  extent_has index (Extent.Flat sectors name offset writable vmfs) i = ⊎_elim
      (λ h. rw h (stored_has index (Extent.Flat sectors name offset writable vmfs) i
      (offset * 512 + i) writable refl))
      (λ h. rw h (refused_has index (Extent.Flat sectors name offset writable vmfs) i
      Error.InvalidData (inl refl)))
      (flat_is bytes index (offset * 512 + i) writable)

  extent_own : (index : ℕ) (e : Extent N) (p q b c s o : ℕ) (v w : Bool)
      → extent_place bytes index e p ≡ Stored b s o v → extent_place bytes index e q
      ≡ Stored c s o w → p ≡ q
  extent_own index (Extent.Zero sectors) p q b c s o v w h k = let z : ⊥ = cc in absurd z
  extent_own index (Extent.NoAccess sectors) p q b c s o v w h k = let z : ⊥ = cc in absurd z
  extent_own index (Extent.Flat sectors name offset writable vmfs) p q b c s o v w h k = omega (
    arith,
    flat_own bytes index (offset * 512 + p) (offset * 512 + q) b c s o writable v writable
        w h k,
  )

  -- behind the extents there are ends, and nowhere else
  pub past_is_end : (index : ℕ) (es : List (Extent N)) (p : ℕ) → sum_by size_of es ≤ p
      → places_from bytes index es p ≡ End
  past_is_end index [] p h = refl
  past_is_end index (e ∷ es) p h =
      let s = sum_by-cons size_of e es in
      next_extents index e es p (omega (arith, s, h)) ∙ past_is_end (index + storages_of e) es
      (p - size_of e) (omega (arith, s, h))

  pub end_is_past : (index : ℕ) (es : List (Extent N)) (p : ℕ) → places_from bytes index es p ≡ End
      → sum_by size_of es ≤ p
  end_is_past index [] p h = omega arith
  end_is_past index (e ∷ es) p h = ⊎_elim
      (λ below. absurd
      ((extent_has index e p).never_end (sym (first_extent index e es p below) ∙ h)))
      (λ above. omega (
        arith,
        sum_by-cons size_of e es,
        above,
        end_is_past (index + storages_of e) es (p - size_of e)
            (sym (next_extents index e es p above) ∙ h),
      ))
      (cases_lt p (size_of e))

  -- a stored place stands in one of the storages of the extents
  pub stored_in : (index : ℕ) (es : List (Extent N)) (p b s o : ℕ) (w : Bool)
      → places_from bytes index es p ≡ Stored b s o w → (index ≤ s) × (s < index + storages_in es)
      × (slice_index (bytes s) o ≡ b)
  stored_in index [] p b s o w h = let z : ⊥ = cc in absurd z
  stored_in index (e ∷ es) p b s o w h = ⊎_elim
      (λ below. let x = (extent_has index e p).stored b s o w (sym (first_extent index e es p below)
      ∙ h) in (omega (arith, x.0), omega (arith, x.0, x.1), x.2))
      (λ above. let x = stored_in (index + storages_of e) es (p - size_of e) b s o w
      (sym (next_extents index e es p above) ∙ h) in
      (omega (arith, x.0), omega (arith, x.1), x.2))
      (cases_lt p (size_of e))

  pub own_place : (index : ℕ) (es : List (Extent N)) (p q b c s o : ℕ) (v w : Bool)
      → places_from bytes index es p ≡ Stored b s o v → places_from bytes index es q
      ≡ Stored c s o w → p ≡ q
  own_place index [] p q b c s o v w h k = let z : ⊥ = cc in absurd z
  own_place index (e ∷ es) p q b c s o v w h k = ⊎_elim
      (λ below. let here = sym (first_extent index e es p below) ∙ h in
      let x = (extent_has index e p).stored b s o v here in ⊎_elim
      (λ under. extent_own index e p q b c s o v w here (sym (first_extent index e es q under) ∙ k))
      (λ over. let y = stored_in (index + storages_of e) es (q - size_of e) c s o w
      (sym (next_extents index e es q over) ∙ k) in absurd (omega (arith, x.0, x.1, y.0)))
      (cases_lt q (size_of e)))
      (λ above. let there = sym (next_extents index e es p above) ∙ h in
      let y = stored_in (index + storages_of e) es (p - size_of e) b s o v there in ⊎_elim
      (λ under. let x = (extent_has index e q).stored c s o w (sym (first_extent index e es q under)
      ∙ k) in absurd (omega (arith, x.0, x.1, y.0)))
      (λ over. let r = own_place (index + storages_of e) es (p - size_of e) (q - size_of e) b c s o
      v w there (sym (next_extents index e es q over) ∙ k) in omega (arith, r, above, over))
      (cases_lt q (size_of e)))
      (cases_lt p (size_of e))

  -- no place is special or leads below, and a refusal is one of two
  pub never_special : (index : ℕ) (es : List (Extent N)) (p : ℕ) (b : Value) (o : ℕ)
      → places_from bytes index es p ≡ Special b o → ⊥
  never_special index [] p b o h = let z : ⊥ = cc in z
  never_special index (e ∷ es) p b o h = ⊎_elim
      (λ below. (extent_has index e p).never_special b o (sym (first_extent index e es p below)
      ∙ h))
      (λ above. never_special (index + storages_of e) es (p - size_of e) b o
      (sym (next_extents index e es p above) ∙ h))
      (cases_lt p (size_of e))

  pub never_lower : (index : ℕ) (es : List (Extent N)) (p o : ℕ) (w : Bool)
      → places_from bytes index es p ≡ Lower o w → ⊥
  never_lower index [] p o w h = let z : ⊥ = cc in z
  never_lower index (e ∷ es) p o w h = ⊎_elim
      (λ below. (extent_has index e p).never_lower o w (sym (first_extent index e es p below) ∙ h))
      (λ above. never_lower (index + storages_of e) es (p - size_of e) o w
      (sym (next_extents index e es p above) ∙ h))
      (cases_lt p (size_of e))

  pub refusal_is : (index : ℕ) (es : List (Extent N)) (p : ℕ) (r : Error)
      → places_from bytes index es p ≡ Refused r → (r ≡ Error.InvalidData) ⊎ (r ≡ Error.NoAccess)
  refusal_is index [] p r h = let z : ⊥ = cc in absurd z
  refusal_is index (e ∷ es) p r h = ⊎_elim
      (λ below. (extent_has index e p).refusal r (sym (first_extent index e es p below) ∙ h))
      (λ above. refusal_is (index + storages_of e) es (p - size_of e) r
      (sym (next_extents index e es p above) ∙ h))
      (cases_lt p (size_of e))

module _ {N : Type 0} (features : List Features) (bytes : List (List ℕ)) where
  pub vmdk_lawful : (opened : Bool) (es : List (Extent N))
      → IsLawful (vmdk_view features bytes opened es)
  vmdk_lawful false es = record {
    ends = λ p q h e. refl;
    bounded = λ p h. refl;
    stored = λ p b s o w e. let z : ⊥ = cc in absurd z;
    special = λ p b o e. let z : ⊥ = cc in absurd z;
    faulty = λ p o r e. let z : ⊥ = cc in absurd z;
    lower = λ p q w e. let z : ⊥ = cc in absurd z;
    own = λ p q b c s o w e g. let z : ⊥ = cc in absurd z;
    refused = λ p r e. let z : ⊥ = cc in absurd z;
    told = λ kept. kept;
    granularity = λ e. let z : ⊥ = cc in z;
    blocks = λ e. let z : ⊥ = cc in z;
  }
  vmdk_lawful true es =
      let at : ℕ → List ℕ = λ i. slice_index_or bytes i [] in
      record {
        ends = λ p q h e. past_is_end at 1 es q (omega (arith, h, end_is_past at 1 es p e));
        bounded = λ p h. past_is_end at 1 es p h;
        stored = λ p b s o w e. let x = stored_in at 1 es p b s o w e in (x.1, x.2);
        special = λ p b o e. absurd (never_special at 1 es p b o e);
        faulty = λ p o r e. absurd (never_special at 1 es p (Unreadable r) o e);
        lower = λ p q w e. absurd (never_lower at 1 es p q w e);
        own = λ p q b c s o w e g. own_place at 1 es p q b c s o true w e g;
        refused = λ p r e. refusal_is at 1 es p r e;
        told = λ kept. kept;
        granularity = λ e. let z : ⊥ = cc in z;
        blocks = λ e. let z : ⊥ = cc in z;
      }

-- the causes are a wrap-around, a refused place, and what isn't offered
pub cause_only : (place : ℕ → Place) (features : ℕ → Features) (op : Operation) (o n : ℕ)
    (e : Error) (P : Error → Type 0) → vmdk_cause place features op o n e
    → (vmdk_cause place features op o n Error.WrapAround → P Error.WrapAround)
    → (vmdk_cause place features op o n Error.InvalidData → P Error.InvalidData)
    → (vmdk_cause place features op o n Error.NoAccess → P Error.NoAccess)
    → (vmdk_cause place features op o n Error.Unsupported → P Error.Unsupported) → P e
cause_only place features op o n E.WrapAround P c w i a u = w c
cause_only place features op o n E.InvalidData P c w i a u = i c
cause_only place features op o n E.NoAccess P c w i a u = a c
cause_only place features op o n E.Unsupported P c w i a u = u c
cause_only place features op o n E.ReadOnly P c w i a u = absurd c
cause_only place features op o n E.BeyondDisk P c w i a u = absurd c
cause_only place features op o n E.RangeOverflow P c w i a u = absurd c
cause_only place features op o n E.Device P c w i a u = absurd c
cause_only place features op o n E.Memory P c w i a u = absurd c
cause_only place features op o n E.ForeignMapping P c w i a u = absurd c
cause_only place features op o n E.Denied P c w i a u = absurd c
cause_only place features op o n E.NotFound P c w i a u = absurd c

refused_in_more : (place : ℕ → Place) (o n q m : ℕ) (e : Error) → o ≤ q → q + m ≤ o + n
    → IsRefusedIn place q m e → IsRefusedIn place o n e
refused_in_more place o n q m e h k r = let i = r.1 in
    (r.0, (omega (arith, h, i), omega (arith, k, i)), r.2)

module _ {N : Type 0} (features : List Features) (bytes : List (List ℕ)) (opened : Bool)
    (es : List (Extent N)) where
  lacking : (op : Operation) (o n : ℕ) → vmdk_offers op ≡ false
      → CauseBound (vmdk_view features bytes opened es) op o n Error.Unsupported
  lacking (Grow mode) o n c = (c, tt)
  lacking Shrink o n c = (c, tt)
  lacking Zero o n c = (c, tt)
  lacking DiscardToZero o n c = (c, tt)
  lacking DiscardToAny o n c = (c, tt)
  lacking DiscardToBacking o n c = (c, tt)
  lacking Map o n c = let z : ⊥ = cc in absurd z
  lacking Read o n c = let z : ⊥ = cc in absurd z
  lacking Write o n c = let z : ⊥ = cc in absurd z
  lacking Flush o n c = let z : ⊥ = cc in absurd z

  pub vmdk_causes : AreCauses (vmdk_view features bytes opened es)
  vmdk_causes =
      let view = vmdk_view features bytes opened es in
      record {
        part = λ op o n q m e h k c. cause_only view.place view.stores.features op q m e
            (λ r. view.limits.cause op o n r) c
            (λ w. (
              w.0,
              let p = w.1 in
                  record {
                    from = p.from;
                    count = p.count;
                    above = omega (arith, p.above);
                    below = omega (arith, p.above, p.below);
                    wraps = p.wraps;
                  },
            ))
            (λ i. (i.0, refused_in_more view.place o n q m Error.InvalidData h k i.1))
            (λ a. (a.0, refused_in_more view.place o n q m Error.NoAccess h k a.1))
            (λ u. u);
        part_copied = λ op o n q m p h k c. c;
        bound = λ op o n e c. cause_only view.place view.stores.features op o n e
            (λ r. CauseBound view op o n r) c (λ w. tt)
            (λ i. refused_unreadable view.place o n Error.InvalidData i.1)
            (λ a. refused_unreadable view.place o n Error.NoAccess a.1)
            (λ u. lacking op o n u);
        lends = λ op o n p c. absurd c;
      }
