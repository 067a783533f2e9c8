-- SPDX-License-Identifier: MIT
use Rattle.std.proofs.Common.{◌≡◌, ℕ, ◌+◌, ◌<◌, ◌≤◌, ◌⊎◌, ◌&&◌, inl, inr, ⊎_elim, Bool, true, false, None, refl, sym, ap, ◌∙◌, subst, arith, nat_eq, rules, zero, suc, min, max}
use Rattle.std.proofs.lemmas.Bool.{cases_lt}
use Rattle.imago_storage.specs.declared.error.Error.{Error}
use Rattle.imago_storage.specs.declared.error.Error.TheVariants as E
use Rattle.imago_drivers.specs.Operation.{Map}
use Rattle.imago_drivers.specs.Place.{Value, Unreadable, Place, Stored, Zeroed, Special, Lower, Refused, End}
use Rattle.imago_drivers.specs.View.{View}
use Rattle.imago_drivers.specs.Reasons.{allowed}
use Rattle.imago_drivers.specs.Laws.{AreCauses}
use Rattle.imago_drivers.specs.Done.{map_reasons}
use Rattle.imago_drivers.specs.Mapping.{IsEof}
use Rattle.imago_drivers.specs.declared.mapping.ShallowMapping.{ShallowMapping}
use Rattle.imago_drivers.specs.declared.mapping.ShallowMapping.TheVariants as S
use Rattle.imago_access.specs.declared.access.FormatAccess.{FormatAccess}
use Rattle.imago_access.specs.declared.chain.Way.{Way}
use Rattle.imago_access.specs.declared.mapping.Mapping.{Mapping}
use Rattle.imago_access.specs.Chain.{driver, backing, disk_value, chain_cause, chain_no_memory}
use Rattle.imago_access.specs.ChainLaws.{chain_part}
use Rattle.imago_access.specs.Target.{Target, target, followed, deeper, target_here, told_depth}
use Rattle.imago_access.specs.Resolved.{LeadsTo, IsResolved, IsEndOfImage, chain_map_reasons}
use Rattle.imago_access.specs.Ways.{IsPart, LeadsDown, HasLanded, resolved_mapping, resolved_length}
use Rattle.imago_access.proofs.Chains.{value_at, reliable_here, target_nothing, target_at, cause_here}
use Rattle.imago_access.proofs.Descent.{deeper_here}
use Rattle.imago_access.proofs.Weaker.{IsWeaker}

pub not_zero : (d : ℕ) → 0 < d → nat_eq d 0 ≡ false
not_zero zero h = absurd (omega arith)
not_zero (suc d) h = search rules

pub is_zero : (d : ℕ) → d ≡ 0 → nat_eq d 0 ≡ true
is_zero d h = rw h refl

and_true : (g : Bool) → (g && true) ≡ g
and_true true = refl
and_true false = refl

and_false : (g : Bool) → (g && false) ≡ false
and_false true = refl
and_false false = refl

module _ {D St : Type 0} (view : D → View St) (x : FormatAccess D) (o most : ℕ) (layer : FormatAccess D) (hops at left : ℕ) (w : Bool) (down : LeadsDown view x o most layer hops at left w) where
  landed_at : (i : ℕ) (pl : Place) → i < left → (view (driver layer)).place (at + i) ≡ pl → ((b : ℕ → Target) → followed b pl ≡ target_here pl) → target view x (o + i) ≡ record { depth = hops; writable = w; place = pl }
  landed_at i pl lt h k = down.targets i lt ∙ ap (deeper hops w) (target_at view layer (at + i) pl h k) ∙ deeper_here hops w pl

  pub raw_leads : (i s f d : ℕ) (v : Bool) → d ≡ told_depth hops → i < left → ((b : ℕ) × ((view (driver layer)).place (at + i) ≡ Stored b s (f + i) v)) → LeadsTo (Mapping.Raw d s f (w && v)) i (target view x (o + i))
  raw_leads i s f d v k lt (b, h) = let t = landed_at i (Stored b s (f + i) v) lt h (λ z. refl) in rw t (k, (b, v, refl, refl))

  pub special_leads : (i f d : ℕ) → d ≡ told_depth hops → i < left → ((b : Value) × ((view (driver layer)).place (at + i) ≡ Special b (f + i))) → LeadsTo (Mapping.Special d f) i (target view x (o + i))
  special_leads i f d k lt (b, h) = let t = landed_at i (Special b (f + i)) lt h (λ z. refl) in rw t (k, (b, refl))

  pub zero_leads : (i d : ℕ) (e : Bool) → d ≡ told_depth hops → i < left → (view (driver layer)).place (at + i) ≡ Zeroed e → LeadsTo (Mapping.Zero (e && nat_eq d 0)) i (target view x (o + i))
  zero_leads i d e k lt h =
      let t = landed_at i (Zeroed e) lt h (λ z. refl) in
      ⊎_elim
      (λ (below : 0 < d).
      let n : 0 < hops = omega arith in
      let z : (e && nat_eq d 0) ≡ false = ap (λ b. e && b) (not_zero d below) ∙ and_false e in
      rw (t, z) (inr (inl (e, refl, n, refl))))
      (λ (top : d ≤ 0).
      let n : hops ≡ 0 = omega arith in
      let z : (e && nat_eq d 0) ≡ e = ap (λ b. e && b) (is_zero d (omega arith)) ∙ and_true e in
      rw (t, z) (inl (refl, n)))
      (cases_lt 0 d)

  -- past the end of a layer below
  pub past_leads : (i : ℕ) → 0 < hops → i < left → (view (driver layer)).place (at + i) ≡ End → LeadsTo (Mapping.Zero false) i (target view x (o + i))
  past_leads i n lt h = let t = landed_at i End lt h (λ z. refl) in rw t (inr (inr (refl, n, refl)))

  -- a reference to a layer that is missing
  pub nothing_leads : (i q : ℕ) (v : Bool) → backing layer ≡ None → i < left → (view (driver layer)).place (at + i) ≡ Lower (q + i) v → LeadsTo (Mapping.Zero false) i (target view x (o + i))
  nothing_leads i q v b lt h =
      let t = down.targets i lt ∙ ap (deeper hops w) (target_nothing view layer (at + i) (q + i) v b h) in
      let n : 0 < hops + (1 + 0) = omega arith in
      rw t (inr (inr (refl, n, refl)))

  module _ (m : ShallowMapping) (n : ℕ) (part : IsPart (view (driver layer)).place at left m n) where
    -- the end of the image is answered at the top alone
    pub top_end : (view (driver x)).place o ≡ End → (hops ≡ 0) × IsEof m
    top_end h = ⊎_elim
        (λ (below : 0 < hops). absurd ((down.below below).0 h))
        (λ (top : hops ≤ 0).
        let z : hops ≡ 0 = omega arith in
        let t = down.top z in
        let k : (view (driver layer)).place o ≡ End = subst (λ (y : FormatAccess D). (view (driver y)).place o ≡ End) (sym t.0) h in
        (z, part.eof.1 (subst (λ (a : ℕ). (view (driver layer)).place a ≡ End) (sym t.1) k)))
        (cases_lt 0 hops)

    pub end_top : hops ≡ 0 → IsEof m → (view (driver x)).place o ≡ End
    end_top z h =
        let t = down.top z in
        let k = subst (λ (a : ℕ). (view (driver layer)).place a ≡ End) t.1 (part.eof.0 h) in
        subst (λ (y : FormatAccess D). (view (driver y)).place o ≡ End) t.0 k

    pub top_readable : (e : Error) → (view (driver x)).place o ≡ Refused e → ⊥
    top_readable e h = ⊎_elim
        (λ (below : 0 < hops). (down.below below).1 e h)
        (λ (top : hops ≤ 0).
        let t = down.top (omega arith) in
        let k = subst (λ (y : FormatAccess D). (view (driver y)).place o ≡ Refused e) (sym t.0) h in
        part.no_refusal e (subst (λ (a : ℕ). (view (driver layer)).place a ≡ Refused e) (sym t.1) k))
        (cases_lt 0 hops)

  -- the range of a way that has some bytes to go is never empty
  pub left_some : 0 < most → 0 < left
  left_some h = ⊎_elim (λ (some : 0 < left). some) (λ (none : left ≤ 0). let e = down.empty (omega arith) in absurd (omega arith)) (cases_lt 0 left)

  -- a refused mapping of the layer, as one of the image
  pub descent_refused : ((d : D) → AreCauses (view d)) → 0 < most → (e : Error) → allowed (map_reasons (view (driver layer)) at left) e → allowed (chain_map_reasons view x o most) e
  descent_refused laws some = refused
    where
      lifted : (e : Error) → (view (driver layer)).limits.cause Map at (max left 1) e → chain_cause view x Map o (max most 1) e
      lifted e c =
          let a : at ≡ at + 0 = omega arith in
          let b : o + 0 ≡ o = omega arith in
          let n : max left 1 ≡ left = omega (arith, left_some some) in
          let mapped = subst (λ (k : ℕ). (view (driver layer)).limits.cause Map at k e) n c in
          let here = subst (λ (p : ℕ). chain_cause view layer Map p left e) a (cause_here view layer Map at left e mapped) in
          let up = subst (λ (p : ℕ). chain_cause view x Map p left e) b (down.causes Map 0 left e (left_some some) (omega arith) here) in
          chain_part view laws x Map o (max most 1) o left e (omega arith) (omega (arith, down.within)) up

      refused : (e : Error) → allowed (map_reasons (view (driver layer)) at left) e → allowed (chain_map_reasons view x o most) e
      refused E.ReadOnly h = h
      refused E.BeyondDisk h = h
      refused E.RangeOverflow h = h
      refused E.WrapAround h = lifted Error.WrapAround h
      refused E.InvalidData h = lifted Error.InvalidData h
      refused E.Unsupported h = lifted Error.Unsupported h
      refused E.NoAccess h = lifted Error.NoAccess h
      refused E.Device h = down.reliable (reliable_here view layer h)
      refused E.Memory h = h
      refused E.ForeignMapping h = h
      refused E.Denied h = h
      refused E.NotFound h = h

  -- an offset that may not be read at the layer may not be read in the image
  pub descent_unreadable : (e : Error) → 0 < left → (view (driver layer)).place at ≡ Refused e → disk_value view x o ≡ Unreadable e
  descent_unreadable e lt h =
      let a : at + 0 ≡ at = omega arith in
      let b : o + 0 ≡ o = omega arith in
      let s : disk_value view x o ≡ disk_value view layer at = rw (a, b) at (down.shows 0 lt) in
      s ∙ value_at view layer at (Refused e) h

module _ {D St : Type 0} (view : D → View St) (x : FormatAccess D) (o most : ℕ) (layer : FormatAccess D) where
  end_leads : (way : Way) → HasLanded view x o most layer way S.Eof → (i : ℕ) → i < resolved_length way S.Eof → LeadsTo (resolved_mapping way S.Eof) i (target view x (o + i))
  end_leads way h i = ⊎_elim
      (λ (below : 0 < way.depth). let z = not_zero way.depth below in rw z (λ (lt : i < way.length). past_leads view x o most layer h.hops way.offset way.length way.writable h.leads i (omega (arith, h.depth)) lt (h.part.names i lt)))
      (λ (top : way.depth ≤ 0). let z = is_zero way.depth (omega arith) in rw z (λ (lt : i < 0). absurd (omega arith)))
      (cases_lt 0 way.depth)

  landed_leads : (way : Way) (m : ShallowMapping) → HasLanded view x o most layer way m → (i : ℕ) → i < resolved_length way m → LeadsTo (resolved_mapping way m) i (target view x (o + i))
  landed_leads way (S.Raw s f v) h i lt = raw_leads view x o most layer h.hops way.offset way.length way.writable h.leads i s f way.depth v h.depth lt (h.part.names i lt)
  landed_leads way (S.Indirect q v) h i lt = nothing_leads view x o most layer h.hops way.offset way.length way.writable h.leads i q v h.bottom lt (h.part.names i lt)
  landed_leads way (S.Zero e) h i lt = zero_leads view x o most layer h.hops way.offset way.length way.writable h.leads i way.depth e h.depth lt (h.part.names i lt)
  landed_leads way (S.Special f) h i lt = special_leads view x o most layer h.hops way.offset way.length way.writable h.leads i f way.depth h.depth lt (h.part.names i lt)
  landed_leads way S.Eof h i lt = end_leads way h i lt

  landed_eof : (way : Way) (m : ShallowMapping) (h : HasLanded view x o most layer way m) → h.hops ≡ 0 → IsEof m → IsEndOfImage (resolved_mapping way m)
  landed_eof way S.Eof h z e = let k = is_zero way.depth (omega (arith, h.depth)) in rw k tt
  landed_eof way (S.Raw s f v) h z e = e
  landed_eof way (S.Indirect q v) h z e = e
  landed_eof way (S.Zero b) h z e = e
  landed_eof way (S.Special f) h z e = e

  end_landed : (way : Way) (h : HasLanded view x o most layer way S.Eof) → IsEndOfImage (resolved_mapping way S.Eof) → (h.hops ≡ 0) × IsEof S.Eof × (resolved_length way S.Eof ≡ 0)
  end_landed way h = ⊎_elim
      (λ (below : 0 < way.depth). let z = not_zero way.depth below in rw z (λ (b : ⊥). absurd b))
      (λ (top : way.depth ≤ 0). let z = is_zero way.depth (omega arith) in let n : h.hops ≡ 0 = omega (arith, h.depth) in rw z (λ (u : Unit {0}). (n, tt, refl)))
      (cases_lt 0 way.depth)

  eof_landed : (way : Way) (m : ShallowMapping) (h : HasLanded view x o most layer way m) → IsEndOfImage (resolved_mapping way m) → (h.hops ≡ 0) × IsEof m × (resolved_length way m ≡ 0)
  eof_landed way S.Eof h e = end_landed way h e
  eof_landed way (S.Raw s f v) h e = absurd e
  eof_landed way (S.Indirect q v) h e = absurd e
  eof_landed way (S.Zero b) h e = absurd e
  eof_landed way (S.Special f) h e = absurd e

  end_empty : (way : Way) (h : HasLanded view x o most layer way S.Eof) → resolved_length way S.Eof ≡ 0 → IsEndOfImage (resolved_mapping way S.Eof) ⊎ (most ≡ 0)
  end_empty way h = ⊎_elim
      (λ (below : 0 < way.depth). let z = not_zero way.depth below in rw z (λ (e : way.length ≡ 0). inr (h.leads.empty e)))
      (λ (top : way.depth ≤ 0). let z = is_zero way.depth (omega arith) in rw z (λ e. inl tt))
      (cases_lt 0 way.depth)

  landed_empty : (way : Way) (m : ShallowMapping) (h : HasLanded view x o most layer way m) → resolved_length way m ≡ 0 → IsEndOfImage (resolved_mapping way m) ⊎ (most ≡ 0)
  landed_empty way S.Eof h e = end_empty way h e
  landed_empty way (S.Raw s f v) h e = inr (h.leads.empty e)
  landed_empty way (S.Indirect q v) h e = inr (h.leads.empty e)
  landed_empty way (S.Zero b) h e = inr (h.leads.empty e)
  landed_empty way (S.Special f) h e = inr (h.leads.empty e)

  landed_within : (way : Way) (m : ShallowMapping) (h : HasLanded view x o most layer way m) → resolved_length way m ≤ most
  landed_within way S.Eof h = ⊎_elim
      (λ (below : 0 < way.depth). let z = not_zero way.depth below in rw z h.leads.within)
      (λ (top : way.depth ≤ 0). let z = is_zero way.depth (omega arith) in let k : 0 ≤ most = omega arith in rw z k)
      (cases_lt 0 way.depth)
  landed_within way (S.Raw s f v) h = h.leads.within
  landed_within way (S.Indirect q v) h = h.leads.within
  landed_within way (S.Zero b) h = h.leads.within
  landed_within way (S.Special f) h = h.leads.within

  -- a way that has kept its length maps all of it, or is at the end
  pub landed_whole : (way : Way) (m : ShallowMapping) → way.length ≡ most → (resolved_length way m ≡ most) ⊎ IsEndOfImage (resolved_mapping way m)
  landed_whole way S.Eof e = ⊎_elim
      (λ (below : 0 < way.depth). let z = not_zero way.depth below in rw z (inl e))
      (λ (top : way.depth ≤ 0). let z = is_zero way.depth (omega arith) in rw z (inr tt))
      (cases_lt 0 way.depth)
  landed_whole way (S.Raw s f v) e = inl e
  landed_whole way (S.Indirect q v) e = inl e
  landed_whole way (S.Zero b) e = inl e
  landed_whole way (S.Special f) e = inl e

  -- the first offset leads to what the mapping names, if there is any
  landed_here : (way : Way) (m : ShallowMapping) → HasLanded view x o most layer way m → 0 < most → IsEndOfImage (resolved_mapping way m) ⊎ LeadsTo (resolved_mapping way m) 0 (target view x o)
  landed_here way m h some = ⊎_elim
      (λ (first : 0 < resolved_length way m). let at : o + 0 ≡ o = omega arith in inr (subst (λ (p : ℕ). LeadsTo (resolved_mapping way m) 0 (target view x p)) at (landed_leads way m h 0 first)))
      (λ (none : resolved_length way m ≤ 0). ⊎_elim inl (λ (e : most ≡ 0). absurd (omega arith)) (landed_empty way m h (omega arith)))
      (cases_lt 0 (resolved_length way m))

  -- where a range has landed, what the way comes to is the right mapping of the image
  landed_right : (way : Way) (m : ShallowMapping) → HasLanded view x o most layer way m → 0 < most → IsResolved view x o most (resolved_mapping way m) (resolved_length way m)
  landed_right way m h some = record {
    leads = landed_leads way m h;
    here = landed_here way m h some;
    eof = (
      (λ e. let r = eof_landed way m h e in end_top view x o most layer h.hops way.offset way.length way.writable h.leads m way.length h.part r.0 r.1),
      (λ e. let r = top_end view x o most layer h.hops way.offset way.length way.writable h.leads m way.length h.part e in landed_eof way m h r.0 r.1),
    );
    eof_empty = λ e. (eof_landed way m h e).2;
    empty = landed_empty way m h;
    within = landed_within way m h;
    no_refusal = top_readable view x o most layer h.hops way.offset way.length way.writable h.leads m way.length h.part;
  }

-- the mapping of at least one byte, cut to what was asked for, is right too
cut_resolved : {D St : Type 0} (view : D → View St) (x : FormatAccess D) (o most : ℕ) (m : Mapping) (n : ℕ) → IsResolved view x o (max most 1) m n → IsResolved view x o most m (min n most)
cut_resolved view x o most m n r = record {
  leads = λ i lt. r.leads i (omega arith);
  here = r.here;
  eof = r.eof;
  eof_empty = λ e. let z = r.eof_empty e in omega arith;
  empty = λ e. ⊎_elim
      (λ (some : 0 < most). ⊎_elim inl (λ (z : max most 1 ≡ 0). absurd (omega arith)) (r.empty (omega arith)))
      (λ (none : most ≤ 0). inr (omega arith))
      (cases_lt 0 most);
  within = omega arith;
  no_refusal = r.no_refusal;
}

pub landed_mapping : {D St : Type 0} (view : D → View St) (x : FormatAccess D) (o most : ℕ) (layer : FormatAccess D) (way : Way) (m : ShallowMapping) → HasLanded view x o (max most 1) layer way m
    → IsResolved view x o most (resolved_mapping way m) (min (resolved_length way m) most)
landed_mapping view x o most layer way m h =
    let some : 0 < max most 1 = omega arith in
    cut_resolved view x o most _ _ (landed_right view x o (max most 1) layer way m h some)

-- where no driver takes memory, all that was asked for is mapped at once, or it is the end
pub whole_mapping : {D St : Type 0} (view : D → View St) (x : FormatAccess D) (o most : ℕ) (layer : FormatAccess D) (way : Way) (m : ShallowMapping) → HasLanded view x o (max most 1) layer way m
    → chain_no_memory view x o most → (min (resolved_length way m) most ≡ most) ⊎ IsEndOfImage (resolved_mapping way m)
whole_mapping view x o most layer way m h free = ⊎_elim
    (λ (some : 0 < most).
    let n : max most 1 ≡ most = omega arith in
    let w = (h.leads.whole (subst (λ (c : ℕ). chain_no_memory view x o c) (sym n) free)).0 in
    let k : way.length ≡ max most 1 = w in
    ⊎_elim (λ (e : resolved_length way m ≡ max most 1). inl (omega arith)) inr (landed_whole view x o (max most 1) layer way m k))
    (λ (none : most ≤ 0). inl (omega arith))
    (cases_lt 0 most)

-- a refusal of the mapping of at least one byte is one of the mapping
pub asked_refused : {D St : Type 0} (view : D → View St) (x : FormatAccess D) (o most : ℕ) → IsWeaker (chain_map_reasons view x o (max most 1)) (chain_map_reasons view x o most)
asked_refused view x o most = record {
  read_only = λ h. h;
  beyond_disk = λ h. h;
  range_overflow = λ h. h;
  cause = λ e c. let n : max (max most 1) 1 ≡ max most 1 = omega arith in subst (λ (k : ℕ). chain_cause view x Map o k e) n c;
  device = λ h. h;
  memory = λ h. h;
  foreign_mapping = λ h. h;
}
