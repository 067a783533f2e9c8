-- SPDX-License-Identifier: MIT
use Rattle.std.proofs.Common.{◌≡◌, ℕ, ◌+◌, ◌<◌, ◌≤◌, ◌⊎◌, ◌&&◌, inl, inr, ⊎_elim, Bool, true, false, Some, refl, sym, ap, ◌∙◌, subst, arith}
use Rattle.std.proofs.lemmas.Bool.{cases_lt}
use Rattle.imago_storage.specs.declared.error.Error.{Error}
use Rattle.imago_drivers.specs.Place.{Place, Lower, Refused, End}
use Rattle.imago_drivers.specs.View.{View}
use Rattle.imago_drivers.specs.Mapping.{Names, IsEof, IsRight}
use Rattle.imago_drivers.specs.declared.mapping.ShallowMapping.{ShallowMapping}
use Rattle.imago_drivers.specs.declared.mapping.ShallowMapping.TheVariants as S
use Rattle.imago_access.specs.declared.access.FormatAccess.{FormatAccess}
use Rattle.imago_access.specs.Chain.{driver, backing, chain_no_memory}
use Rattle.imago_access.specs.Specials.{special_at}
use Rattle.imago_access.specs.Target.{Target, target, deeper, target_here}
use Rattle.imago_access.specs.Ways.{NamesOrEnds, IsPart, part_length, LeadsDown}
use Rattle.imago_access.proofs.Chains.{value_lower, special_lower, reliable_lower, told_lower, target_lower, cause_lower, memory_lower, no_memory_lower}

and_true : (g : Bool) → (g && true) ≡ g
and_true true = refl
and_true false = refl

and_assoc : (a b c : Bool) → (a && (b && c)) ≡ ((a && b) && c)
and_assoc true b c = refl
and_assoc false b c = refl

deeper_none : (t : Target) → deeper 0 true t ≡ t
deeper_none t = let e : 0 + t.depth ≡ t.depth = omega arith in rw e refl

pub deeper_here : (d : ℕ) (g : Bool) (p : Place) → deeper d g (target_here p) ≡ record { depth = d; writable = g; place = p }
deeper_here d g p = let e : d + 0 ≡ d = omega arith in rw (e, and_true) refl

deeper_deeper : (d : ℕ) (g w : Bool) (t : Target) → deeper d g (deeper 1 w t) ≡ deeper (d + 1) (g && w) t
deeper_deeper d g w t =
    let e : d + (1 + t.depth) ≡ d + 1 + t.depth = omega arith in
    rw (e, and_assoc) refl

module _ {D St : Type 0} (view : D → View St) (x : FormatAccess D) (o most : ℕ) where
  -- before any step
  pub at_the_top : LeadsDown view x o most x 0 o most true
  at_the_top = record {
    targets = λ i h. sym (deeper_none (target view x (o + i)));
    shows = λ i h. refl;
    specials = λ k p. ap (λ (d : ℕ). special_at view x d p) (omega arith);
    causes = λ op i m e p h c. c;
    memory = λ i m p h c. c;
    reliable = λ h. h;
    told = λ h. h;
    within = omega arith;
    empty = λ h. h;
    whole = λ h. (refl, h);
    top = λ h. (refl, refl);
    below = λ h. absurd (omega arith);
  }

  module _ (layer : FormatAccess D) (hops at left : ℕ) (w : Bool) (down : LeadsDown view x o most layer hops at left w) (m : ShallowMapping) (n : ℕ) (part : IsPart (view (driver layer)).place at left m n) where
    -- the way for the first bytes that are mapped
    pub cut_short : (chain_no_memory view layer at left → n ≡ left) → LeadsDown view x o most layer hops at n w
    cut_short all = record {
      targets = λ i h. down.targets i (omega (arith, part.within));
      shows = λ i h. down.shows i (omega (arith, part.within));
      specials = down.specials;
      causes = λ op i k e p h c. down.causes op i k e p (omega (arith, part.within)) c;
      memory = λ i k p h c. down.memory i k p (omega (arith, part.within)) c;
      reliable = down.reliable;
      told = down.told;
      within = omega (arith, part.within, down.within);
      empty = λ h. down.empty (part.empty h);
      whole = λ h. let k = down.whole h in let s : n ≡ left = all k.1 in (s ∙ k.0, subst (λ (c : ℕ). chain_no_memory view layer at c) (sym s) k.1);
      top = down.top;
      below = down.below;
    }

    -- one layer further down
    pub step_down : (y : FormatAccess D) (q : ℕ) (v : Bool) → backing layer ≡ Some y → m ≡ S.Indirect q v → (chain_no_memory view layer at left → n ≡ left)
        → LeadsDown view x o most y (hops + 1) q n (w && v)
    step_down y q v b s all = record {
      targets = λ i h. down.targets i (omega (arith, part.within)) ∙ ap (deeper hops w) (target_lower view layer y (at + i) (q + i) v b (named i h)) ∙ deeper_deeper hops w v (target view y (q + i));
      shows = λ i h. down.shows i (omega (arith, part.within)) ∙ value_lower view layer y (at + i) (q + i) v b (named i h);
      specials = λ k p. ap (λ (d : ℕ). special_at view x d p) (omega arith) ∙ down.specials (1 + k) p ∙ special_lower view layer y k p b;
      causes = λ op i k e p h c. down.causes op i k e p (omega (arith, part.within)) (cause_lower view layer y op (at + i) k (q + i) k e b p (λ j lt.
          let a : at + (i + j) ≡ at + i + j = omega arith in
          let d : q + (i + j) ≡ q + i + j = omega arith in
          (j, lt, v, rw (a, d) at (named (i + j) (omega arith)))) c);
      memory = λ i k p h c. down.memory i k p (omega (arith, part.within)) (memory_lower view layer y (at + i) k (q + i) k b p (λ j lt.
          let a : at + (i + j) ≡ at + i + j = omega arith in
          let d : q + (i + j) ≡ q + i + j = omega arith in
          (j, lt, v, rw (a, d) at (named (i + j) (omega arith)))) c);
      reliable = λ h. down.reliable (reliable_lower view layer y b h);
      told = λ h. told_lower view layer y b (down.told h);
      within = omega (arith, part.within, down.within);
      empty = λ h. down.empty (part.empty h);
      whole = λ h. let k = down.whole h in let r : n ≡ left = all k.1 in (r ∙ k.0, no_memory_lower view layer y at n q b (subst (λ (c : ℕ). chain_no_memory view layer at c) (sym r) k.1) (λ j lt. (j, lt, v, named j lt)));
      top = λ h. absurd (omega arith);
      below = λ h. ⊎_elim
          (λ above. down.below above)
          (λ top.
          let t = down.top (omega arith) in
          let k : NotHere layer o = subst (NotHere layer) t.1 here_not in
          subst (λ (z : FormatAccess D). NotHere z o) t.0 k)
          (cases_lt 0 hops);
    }
      where
        NotHere : FormatAccess D → ℕ → Type 0
        NotHere z a = ((view (driver z)).place a ≡ End → ⊥) × ((e : Error) → (view (driver z)).place a ≡ Refused e → ⊥)

        named : (i : ℕ) → i < n → (view (driver layer)).place (at + i) ≡ Lower (q + i) v
        named i h = rw s at (part.names i h)

        here_not : NotHere layer at
        here_not = (λ z. rw s at (part.eof.1 z), part.no_refusal)

part_names : (m : ShallowMapping) (n i : ℕ) (place : ℕ → Place) (p : ℕ) → (place p ≡ End → IsEof m) → (IsEof m → place p ≡ End) → (place p ≡ End → place (p + i) ≡ End) → (i < n → Names m i (place (p + i)))
    → (most : ℕ) → i < part_length m n most → NamesOrEnds m i (place (p + i))
part_names S.Eof n i place p f g ends named most h = ends (g tt)
part_names (S.Raw s o w) n i place p f g ends named most h = named h
part_names (S.Indirect o w) n i place p f g ends named most h = named h
part_names (S.Zero e) n i place p f g ends named most h = named h
part_names (S.Special o) n i place p f g ends named most h = named h

part_empty : (m : ShallowMapping) (n most : ℕ) → (n ≡ 0 → IsEof m ⊎ (most ≡ 0)) → part_length m n most ≡ 0 → most ≡ 0
part_empty S.Eof n most h e = e
part_empty (S.Raw s o w) n most h e = ⊎_elim (λ z. absurd z) (λ z. z) (h e)
part_empty (S.Indirect o w) n most h e = ⊎_elim (λ z. absurd z) (λ z. z) (h e)
part_empty (S.Zero x) n most h e = ⊎_elim (λ z. absurd z) (λ z. z) (h e)
part_empty (S.Special o) n most h e = ⊎_elim (λ z. absurd z) (λ z. z) (h e)

part_within : (m : ShallowMapping) (n most : ℕ) → n ≤ most → part_length m n most ≤ most
part_within S.Eof n most h = omega arith
part_within (S.Raw s o w) n most h = h
part_within (S.Indirect o w) n most h = h
part_within (S.Zero x) n most h = h
part_within (S.Special o) n most h = h

-- a part as long as asked for stays so
pub part_whole : (m : ShallowMapping) (n most : ℕ) → n ≡ most → part_length m n most ≡ most
part_whole S.Eof n most h = refl
part_whole (S.Raw s o w) n most h = h
part_whole (S.Indirect o w) n most h = h
part_whole (S.Zero x) n most h = h
part_whole (S.Special o) n most h = h

-- the right mapping of a range, with the end going on to the end of the range
pub right_part : (place : ℕ → Place) → ((p q : ℕ) → p ≤ q → place p ≡ End → place q ≡ End) → (p most n : ℕ) (m : ShallowMapping) → IsRight place p most m n → n ≤ most → IsPart place p most m (part_length m n most)
right_part place ends p most n m r h = record {
  names = λ i lt. part_names m n i place p r.eof.1 r.eof.0 (λ e. ends p (p + i) (omega arith) e) (r.names i) most lt;
  eof = r.eof;
  no_refusal = r.no_refusal;
  empty = part_empty m n most (λ z. ⊎_elim (λ e. inl (r.eof.1 e)) inr (r.empty z));
  within = part_within m n most h;
}
