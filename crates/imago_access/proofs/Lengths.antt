-- SPDX-License-Identifier: MIT
use Rattle.std.proofs.Common.{◌≡◌, ℕ, ◌+◌, ◌<◌, ◌≤◌, ◌↔◌, inl, inr, ⊎_elim, Bool, Option, Some, None, refl, sym, ◌∙◌, subst, arith, min, max, Box, Global}
use Rattle.std.proofs.lemmas.Bool.{cases_lt}
use Rattle.imago_drivers.specs.Operation.{Map}
use Rattle.imago_drivers.specs.Place.{Place, Stored, Zeroed, Special, Lower, End}
use Rattle.imago_drivers.specs.View.{View}
use Rattle.imago_drivers.specs.Mapping.{IsEof}
use Rattle.imago_drivers.specs.declared.mapping.ShallowMapping.{ShallowMapping}
use Rattle.imago_drivers.specs.declared.mapping.ShallowMapping.TheVariants as S
use Rattle.imago_access.specs.declared.access.FormatAccess.{FormatAccess, out-FormatAccess, is-FormatAccess', back-FormatAccess-backing}
use Rattle.imago_access.specs.declared.chain.Way.{Way}
use Rattle.imago_access.specs.Chain.{driver, backing, unboxed}
use Rattle.imago_access.specs.Lengths.{IsOwnLength, is_followed, IsResolvedLength, length_below, IsFullLength}
use Rattle.imago_access.specs.Ways.{NamesOrEnds, IsPart, LeadsDown, part_length, IsBottom, resolved_mapping, resolved_length}
use Rattle.imago_access.proofs.Landed.{not_zero, is_zero, left_some}

end_length : (m : ShallowMapping) (n most : ℕ) → IsEof m → part_length m n most ≡ most
end_length S.Eof n most h = refl
end_length (S.Raw s o w) n most h = absurd h
end_length (S.Indirect o w) n most h = absurd h
end_length (S.Zero e) n most h = absurd h
end_length (S.Special o) n most h = absurd h

inner_length : (m : ShallowMapping) (n most : ℕ) → (IsEof m → ⊥) → part_length m n most ≡ n
inner_length S.Eof n most h = absurd (h tt)
inner_length (S.Raw s o w) n most h = refl
inner_length (S.Indirect o w) n most h = refl
inner_length (S.Zero e) n most h = refl
inner_length (S.Special o) n most h = refl

-- what a driver answers, with the end going on to the end of the range
pub own_length : {St : Type 0} (v : View St) (o most n : ℕ) (m : ShallowMapping) → IsEof m ↔ (v.place o ≡ End) → ((k : ℕ) × v.limits.answers Map o most o k × (n ≡ min k most)) → IsOwnLength v o most (part_length m n most)
own_length v o most n m eof part = record {
  at_end = λ e. end_length m n most (eof.1 e);
  inside = λ f. (part.0, part.1, inner_length m n most (λ e. f (eof.0 e)) ∙ part.2);
}

-- a way that has some bytes to go has a mapping of some
pub some_named : {D St : Type 0} (view : D → View St) (x : FormatAccess D) (o most : ℕ) (layer : FormatAccess D) (hops at left : ℕ) (w : Bool) → LeadsDown view x o most layer hops at left w
    → (m : ShallowMapping) (n : ℕ) → IsPart (view (driver layer)).place at left m n → 0 < most → 0 < n
some_named view x o most layer hops at left w down m n part lt =
    let left_is = left_some view x o most layer hops at left w down lt in
    ⊎_elim (λ (some : 0 < n). some) (λ (none : n ≤ 0). let e = part.empty (omega arith) in absurd (omega arith)) (cases_lt 0 n)

first_named : (place : ℕ → Place) (at left : ℕ) (m : ShallowMapping) (n : ℕ) → IsPart place at left m n → 0 < n → NamesOrEnds m 0 (place at)
first_named place at left m n part some = let e : at + 0 ≡ at = omega arith in subst (λ (p : ℕ). NamesOrEnds m 0 (place p)) e (part.names 0 some)

pub reference_here : (place : ℕ → Place) (at left : ℕ) (m : ShallowMapping) (n : ℕ) → IsPart place at left m n → (q : ℕ) (v : Bool) → m ≡ S.Indirect q v → 0 < n → place at ≡ Lower q v
reference_here place at left m n part q v same some =
    let h : place at ≡ Lower (q + 0) v = subst (λ (s : ShallowMapping). NamesOrEnds s 0 (place at)) same (first_named place at left m n part some) in
    let e : q + 0 ≡ q = omega arith in
    rw e at h

pub bottom_of : {D : Type 0} (m : ShallowMapping) (x : FormatAccess D) → ((q : ℕ) (w : Bool) → m ≡ S.Indirect q w → ⊥) → IsBottom m x
bottom_of (S.Indirect q w) x other = absurd (other q w refl)
bottom_of (S.Raw s f w) x other = tt
bottom_of (S.Zero explicit) x other = tt
bottom_of (S.Special f) x other = tt
bottom_of S.Eof x other = tt

module _ {D St : Type 0} (view : D → View St) where
  abbrev length_of : Option (FormatAccess D) → Place → ℕ → ℕ → Type 0
  length_of None place k n = n ≡ k
  length_of (Some x) place k n = is_followed (IsResolvedLength view x) place k n

  to_below : (b : Option (Box (FormatAccess D) Global)) (place : Place) (k n : ℕ) → length_of (unboxed b) place k n → length_below view (back-FormatAccess-backing D b) place k n
  to_below None place k n h = h
  to_below (Some b) place k n h = h

  length_step : (x : FormatAccess D) (o most k n : ℕ) → IsOwnLength (view (driver x)) o most k → length_of (backing x) ((view (driver x)).place o) k n → IsResolvedLength view x o most n
  length_step x o most k n own h = subst (λ (y : FormatAccess D). IsResolvedLength view y o most n) (sym (is-FormatAccess' x)) (k, own, to_below (out-FormatAccess D x).backing ((view (driver x)).place o) k n h)

  -- the length at the layer that a reference leads to is that at the reference
  pub length_lower : (x y : FormatAccess D) (o q most k n : ℕ) (w : Bool) → backing x ≡ Some y → (view (driver x)).place o ≡ Lower q w → IsOwnLength (view (driver x)) o most k → IsResolvedLength view y q k n → IsResolvedLength view x o most n
  length_lower x y o q most k n w b p own h = length_step x o most k n own
      (subst (λ (c : Option (FormatAccess D)). length_of c ((view (driver x)).place o) k n) (sym b)
      (subst (λ (place : Place). is_followed (IsResolvedLength view y) place k n) (sym p) h))

  stays : (b : Option (FormatAccess D)) (place : Place) (n : ℕ) → ((lower : ℕ → ℕ → ℕ → Type 0) → is_followed lower place n n) → length_of b place n n
  stays None place n h = refl
  stays (Some y) place n h = h (IsResolvedLength view y)

  stays_at : (b : Option (FormatAccess D)) (place known : Place) (n : ℕ) → place ≡ known → ((lower : ℕ → ℕ → ℕ → Type 0) → is_followed lower known n n) → length_of b place n n
  stays_at b place known n e h = subst (λ (p : Place). length_of b p n n) (sym e) (stays b known n h)

  -- where the way ends the driver's own length stays
  pub length_here : (x : FormatAccess D) (o most n : ℕ) (m : ShallowMapping) → IsOwnLength (view (driver x)) o most n → IsBottom m x → NamesOrEnds m 0 ((view (driver x)).place o) → IsResolvedLength view x o most n
  length_here x o most n (S.Indirect q w) own bottom names = length_step x o most n n own (subst (λ (c : Option (FormatAccess D)). length_of c ((view (driver x)).place o) n n) (sym bottom) refl)
  length_here x o most n (S.Raw s f w) own bottom (b, e) = length_step x o most n n own (stays_at (backing x) _ (Stored b s (f + 0) w) n e (λ lower. refl))
  length_here x o most n (S.Zero explicit) own bottom e = length_step x o most n n own (stays_at (backing x) _ (Zeroed explicit) n e (λ lower. refl))
  length_here x o most n (S.Special f) own bottom (b, e) = length_step x o most n n own (stays_at (backing x) _ (Special b (f + 0)) n e (λ lower. refl))
  length_here x o most n S.Eof own bottom e = length_step x o most n n own (stays_at (backing x) _ End n e (λ lower. refl))

  full_end : (x : FormatAccess D) (o most : ℕ) (way : Way) → IsResolvedLength view x o (max most 1) way.length → IsFullLength view x o most (resolved_mapping way S.Eof) (min (resolved_length way S.Eof) most)
  full_end x o most way h = ⊎_elim
      (λ (below : 0 < way.depth). let z = not_zero way.depth below in rw z (inr (way.length, h, refl)))
      (λ (top : way.depth ≤ 0). let z = is_zero way.depth (omega arith) in rw z (inl tt))
      (cases_lt 0 way.depth)

  -- what the way comes to is as long as the drivers let it be
  pub full_length : (x : FormatAccess D) (o most : ℕ) (way : Way) (m : ShallowMapping) → IsResolvedLength view x o (max most 1) way.length → IsFullLength view x o most (resolved_mapping way m) (min (resolved_length way m) most)
  full_length x o most way S.Eof h = full_end x o most way h
  full_length x o most way (S.Raw s f w) h = inr (way.length, h, refl)
  full_length x o most way (S.Indirect q w) h = inr (way.length, h, refl)
  full_length x o most way (S.Zero explicit) h = inr (way.length, h, refl)
  full_length x o most way (S.Special f) h = inr (way.length, h, refl)

  -- the end of the way: the length that the driver there maps is that of the image
  pub length_landed : (x : FormatAccess D) (o most : ℕ) (layer : FormatAccess D) (at left : ℕ) (m : ShallowMapping) (n : ℕ) → ((k : ℕ) → IsResolvedLength view layer at left k → IsResolvedLength view x o most k)
      → IsPart (view (driver layer)).place at left m n → IsOwnLength (view (driver layer)) at left n → IsBottom m layer → 0 < n → IsResolvedLength view x o most n
  length_landed x o most layer at left m n up part own bottom some = up n (length_here layer at left n m own bottom (first_named (view (driver layer)).place at left m n part some))
