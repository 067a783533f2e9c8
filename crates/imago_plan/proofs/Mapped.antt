-- What a resolved mapping names, as a piece.
-- SPDX-License-Identifier: MIT
use Rattle.std.proofs.Common.{◌≡◌, ℕ, ◌+◌, ◌-◌, ◌^◌, ◌<◌, ◌≤◌, inl, inr, ⊎_elim, Bool, true, false, Some, None, min, if◌then◌else◌, nat_lt, sym, ap, ◌∙◌, subst, arith}
use Rattle.std.proofs.lemmas.Bool.{cases_lt, lt-ltb, le-ltb}
use Rattle.imago_drivers.specs.Place.{Place, End}
use Rattle.imago_drivers.specs.View.{View}
use Rattle.imago_access.specs.declared.access.FormatAccess.{FormatAccess, out-FormatAccess, is-FormatAccess', back-FormatAccess-backing}
use Rattle.imago_access.specs.declared.mapping.Mapping.{Mapping}
use Rattle.imago_access.specs.declared.mapping.Mapping.TheVariants as M
use Rattle.imago_access.specs.Chain.{driver}
use Rattle.imago_access.specs.Resolved.{IsResolved, IsEndOfImage, LeadsTo, LeadsToZero}
use Rattle.imago_access.specs.Target.{Target, target, target_below, followed}
use Rattle.imago_plan.specs.declared.piece.Location.{Location}
use Rattle.imago_plan.specs.declared.piece.Source.{Source}
use Rattle.imago_plan.specs.declared.piece.Source.TheVariants as S
use Rattle.imago_plan.specs.declared.piece.Piece.{Piece}
use Rattle.imago_plan.specs.Pieces.{Stands, IsPieceAt, HasNoSource, named_source}

-- a depth that is told below the greatest number is the layer's
told : (layer depth : ℕ) → layer < 2 ^ 64 - 1 → layer ≡ min depth (2 ^ 64 - 1) → layer ≡ depth
told layer depth lt is = omega (arith, lt, is)

told_deep : (layer depth : ℕ) → 2 ^ 64 - 1 ≤ layer → layer ≡ min depth (2 ^ 64 - 1) → 2 ^ 64 - 1 ≤ depth
told_deep layer depth le is = omega (arith, le, is)

some_is : {A : Type 0} (a b : A) → Some a ≡ Some b → a ≡ b
some_is a b e = cc e

none_some : {A : Type 0} (a : A) → None ≡ Some a → ⊥
none_some a e = cc e

some_none : {A : Type 0} (a : A) → Some a ≡ None → ⊥
some_none a e = cc e

zero_stands : (explicit : Bool) (i : ℕ) (t : Target) → LeadsToZero explicit t → Stands S.Zero i t
zero_stands explicit i t h = ⊎_elim
    (λ top. inl (explicit, top.0))
    (λ deep. ⊎_elim (λ zero. inl (zero.0, zero.1)) (λ end. inr end.0) deep)
    h

-- where a mapping leads, what it names stands
named_stands : (m : Mapping) (s : Source) (i : ℕ) (t : Target) → named_source m ≡ Some s → LeadsTo m i t → Stands s i t
named_stands (M.Raw layer storage offset w) s i t e h =
    let from : Location = record { layer = layer; storage = storage; offset = offset } in
    ⊎_elim
    (λ (lt : layer < 2 ^ 64 - 1).
    let is : nat_lt layer (2 ^ 64 - 1) ≡ true = lt-ltb layer (2 ^ 64 - 1) lt in
    let source : S.Stored from ≡ s = some_is _ _ (sym (ap (λ (b : Bool). if b then Some (S.Stored from) else None) is) ∙ e) in
    subst (λ (z : Source). Stands z i t) source (told layer t.depth lt h.0, (h.1.0, h.1.1, h.1.2)))
    (λ (le : 2 ^ 64 - 1 ≤ layer).
    let is : nat_lt layer (2 ^ 64 - 1) ≡ false = le-ltb layer (2 ^ 64 - 1) le in
    absurd (none_some s (sym (ap (λ (b : Bool). if b then Some (S.Stored from) else None) is) ∙ e)))
    (cases_lt layer (2 ^ 64 - 1))
named_stands (M.Zero explicit) s i t e h = subst (λ (z : Source). Stands z i t) (some_is _ _ e) (zero_stands explicit i t h)
named_stands M.Eof s i t e h = absurd h
named_stands (M.Special layer offset) s i t e h = absurd (none_some s e)

not_end : (m : Mapping) (s : Source) → named_source m ≡ Some s → IsEndOfImage m → ⊥
not_end (M.Raw layer storage offset w) s e h = h
not_end (M.Zero explicit) s e h = h
not_end M.Eof s e h = none_some s e
not_end (M.Special layer offset) s e h = h

module _ {D St : Type 0} (view : D → View St) (x : FormatAccess D) (o most n : ℕ) (m : Mapping) where
  -- a mapping that names a source is a piece
  pub mapped_piece : (piece : Piece) → piece.at ≡ o → piece.count ≡ n → named_source m ≡ Some piece.source → 0 < most → IsResolved view x o most m n → IsPieceAt (target view x) o piece × (piece.count ≤ most)
  mapped_piece piece at count named some r =
      let empty : n ≡ 0 → ⊥ = λ z. ⊎_elim (λ end. not_end m piece.source named end) (λ none. absurd (omega (arith, none, some))) (r.empty z) in
      let full : 0 < n = ⊎_elim (λ (lt : 0 < n). lt) (λ (le : n ≤ 0). absurd (empty (omega (arith, le)))) (cases_lt 0 n) in
      ((at, omega (arith, full, count), λ i lt. named_stands m piece.source i (target view x (o + i)) named (r.leads i (omega (arith, lt, count)))), omega (arith, count, r.within))

-- an offset without a place leads to none
end_target : {D St : Type 0} (view : D → View St) (x : FormatAccess D) (p : ℕ) → (view (driver x)).place p ≡ End → (target view x p).place ≡ End
end_target {D} view x p e =
    let below : ℕ → Target = target_below view (back-FormatAccess-backing D (out-FormatAccess D x).backing) in
    ap (λ (y : FormatAccess D). (target view y p).place) (is-FormatAccess' x) ∙ ap (λ (z : Place). (followed below z).place) e

-- a mapping that names no source leads to none
pub no_source : {D St : Type 0} (view : D → View St) (x : FormatAccess D) (o most n : ℕ) (m : Mapping) → named_source m ≡ None → IsResolved view x o most m n → HasNoSource (target view x o)
no_source view x o most n (M.Raw layer storage offset w) e r = ⊎_elim
    (λ end. absurd end)
    (λ h. inr (inr (⊎_elim
    (λ (lt : layer < 2 ^ 64 - 1).
    let from : Location = record { layer = layer; storage = storage; offset = offset } in
    let is : nat_lt layer (2 ^ 64 - 1) ≡ true = lt-ltb layer (2 ^ 64 - 1) lt in
    absurd (some_none (S.Stored from) (sym (ap (λ (b : Bool). if b then Some (S.Stored from) else None) is) ∙ e)))
    (λ (le : 2 ^ 64 - 1 ≤ layer). told_deep layer (target view x o).depth le h.0)
    (cases_lt layer (2 ^ 64 - 1)))))
    r.here
no_source view x o most n (M.Zero explicit) e r = absurd (some_none S.Zero e)
no_source view x o most n M.Eof e r = inl (end_target view x o (r.eof.0 tt))
no_source view x o most n (M.Special layer offset) e r = ⊎_elim (λ end. absurd end) (λ h. inr (inl (h.1.0, offset + 0, h.1.1))) r.here
