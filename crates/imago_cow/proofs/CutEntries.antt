-- SPDX-License-Identifier: MIT
use Rattle.std.proofs.Common.{suc, zero, ◌≡◌, ℕ, ◌/◌, ◌<◌, ◌⊎◌, ⊎_elim, inl, inr, true, false, List, [], ◌∷◌, Option, Some, None, refl, sym, ap, ◌∙◌, arith}
use Rattle.std.specs.Prelude.{slice_get, slice_set, IfSome}
use Rattle.imago_cow.specs.declared.table.GuestBlock.{GuestBlock}
use Rattle.imago_cow.specs.declared.table.WithoutData.{WithoutData}
use Rattle.imago_cow.specs.Table.{without_data}
use Rattle.imago_cow.specs.Guest.{is_data, is_touched}
use Rattle.imago_cow.specs.GuestLaws.{touched_at}
use Rattle.imago_cow.specs.Cut.{IsCutEntered, IsCutEmpty}
use Rattle.imago_cow.proofs.CommitSteps.{same_or_not, set_other}

-- an item in place of itself
put_same : {X : Type 0} (xs : List X) (i : ℕ) (y : X) → slice_get xs i ≡ Some y → slice_set xs i y ≡ xs
put_same [] i y e = refl
put_same (x ∷ xs) zero y e = let t : x ≡ y = cc in ap (λ w. w ∷ xs) (sym t)
put_same (x ∷ xs) (suc i) y e = ap (λ w. x ∷ w) (put_same xs i y e)

put_twice : {X : Type 0} (xs : List X) (i : ℕ) (y z : X) → slice_set (slice_set xs i y) i z ≡ slice_set xs i z
put_twice [] i y z = refl
put_twice (x ∷ xs) zero y z = refl
put_twice (x ∷ xs) (suc i) y z = ap (λ w. x ∷ w) (put_twice xs i y z)

pub within_same : (was : Option WithoutData) (i n m : ℕ) → m ≡ n → IfSome was (λ k. i < n) → IfSome was (λ k. i < m)
within_same None i n m e h = h
within_same (Some kind) i n m e h = rw e h

module _ (block size : ℕ) (old now : List GuestBlock) where
  -- a guest block that isn't told to be without data has its entry still
  pub restored_none : IsCutEmpty block size old None → IsCutEntered block size old now → now ≡ old
  restored_none holds (inl same) = same
  restored_none holds (inr taken) = let x : true ≡ false = sym (holds taken.cuts) ∙ taken.empty in let z : ⊥ = cc in absurd z

  -- the other gets its entry back
  pub restored_some : (kind : WithoutData) → slice_get old (size / block) ≡ Some (without_data kind) → IsCutEntered block size old now → slice_set now (size / block) (without_data kind) ≡ old
  restored_some kind empty (inl same) = ap (λ x. slice_set x (size / block) (without_data kind)) same ∙ put_same old (size / block) (without_data kind) empty
  restored_some kind empty (inr taken) =
      ap (λ x. slice_set x (size / block) (without_data kind)) taken.entries ∙ put_twice old (size / block) (GuestBlock.Data taken.number) (without_data kind) ∙ put_same old (size / block) (without_data kind) empty

  -- an entry that names a data block still does
  pub data_stays : IsCutEntered block size old now → (i j : ℕ) → slice_get old i ≡ Some (GuestBlock.Data j) → slice_get now i ≡ Some (GuestBlock.Data j)
  data_stays (inl same) i j e = ap (λ x. slice_get x i) same ∙ e
  data_stays (inr taken) i j e = ⊎_elim
      (λ here.
      let f : is_data (slice_get old (size / block)) ≡ true = ap is_data (sym (ap (slice_get old) here) ∙ e) in
      let x : true ≡ false = sym f ∙ taken.empty in let z : ⊥ = cc in absurd z)
      (λ other. ap (λ x. slice_get x i) taken.entries ∙ set_other old (size / block) i (GuestBlock.Data taken.number) other ∙ e)
      (same_or_not i (size / block))

  -- one that names a data block did so, or is touched by what lies behind the end
  pub data_was : 0 < block → (until : ℕ) → size < until → IsCutEntered block size old now → (i : ℕ) → is_data (slice_get now i) ≡ true → (is_data (slice_get old i) ≡ true) ⊎ (is_touched block size until i ≡ true)
  data_was positive until grows (inl same) i d = inl (ap (λ x. is_data (slice_get x i)) (sym same) ∙ d)
  data_was positive until grows (inr taken) i d = ⊎_elim
      (λ here. inr (ap (is_touched block size until) here ∙ touched_at block positive size until size (omega arith) grows))
      (λ other. inl (ap is_data (sym (ap (λ x. slice_get x i) taken.entries ∙ set_other old (size / block) i (GuestBlock.Data taken.number) other)) ∙ d))
      (same_or_not i (size / block))
