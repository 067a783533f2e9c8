-- Which L2 tables are needed.
-- SPDX-License-Identifier: MIT
use Rattle.std.proofs.Common.{◌≡◌, ℕ, ◌+◌, ◌-◌, ◌*◌, ◌/◌, ◌%◌, ◌<◌, ◌≤◌, ⊎_elim, Bool, true, false, refl, sym, ap, subst, ◌∙◌, arith, mul_assoc}
use Rattle.std.specs.Prelude.{max}
use Rattle.std.specs.Int.{next_multiple_of}
use Rattle.std.proofs.lemmas.Bool.{cases_lt}
use Rattle.std.proofs.lemmas.Nat.{mul-le}
use Rattle.imago_storage.proofs.Padding.{next_whole_zero}
use Rattle.imago_qcow2_new.specs.declared.extents.Extents.{Extents}
use Rattle.imago_qcow2_new.specs.Extents.{Spot}
use Rattle.imago_qcow2_new.specs.Space.{stores, StoresMore}
use Rattle.imago_qcow2_new.specs.Layout.{HasCluster, NeedsTable, AreNeeded}
use Rattle.imago_qcow2_new.proofs.Whole.{as_product, rest_whole, times_whole, entry_place}
use Rattle.imago_qcow2_new.proofs.ExtentSteps.{at_end}

same_bool : (a b : Bool) → (b ≡ true → a ≡ true) → (a ≡ true → b ≡ true) → a ≡ b
same_bool true true f g = refl
same_bool false false f g = refl
same_bool true false f g = sym (g refl)
same_bool false true f g = f refl

-- a cluster of a table is stored: its first one, or one behind a gap
module _ (e : Extents) (c table : ℕ) (least : 512 ≤ c) where
  pub first_cluster : stores e (table * (c / 8 * c)) ≡ true → HasCluster c e table
  first_cluster st =
      let place : (table * (c / 8) + 0) * c ≡ table * (c / 8 * c) = entry_place table 0 (c / 8) c ∙ omega arith in
      (0, omega (arith, least), subst (λ (x : ℕ). stores e x ≡ true) (sym place) st)

  pub later_cluster : (count : ℕ) → e.unit ≡ c → count < c / 8 * c → stores e (table * (c / 8 * c) + count) ≡ true → (table * (c / 8 * c) + count) % e.unit ≡ 0 → HasCluster c e table
  later_cluster count unit near st whole =
      let span : table * (c / 8 * c) ≡ table * (c / 8) * c = sym (mul_assoc table (c / 8) c) in
      let begins : table * (c / 8 * c) % c ≡ 0 = ap (λ x. x % c) span ∙ times_whole c (table * (c / 8)) in
      let there : (table * (c / 8 * c) + count) % c ≡ 0 = ap (λ u. (table * (c / 8 * c) + count) % u) (sym unit) ∙ whole in
      let rest : count % c ≡ 0 = rest_whole c (table * (c / 8 * c) + count) (table * (c / 8 * c)) count there begins (omega arith) in
      let product : count ≡ count / c * c = as_product c count rest in
      let place : (table * (c / 8) + count / c) * c ≡ table * (c / 8 * c) + count = entry_place table (count / c) (c / 8) c ∙ ap (λ x. table * (c / 8 * c) + x) (sym product) in
      let less : count / c < c / 8 = ⊎_elim
      (λ (lt : count / c < c / 8). lt)
      (λ (ge : c / 8 ≤ count / c). let m : c / 8 * c ≤ count / c * c = mul-le (c / 8) c (count / c) c ge (omega arith) in absurd (omega (arith, m, product, near)))
      (cases_lt (count / c) (c / 8)) in
      (count / c, less, subst (λ (x : ℕ). stores e x ≡ true) (sym place) st)

-- a table that is made stored behind others
module _ (old new : Extents) (c table : ℕ) (positive : 0 < c) (unit : old.unit ≡ c) (behind : old.end ≤ table * c)
    (more : StoresMore old new (max old.end (table * c - table * c % old.unit)) (next_multiple_of (table * c + c) old.unit)) where
  starts : table * c % old.unit ≡ 0
  starts = ap (λ u. table * c % u) unit ∙ times_whole c table

  pub ends_at : next_multiple_of (table * c + c) old.unit ≡ table * c + c
  ends_at =
      let e : table * c + c ≡ (table + 1) * c = omega arith in
      let w : (table * c + c) % c ≡ 0 = ap (λ x. x % c) e ∙ times_whole c (table + 1) in
      ap (λ u. next_multiple_of (table * c + c) u) unit ∙ next_whole_zero (table * c + c) c positive w

  pub added_table : stores new (table * c) ≡ true
  added_table = let e = ends_at in more.added (table * c) (omega (arith, behind)) (omega (arith, e, positive))

  pub other_table : (i : ℕ) → i < table → stores new (i * c) ≡ stores old (i * c)
  other_table i lt = same_bool (stores new (i * c)) (stores old (i * c)) (more.kept (i * c))
      (λ st. ⊎_elim
      (λ (was : stores old (i * c) ≡ true). was)
      (λ (there : (max old.end (table * c - table * c % old.unit) ≤ i * c) × (i * c < next_multiple_of (table * c + c) old.unit)).
      let w = starts in
      let m : (i + 1) * c ≤ table * c = mul-le (i + 1) c table c (omega (arith, lt)) (omega arith) in
      let e : (i + 1) * c ≡ i * c + c = omega arith in
      let h = there.0 in
      absurd (omega (arith, w, m, e, h, positive)))
      (more.only (i * c) st))

module _ (gap c : ℕ) (clusters : Extents) (n : ℕ) where
  pub needs_more : (old new : Extents) → AreNeeded gap c clusters old n → ((i : ℕ) → i < n → stores new (i * c) ≡ stores old (i * c))
      → stores new (n * c) ≡ true → NeedsTable gap c clusters n → AreNeeded gap c clusters new (n + 1)
  needs_more old new known others here needed = record {
    there = λ i lt st. ⊎_elim
        (λ (before : i < n). known.there i before (sym (others i before) ∙ st))
        (λ (ge : n ≤ i). let e : n ≡ i = omega (arith, lt, ge) in subst (NeedsTable gap c clusters) e needed)
        (cases_lt i n);
    all = λ i lt need. ⊎_elim
        (λ (before : i < n). others i before ∙ known.all i before need)
        (λ (ge : n ≤ i). let e : n ≡ i = omega (arith, lt, ge) in subst (λ (x : ℕ). stores new (x * c) ≡ true) e here)
        (cases_lt i n);
  }

  pub needs_less : (tables : Extents) → tables.end ≤ n * c → AreNeeded gap c clusters tables n → (NeedsTable gap c clusters n → ⊥) → AreNeeded gap c clusters tables (n + 1)
  needs_less tables behind known needless = record {
    there = λ i lt st. ⊎_elim
        (λ (before : i < n). known.there i before st)
        (λ (ge : n ≤ i).
        let e : i ≡ n = omega (arith, lt, ge) in
        let far = at_end tables.unit tables.end tables.stored 0 0 tables.extents.items tables.ordered (n * c) behind in
        let none : stores tables (n * c) ≡ false = ap (λ (s : Spot). s.stored) far in
        let z : false ≡ true = sym none ∙ subst (λ (x : ℕ). stores tables (x * c) ≡ true) e st in
        let y : ⊥ = cc z in absurd y)
        (cases_lt i n);
    all = λ i lt need. ⊎_elim
        (λ (before : i < n). known.all i before need)
        (λ (ge : n ≤ i). let e : i ≡ n = omega (arith, lt, ge) in absurd (needless (subst (NeedsTable gap c clusters) e need)))
        (cases_lt i n);
  }

pub none_needed : (gap c : ℕ) (clusters tables : Extents) → AreNeeded gap c clusters tables 0
none_needed gap c clusters tables = record {
  there = λ i lt st. absurd (omega (arith, lt));
  all = λ i lt need. absurd (omega (arith, lt));
}
