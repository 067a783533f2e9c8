-- Extents, and the spots of a space.
-- SPDX-License-Identifier: MIT
use Rattle.std.proofs.Common.{◌≡◌, ℕ, zero, suc, ◌+◌, ◌-◌, ◌%◌, ◌<◌, ◌≤◌, ⊎_elim, true, false, nat_lt, List, [], ◌∷◌, ◌++◌, length, drop, set, get_or, refl, sym, ap, subst, ◌∙◌, arith}
use Rattle.std.specs.Prelude.{if◌then◌else◌}
use Rattle.std.proofs.lemmas.List.{drop_all}
use Rattle.std.proofs.lemmas.Bool.{cases_lt}
use Rattle.std.proofs.lemmas.Bool.Decides.{nat_tests}
use Rattle.imago_qcow2_new.proofs.Whole.{sum_whole, rest_whole, apart}
use Rattle.imago_qcow2_new.specs.declared.extent.Extent.{Extent}
use Rattle.imago_qcow2_new.specs.Extents.{IsExtentAt, AreExtents, Spot, spot, IsPart}

module _ (all : ℕ) (r : Extent) (rs : List Extent) (p : ℕ) where
  pub spot_ahead : p < r.start → spot all (r ∷ rs) p ≡ record { stored = false; before = r.before }
  spot_ahead h = let t : nat_lt p r.start ≡ true = grind (arith, nat_tests) in rw t refl

  pub spot_inside : r.start ≤ p → p < r.start + r.count → spot all (r ∷ rs) p ≡ record { stored = true; before = r.before + (p - r.start) }
  spot_inside h k =
      let t : nat_lt p r.start ≡ false = grind (arith, nat_tests) in
      let u : nat_lt p (r.start + r.count) ≡ true = grind (arith, nat_tests) in
      rw (t, u) refl

  pub spot_behind : r.start + r.count ≤ p → spot all (r ∷ rs) p ≡ spot all rs p
  spot_behind h =
      let t : nat_lt p r.start ≡ false = grind (arith, nat_tests) in
      let u : nat_lt p (r.start + r.count) ≡ false = grind (arith, nat_tests) in
      rw (t, u) refl

  -- the three cases
  pub spot_cases : (P : Spot → Type 0)
      → (p < r.start → P (record { stored = false; before = r.before }))
      → (r.start ≤ p → p < r.start + r.count → P (record { stored = true; before = r.before + (p - r.start) }))
      → (r.start + r.count ≤ p → P (spot all rs p))
      → P (spot all (r ∷ rs) p)
  spot_cases P ahead inside behind = ⊎_elim
      (λ h. subst P (sym (spot_ahead h)) (ahead h))
      (λ h. ⊎_elim (λ k. subst P (sym (spot_inside h k)) (inside h k)) (λ k. subst P (sym (spot_behind k)) (behind k)) (cases_lt p (r.start + r.count)))
      (cases_lt p r.start)

module _ (unit end all : ℕ) where
  -- as many bytes are stored before a spot as before the extents, at least
  pub least : (from before : ℕ) (rs : List Extent) → AreExtents unit end all from before rs → (p : ℕ) → before ≤ (spot all rs p).before
  least from before [] a p = omega (arith, a.1)
  least from before (r ∷ rs) a p =
      let next = least (r.start + r.count) (before + r.count) rs a.1 p in
      let is : r.before ≡ before = a.0.1.1.0 in
      spot_cases all r rs p (λ s. before ≤ s.before) (λ h. omega (arith, is)) (λ h k. omega (arith, is)) (λ h. omega (arith, next))

  -- and all of them, at most
  pub most : (from before : ℕ) (rs : List Extent) → AreExtents unit end all from before rs → before ≤ all
  most from before [] a = omega (arith, a.1)
  most from before (r ∷ rs) a = let next = most (r.start + r.count) (before + r.count) rs a.1 in omega (arith, next)

  -- an offset before which no extent lies
  pub at_start : (from before : ℕ) (rs : List Extent) → AreExtents unit end all from before rs → (spot all rs from).before ≡ before
  at_start from before [] a = sym a.1
  at_start from before (r ∷ rs) a =
      let is : r.before ≡ before = a.0.1.1.0 in
      spot_cases all r rs from (λ s. s.before ≡ before) (λ h. is) (λ h k. let e : from ≡ r.start = omega (arith, a.0.0, h) in omega (arith, is, e))
      (λ h. absurd (let f : from ≤ r.start = a.0.0 in let g : 0 < r.count = a.0.1.0 in omega (arith, f, g, h)))

  -- a stored byte is one of those that are stored before each later spot
  pub grows : (from before : ℕ) (rs : List Extent) → AreExtents unit end all from before rs → (p q : ℕ) → p < q → (spot all rs p).stored ≡ true → (spot all rs p).before < (spot all rs q).before
  grows from before [] a p q lt = λ f. let z : ⊥ = cc f in absurd z
  grows from before (r ∷ rs) a p q lt =
      let is : r.before ≡ before = a.0.1.1.0 in
      let rest = a.1 in
      spot_cases all r rs p (λ s. s.stored ≡ true → s.before < (spot all (r ∷ rs) q).before)
      (λ h f. let z : ⊥ = cc in absurd z)
      (λ h k f. spot_cases all r rs q (λ s. r.before + (p - r.start) < s.before)
      (λ i. absurd (omega (arith, h, i, lt)))
      (λ i j. omega (arith, h, i, j, lt))
      (λ i. let l = least (r.start + r.count) (before + r.count) rs rest q in omega (arith, l, is, h, k)))
      (λ h f. let e : spot all (r ∷ rs) q ≡ spot all rs q = spot_behind all r rs q (omega (arith, h, lt)) in
      subst (λ (s : Spot). (spot all rs p).before < s.before) (sym e) (grows (r.start + r.count) (before + r.count) rs rest p q lt f))

  pub ends : (from before : ℕ) (rs : List Extent) → AreExtents unit end all from before rs → from ≤ end
  ends from before [] a = omega (arith, a.0)
  ends from before (r ∷ rs) a = let next = ends (r.start + r.count) (before + r.count) rs a.1 in let f : from ≤ r.start = a.0.0 in omega (arith, next, f)

  -- behind all extents
  pub at_end : (from before : ℕ) (rs : List Extent) → AreExtents unit end all from before rs → (p : ℕ) → end ≤ p → spot all rs p ≡ record { stored = false; before = all }
  at_end from before [] a p h = refl
  at_end from before (r ∷ rs) a p h =
      let far = ends (r.start + r.count) (before + r.count) rs a.1 in
      spot_behind all r rs p (omega (arith, far, h)) ∙ at_end (r.start + r.count) (before + r.count) rs a.1 p h

  -- each extent lies before the end
  pub within : (from before : ℕ) (rs : List Extent) → AreExtents unit end all from before rs → (n : ℕ) (d : Extent) → n < length rs → ((get_or rs n d).start + (get_or rs n d).count ≤ end) × ((get_or rs n d).before + (get_or rs n d).count ≤ all)
  within from before [] a n d h = absurd (omega (arith, h))
  within from before (r ∷ rs) a zero d h =
      let is : r.before ≡ before = a.0.1.1.0 in
      let up = most (r.start + r.count) (before + r.count) rs a.1 in
      (ends (r.start + r.count) (before + r.count) rs a.1, omega (arith, up, is))
  within from before (r ∷ rs) a (suc n) d h = within (r.start + r.count) (before + r.count) rs a.1 n d (omega (arith, h))

  -- an extent ends behind where the extents may begin
  ahead_of : (from before : ℕ) (rs : List Extent) → AreExtents unit end all from before rs → (n : ℕ) (d : Extent) → n < length rs → from ≤ (get_or rs n d).start + (get_or rs n d).count
  ahead_of from before [] a n d h = absurd (omega (arith, h))
  ahead_of from before (r ∷ rs) a zero d h = let f : from ≤ r.start = a.0.0 in omega (arith, f)
  ahead_of from before (r ∷ rs) a (suc n) d h =
      let next = ahead_of (r.start + r.count) (before + r.count) rs a.1 n d (omega (arith, h)) in
      let f : from ≤ r.start = a.0.0 in omega (arith, f, next)

  -- extents that end at an offset or before say nothing of it
  pub skip : (from before : ℕ) (rs : List Extent) → AreExtents unit end all from before rs → (n : ℕ) (d : Extent) → n < length rs → (q : ℕ) → (get_or rs n d).start + (get_or rs n d).count ≤ q
      → spot all (drop (suc n) rs) q ≡ spot all rs q
  skip from before [] a n d h q k = absurd (omega (arith, h))
  skip from before (r ∷ rs) a zero d h q k = sym (spot_behind all r rs q k)
  skip from before (r ∷ rs) a (suc n) d h q k =
      let lt : n < length rs = omega (arith, h) in
      let far = ahead_of (r.start + r.count) (before + r.count) rs a.1 n d lt in
      skip (r.start + r.count) (before + r.count) rs a.1 n d lt q k ∙ sym (spot_behind all r rs q (omega (arith, far, k)))

  -- the extents from one on
  pub tail : (from before : ℕ) (rs : List Extent) → AreExtents unit end all from before rs → (n : ℕ) → (f : ℕ) × (b : ℕ) × AreExtents unit end all f b (drop n rs)
  tail from before rs a zero = (from, before, a)
  tail from before [] a (suc n) = (from, before, a)
  tail from before (r ∷ rs) a (suc n) = tail (r.start + r.count) (before + r.count) rs a.1 n

  -- what stands from an offset in the first extent on, or before it
  pub part_inside : (from before : ℕ) (r : Extent) (rs : List Extent) → AreExtents unit end all from before (r ∷ rs) → (p i : ℕ) → r.start ≤ p → p + i ≤ r.start + r.count → (spot all (r ∷ rs) (p + i)).before ≡ r.before + (p - r.start) + i
  part_inside from before r rs a p i h k =
      let is : r.before ≡ before = a.0.1.1.0 in
      spot_cases all r rs (p + i) (λ s. s.before ≡ r.before + (p - r.start) + i) (λ g. absurd (omega (arith, g, h))) (λ g l. omega (arith, h))
      (λ g. let e : p + i ≡ r.start + r.count = omega (arith, g, k) in
      ap (λ x. (spot all rs x).before) e ∙ at_start (r.start + r.count) (before + r.count) rs a.1 ∙ omega (arith, is, e, h))

  pub stored_inside : (r : Extent) (rs : List Extent) (p i : ℕ) → r.start ≤ p → p + i < r.start + r.count → (spot all (r ∷ rs) (p + i)).stored ≡ true
  stored_inside r rs p i h k = ap (λ (s : Spot). s.stored) (spot_inside all r rs (p + i) (omega (arith, h)) k)

  pub part_ahead : (from before : ℕ) (r : Extent) (rs : List Extent) → AreExtents unit end all from before (r ∷ rs) → (p i : ℕ) → p + i ≤ r.start → (spot all (r ∷ rs) (p + i)).before ≡ r.before
  part_ahead from before r rs a p i h =
      let some : 0 < r.count = a.0.1.0 in
      spot_cases all r rs (p + i) (λ s. s.before ≡ r.before) (λ g. refl) (λ g l. omega (arith, g, h)) (λ g. absurd (omega (arith, g, h, some)))

  pub stored_ahead : (r : Extent) (rs : List Extent) (p i : ℕ) → p + i < r.start → (spot all (r ∷ rs) (p + i)).stored ≡ false
  stored_ahead r rs p i h = ap (λ (s : Spot). s.stored) (spot_ahead all r rs (p + i) h)

-- extents with one more, and with a longer last one
pub runs_more : (unit end all from before : ℕ) (rs : List Extent) → AreExtents unit end all from before rs → (r : Extent) → IsExtentAt unit end all r → AreExtents unit (r.start + r.count) (all + r.count) from before (rs ++ r ∷ [])
runs_more unit end all from before [] a r here = ((subst (λ x. x ≤ r.start) (sym a.0) here.0, (here.1.0, (here.1.1.0 ∙ sym a.1, here.1.1.1))), (refl, ap (λ x. x + r.count) a.1))
runs_more unit end all from before (q ∷ rs) a r here = (a.0, runs_more unit end all (q.start + q.count) (before + q.count) rs a.1 r here)

pub runs_longer : (unit end all from before : ℕ) (rs : List Extent) → AreExtents unit end all from before rs → (n : ℕ) (d : Extent) → suc n ≡ length rs → (more : ℕ) → more % unit ≡ 0
    → AreExtents unit (end + more) (all + more) from before (set rs n (record (get_or rs n d) { count = (get_or rs n d).count + more }))
runs_longer unit end all from before [] a n d h more w = absurd (omega (arith, h))
runs_longer unit end all from before (r ∷ []) a zero d h more w =
    let some : 0 < r.count + more = omega (arith, a.0.1.0) in
    let e : r.start + (r.count + more) ≡ end + more = omega (arith, a.1.0) in
    let f : before + (r.count + more) ≡ all + more = omega (arith, a.1.1) in
    ((a.0.0, (some, (a.0.1.1.0, (a.0.1.1.1.0, sum_whole unit r.count more a.0.1.1.1.1 w)))), (e, f))
runs_longer unit end all from before (r ∷ q ∷ rs) a zero d h more w = absurd (omega (arith, h))
runs_longer unit end all from before (r ∷ rs) a (suc n) d h more w = (a.0, runs_longer unit end all (r.start + r.count) (before + r.count) rs a.1 n d (omega (arith, h)) more w)

-- the end of extents is that of a unit
pub end_whole : (unit end all from before : ℕ) (rs : List Extent) → AreExtents unit end all from before rs → from % unit ≡ 0 → end % unit ≡ 0
end_whole unit end all from before [] a h = ap (λ x. x % unit) (sym a.0) ∙ h
end_whole unit end all from before (r ∷ rs) a h = end_whole unit end all (r.start + r.count) (before + r.count) rs a.1 (sum_whole unit r.start r.count a.0.1.1.1.0 a.0.1.1.1.1)

-- at most as many bytes are stored as there are
pub stored_most : (unit end all from before : ℕ) (rs : List Extent) → AreExtents unit end all from before rs → before ≤ from → all ≤ end
stored_most unit end all from before [] a h = omega (arith, a.0, a.1, h)
stored_most unit end all from before (r ∷ rs) a h = let f : from ≤ r.start = a.0.0 in stored_most unit end all (r.start + r.count) (before + r.count) rs a.1 (omega (arith, h, f))

-- the extents from one that is there on
pub from_there : (rs : List Extent) (n : ℕ) (d : Extent) → n < length rs → drop n rs ≡ get_or rs n d ∷ drop (suc n) rs
from_there [] n d h = absurd (omega (arith, h))
from_there (r ∷ rs) zero d h = refl
from_there (r ∷ rs) (suc n) d h = from_there rs n d (omega (arith, h))

-- what `part_at` gives, once the extents before an offset are left out
module _ (unit end all : ℕ) (rs : List Extent) (a : AreExtents unit end all 0 0 rs) (n p : ℕ)
    (low : (q : ℕ) → p ≤ q → spot all (drop n rs) q ≡ spot all rs q) where
  pub none_left : n ≡ length rs → (m : ℕ) → IsPart all rs p (record { is_stored = false; before = all; count = m })
  none_left h m =
      let none : drop n rs ≡ [] = drop_all n rs (omega (arith, h)) in
      let same : (i : ℕ) → spot all rs (p + i) ≡ record { stored = false; before = all } = λ i. sym (low (p + i) (omega arith)) ∙ ap (λ (x : List Extent). spot all x (p + i)) none in
      record {
        kind = λ i lt. ap (λ (s : Spot). s.stored) (same i);
        reached = λ i le. ap (λ (s : Spot). s.before) (same i);
      }

  pub none_here : n ≡ length rs → spot all rs p ≡ record { stored = false; before = all }
  none_here h =
      let none : drop n rs ≡ [] = drop_all n rs (omega (arith, h)) in
      sym (low p (omega arith)) ∙ ap (λ (x : List Extent). spot all x p) none

  module _ (lt : n < length rs) (r : Extent) (is : r ≡ get_or rs n r) where
    here : drop n rs ≡ r ∷ drop (suc n) rs
    here = from_there rs n r lt ∙ ap (λ (x : Extent). x ∷ drop (suc n) rs) (sym is)

    same : (i : ℕ) → spot all rs (p + i) ≡ spot all (r ∷ drop (suc n) rs) (p + i)
    same i = sym (low (p + i) (omega arith)) ∙ ap (λ (x : List Extent). spot all x (p + i)) here

    here_first : spot all rs p ≡ spot all (r ∷ drop (suc n) rs) p
    here_first = sym (low p (omega arith)) ∙ ap (λ (x : List Extent). spot all x p) here

    extents : (f : ℕ) × (b : ℕ) × AreExtents unit end all f b (r ∷ drop (suc n) rs)
    extents = let t = tail unit end all 0 0 rs a n in (t.0, t.1, subst (λ (x : List Extent). AreExtents unit end all t.0 t.1 x) here t.2)

    pub ahead_left : p < r.start → IsPart all rs p (record { is_stored = false; before = r.before; count = r.start - p })
    ahead_left h = record {
      kind = λ i k. ap (λ (s : Spot). s.stored) (same i) ∙ stored_ahead unit end all r (drop (suc n) rs) p i (omega (arith, h, k));
      reached = λ i k. ap (λ (s : Spot). s.before) (same i) ∙ part_ahead unit end all extents.0 extents.1 r (drop (suc n) rs) extents.2 p i (omega (arith, h, k));
    }

    -- and an extent begins where a gap before it ends
    pub next_left : p < r.start → ((spot all rs r.start).stored ≡ true) × (r.start % unit ≡ 0)
    next_left h =
        let at = extents.2 in
        let some : 0 < r.count = at.0.1.0 in
        let seen : spot all rs r.start ≡ spot all (r ∷ drop (suc n) rs) r.start = sym (low r.start (omega (arith, h))) ∙ ap (λ (x : List Extent). spot all x r.start) here in
        (ap (λ (s : Spot). s.stored) (seen ∙ spot_inside all r (drop (suc n) rs) r.start (omega arith) (omega (arith, some))), at.0.1.1.1.0)

    pub inside_left : r.start ≤ p → p < r.start + r.count → IsPart all rs p (record { is_stored = true; before = r.before + (p - r.start); count = r.count - (p - r.start) })
    inside_left h g = record {
      kind = λ i k. ap (λ (s : Spot). s.stored) (same i) ∙ stored_inside unit end all r (drop (suc n) rs) p i h (omega (arith, h, g, k));
      reached = λ i k. ap (λ (s : Spot). s.before) (same i) ∙ part_inside unit end all extents.0 extents.1 r (drop (suc n) rs) extents.2 p i h (omega (arith, h, g, k));
    }

    pub ahead_here : p < r.start → spot all rs p ≡ record { stored = false; before = r.before }
    ahead_here h = here_first ∙ spot_ahead all r (drop (suc n) rs) p h

    pub inside_here : r.start ≤ p → p < r.start + r.count → spot all rs p ≡ record { stored = true; before = r.before + (p - r.start) }
    inside_here h g = here_first ∙ spot_inside all r (drop (suc n) rs) p h g

-- at most all bytes are stored before a spot
pub before_most : (unit end all from before : ℕ) (rs : List Extent) → AreExtents unit end all from before rs → (p : ℕ) → (spot all rs p).before ≤ all
before_most unit end all from before [] a p = omega arith
before_most unit end all from before (r ∷ rs) a p =
    let is : r.before ≡ before = a.0.1.1.0 in
    let up = most unit end all (r.start + r.count) (before + r.count) rs a.1 in
    let next = before_most unit end all (r.start + r.count) (before + r.count) rs a.1 p in
    spot_cases all r rs p (λ s. s.before ≤ all) (λ h. omega (arith, is, up)) (λ h k. omega (arith, is, up, h, k)) (λ h. next)

-- a unit is stored as a whole, or not at all
module _ (unit end all : ℕ) where
  pub block_in : (from before : ℕ) (rs : List Extent) → AreExtents unit end all from before rs → before % unit ≡ 0 → (p r : ℕ) → p % unit ≡ 0 → r < unit → (spot all rs p).stored ≡ true
      → ((spot all rs p).before % unit ≡ 0) × (spot all rs (p + r) ≡ record { stored = true; before = (spot all rs p).before + r })
  block_in from before [] a b p r w lt st = let z : ⊥ = cc st in absurd z
  block_in from before (q ∷ rs) a b p r w lt st = ⊎_elim
      (λ (h : p < q.start). let z : false ≡ true = subst (λ (s : Spot). s.stored ≡ true) (spot_ahead all q rs p h) st in absurd (let y : ⊥ = cc z in y))
      (λ (h : q.start ≤ p). ⊎_elim
      (λ (k : p < q.start + q.count).
      let is : q.before ≡ before = a.0.1.1.0 in
      let e = spot_inside all q rs p h k in
      let e_before : (spot all (q ∷ rs) p).before ≡ q.before + (p - q.start) = ap (λ (s : Spot). s.before) e in
      let far : p + unit ≤ q.start + q.count = apart unit p (q.start + q.count) w (sum_whole unit q.start q.count a.0.1.1.1.0 a.0.1.1.1.1) k in
      let e2 = spot_inside all q rs (p + r) (omega (arith, h)) (omega (arith, far, lt)) in
      let in_run : (p - q.start) % unit ≡ 0 = rest_whole unit p q.start (p - q.start) w a.0.1.1.1.0 (omega (arith, h)) in
      let first : q.before % unit ≡ 0 = ap (λ x. x % unit) is ∙ b in
      let same : q.before + (p + r - q.start) ≡ (spot all (q ∷ rs) p).before + r = omega (arith, e_before, h) in
      (ap (λ x. x % unit) e_before ∙ sum_whole unit q.before (p - q.start) first in_run, e2 ∙ ap (λ (x : ℕ). record { stored = true; before = x }) same))
      (λ (k : q.start + q.count ≤ p).
      let e = spot_behind all q rs p k in
      let e2 = spot_behind all q rs (p + r) (omega (arith, k)) in
      let st2 : (spot all rs p).stored ≡ true = subst (λ (s : Spot). s.stored ≡ true) e st in
      let ih = block_in (q.start + q.count) (before + q.count) rs a.1 (sum_whole unit before q.count b a.0.1.1.1.1) p r w lt st2 in
      (ap (λ (s : Spot). s.before % unit) e ∙ ih.0, e2 ∙ ih.1 ∙ ap (λ (s : Spot). record { stored = true; before = s.before + r }) (sym e)))
      (cases_lt p (q.start + q.count)))
      (cases_lt p q.start)

  pub block_out : (from before : ℕ) (rs : List Extent) → AreExtents unit end all from before rs → (p r : ℕ) → p % unit ≡ 0 → r < unit → (spot all rs p).stored ≡ false → (spot all rs (p + r)).stored ≡ false
  block_out from before [] a p r w lt st = refl
  block_out from before (q ∷ rs) a p r w lt st = ⊎_elim
      (λ (h : p < q.start). let far : p + unit ≤ q.start = apart unit p q.start w a.0.1.1.1.0 h in ap (λ (s : Spot). s.stored) (spot_ahead all q rs (p + r) (omega (arith, far, lt))))
      (λ (h : q.start ≤ p). ⊎_elim
      (λ (k : p < q.start + q.count). let z : true ≡ false = subst (λ (s : Spot). s.stored ≡ false) (spot_inside all q rs p h k) st in absurd (let y : ⊥ = cc z in y))
      (λ (k : q.start + q.count ≤ p).
      let st2 : (spot all rs p).stored ≡ false = subst (λ (s : Spot). s.stored ≡ false) (spot_behind all q rs p k) st in
      ap (λ (s : Spot). s.stored) (spot_behind all q rs (p + r) (omega (arith, k))) ∙ block_out (q.start + q.count) (before + q.count) rs a.1 p r w lt st2)
      (cases_lt p (q.start + q.count)))
      (cases_lt p q.start)

-- so many units are stored in all
pub stored_whole : (unit end all from before : ℕ) (rs : List Extent) → AreExtents unit end all from before rs → before % unit ≡ 0 → all % unit ≡ 0
stored_whole unit end all from before [] a h = ap (λ x. x % unit) (sym a.1) ∙ h
stored_whole unit end all from before (r ∷ rs) a h = stored_whole unit end all (r.start + r.count) (before + r.count) rs a.1 (sum_whole unit before r.count h a.0.1.1.1.1)

-- what stands in a unit: all of it is stored, or none
pub unit_part : (unit end all from before : ℕ) (rs : List Extent) → AreExtents unit end all from before rs → (p : ℕ) → p % unit ≡ 0
    → IsPart all rs p (record { is_stored = (spot all rs p).stored; before = (spot all rs p).before; count = unit })
unit_part unit end all from before [] a p w = record { kind = λ i lt. refl; reached = λ i le. refl }
unit_part unit end all from before (q ∷ rs) a p w = ⊎_elim
    (λ (h : p < q.start).
    let far : p + unit ≤ q.start = apart unit p q.start w a.0.1.1.1.0 h in
    let e = spot_ahead all q rs p h in
    subst (λ (s : Spot). IsPart all (q ∷ rs) p (record { is_stored = s.stored; before = s.before; count = unit })) (sym e) (record {
      kind = λ i lt. stored_ahead unit end all q rs p i (omega (arith, far, lt));
      reached = λ i le. part_ahead unit end all from before q rs a p i (omega (arith, far, le));
    }))
    (λ (h : q.start ≤ p). ⊎_elim
    (λ (k : p < q.start + q.count).
    let far : p + unit ≤ q.start + q.count = apart unit p (q.start + q.count) w (sum_whole unit q.start q.count a.0.1.1.1.0 a.0.1.1.1.1) k in
    let e = spot_inside all q rs p h k in
    subst (λ (s : Spot). IsPart all (q ∷ rs) p (record { is_stored = s.stored; before = s.before; count = unit })) (sym e) (record {
      kind = λ i lt. stored_inside unit end all q rs p i h (omega (arith, far, lt));
      reached = λ i le. part_inside unit end all from before q rs a p i h (omega (arith, far, le));
    }))
    (λ (k : q.start + q.count ≤ p).
    let next = unit_part unit end all (q.start + q.count) (before + q.count) rs a.1 p w in
    let e = spot_behind all q rs p k in
    subst (λ (s : Spot). IsPart all (q ∷ rs) p (record { is_stored = s.stored; before = s.before; count = unit })) (sym e) (record {
      kind = λ i lt. ap (λ (s : Spot). s.stored) (spot_behind all q rs (p + i) (omega (arith, k))) ∙ next.kind i lt;
      reached = λ i le. ap (λ (s : Spot). s.before) (spot_behind all q rs (p + i) (omega (arith, k))) ∙ next.reached i le;
    }))
    (cases_lt p (q.start + q.count)))
    (cases_lt p q.start)

-- how many bytes are stored before the next unit
pub unit_next : (unit end all : ℕ) (rs : List Extent) → AreExtents unit end all 0 0 rs → (p : ℕ) → p % unit ≡ 0
    → (spot all rs (p + unit)).before ≡ (if (spot all rs p).stored then (spot all rs p).before + unit else (spot all rs p).before)
unit_next unit end all rs a p w = (unit_part unit end all 0 0 rs a p w).reached unit (omega arith)
