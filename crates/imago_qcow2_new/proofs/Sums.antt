-- Ranges of clusters, and sums over them.
-- SPDX-License-Identifier: MIT
use Rattle.std.proofs.Common.{◌≡◌, ℕ, zero, suc, ◌+◌, ◌-◌, ◌*◌, ◌%◌, ◌/◌, ◌<◌, ◌≤◌, ⊎_elim, Bool, true, false, nat_lt, List, refl, sym, ap, ◌∙◌, arith}
use Rattle.std.specs.Prelude.{if◌then◌else◌}
use Rattle.std.proofs.lemmas.Bool.{cases_lt}
use Rattle.std.proofs.lemmas.Bool.Decides.{nat_tests}
use Rattle.std.proofs.lemmas.Nat.{div-add-mod', mul-le}
use Rattle.std.proofs.Math.Nat.{mod-lt}
use Rattle.imago_qcow2_check.specs.Sums.{total}
use Rattle.imago_qcow2_check.specs.TallyParts.{between}
use Rattle.imago_qcow2_check.specs.Clusters.{Setting, cluster_count, use_of}
use Rattle.imago_qcow2_check.proofs.RangeSteps.{use_zero, range_use}
use Rattle.imago_qcow2_new.specs.declared.extent.Extent.{Extent}
use Rattle.imago_qcow2_new.specs.Extents.{AreExtents, Spot, spot}
use Rattle.imago_qcow2_new.proofs.Whole.{as_product, times_whole, sum_whole, zero_whole}
use Rattle.imago_qcow2_new.proofs.ExtentSteps.{at_start, at_end, unit_next}

-- products that are less than a unit apart are the same
pub product_is : (unit : ℕ) → 0 < unit → (a b : ℕ) → (a * unit ≤ b * unit) × (b * unit < a * unit + unit) → a ≡ b
product_is unit positive a b (h, k) = ⊎_elim
    (λ (lt : a < b).
    let m : (a + 1) * unit ≤ b * unit = mul-le (a + 1) unit b unit (omega (arith, lt)) (omega arith) in
    let e : (a + 1) * unit ≡ a * unit + unit = omega arith in absurd (omega (arith, m, e, k)))
    (λ (ge : b ≤ a). ⊎_elim
    (λ (gt : b < a).
    let m : (b + 1) * unit ≤ a * unit = mul-le (b + 1) unit a unit (omega (arith, gt)) (omega arith) in
    let e : (b + 1) * unit ≡ b * unit + unit = omega arith in absurd (omega (arith, m, e, h, positive)))
    (λ (le : a ≤ b). omega (arith, ge, le))
    (cases_lt b a))
    (cases_lt a b)

pub quotient_is : (unit : ℕ) → 0 < unit → (x q : ℕ) → q * unit ≤ x → x < q * unit + unit → x / unit ≡ q
quotient_is unit positive x q h k =
    let f : x / unit * unit + x % unit ≡ x = div-add-mod' x unit in
    let m : x % unit < unit = mod-lt x positive in
    ⊎_elim
    (λ (lt : x / unit < q).
    let n : (x / unit + 1) * unit ≤ q * unit = mul-le (x / unit + 1) unit q unit (omega (arith, lt)) (omega arith) in
    let e : (x / unit + 1) * unit ≡ x / unit * unit + unit = omega arith in absurd (omega (arith, n, e, f, m, h)))
    (λ (ge : q ≤ x / unit). ⊎_elim
    (λ (gt : q < x / unit).
    let n : (q + 1) * unit ≤ x / unit * unit = mul-le (q + 1) unit (x / unit) unit (omega (arith, gt)) (omega arith) in
    let e : (q + 1) * unit ≡ q * unit + unit = omega arith in absurd (omega (arith, n, e, f, k)))
    (λ (le : x / unit ≤ q). omega (arith, ge, le))
    (cases_lt q (x / unit)))
    (cases_lt (x / unit) q)

-- 1 for the numbers from one on and before another
pub between_in : (first end n : ℕ) → first ≤ n → n < end → between first end n ≡ 1
between_in first end n h k =
    let a : nat_lt n first ≡ false = grind (arith, nat_tests, h) in
    let b : nat_lt n end ≡ true = grind (arith, nat_tests, k) in
    rw (a, b) refl

between_before : (first end n : ℕ) → n < first → between first end n ≡ 0
between_before first end n h =
    let a : nat_lt n first ≡ true = grind (arith, nat_tests, h) in
    rw a refl

between_behind : (first end n : ℕ) → end ≤ n → between first end n ≡ 0
between_behind first end n h =
    let b : nat_lt n end ≡ false = grind (arith, nat_tests, h) in
    ⊎_elim (λ (k : n < first). between_before first end n k)
    (λ (k : first ≤ n). let a : nat_lt n first ≡ false = grind (arith, nat_tests, k) in rw (a, b) refl)
    (cases_lt n first)

-- two ranges, one behind the other
pub between_both : (a b c n : ℕ) → a ≤ b → b ≤ c → between a b n + between b c n ≡ between a c n
between_both a b c n h k = ⊎_elim
    (λ (i : n < a).
    let x = between_before a b n i in let y = between_before b c n (omega (arith, i, h)) in let z = between_before a c n i in omega (arith, x, y, z))
    (λ (i : a ≤ n). ⊎_elim
    (λ (j : n < b).
    let x = between_in a b n i j in let y = between_before b c n j in let z = between_in a c n i (omega (arith, j, k)) in omega (arith, x, y, z))
    (λ (j : b ≤ n). ⊎_elim
    (λ (m : n < c).
    let x = between_behind a b n j in let y = between_in b c n j m in let z = between_in a c n i m in omega (arith, x, y, z))
    (λ (m : c ≤ n).
    let x = between_behind a b n j in let y = between_behind b c n m in let z = between_behind a c n m in omega (arith, x, y, z))
    (cases_lt n c)) (cases_lt n b)) (cases_lt n a)

pub between_none : (a n : ℕ) → between a a n ≡ 0
between_none a n = ⊎_elim (λ (h : n < a). between_before a a n h) (λ (h : a ≤ n). between_behind a a n h) (cases_lt n a)

pub total_zero : (f : ℕ → ℕ) (n : ℕ) → ((i : ℕ) → i < n → f i ≡ 0) → total f n ≡ 0
unfolding total
total_zero f zero h = refl
total_zero f (suc n) h =
    let x = total_zero f n (λ i lt. h i (omega (arith, lt))) in
    let y = h n (omega arith) in
    omega (arith, x, y)

-- a sum of sums, and one in two parts
pub total_sum : (f g : ℕ → ℕ) (n : ℕ) → total (λ i. f i + g i) n ≡ total f n + total g n
unfolding total
total_sum f g zero = refl
total_sum f g (suc n) = let x = total_sum f g n in omega (arith, x)

pub total_part : (f : ℕ → ℕ) (a n : ℕ) → a ≤ n → ((i : ℕ) → a ≤ i → i < n → f i ≡ 0) → total f n ≡ total f a
unfolding total
total_part f a zero le none = let e : a ≡ 0 = omega (arith, le) in ap (total f) (sym e)
total_part f a (suc n) le none = ⊎_elim
    (λ (lt : n < a). let e : a ≡ suc n = omega (arith, le, lt) in ap (total f) (sym e))
    (λ (ge : a ≤ n). let x = total_part f a n ge (λ i h k. none i h (omega (arith, k))) in let y = none n ge (omega arith) in omega (arith, x, y))
    (cases_lt n a)

-- A sum whose values are ranges, one behind the other, is a range.
pub total_ranges : (f at : ℕ → ℕ) (n count : ℕ) → ((i : ℕ) → i < count → at i ≤ at (i + 1)) → ((i : ℕ) → i < count → f i ≡ between (at i) (at (i + 1)) n)
    → (at 0 ≤ at count) × (total f count ≡ between (at 0) (at count) n)
unfolding total
total_ranges f at n zero grows is = (omega arith, sym (between_none (at 0) n))
total_ranges f at n (suc count) grows is =
    let x = total_ranges f at n count (λ i lt. grows i (omega (arith, lt))) (λ i lt. is i (omega (arith, lt))) in
    let last = grows count (omega arith) in
    let y = is count (omega arith) in
    let e : count + 1 ≡ suc count = omega arith in
    let g : at (count + 1) ≡ at (suc count) = ap at e in
    let z = between_both (at 0) (at count) (at (count + 1)) n x.0 last in
    (omega (arith, x.0, last, g), (let w : total f count + f count ≡ between (at 0) (at (count + 1)) n = omega (arith, x.1, y, z) in w ∙ ap (λ v. between (at 0) v n) g))

pub total_between : (f at : ℕ → ℕ) (n from count : ℕ) → ((i : ℕ) → i < count → at (from + i) ≤ at (from + (i + 1)))
    → ((i : ℕ) → i < count → f i ≡ between (at (from + i)) (at (from + (i + 1))) n) → (at from ≤ at (from + count)) × (total f count ≡ between (at from) (at (from + count)) n)
total_between f at n from count grows is =
    let x = total_ranges f (λ i. at (from + i)) n count grows is in
    let e : from + 0 ≡ from = omega arith in
    let g : at (from + 0) ≡ at from = ap at e in
    (omega (arith, x.0, g), x.1 ∙ ap (λ v. between v (at (from + count)) n) g)

-- The units of a space that are stored, by how many are stored before.
module _ (unit end all : ℕ) (rs : List Extent) (a : AreExtents unit end all 0 0 rs) (positive : 0 < unit) where
  abbrev pub rank : ℕ → ℕ
  rank i = (spot all rs (i * unit)).before / unit

  next : (i : ℕ) → (spot all rs ((i + 1) * unit)).before ≡ (if (spot all rs (i * unit)).stored then (spot all rs (i * unit)).before + unit else (spot all rs (i * unit)).before)
  next i =
      let e : (i + 1) * unit ≡ i * unit + unit = omega arith in
      ap (λ x. (spot all rs x).before) e ∙ unit_next unit end all rs a (i * unit) (times_whole unit i)

  first : (spot all rs (0 * unit)).before ≡ 0
  first = let e : 0 * unit ≡ 0 = omega arith in ap (λ x. (spot all rs x).before) e ∙ at_start unit end all 0 0 rs a

  whole_step : (b : Bool) (x y : ℕ) → y ≡ (if b then x + unit else x) → x % unit ≡ 0 → y % unit ≡ 0
  whole_step true x y e h = ap (λ z. z % unit) e ∙ sum_whole unit x unit h (let f : 1 * unit ≡ unit = omega arith in ap (λ z. z % unit) (sym f) ∙ times_whole unit 1)
  whole_step false x y e h = ap (λ z. z % unit) e ∙ h

  whole : (i : ℕ) → (spot all rs (i * unit)).before % unit ≡ 0
  whole zero = ap (λ z. z % unit) first ∙ zero_whole unit positive
  whole (suc i) =
      let e : (i + 1) * unit ≡ suc i * unit = omega arith in
      ap (λ x. (spot all rs x).before % unit) (sym e) ∙ whole_step (spot all rs (i * unit)).stored (spot all rs (i * unit)).before (spot all rs ((i + 1) * unit)).before (next i) (whole i)

  pub before_is : (i : ℕ) → (spot all rs (i * unit)).before ≡ rank i * unit
  before_is i = as_product unit (spot all rs (i * unit)).before (whole i)

  -- the quotient of a multiple
  quotient : (x q : ℕ) → x ≡ q * unit → x / unit ≡ q
  quotient x q e = quotient_is unit positive x q (omega (arith, e)) (omega (arith, e, positive))

  step : (b : Bool) (x y q : ℕ) → x ≡ q * unit → y ≡ (if b then x + unit else x) → y / unit ≡ (if b then q + 1 else q)
  step true x y q e f = quotient y (q + 1) (let g : (q + 1) * unit ≡ q * unit + unit = omega arith in omega (arith, e, f, g))
  step false x y q e f = quotient y q (f ∙ e)

  pub rank_next : (i : ℕ) → rank (i + 1) ≡ (if (spot all rs (i * unit)).stored then rank i + 1 else rank i)
  rank_next i = step (spot all rs (i * unit)).stored (spot all rs (i * unit)).before (spot all rs ((i + 1) * unit)).before (rank i) (before_is i) (next i)

  grows_by : (b : Bool) (x y : ℕ) → y ≡ (if b then x + 1 else x) → x ≤ y
  grows_by true x y e = omega (arith, e)
  grows_by false x y e = omega (arith, e)

  pub rank_grows : (i : ℕ) → rank i ≤ rank (i + 1)
  rank_grows i = grows_by (spot all rs (i * unit)).stored (rank i) (rank (i + 1)) (rank_next i)

  pub rank_first : rank 0 ≡ 0
  rank_first = quotient (spot all rs (0 * unit)).before 0 (let z : 0 * unit ≡ 0 = omega arith in first ∙ sym z)

  pub rank_all : (i : ℕ) → end ≤ i * unit → rank i * unit ≡ all
  rank_all i h = sym (before_is i) ∙ ap (λ (s : Spot). s.before) (at_end unit end all 0 0 rs a (i * unit) h)

-- What a range uses that begins where a cluster does, and ends in the one before another.
module _ (s : Setting) (positive : 0 < s.cluster) where
  pub use_range : (first stop at count n : ℕ) → at ≡ first * s.cluster → at + count ≤ stop * s.cluster → stop * s.cluster < at + count + s.cluster
      → at + count ≤ cluster_count s * s.cluster → use_of s at count n ≡ between first stop n
  use_range first stop at count n e within near inside = ⊎_elim
      (λ (none : count < 1).
      let z : count ≡ 0 = omega (arith, none) in
      let same : first ≡ stop = product_is s.cluster positive first stop (omega (arith, e, within), omega (arith, e, near, z)) in
      use_zero s at count n z ∙ sym (ap (λ x. between x stop n) same ∙ between_none stop n))
      (λ (some : 1 ≤ count).
      let last : ℕ = stop - 1 in
      let positive_stop : 0 < stop = ⊎_elim (λ (h : stop < 1). let z : stop ≡ 0 = omega (arith, h) in let y : stop * s.cluster ≡ 0 = ap (λ x. x * s.cluster) z ∙ omega arith in absurd (omega (arith, y, within, some)))
      (λ (h : 1 ≤ stop). omega (arith, h)) (cases_lt stop 1) in
      let up : last + 1 ≡ stop = omega (arith, positive_stop) in
      let most : (last + 1) * s.cluster ≡ last * s.cluster + s.cluster = omega arith in
      let top : (last + 1) * s.cluster ≡ stop * s.cluster = ap (λ x. x * s.cluster) up in
      let begins : at / s.cluster ≡ first = quotient_is s.cluster positive at first (omega (arith, e)) (omega (arith, e, positive)) in
      let ends : (at + count - 1) / s.cluster ≡ last = quotient_is s.cluster positive (at + count - 1) last (omega (arith, most, top, near, some)) (omega (arith, most, top, within, some)) in
      sym (range_use s (cluster_count s) at count first last n refl inside (omega (arith, some)) (sym begins) (sym ends)) ∙ ap (λ x. between first x n) up)
      (cases_lt count 1)
