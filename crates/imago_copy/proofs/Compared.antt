-- Parts of two disks, compared.
-- SPDX-License-Identifier: MIT
use Rattle.std.proofs.Common.{◌≡◌, ℕ, ◌+◌, ◌-◌, ◌<◌, ◌≤◌, ◌⊎◌, ⊎_elim, true, false, refl, List, length, slice_index, Option, Some, None, sym, ap, ◌∙◌, subst, arith, Result, Ok}
use Rattle.std.specs.Prelude.{IsTrue, IfOk, OnOk, Err, is_some}
use Rattle.imago_storage.specs.declared.error.Error.{Error}
use Rattle.std.proofs.lemmas.Bool.{cases_lt}
use Rattle.std.proofs.lemmas.List.{get_or_past}
use Rattle.std.proofs.lemmas.List.FromFn.{length-map-range_with_len, get_or-map-range_with_len}
use Rattle.imago_drivers.specs.Place.{Value, Byte, Unreadable, HasValues}
use Rattle.imago_drivers.specs.View.{View}
use Rattle.imago_access.specs.declared.access.FormatAccess.{FormatAccess}
use Rattle.imago_access.specs.Chain.{driver, disk_value, tells_bytes}
use Rattle.imago_access.specs.Disk.{value_at, disk, IsPartOf}
use Rattle.imago_copy.specs.Differences.{IsFirstDifference, IsFirstDifferentValue}
use Rattle.imago_copy.specs.Compared.{AreSameIn, IsZeroIn, IsDifferenceIn}
use Rattle.imago_copy.specs.declared.runs.Run.{Run}
use Rattle.imago_copy.specs.Ends.{AreZeroBehind}
use Rattle.imago_copy.specs.RestOf.{IsAtHand}

abbrev byte_in : Value → ℕ
byte_in (Byte b) = b
byte_in (Unreadable e) = 0

module _ (xs ys : List Value) (at n m : ℕ) (l r : List ℕ) where
  -- where two buffers are the same, so are the disks that they were read from
  same_at : IsPartOf xs at n l → IsPartOf ys at m r → n ≡ m → (k j : ℕ) → at + j ≡ k → j < n → slice_index l j ≡ slice_index r j → value_at xs k ≡ value_at ys k
  same_at h g e k j is lt same =
      let there : j < m = omega (arith, lt, e) in
      ap (value_at xs) (sym is) ∙ h.1 j lt ∙ ap Byte same ∙ sym (g.1 j there) ∙ ap (value_at ys) is

  pub alike : IsPartOf xs at n l → IsPartOf ys at m r → n ≡ m → IsFirstDifference l r None → AreSameIn xs ys at (at + n)
  alike h g e same k from to = same_at h g e k (k - at) (omega (arith, from)) (omega (arith, from, to)) (same (k - at))

  pub unlike : (i : ℕ) → IsPartOf xs at n l → IsPartOf ys at m r → n ≡ m → i < length l → IsFirstDifference l r (Some i) → IsDifferenceIn xs ys at n (Some (at + i))
  unlike i h g e inside first =
      let here : i < n = omega (arith, inside, h.0) in
      let there : i < m = omega (arith, here, e) in (
        (λ k from to. same_at h g e k (k - at) (omega (arith, from)) (omega (arith, from, to, here)) (first.0 (k - at) (omega (arith, from, to)))),
        omega (arith, here),
        (λ same. first.1 (ap byte_in (sym (h.1 i here) ∙ same ∙ g.1 i there))),
      )

module _ {D St : Type 0} (view : D → View St) (x : FormatAccess D) where
  abbrev size : ℕ
  size = (view (driver x)).size

  listed : length (disk view x) ≡ size
  listed = length-map-range_with_len (disk_value view x) 0 size

  -- the value at an offset of a disk
  value_in : (k : ℕ) → k < size → value_at (disk view x) k ≡ disk_value view x k
  value_in k lt = get_or-map-range_with_len (disk_value view x) 0 size k k (Byte 0) lt (omega arith)

  -- behind its end it is 0
  pub zero_behind : (k : ℕ) → size ≤ k → value_at (disk view x) k ≡ Byte 0
  zero_behind k le = get_or_past (disk view x) k (Byte 0) (omega (arith, le, listed))

  -- what is zero behind the data of a run that ends inside the disk
  pub zero_tail : (p m n q : ℕ) → AreZeroBehind (disk_value view x) p m n → p + n ≤ q → q ≤ size → IsZeroIn (disk view x) (p + m) (p + n)
  zero_tail p m n q h end inside k from to =
      let i : ℕ = k - p in
      let here : p + i ≡ k = omega (arith, from) in
      let within : k < size = omega (arith, to, end, inside) in
      let behind : m ≤ i = omega (arith, from) in
      let before : i < n = omega (arith, from, to) in
      value_in k within ∙ ap (disk_value view x) (sym here) ∙ h i behind before

  -- nothing but zeroes is behind the end
  pub zero_end : (p q : ℕ) → size ≤ p → IsZeroIn (disk view x) p q
  zero_end p q le k from to = zero_behind k (omega (arith, le, from))

module _ {D St : Type 0} (view : D → View St) (x : FormatAccess D) where
  -- the run at hand, where one is
  pub at_hand : (p end : ℕ) (held : Option Run) (run : Run) → held ≡ Some run → IsAtHand view x p end held → IsAtHand view x p end (Some run)
  at_hand p end held run is h = subst (IsAtHand view x p end) is h

  -- values that were read of the disk, as a part of its list
  pub part_read : (y : FormatAccess D) (o p n : ℕ) (buf : List ℕ) (result : Result Unit Error) → y ≡ x → o ≡ p → length buf ≡ n → p + n ≤ (view (driver x)).size
      → (IsTrue (tells_bytes view y) → OnOk result (HasValues (disk_value view y) o buf)) → IsTrue (tells_bytes view x) → OnOk result (IsPartOf (disk view x) p n buf)
  part_read y o p n buf (Err e) same at long inside read tells = tt
  part_read y o p n buf (Ok u) same at long inside read tells =
      let values : HasValues (disk_value view x) p buf = subst (λ (q : ℕ). HasValues (disk_value view x) q buf) at
      (subst (λ (z : FormatAccess D). IsTrue (tells_bytes view z) → HasValues (disk_value view z) o buf) same read tells) in (
        long,
        λ k lt.
            let here : p + k < (view (driver x)).size = omega (arith, lt, inside) in
            let there : k < length buf = omega (arith, lt, long) in
            value_in view x (p + k) here ∙ values k there,
      )

-- what is the same up to an offset, and in a part from there on, is the same up to its end
pub same_further : (xs ys : List Value) (p n q : ℕ) → AreSameIn xs ys 0 p → AreSameIn xs ys p (p + n) → q ≤ p + n → AreSameIn xs ys 0 q
same_further xs ys p n q before here to k from lt = ⊎_elim
    (λ (below : k < p). before k from below)
    (λ (above : p ≤ k). here k above (omega (arith, lt, to)))
    (cases_lt k p)

-- what is at hand ended where the next run begins
pub ends_at : (p end at : ℕ) → (end ≡ at) ⊎ (end ≡ 18446744073709551615) → p ≤ end → end ≤ p → p < 18446744073709551615 → at ≡ p
ends_at p end at h le ge lt = ⊎_elim (λ (e : end ≡ at). omega (arith, e, le, ge)) (λ (e : end ≡ 18446744073709551615). absurd (omega (arith, e, ge, lt))) h

module _ {D E St Tt : Type 0} (view : D → View St) (other : E → View Tt) (x : FormatAccess D) (y : FormatAccess E) where
  -- disks that are the same up to the end of the longer one are the same
  pub all_same : (p : ℕ) → (view (driver x)).size ≤ p → (other (driver y)).size ≤ p → AreSameIn (disk view x) (disk other y) 0 p → IsFirstDifferentValue (disk view x) (disk other y) None
  all_same p one two same k = ⊎_elim
      (λ (lt : k < p). same k (omega arith) lt)
      (λ (le : p ≤ k). zero_behind view x k (omega (arith, one, le)) ∙ sym (zero_behind other y k (omega (arith, two, le))))
      (cases_lt k p)

  -- no difference of two readers' images is one of none
  pub found_none : (a : FormatAccess D) (b : FormatAccess E) (p n m : ℕ) (result : Result (Option ℕ) Error) (found : Option ℕ) → a ≡ x → b ≡ y → result ≡ Ok found → found ≡ None
      → (IsTrue (tells_bytes view a) → IsTrue (tells_bytes other b) → IfOk result (λ f. IsDifferenceIn (disk view a) (disk other b) p m f)) → m ≡ n
      → IsTrue (tells_bytes view x) → IsTrue (tells_bytes other y) → AreSameIn (disk view x) (disk other y) p (p + n)
  found_none a b p n m result found left right ok none h long =
      let all : result ≡ Ok None = ok ∙ ap (λ (f : Option ℕ). Ok f) none in
      let one = subst (λ (r : Result (Option ℕ) Error). IsTrue (tells_bytes view a) → IsTrue (tells_bytes other b) → IfOk r (λ f. IsDifferenceIn (disk view a) (disk other b) p m f)) all h in
      let two = subst (λ (z : FormatAccess D). IsTrue (tells_bytes view z) → IsTrue (tells_bytes other b) → AreSameIn (disk view z) (disk other b) p (p + m)) left one in
      let three = subst (λ (z : FormatAccess E). IsTrue (tells_bytes view x) → IsTrue (tells_bytes other z) → AreSameIn (disk view x) (disk other z) p (p + m)) right two in
      subst (λ (k : ℕ). IsTrue (tells_bytes view x) → IsTrue (tells_bytes other y) → AreSameIn (disk view x) (disk other y) p (p + k)) long three

  -- a difference of two images that were read is their first one
  pub found_some : (a : FormatAccess D) (b : FormatAccess E) (p m : ℕ) (result : Result (Option ℕ) Error) (found : Option ℕ) → a ≡ x → b ≡ y → result ≡ Ok found → is_some found ≡ true
      → (IsTrue (tells_bytes view a) → IsTrue (tells_bytes other b) → IfOk result (λ f. IsDifferenceIn (disk view a) (disk other b) p m f))
      → (IsTrue (tells_bytes view x) → IsTrue (tells_bytes other y) → AreSameIn (disk view x) (disk other y) 0 p)
      → IsTrue (tells_bytes view x) → IsTrue (tells_bytes other y) → IsFirstDifferentValue (disk view x) (disk other y) found
  found_some a b p m result None left right ok some h before told told_other = let z : ⊥ = cc some in absurd z
  found_some a b p m result (Some q) left right ok some h before told told_other =
      let one = subst (λ (r : Result (Option ℕ) Error). IsTrue (tells_bytes view a) → IsTrue (tells_bytes other b) → IfOk r (λ f. IsDifferenceIn (disk view a) (disk other b) p m f)) ok h in
      let two = subst (λ (z : FormatAccess D). IsTrue (tells_bytes view z) → IsTrue (tells_bytes other b) → IsDifferenceIn (disk view z) (disk other b) p m (Some q)) left one in
      let three = subst (λ (z : FormatAccess E). IsTrue (tells_bytes view x) → IsTrue (tells_bytes other z) → IsDifferenceIn (disk view x) (disk other z) p m (Some q)) right two in
      let found = three told told_other in
      let least : (k : ℕ) → 0 ≤ k = λ k. omega arith in
      (λ k lt. ⊎_elim (λ (below : k < p). before told told_other k (least k) below) (λ (above : p ≤ k). found.0 k above lt) (cases_lt k p), found.2)

-- what is the same up to an offset, and zero in both from there on, is the same up to where that ends
pub same_zeroes : (xs ys : List Value) (p a b q : ℕ) → AreSameIn xs ys 0 p → IsZeroIn xs p a → IsZeroIn ys p b → q ≤ a → q ≤ b → AreSameIn xs ys 0 q
same_zeroes xs ys p a b q before one two to_a to_b k from lt = ⊎_elim
    (λ (below : k < p). before k from below)
    (λ (above : p ≤ k). one k above (omega (arith, lt, to_a)) ∙ sym (two k above (omega (arith, lt, to_b))))
    (cases_lt k p)

pub none_of : (o : Option ℕ) → is_some o ≡ false → o ≡ None
none_of None h = refl
none_of (Some n) h = let z : ⊥ = cc h in absurd z
