-- What is stored once extents have grown.
-- SPDX-License-Identifier: MIT
use Rattle.std.proofs.Common.{◌≡◌, ℕ, zero, suc, ◌+◌, ◌-◌, ◌*◌, ◌/◌, ◌%◌, ◌<◌, ◌≤◌, ◌⊎◌, ⊎_elim, inl, inr, Bool, true, false, not, List, [], ◌∷◌, ◌++◌, length, set, get_or, refl, sym, ap, subst, ◌∙◌, arith}
use Rattle.std.specs.Prelude.{max, slice_index}
use Rattle.std.specs.Int.{next_multiple_of}
use Rattle.std.proofs.lemmas.Bool.{cases_lt}
use Rattle.std.proofs.lemmas.Nat.{div-add-mod'}
use Rattle.imago_storage.proofs.Padding.{next_multiple, next_below}
use Rattle.imago_drivers.specs.Place.{Value, HasValues}
use Rattle.imago_access.specs.Disk.{value_at, IsPartOf}
use Rattle.imago_qcow2_new.specs.declared.extent.Extent.{Extent}
use Rattle.imago_qcow2_new.specs.declared.extents.Extents.{Extents}
use Rattle.imago_qcow2_new.specs.Extents.{AreExtents, Spot, spot}
use Rattle.imago_qcow2_new.specs.Space.{stores, StoresMore, HasData, StoresData}
use Rattle.imago_qcow2_new.proofs.Whole.{apart, times_whole}
use Rattle.imago_qcow2_new.proofs.ExtentSteps.{spot_cases, spot_inside, spot_behind, ends}
use Rattle.imago_qcow2_new.proofs.Sums.{quotient_is}

-- an offset of extents is stored
abbrev pub has : ℕ → List Extent → ℕ → Bool
has all rs p = (spot all rs p).stored

of : (s t : Spot) → s ≡ t → s.stored ≡ t.stored
of s t e = ap (λ (x : Spot). x.stored) e

not_stored : {A : Type 0} → false ≡ true → A
not_stored f = let z : ⊥ = cc f in absurd z

module _ (all one : ℕ) where
  -- one extent more
  pub more_kept : (rs : List Extent) (r : Extent) (p : ℕ) → has all rs p ≡ true → has one (rs ++ r ∷ []) p ≡ true
  more_kept [] r p = λ f. not_stored f
  more_kept (q ∷ rs) r p = spot_cases all q rs p (λ s. s.stored ≡ true → has one (q ∷ (rs ++ r ∷ [])) p ≡ true)
      (λ h f. not_stored f)
      (λ h k f. of _ _ (spot_inside one q (rs ++ r ∷ []) p h k))
      (λ h f. of _ _ (spot_behind one q (rs ++ r ∷ []) p h) ∙ more_kept rs r p f)

  pub more_added : (unit end from before : ℕ) (rs : List Extent) → AreExtents unit end all from before rs → (r : Extent) → end ≤ r.start
      → (p : ℕ) → r.start ≤ p → p < r.start + r.count → has one (rs ++ r ∷ []) p ≡ true
  more_added unit end from before [] a r far p h k = of _ _ (spot_inside one r [] p h k)
  more_added unit end from before (q ∷ rs) a r far p h k =
      let e = ends unit end all (q.start + q.count) (before + q.count) rs a.1 in
      of _ _ (spot_behind one q (rs ++ r ∷ []) p (omega (arith, e, far, h))) ∙ more_added unit end (q.start + q.count) (before + q.count) rs a.1 r far p h k

  pub more_only : (rs : List Extent) (r : Extent) (p : ℕ) → has one (rs ++ r ∷ []) p ≡ true → (has all rs p ≡ true) ⊎ ((r.start ≤ p) × (p < r.start + r.count))
  more_only [] r p = spot_cases one r [] p (λ s. s.stored ≡ true → (has all [] p ≡ true) ⊎ ((r.start ≤ p) × (p < r.start + r.count)))
      (λ h f. not_stored f) (λ h k f. inr (h, k)) (λ h f. not_stored f)
  more_only (q ∷ rs) r p = spot_cases one q (rs ++ r ∷ []) p (λ s. s.stored ≡ true → (has all (q ∷ rs) p ≡ true) ⊎ ((r.start ≤ p) × (p < r.start + r.count)))
      (λ h f. not_stored f)
      (λ h k f. inl (of _ _ (spot_inside all q rs p h k)))
      (λ h f. ⊎_elim (λ (x : has all rs p ≡ true). inl (of _ _ (spot_behind all q rs p h) ∙ x)) (λ (x : (r.start ≤ p) × (p < r.start + r.count)). inr x) (more_only rs r p f))

  -- a longer last extent
  abbrev pub longer : List Extent → ℕ → Extent → ℕ → List Extent
  longer rs n d more = set rs n (record (get_or rs n d) { count = (get_or rs n d).count + more })

  pub longer_kept : (rs : List Extent) (n : ℕ) (d : Extent) → suc n ≡ length rs → (more p : ℕ) → has all rs p ≡ true → has one (longer rs n d more) p ≡ true
  longer_kept [] n d l more p = λ f. not_stored f
  longer_kept (q ∷ []) zero d l more p = spot_cases all q [] p (λ s. s.stored ≡ true → has one (record q { count = q.count + more } ∷ []) p ≡ true)
      (λ h f. not_stored f)
      (λ h k f. of _ _ (spot_inside one (record q { count = q.count + more }) [] p h (omega (arith, k))))
      (λ h f. not_stored f)
  longer_kept (q ∷ r ∷ rs) zero d l more p = absurd (omega (arith, l))
  longer_kept (q ∷ rs) (suc n) d l more p = spot_cases all q rs p (λ s. s.stored ≡ true → has one (q ∷ longer rs n d more) p ≡ true)
      (λ h f. not_stored f)
      (λ h k f. of _ _ (spot_inside one q (longer rs n d more) p h k))
      (λ h f. of _ _ (spot_behind one q (longer rs n d more) p h) ∙ longer_kept rs n d (omega (arith, l)) more p f)

  pub longer_added : (unit end from before : ℕ) (rs : List Extent) → AreExtents unit end all from before rs → (n : ℕ) (d : Extent) → suc n ≡ length rs
      → (more p : ℕ) → end ≤ p → p < end + more → has one (longer rs n d more) p ≡ true
  longer_added unit end from before [] a n d l more p h k = absurd (omega (arith, l))
  longer_added unit end from before (q ∷ []) a zero d l more p h k =
      of _ _ (spot_inside one (record q { count = q.count + more }) [] p (omega (arith, a.1.0, h)) (omega (arith, a.1.0, k)))
  longer_added unit end from before (q ∷ r ∷ rs) a zero d l more p h k = absurd (omega (arith, l))
  longer_added unit end from before (q ∷ rs) a (suc n) d l more p h k =
      let e = ends unit end all (q.start + q.count) (before + q.count) rs a.1 in
      of _ _ (spot_behind one q (longer rs n d more) p (omega (arith, e, h)))
      ∙ longer_added unit end (q.start + q.count) (before + q.count) rs a.1 n d (omega (arith, l)) more p h k

  pub longer_only : (unit end from before : ℕ) (rs : List Extent) → AreExtents unit end all from before rs → (n : ℕ) (d : Extent) → suc n ≡ length rs
      → (more p : ℕ) → has one (longer rs n d more) p ≡ true → (has all rs p ≡ true) ⊎ ((end ≤ p) × (p < end + more))
  longer_only unit end from before [] a n d l more p = absurd (omega (arith, l))
  longer_only unit end from before (q ∷ []) a zero d l more p =
      spot_cases one (record q { count = q.count + more }) [] p (λ s. s.stored ≡ true → (has all (q ∷ []) p ≡ true) ⊎ ((end ≤ p) × (p < end + more)))
      (λ h f. not_stored f)
      (λ h k f. ⊎_elim
      (λ (i : p < q.start + q.count). inl (of _ _ (spot_inside all q [] p h i)))
      (λ (i : q.start + q.count ≤ p). inr (omega (arith, a.1.0, i), omega (arith, a.1.0, k)))
      (cases_lt p (q.start + q.count)))
      (λ h f. not_stored f)
  longer_only unit end from before (q ∷ r ∷ rs) a zero d l more p = absurd (omega (arith, l))
  longer_only unit end from before (q ∷ rs) a (suc n) d l more p =
      spot_cases one q (longer rs n d more) p (λ s. s.stored ≡ true → (has all (q ∷ rs) p ≡ true) ⊎ ((end ≤ p) × (p < end + more)))
      (λ h f. not_stored f)
      (λ h k f. inl (of _ _ (spot_inside all q rs p h k)))
      (λ h f. ⊎_elim
      (λ (x : has all rs p ≡ true). inl (of _ _ (spot_behind all q rs p h) ∙ x))
      (λ (x : (end ≤ p) × (p < end + more)). inr x)
      (longer_only unit end (q.start + q.count) (before + q.count) rs a.1 n d (omega (arith, l)) more p f))

-- what can't be false is true
pub either_way : (b : Bool) → (b ≡ false → ⊥) → b ≡ true
either_way true f = refl
either_way false f = absurd (f refl)

pub was_not : (b : Bool) → not b ≡ true → b ≡ false
was_not true e = not_stored e
was_not false e = refl

-- what is stored where nothing is
pub none_stored : (e : Extents) (values : ℕ → Value) → e.extents.items ≡ [] → StoresData e values
none_stored e values none = λ p st.
    let same : has e.stored e.extents.items p ≡ has e.stored [] p = ap (λ (xs : List Extent). has e.stored xs p) none in
    not_stored (sym same ∙ st)

-- what a read gives
pub part_values : (xs : List Value) (at n : ℕ) (bytes : List ℕ) → IsPartOf xs at n bytes → HasValues (value_at xs) at bytes
part_values xs at n bytes part k lt = let e = part.0 in part.1 k (omega (arith, e, lt))

-- the bytes of one unit, which are those up to the next multiple of it
pub same_unit : (unit at n p : ℕ) → 0 < unit → at % unit + n ≤ unit → at - at % unit ≤ p → p < next_multiple_of (at + n) unit → p / unit ≡ at / unit
same_unit unit at n p positive inside h k =
    let f : at / unit * unit + at % unit ≡ at = div-add-mod' at unit in
    let w : next_multiple_of (at + n) unit % unit ≡ 0 = next_multiple (at + n) unit positive in
    let b : next_multiple_of (at + n) unit < at + n + unit = next_below (at + n) unit positive in
    let e : (at / unit + 1) * unit ≡ at / unit * unit + unit = omega arith in
    let v : (at / unit + 1) * unit % unit ≡ 0 = times_whole unit (at / unit + 1) in
    ⊎_elim
    (λ (lt : (at / unit + 1) * unit < next_multiple_of (at + n) unit).
    let far : (at / unit + 1) * unit + unit ≤ next_multiple_of (at + n) unit = apart unit ((at / unit + 1) * unit) (next_multiple_of (at + n) unit) v w lt in
    absurd (omega (arith, far, e, b, f, inside)))
    (λ (ge : next_multiple_of (at + n) unit ≤ (at / unit + 1) * unit).
    quotient_is unit positive p (at / unit) (omega (arith, f, h)) (omega (arith, e, k, ge)))
    (cases_lt ((at / unit + 1) * unit) (next_multiple_of (at + n) unit))

pub in_unit : (unit at i n : ℕ) → 0 < unit → at % unit + n ≤ unit → i < n → (at + i) / unit ≡ at / unit
in_unit unit at i n positive inside lt =
    let f : at / unit * unit + at % unit ≡ at = div-add-mod' at unit in
    quotient_is unit positive (at + i) (at / unit) (omega (arith, f)) (omega (arith, f, inside, lt))

-- units are stored in which a byte isn't 0, once bytes of one unit are found to have such a byte
pub looked : (values : ℕ → Value) (old new : Extents) (at : ℕ) (source : List ℕ) → 0 < old.unit → at % old.unit + length source ≤ old.unit → new.unit ≡ old.unit
    → StoresMore old new (max old.end (at - at % old.unit)) (next_multiple_of (at + length source) old.unit)
    → (i : ℕ) × (i < length source) × (0 < slice_index source i) → HasValues values at source → StoresData old values → StoresData new values
looked values old new at source positive inside same more (i, lt, some) shows known = λ p st.
    subst (λ (u : ℕ). HasData u values p) (sym same) (⊎_elim
    (λ (was : stores old p ≡ true). known p was)
    (λ (there : (max old.end (at - at % old.unit) ≤ p) × (p < next_multiple_of (at + length source) old.unit)).
    let near : p / old.unit ≡ at / old.unit = same_unit old.unit at (length source) p positive inside (let h = there.0 in omega (arith, h)) there.1 in
    (at + i, slice_index source i, in_unit old.unit at i (length source) positive inside lt ∙ sym near, shows i lt, some))
    (more.only p st))
