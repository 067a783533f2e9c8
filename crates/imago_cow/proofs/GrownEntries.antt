-- SPDX-License-Identifier: MIT
use Rattle.std.proofs.Common.{◌≡◌, ℕ, ◌+◌, ◌/◌, ◌%◌, ◌<◌, ⊎_elim, true, false, List, length, take, Option, Some, refl, sym, ap, ◌∙◌, arith}
use Rattle.std.specs.Prelude.{slice_get, slice_set}
use Rattle.std.proofs.lemmas.Bool.{cases_lt}
use Rattle.std.proofs.lemmas.Nat.{div-add-mod'}
use Rattle.imago_drivers.specs.declared.format.PreallocateMode.{PreallocateMode}
use Rattle.imago_drivers.specs.declared.format.PreallocateMode.TheVariants as Mode
use Rattle.imago_cow.specs.declared.table.GuestBlock.{GuestBlock}
use Rattle.imago_cow.specs.Guest.{is_data, IsExact, AreAdded}
use Rattle.imago_cow.specs.Cut.{shows_below, IsCutEntered}
use Rattle.imago_cow.specs.Grown.{IsAddedBy, stays_cut, AddsData, IsCutGrown, AreGrown}
use Rattle.imago_cow.proofs.CommitSteps.{set_other, set_entered}
use Rattle.imago_cow.proofs.WholeSteps.{times_more}
use Rattle.imago_cow.proofs.ResizeSteps.{slice_get_take}
use Rattle.imago_cow.proofs.GrowBounds.{cut_inside}

absent_goes : (mode : PreallocateMode) → (mode ≡ PreallocateMode.None → ⊥) → stays_cut mode (Some GuestBlock.Absent) ≡ true → ⊥
absent_goes Mode.None some e = some refl
absent_goes Mode.Zero some e = let z : ⊥ = cc in z
absent_goes Mode.FormatAllocate some e = let z : ⊥ = cc in z
absent_goes Mode.FullAllocate some e = let z : ⊥ = cc in z
absent_goes Mode.WriteData some e = let z : ⊥ = cc in z

zero_goes : (mode : PreallocateMode) → shows_below mode ≡ true → stays_cut mode (Some GuestBlock.Zero) ≡ true → ⊥
zero_goes Mode.None lower e = let z : ⊥ = cc in z
zero_goes Mode.Zero lower e = let z : ⊥ = cc in z
zero_goes Mode.FormatAllocate lower e = let z : ⊥ = cc in z
zero_goes Mode.FullAllocate lower e = let z : ⊥ = cc in z
zero_goes Mode.WriteData lower e = let z : ⊥ = cc in z

zero_stays : (mode : PreallocateMode) → shows_below mode ≡ false → stays_cut mode (Some GuestBlock.Zero) ≡ false → ⊥
zero_stays Mode.None lower e = let z : ⊥ = cc in z
zero_stays Mode.Zero lower e = let z : ⊥ = cc in z
zero_stays Mode.FormatAllocate lower e = let z : ⊥ = cc in z
zero_stays Mode.FullAllocate lower e = let z : ⊥ = cc in z
zero_stays Mode.WriteData lower e = let z : ⊥ = cc in z

data_stays : (mode : PreallocateMode) (j : ℕ) → stays_cut mode (Some (GuestBlock.Data j)) ≡ false → ⊥
data_stays Mode.None j e = let z : ⊥ = cc in z
data_stays Mode.Zero j e = let z : ⊥ = cc in z
data_stays Mode.FormatAllocate j e = let z : ⊥ = cc in z
data_stays Mode.FullAllocate j e = let z : ⊥ = cc in z
data_stays Mode.WriteData j e = let z : ⊥ = cc in z

module _ (mode : PreallocateMode) (block size : ℕ) (old : List GuestBlock) where
  -- no guest block is cut
  pub cut_whole : size % block ≡ 0 → IsCutGrown mode block size old old
  cut_whole whole = record { stays = λ c s. refl; filled = λ c s. let z : ⊥ = omega (arith, c, whole) in absurd z }

  pub cut_none : mode ≡ PreallocateMode.None → IsCutGrown mode block size old old
  cut_none none = record { stays = λ c s. refl; filled = λ c s. let e : true ≡ false = ap (λ m. stays_cut m (slice_get old (size / block))) (sym none) ∙ s in let z : ⊥ = cc in absurd z }

  pub cut_zero : slice_get old (size / block) ≡ Some GuestBlock.Zero → shows_below mode ≡ false → IsCutGrown mode block size old old
  cut_zero is lower = record { stays = λ c s. refl; filled = λ c s. absurd (zero_stays mode lower (ap (stays_cut mode) (sym is) ∙ s)) }

  pub cut_data : (j : ℕ) → slice_get old (size / block) ≡ Some (GuestBlock.Data j) → IsCutGrown mode block size old old
  cut_data j is = record { stays = λ c s. refl; filled = λ c s. absurd (data_stays mode j (ap (stays_cut mode) (sym is) ∙ s)) }

  -- it was put in a data block
  module _ (new : List GuestBlock) (j : ℕ) (inside : size / block < length old) (put : new ≡ slice_set old (size / block) (GuestBlock.Data j)) where
    there : is_data (slice_get new (size / block)) ≡ true
    there = ap (λ x. is_data (slice_get x (size / block))) put ∙ ap is_data ((set_entered (size / block) j old inside).at)

    pub absent_put : slice_get old (size / block) ≡ Some GuestBlock.Absent → (mode ≡ PreallocateMode.None → ⊥) → IsCutGrown mode block size old new
    absent_put is some = record { stays = λ c s. absurd (absent_goes mode some (ap (stays_cut mode) (sym is) ∙ s)); filled = λ c s. there }

    pub zero_put : slice_get old (size / block) ≡ Some GuestBlock.Zero → shows_below mode ≡ true → IsCutGrown mode block size old new
    zero_put is lower = record { stays = λ c s. absurd (zero_goes mode lower (ap (stays_cut mode) (sym is) ∙ s)); filled = λ c s. there }

added_as : (mode : PreallocateMode) (entry : Option GuestBlock) → (mode ≡ PreallocateMode.None → ⊥) → (shows_below mode ≡ true → is_data entry ≡ true) → (shows_below mode ≡ false → entry ≡ Some GuestBlock.Zero) → IsAddedBy mode entry
added_as Mode.None entry some inside zero = absurd (some refl)
added_as Mode.Zero entry some inside zero = zero refl
added_as Mode.FormatAllocate entry some inside zero = inside refl
added_as Mode.FullAllocate entry some inside zero = inside refl
added_as Mode.WriteData entry some inside zero = inside refl

module _ (block size : ℕ) (old : List GuestBlock) (positive : 0 < block) (exact : IsExact size block old) where
  -- guest blocks before the end have entries
  before_end : (i : ℕ) → i < size / block → i < length old
  before_end i h = ⊎_elim
      (λ under. under)
      (λ over. let x = times_more block (length old + 1) (size / block) (omega (arith, over, h)) in absurd (omega (arith, x, exact.covers, div-add-mod' size block, positive)))
      (cases_lt i (length old))

  -- the cut one was filled, and others were added
  pub grown_blocks : (mode : PreallocateMode) (mid new : List GuestBlock) → (mode ≡ PreallocateMode.None → ⊥) → IsCutEntered block size old mid → length mid ≡ length old → IsCutGrown mode block size old mid → take (length mid) new ≡ mid
      → (shows_below mode ≡ true → AddsData mid new) → (shows_below mode ≡ false → AreAdded GuestBlock.Zero mid new) → AreGrown mode block size old new
  grown_blocks mode mid new some entered len cut prefix inside zero =
      let kept : (i : ℕ) → i < length old → slice_get new i ≡ slice_get mid i = λ i h. sym (slice_get_take new (length mid) i (omega (arith, h, len))) ∙ ap (λ x. slice_get x i) prefix in
      record {
        kept = λ i h. kept i (before_end i h) ∙ ⊎_elim
            (λ same. ap (λ x. slice_get x i) same)
            (λ taken. ap (λ x. slice_get x i) taken.entries ∙ set_other old (size / block) i (GuestBlock.Data taken.number) (λ e. omega (arith, e, h)))
            entered;
        cut = record {
          stays = λ c s. kept (size / block) (cut_inside block size old positive exact c) ∙ cut.stays c s;
          filled = λ c s. ap is_data (kept (size / block) (cut_inside block size old positive exact c)) ∙ cut.filled c s;
        };
        added = λ i h l. added_as mode (slice_get new i) some (λ t. inside t i (omega (arith, h, len)) l) (λ t. (zero t).added i (omega (arith, h, len)) l);
      }

  -- absent ones were added
  pub grown_empty : (mode : PreallocateMode) (new : List GuestBlock) → mode ≡ PreallocateMode.None → AreAdded GuestBlock.Absent old new → AreGrown mode block size old new
  grown_empty mode new none added = rw none (record {
    kept = λ i h. added.kept i (before_end i h);
    cut = record {
      stays = λ c s. added.kept (size / block) (cut_inside block size old positive exact c);
      filled = λ c s. let z : ⊥ = cc in absurd z;
    };
    added = λ i h l. added.added i h l;
  })
