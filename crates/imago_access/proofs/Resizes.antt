-- SPDX-License-Identifier: MIT
use Rattle.std.proofs.Common.{◌≡◌, ℕ, ◌<◌, ◌≤◌, List, length, take, min, sym, ap, ◌∙◌, arith, subst, length-take}
use Rattle.std.proofs.lemmas.List.{get_or-take}
use Rattle.std.specs.Prelude.{IsTrue}
use Rattle.imago_drivers.specs.declared.format.PreallocateMode.{PreallocateMode}
use Rattle.imago_drivers.specs.Place.{Value, Byte}
use Rattle.imago_drivers.specs.Resized.{grown_into}
use Rattle.imago_drivers.specs.View.{View}
use Rattle.imago_drivers.specs.Laws.{IsLawful, AreCauses}
use Rattle.imago_access.proofs.Weaker.{and_left}
use Rattle.imago_access.specs.declared.access.FormatAccess.{FormatAccess}
use Rattle.imago_access.specs.Chain.{driver, backing, lent_image, keeps_data}
use Rattle.imago_access.specs.Sizes.{HasGrown, HasShrunk}
use Rattle.imago_access.specs.Disk.{disk, backed_value, value_at, IsExtended, IsSameResize}
use Rattle.imago_access.proofs.DiskLists.{extended_length, extended_before, extended_added}
use Rattle.imago_access.proofs.Flat.{disk_length, value_in_list, shrunk, grown}

module _ {D St : Type 0} (view : D → View St) (lawful : (d : D) → IsLawful (view d)) (causes : (d : D) → AreCauses (view d)) (old new : FormatAccess D) (n : ℕ) where
  cut_of_list : disk view new ≡ take n (disk view old) → HasShrunk view n old new
  cut_of_list e =
      let a : length (disk view old) ≡ (view (driver old)).size = disk_length view old in
      let b : length (disk view new) ≡ (view (driver new)).size = disk_length view new in
      let c : length (disk view new) ≡ length (take n (disk view old)) = ap (λ (zs : List Value). length zs) e in
      let d : length (take n (disk view old)) ≡ min n (length (disk view old)) = length-take n (disk view old) in
      record {
        size = omega arith;
        stays = λ k p lt.
            let inside : p < n = omega arith in
            value_in_list view lawful causes new p ∙ ap (λ (zs : List Value). value_at zs p) e ∙ get_or-take n (disk view old) p (Byte 0) inside ∙ sym (value_in_list view lawful causes old p);
      }

  growth_of_list : (mode : PreallocateMode) → IsExtended mode (backed_value view old) n (disk view old) (disk view new) → HasGrown view mode n old new
  growth_of_list mode h =
      let a : length (disk view old) ≡ (view (driver old)).size = disk_length view old in
      let b : length (disk view new) ≡ (view (driver new)).size = disk_length view new in
      let c = extended_length mode (backed_value view old) n (disk view old) (disk view new) h in
      record {
        size = omega (arith, c);
        stays = λ k p lt.
            let inside : p < length (disk view old) = omega arith in
            value_in_list view lawful causes new p ∙ extended_before mode (backed_value view old) n (disk view old) (disk view new) h p inside ∙ sym (value_in_list view lawful causes old p);
        added = λ k p le lt.
            let past : length (disk view old) ≤ p = omega arith in
            subst (λ (v : Value). grown_into mode (view (driver old)).abilities.takes_backing (lent_image view (backing old)).at p v) (sym (value_in_list view lawful causes new p))
            (extended_added mode (view (driver old)).abilities.takes_backing (lent_image view (backing old)).at n (disk view old) (disk view new) h p past lt);
      }

-- a resize is the same by offset as on lists
pub same_resize : {D St : Type 0} (view : D → View St) → ((d : D) → IsLawful (view d)) → ((d : D) → AreCauses (view d)) → (old new : FormatAccess D) (mode : PreallocateMode) (n : ℕ)
    → IsTrue (keeps_data view old) → IsSameResize view old mode n new
same_resize view lawful causes old new mode n k = record {
  cut = (λ h. shrunk view old new n (and_left _ _ k) h, λ e. cut_of_list view lawful causes old new n e);
  growth = (λ h. grown view old new mode n k h, λ h. growth_of_list view lawful causes old new n mode h);
}
