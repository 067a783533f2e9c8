-- The values of a disk that are known, or read.
-- SPDX-License-Identifier: MIT
use Rattle.std.proofs.Common.{◌≡◌, ℕ, ◌+◌, ◌<◌, ◌≤◌, ⊎_elim, Bool, List, length, replicate, slice_index, ap, ◌∙◌, arith}
use Rattle.std.proofs.lemmas.Bool.{cases_lt}
use Rattle.std.proofs.lemmas.List.{get_or_past, get_or-replicate}
use Rattle.std.proofs.lemmas.List.FromFn.{length-map-range_with_len, get_or-map-range_with_len}
use Rattle.imago_drivers.specs.Place.{Value, Byte}
use Rattle.imago_drivers.specs.View.{View}
use Rattle.imago_access.specs.declared.access.FormatAccess.{FormatAccess}
use Rattle.imago_access.specs.Chain.{driver, disk_value}
use Rattle.imago_access.specs.Disk.{disk, value_at, IsPartOf}
use Rattle.imago_access.specs.Resolved.{LeadsToZero}
use Rattle.imago_access.specs.Target.{target}
use Rattle.imago_access.proofs.Targets.{target_shows}
use Rattle.imago_copy.proofs.Copies.{zero_shown}
use Rattle.imago_qcow2_new.specs.Space.{AreZero}

module _ {D St : Type 0} (view : D → View St) (x : FormatAccess D) where
  -- what leads to zeroes shows 0, and so does what lies behind the disk
  pub mapped_zero : (explicit : Bool) (o n : ℕ) → ((i : ℕ) → i < n → LeadsToZero explicit (target view x (o + i))) → AreZero (value_at (disk view x)) o n
  mapped_zero explicit o n h i lt =
      let size : ℕ = (view (driver x)).size in
      let long : length (disk view x) ≡ size = length-map-range_with_len (disk_value view x) 0 size in
      ⊎_elim
      (λ (inside : o + i < size). get_or-map-range_with_len (disk_value view x) 0 size (o + i) (o + i) (Byte 0) inside (omega arith)
      ∙ target_shows view x (o + i) ∙ zero_shown explicit (target view x (o + i)) (h i lt))
      (λ (past : size ≤ o + i). get_or_past (disk view x) (o + i) (Byte 0) (omega (arith, past, long)))
      (cases_lt (o + i) size)

-- values that were read, all of which are 0
pub read_zero : (xs : List Value) (o n m : ℕ) (bytes : List ℕ) → n ≡ m → IsPartOf xs o m bytes → bytes ≡ replicate (length bytes) 0 → AreZero (value_at xs) o n
read_zero xs o n m bytes same part zero i lt =
    let inside : i < m = omega (arith, lt, same) in
    let there : i < length bytes = omega (arith, inside, part.0) in
    part.1 i inside ∙ ap Byte (ap (λ (z : List ℕ). slice_index z i) zero ∙ get_or-replicate (length bytes) i 0 0 there)
