-- SPDX-License-Identifier: MIT
use Rattle.std.specs.Prelude.{ℕ, List, [], ◌∷◌}
use Rattle.imago_drivers.specs.Place.{Value, Byte, shown}
use Rattle.imago_access.specs.declared.access.FormatAccess.{FormatAccess, FormatAccess'}
use Rattle.imago_access.specs.declared.access.FormatAccess.{Held-FormatAccess-backing, None', Some'}
use Rattle.imago_qcow2.specs.Entry.{qcow2_place}

-- what a read of each offset gives of a disk that a chain of files says, the top one first; below
-- the last one all is zero
abbrev pub files_value : List (List ℕ) → ℕ → Value
files_value [] p = Byte 0
files_value (bytes ∷ below) p = shown (files_value below) (qcow2_place bytes p)

abbrev mutual
  -- the files of an image's layers, the top one first
  pub files_of : {D : Type 0} → (D → List ℕ) → FormatAccess D → List (List ℕ)
  files_of bytes (FormatAccess' below inner) = bytes inner ∷ files_below bytes below

  pub files_below : {D : Type 0} → (D → List ℕ) → Held-FormatAccess-backing D → List (List ℕ)
  files_below bytes None' = []
  files_below bytes (Some' k x) = files_of bytes x
