-- SPDX-License-Identifier: MIT
use Rattle.std.specs.Prelude.{◌≡◌, ℕ, ◌-◌, ◌<◌, ◌≤◌, List, Result, Ok, Err}
use Rattle.imago_storage.specs.declared.error.Error.{Error}
use Rattle.imago_storage.specs.declared.options.ZeroKind.TheVariants.{Any}
use Rattle.imago_storage.specs.Features.{Features}
use Rattle.imago_storage.specs.IoCount.{IoCount}
use Rattle.imago_storage.specs.Maintenance.{Maintenance, IsDiscarded}
use Rattle.imago_storage.specs.Padding.{aligned_start, aligned_end}
use Rattle.imago_storage.specs.Zeroes.{IsZeroedInParts}

-- the answer of a discard of that part: the part, or the refusal
abbrev pub told_part : ℕ → ℕ → Result Unit Error → Result (ℕ × ℕ) Error
told_part q m (Ok u) = Ok (q, m)
told_part q m (Err e) = Err e

-- The storage's discard of exactly that part was made, and its answer passed on.
pub record HasDiscarded {S : Type 0} (calls : Maintenance S) (q m : ℕ) (old new : S)
    (result : Result (ℕ × ℕ) Error) : Type 0 where
  pub answer : Result Unit Error
  pub made : IsDiscarded calls q m old new answer
  pub passed_on : result ≡ told_part q m answer

-- A discard of a range of a raw image's storage: that of its aligned part, or nothing where it has
-- none.
pub record IsPartDiscarded {S : Type 0} (calls : Maintenance S) (align o n : ℕ) (old new : S)
    (result : Result (ℕ × ℕ) Error) : Type 0 where
  pub some : aligned_start align o < aligned_end align o n
      → HasDiscarded calls (aligned_start align o) (aligned_end align o n - aligned_start align o)
      old new result
  pub none : aligned_end align o n ≤ aligned_start align o → (new ≡ old) × (result ≡ Ok (o, 0))

-- The storage's zero write of exactly that part was made, as a storage makes one in parts, and its
-- answer passed on.
pub record HasPartZeroed {S : Type 0} (features_of : S → Features) (bytes_of : S → List ℕ)
    (calls : Maintenance S) (work_of : S → IoCount) (f : Features) (q m : ℕ) (old new : S)
    (result : Result (ℕ × ℕ) Error) : Type 0 where
  pub answer : Result Unit Error
  pub made : IsZeroedInParts features_of bytes_of calls work_of f Any q m old new answer
  pub passed_on : result ≡ told_part q m answer

-- A zero call on a range of a raw image's storage: the zero write of its aligned part, or nothing
-- where it has none. It has many cases, so proofs open it only where they need it.
unfoldable pub IsPartZeroed : {S : Type 0} → (S → Features) → (S → List ℕ) → Maintenance S
    → (S → IoCount) → Features → ℕ → ℕ → S → S → Result (ℕ × ℕ) Error → Type 0
IsPartZeroed features_of bytes_of calls work_of f o n old new result =
    (aligned_start f.zero_align o < aligned_end f.zero_align o n
    → HasPartZeroed features_of bytes_of calls work_of f (aligned_start f.zero_align o)
    (aligned_end f.zero_align o n - aligned_start f.zero_align o) old new result)
    × (aligned_end f.zero_align o n ≤ aligned_start f.zero_align o → (new ≡ old)
    × (result ≡ Ok (o, 0)))
