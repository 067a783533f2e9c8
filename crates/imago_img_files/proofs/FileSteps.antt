-- What the bytes of a storage tell of the file of a path.
-- SPDX-License-Identifier: MIT
use Rattle.std.proofs.Common.{ℕ, List, Option, None, Some, IfSome}
use Rattle.imago_storage.specs.Features.{Features}
use Rattle.imago_images.specs.HostBytes.{HasBytes}

module _ {S : Type 0} (features : S → Features) (stored : S → List ℕ)
    (known : Option (List ℕ → List ℕ)) (path : List ℕ) (file : S) where
  -- what holds of a storage's bytes holds of the file of the path
  pub of_file : (P : List ℕ → Type 0) → ((bytes : List ℕ) → HasBytes features stored bytes file → P bytes)
      → IfSome known (λ files. HasBytes features stored (files path) file)
      → IfSome known (λ files. P (files path))
  of_file P h has = each known has
    where
      each : (k : Option (List ℕ → List ℕ))
          → IfSome k (λ files. HasBytes features stored (files path) file)
          → IfSome k (λ files. P (files path))
      each None has = tt
      each (Some files) has = h (files path) has
