-- What an image is that was opened, where only a refusal is told otherwise.
-- SPDX-License-Identifier: MIT
use Rattle.std.proofs.Common.{◌≡◌, Result, Ok, Err, IfOk, refl}
use Rattle.std.specs.Prelude.{MatchResult, IsErr}
use Rattle.imago_images.proofs.NameSteps.{passed_on}

-- what was given is passed on, where the error alone may be another
pub given : {X E F : Type 0} (answer : Result X E) (r : Result X F) (P : X → Type 0)
    → IfOk answer P → MatchResult answer (λ y. r ≡ Ok y) (λ e. IsErr r) → IfOk r P
given answer (Ok x) P h m = passed_on answer (Ok x) x P h m refl
given answer (Err e) P h m = tt
