-- SPDX-License-Identifier: MIT
use Rattle.std.proofs.Common.{◌≡◌, ℕ, List, [], ◌∷◌, ◌++◌, Result, Ok, Err, refl}
use Rattle.std.specs.Result.{IsOk}
use Rattle.imago_storage.specs.declared.error.Error.{Error}
use Rattle.imago_vmdk.specs.declared.line.Accepted.{Accepted}
use Rattle.imago_vmdk.specs.declared.line.Line.{Line}
use Rattle.imago_vmdk.specs.Line.{◌>>=◌, verdict_of}
use Rattle.imago_vmdk.specs.Reading.{lines_say}
use Rattle.imago_vmdk.proofs.laws.first_fault.Goals as goal

step : (v : Result (Line (List ℕ)) Error) (r s : Result (List (Line (List ℕ))) Error) (e : Error)
    → IsOk (v >>= λ l. r >>= λ ls. Ok (l ∷ ls)) → (IsOk r → s ≡ Err e) → (v >>= λ l. s >>= λ ls. Ok (l ∷ ls)) ≡ Err e
step (Ok l) (Ok ls) s e h k = rw (k refl) refl
step (Ok l) (Err x) s e h k = let z : ⊥ = cc in absurd z
step (Err x) r s e h k = let z : ⊥ = cc in absurd z

first : (accepted : Accepted) (before after : List (List ℕ)) (x : List ℕ) (e : Error) → IsOk (lines_say accepted before) → verdict_of accepted x ≡ Err e → lines_say accepted (before ++ x ∷ after) ≡ Err e
first accepted [] after x e h k = rw k refl
first accepted (b ∷ bs) after x e h k = step (verdict_of accepted b) (lines_say accepted bs) (lines_say accepted (bs ++ x ∷ after)) e h (λ ok. first accepted bs after x e ok k)

pub returns : goal.returns
returns c = first
