-- SPDX-License-Identifier: MIT
use Rattle.std.proofs.Common.{◌≡◌, ℕ, ◌⊎◌, inl, inr, Bool, true, false, Option, Some, None, Result, Ok, Err, subst}
use Rattle.std.specs.Prelude.{IfErr}
use Rattle.std.specs.Borrow.{Bor}
use Rattle.imago_storage.specs.declared.error.Error.{Error}
use Rattle.imago_storage.specs.Error.{IsExtRefusal}
use Rattle.imago_drivers.specs.CallRelations.{Asking}
use Rattle.imago_cow.specs.Copies.{IsOldRead, IsCopyAnswer, IsRefusedBelow}

module _ {B : Type 0} (reads : ℕ → ℕ → Asking B (Unit {0})) where
  -- a read that is refused is one of the layer below
  read_named : (below : Option (Bor B)) (absent : Bool) (o n : ℕ) (e : Error) → IsOldRead reads below absent o n (Err e) → IsRefusedBelow reads below e
  read_named None absent o n e h = let z : ⊥ = cc in absurd z
  read_named (Some b) false o n e h = let z : ⊥ = cc in absurd z
  read_named (Some b) true o n e h = (o, n, h)

  -- what a copy is refused for is the storage's, or the layer's own answer
  pub copy_named : (below : Option (Bor B)) (absent : Bool) (o n : ℕ) (result : Result Unit Error) → IsCopyAnswer reads below absent o n result → IfErr result (λ e. IsExtRefusal e ⊎ IsRefusedBelow reads below e)
  copy_named below absent o n (Ok x) h = tt
  copy_named below absent o n (Err e) (Ok y, old, same, own) = inl own
  copy_named below absent o n (Err e) (Err y, old, is, own) = let same : y ≡ e = cc in inr (subst (λ x. IsRefusedBelow reads below x) same (read_named below absent o n y old))
