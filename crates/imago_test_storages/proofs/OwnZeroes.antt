-- Whether a zero write is unsupported.
-- SPDX-License-Identifier: MIT
use Rattle.std.proofs.Common.{◌≡◌, ◌≢◌, ◌⊎◌, inl, inr, refl, Result, Ok, Err}
use Rattle.imago_storage.specs.declared.error.Error.{Error}
use Rattle.imago_storage.specs.declared.error.Error.TheVariants as E

-- an answer is the refusal as unsupported, or another one
pub unsupported_or_not : (r : Result (Unit {0}) Error) → (r ≡ Err Error.Unsupported) ⊎ (r ≢ Err Error.Unsupported)
unsupported_or_not (Err E.Unsupported) = inl refl
unsupported_or_not (Ok x) = inr (λ e. let z : ⊥ = cc in z)
unsupported_or_not (Err E.ReadOnly) = inr (λ e. let z : ⊥ = cc in z)
unsupported_or_not (Err E.BeyondDisk) = inr (λ e. let z : ⊥ = cc in z)
unsupported_or_not (Err E.RangeOverflow) = inr (λ e. let z : ⊥ = cc in z)
unsupported_or_not (Err E.WrapAround) = inr (λ e. let z : ⊥ = cc in z)
unsupported_or_not (Err E.InvalidData) = inr (λ e. let z : ⊥ = cc in z)
unsupported_or_not (Err E.NoAccess) = inr (λ e. let z : ⊥ = cc in z)
unsupported_or_not (Err E.Device) = inr (λ e. let z : ⊥ = cc in z)
unsupported_or_not (Err E.Memory) = inr (λ e. let z : ⊥ = cc in z)
unsupported_or_not (Err E.ForeignMapping) = inr (λ e. let z : ⊥ = cc in z)
unsupported_or_not (Err E.Denied) = inr (λ e. let z : ⊥ = cc in z)
unsupported_or_not (Err E.NotFound) = inr (λ e. let z : ⊥ = cc in z)
