-- SPDX-License-Identifier: MIT
use Rattle.std.proofs.Common.{◌≡◌, ℕ, ◌+◌, ◌<◌, ⊎_elim, inl, inr, Bool, false, List, length, refl, sym, ap, ◌∙◌, arith, Result, Ok, Err}
use Rattle.std.specs.Prelude.{slice_index, IfErr, IsErrOf}
use Rattle.imago_storage.specs.declared.error.Error.{Error}
use Rattle.imago_storage.specs.declared.error.Error.TheVariants as E
use Rattle.imago_storage.specs.Error.{IsExtRefusal}
use Rattle.imago_storage.specs.Features.{Features}
use Rattle.imago_storage.specs.Padding.{Wraps}
use Rattle.imago_drivers.specs.Place.{Value, Byte}
use Rattle.imago_drivers.specs.Reasons.{allowed}
use Rattle.imago_drivers.specs.LayerBelow.{LayerBelow}
use Rattle.imago_drivers.specs.Ranges.{HasBytes}
use Rattle.imago_cow.specs.Copies.{old_value, HasOldBytes, old_reasons, copy_reasons}

-- what is written of a copy is what the places showed
pub copied_bytes : (at : ℕ → Value) (absent : Bool) (first now items : List ℕ) (o n to : ℕ) → length items ≡ n → HasOldBytes at absent o items → HasBytes false to (length items) (λ k. slice_index items k) first now
    → (k : ℕ) → k < n → old_value at absent (o + k) ≡ Byte (slice_index now (to + k))
copied_bytes at absent first now items o n to len old put k h =
    let l : k < length items = omega (arith, len, h) in
    let y : slice_index now (to + k) ≡ slice_index items k = ⊎_elim (λ u. u) (λ u. let v = u.0 in let z : ⊥ = cc in absurd z) (put.inside k l) in
    old k l ∙ ap (λ b. Byte b) (sym y)

-- a refusal of the storage is one of the copy
pub ext_refused : (f : Features) (l : LayerBelow) (absent : Bool) (o n m to : ℕ) (r : Result Unit Error) → 0 < n → m ≡ n → IfErr r IsExtRefusal → (IsErrOf r Error.WrapAround → Wraps f to m) → IfErr r (allowed (copy_reasons f l absent o n to))
ext_refused f l absent o n m to (Ok x) some len h wraps = tt
ext_refused f l absent o n m to (Err e) some len h wraps = ⊎_elim (λ w. let t : Wraps f to n = rw len at (wraps (ap (λ x. Err x) w)) in rw w (some, inl (refl, t))) (λ k. ⊎_elim (λ d. rw d tt) (λ m. rw m tt) k) h

-- a refusal of the reading is one of the copy
pub old_refused : (f : Features) (l : LayerBelow) (absent : Bool) (o n to : ℕ) (e : Error) → 0 < n → allowed (old_reasons l absent o n) e → allowed (copy_reasons f l absent o n to) e
old_refused f l absent o n to E.WrapAround some h = (some, inr h)
old_refused f l absent o n to E.InvalidData some h = (some, inr h)
old_refused f l absent o n to E.Unsupported some h = (some, inr h)
old_refused f l absent o n to E.NoAccess some h = (some, inr h)
old_refused f l absent o n to E.Device some h = h
old_refused f l absent o n to E.Memory some h = h
old_refused f l absent o n to E.ReadOnly some h = h
old_refused f l absent o n to E.BeyondDisk some h = h
old_refused f l absent o n to E.RangeOverflow some h = h
old_refused f l absent o n to E.ForeignMapping some h = h
old_refused f l absent o n to E.Denied some h = h
old_refused f l absent o n to E.NotFound some h = h
