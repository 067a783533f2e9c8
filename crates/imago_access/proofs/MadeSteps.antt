-- SPDX-License-Identifier: MIT
use Rattle.std.proofs.Common.{◌≡◌, ℕ, Bool, true, false, ◌+◌, ◌-◌, ◌<◌, ◌≤◌, inl, inr, List, [], ◌∷◌, length, take, drop, refl, sym, subst, arith, length-drop, Result, Ok, Err}
use Rattle.std.proofs.lemmas.List.{take_all}
use Rattle.imago_storage.specs.declared.error.Error.{Error}
use Rattle.imago_drivers.specs.View.{View}
use Rattle.imago_drivers.specs.LayerBelow.{LayerBelow}
use Rattle.imago_drivers.specs.CallRelations.{Calls}
use Rattle.imago_access.specs.declared.access.FormatAccess.{FormatAccess}
use Rattle.imago_access.specs.Chain.{driver, backing, lent_image}
use Rattle.imago_access.specs.Lending.{with_driver}
use Rattle.imago_access.specs.Performed.{Part, IsMadeInParts, IsFilledBy, IsThroughBy, IsFirstBy, rest_by}
use Rattle.imago_access.proofs.Images.{driver_with}

-- the calls for n, in whatever parts
abbrev pub MadeFrom : {D : Type 0} → Part D → ℕ → ℕ → D → D → Result Unit Error → Type 0
MadeFrom made n c old new result = (parts : List ℕ) × IsMadeInParts made n c parts old new result

module _ {D : Type 0} (made : Part D) (n : ℕ) (old : D) where
  -- what is made behind the first c is made of the whole, after what was made of these
  abbrev pub GoesOn : ℕ → D → Type 0
  GoesOn c mid = (new : D) (result : Result Unit Error) → MadeFrom made n c mid new result → MadeFrom made n 0 old new result

  pub made_none : GoesOn 0 old
  made_none = λ new result x. x

  module _ (mid new : D) (c : ℕ) (sofar : GoesOn c mid) where
    pub made_more : (m : ℕ) → c < n → 0 < m → made c mid new (Ok m) → GoesOn (c + m) new
    made_more m lt some h = λ last result x. sofar last result (m ∷ x.0, (lt, some, new, h, x.1))

    pub made_refused : (e : Error) → c < n → made c mid new (Err e) → MadeFrom made n 0 old new (Err e)
    made_refused e lt h = sofar new (Err e) ([], inr (lt, e, h, refl))

  pub made_all : (mid : D) (c : ℕ) → GoesOn c mid → n ≤ c → MadeFrom made n 0 old mid (Ok tt)
  made_all mid c sofar all = sofar mid (Ok tt) ([], inl (all, refl, refl))

-- the rest of a list, as a slice of it
pub rest_is : (c : ℕ) (bytes : List ℕ) → take (length bytes - c) (drop c bytes) ≡ drop c bytes
rest_is c bytes = take_all (length bytes - c) (drop c bytes) (omega (arith, length-drop c bytes))

pub rest_made : {D St : Type 0} (its : Calls D St) (l : LayerBelow) (o c : ℕ) (bytes : List ℕ) (old new : D) (result : Result ℕ Error)
    → IsFirstBy its l (o + c) (take (length bytes - c) (drop c bytes)) old new result → rest_by its l o bytes c old new result
rest_made its l o c bytes old new result h = subst (λ (xs : List ℕ). IsFirstBy its l (o + c) xs old new result) (rest_is c bytes) h

-- what the driver makes, over what it was lent, is the image's
pub by_driver : {D St : Type 0} (view : D → View St) (x : FormatAccess D) (d : D) (l : LayerBelow) → l ≡ lent_image view (backing x) → (made : LayerBelow → D → D → Type 0)
    → made l (driver x) d → made (lent_image view (backing x)) (driver x) (driver (with_driver x d))
by_driver {D} view x d l e made h = subst (λ (y : D). made (lent_image view (backing x)) (driver x) y) (sym (driver_with x d)) (subst (λ (m : LayerBelow). made m (driver x) d) e h)

-- a mapping that isn't filled is neither committed nor cancelled
pub refused_through : {D St : Type 0} (its : Calls D St) (l : LayerBelow) (o n : ℕ) (overwrite : Bool) (bytes : List ℕ) (commit : Bool) (old new : D) (e : Error)
    → IsFilledBy its l o n overwrite bytes old new (Err e) → IsThroughBy its l o n overwrite bytes commit old new (Err e)
refused_through its l o n overwrite bytes true old new e h = inl h
refused_through its l o n overwrite bytes false old new e h = h
