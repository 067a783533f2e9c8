-- SPDX-License-Identifier: MIT
use Rattle.std.proofs.Common.{◌≡◌, ℕ, ◌+◌, ◌-◌, ◌<◌, ◌≤◌, ◌⊎◌, inl, inr, List, [], ◌∷◌, refl, subst, ap, arith, Result, Ok, Err}
use Rattle.std.specs.Prelude.{IfOk}
use Rattle.imago_storage.specs.declared.error.Error.{Error}
use Rattle.imago_drivers.specs.View.{View}
use Rattle.imago_drivers.specs.LayerBelow.{LayerBelow}
use Rattle.imago_drivers.specs.CallRelations.{Calls, Changing, OnRange}
use Rattle.imago_access.specs.declared.access.FormatAccess.{FormatAccess}
use Rattle.imago_access.specs.Chain.{driver, backing, lent_image}
use Rattle.imago_access.specs.Lending.{with_driver}
use Rattle.imago_access.specs.ZeroCalls.{OnDriver, AreGranulesBy, IsZeroPiece, LacksZeroes}
use Rattle.imago_access.proofs.Images.{backing_with}
use Rattle.imago_access.proofs.MadeSteps.{by_driver}

-- zero calls from s to e, in whatever parts
abbrev pub GranulesFrom : {X : Type 0} → OnRange X → ℕ → ℕ → X → X → Type 0
GranulesFrom zero s e old new = (parts : List (ℕ × ℕ)) × AreGranulesBy zero s e parts old new

module _ {X : Type 0} (zero : OnRange X) (s e : ℕ) (old : X) where
  -- those from p on are those from s on, after what was made before p
  abbrev pub GranulesGoOn : ℕ → X → Type 0
  GranulesGoOn p mid = (new : X) → GranulesFrom zero p e mid new → GranulesFrom zero s e old new

  pub granules_begin : GranulesGoOn s old
  granules_begin = λ new x. x

  module _ (mid new : X) (p : ℕ) (sofar : GranulesGoOn p mid) where
    pub granules_more : (q m : ℕ) → p < e → 0 < m → zero p (e - p) mid new (Ok (q, m)) → GranulesGoOn (q + m) new
    granules_more q m lt some h = λ last x. sofar last ((q, m) ∷ x.0, (lt, some, new, h, x.1))

    pub granules_over : (result : Result (ℕ × ℕ) Error) → p < e → zero p (e - p) mid new result → IfOk result (λ r. r.1 ≡ 0) → GranulesFrom zero s e old new
    granules_over result lt h none = sofar new ([], inr (lt, (result, h, none)))

  pub granules_end : (mid : X) (p : ℕ) → GranulesGoOn p mid → e ≤ p → GranulesFrom zero s e old mid
  granules_end mid p sofar all = sofar mid ([], inl (all, refl))

-- one call of the driver, over what it was lent, is one of the image
pub on_driver : {D St T : Type 0} (view : D → View St) (x : FormatAccess D) (d : D) (l : LayerBelow) → l ≡ lent_image view (backing x) → (made : LayerBelow → Changing D T) (result : Result T Error)
    → made l (driver x) d result → OnDriver (made (lent_image view (backing x))) x (with_driver x d) result
on_driver view x d l e made result h = (by_driver view x d l e (λ m a b. made m a b result) h, backing_with x d)

-- a piece that is done doesn't lack zeroes
pub piece_done : {D St : Type 0} (view : D → View St) (its : Calls D St) (o n : ℕ) (old new : FormatAccess D) (z k : ℕ)
    → IsZeroPiece view its o n old new (Ok k) ⊎ ((z ≡ 0) × LacksZeroes {T = ℕ} view o n old new (Ok k)) → IsZeroPiece view its o n old new (Ok k)
piece_done view its o n old new z k (inl piece) = piece
piece_done view its o n old new z k (inr (_, (_, refused, _))) = absurd cc

-- what lacks zeroes for the rest of a range, where nothing was changed before, lacks them for the range
pub lacks_rest : {D St : Type 0} (view : D → View St) (o n c : ℕ) (old mid new : FormatAccess D) (e : Error) → mid ≡ old → c ≤ n
    → LacksZeroes {T = ℕ} view (o + c) (n - c) mid new (Err e) → LacksZeroes {T = Unit {0}} view o n old new (Err e)
lacks_rest {D} view o n c old mid new e same le h =
    lacking (subst (λ (m : FormatAccess D). LacksZeroes {T = ℕ} view (o + c) (n - c) m new (Err e)) same h)
  where
    memory : (x : Error) (r : Result ℕ Error) → r ≡ Err x → r ≡ Err Error.Memory → x ≡ Error.Memory
    memory x r q m = cc

    lacking : LacksZeroes {T = ℕ} view (o + c) (n - c) old new (Err e) → LacksZeroes {T = Unit {0}} view o n old new (Err e)
    lacking (is, out, (p, inside, more)) = (is, ap Err (memory e _ refl out), (p, (omega (arith, inside.0), omega (arith, inside.1, le)), more))
