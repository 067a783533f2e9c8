-- SPDX-License-Identifier: MIT
use Rattle.std.proofs.Common.{◌≡◌, ℕ, ◌+◌, ◌-◌, ◌^◌, ◌<◌, ◌≤◌, ◌⊎◌, ⊎_elim, inl, inr, List, [], ◌∷◌, None, true, refl, sym, subst, arith, Result, Ok, Err}
use Rattle.std.specs.Prelude.{IsOk}
use Rattle.imago_storage.specs.declared.error.Error.{Error}
use Rattle.imago_drivers.specs.Operation.{Zero}
use Rattle.imago_drivers.specs.View.{View}
use Rattle.imago_drivers.specs.CallRelations.{Calls, OnRange}
use Rattle.imago_access.specs.declared.access.FormatAccess.{FormatAccess}
use Rattle.imago_access.specs.declared.discard.DiscardCall.{DiscardCall}
use Rattle.imago_access.specs.declared.discard.DiscardCall.TheVariants as C
use Rattle.imago_access.specs.Chain.{driver}
use Rattle.imago_access.specs.Lending.{with_driver}
use Rattle.imago_access.specs.Calls.{FailsTest, Overflows, IsLoose}
use Rattle.imago_access.specs.DiscardParts.{discard_by, IsDiscardedInParts}
use Rattle.imago_access.specs.Discarding.{discard_of, HasLoosened, IsImageDiscard}
use Rattle.imago_access.proofs.Images.{failed_call, driver_with}
use Rattle.imago_access.proofs.DiscardSteps.{range_call, not_loosened}

-- the driver's own discards of the n bytes from o on, in whatever parts
abbrev pub InParts : {D : Type 0} → OnRange D → ℕ → ℕ → D → D → Result Unit Error → Type 0
InParts discard o n old new result = (parts : List (ℕ × ℕ)) × IsDiscardedInParts discard o n parts old new result

-- the driver's discard, as the image sees it
pub made_by : {D St : Type 0} (its : Calls D St) (x : FormatAccess D) (d : D) (made call : DiscardCall) (o n : ℕ) (result : Result (ℕ × ℕ) Error) → call ≡ made → discard_by its made o n (driver x) d result → discard_by its call o n (driver x) (driver (with_driver x d)) result
made_by {D} its x d made call o n result is h =
    let y : discard_by its made o n (driver x) (driver (with_driver x d)) result = subst (λ (z : D). discard_by its made o n (driver x) z result) (sym (driver_with x d)) h in
    subst (λ (k : DiscardCall). discard_by its k o n (driver x) (driver (with_driver x d)) result) (sym is) y

module _ {D : Type 0} (discard : OnRange D) (o n : ℕ) (old : D) where
  -- what the driver does of the range behind its first c bytes, it does of the range, after what it did of these
  abbrev pub Continues : ℕ → D → Type 0
  Continues c mid = (new : D) (result : Result Unit Error) → InParts discard (o + c) (n - c) mid new result → InParts discard o n old new result

  pub begins : Continues 0 old
  begins = λ new result x.
      let s : o + 0 ≡ o = omega arith in
      let t : n - 0 ≡ n = omega arith in
      let y : InParts discard o (n - 0) old new result = subst (λ (a : ℕ). InParts discard a (n - 0) old new result) s x in
      subst (λ (m : ℕ). InParts discard o m old new result) t y

  module _ (mid new : D) (c : ℕ) (sofar : Continues c mid) where
    pub goes_on : (q m : ℕ) → c < n → (m ≡ 0 → ⊥) → (m ≡ 0) ⊎ ((o + c ≤ q) × (q + m ≤ o + c + (n - c))) → discard (o + c) (n - c) mid new (Ok (q, m)) → Continues (q - o + m) new
    goes_on q m lt some within made = λ last result x. ⊎_elim (λ none. absurd (some none)) (λ part.
        let s : o + (q - o + m) ≡ q + m = omega (arith, part.0) in
        let t : n - (q - o + m) ≡ o + c + (n - c) - (q + m) = omega (arith, part.0, lt) in
        let y : InParts discard (q + m) (n - (q - o + m)) new last result = subst (λ (a : ℕ). InParts discard a (n - (q - o + m)) new last result) s x in
        let z : InParts discard (q + m) (o + c + (n - c) - (q + m)) new last result = subst (λ (k : ℕ). InParts discard (q + m) k new last result) t y in
        sofar last result ((q, m) ∷ z.0, (omega (arith, lt), omega (arith, some), new, made, z.1))) within

    pub stops : (q m : ℕ) → c < n → m ≡ 0 → discard (o + c) (n - c) mid new (Ok (q, m)) → InParts discard o n old new (Ok tt)
    stops q m lt none made = sofar new (Ok tt) ([], inr (omega (arith, lt), inl (q, subst (λ (k : ℕ). discard (o + c) (n - c) mid new (Ok (q, k))) none made, refl)))

    pub gives_up : (e : Error) → c < n → discard (o + c) (n - c) mid new (Err e) → InParts discard o n old new (Err e)
    gives_up e lt made = sofar new (Err e) ([], inr (omega (arith, lt), inr (e, made, refl)))

  pub ends : (mid : D) (c : ℕ) → Continues c mid → n ≤ c → InParts discard o n old mid (Ok tt)
  ends mid c sofar all = sofar mid (Ok tt) ([], inl (omega (arith, all), refl, refl))

module _ {D St : Type 0} (view : D → View St) (its : Calls D St) (call : DiscardCall) (x new : FormatAccess D) (o n : ℕ) where
  -- a discard that passed its tests
  pub discard_call : (result : Result (Unit {0}) Error) → (view (driver x)).abilities.is_writable ≡ true → o + n ≤ (view (driver x)).size
      → (Overflows (discard_of call) o n → ⊥) → IsLoose (discard_of call) → (n ≡ 0 → IsOk result × (new ≡ x)) → HasLoosened view call o n x new result → InParts (discard_by its call) o n (driver x) (driver new) result → IsImageDiscard view its call x new o n result
  discard_call result w fits small loose idle h made = record { range = range_call view call x new o n result w fits small loose idle h; performed = λ passed. made }

-- one that failed them
pub failed_discard : {D St : Type 0} (view : D → View St) (its : Calls D St) (call : DiscardCall) (x : FormatAccess D) (o n : ℕ) (e : Error) → FailsTest (view (driver x)) (discard_of call) o n e → (view (driver x)).pending ≡ None → IsImageDiscard view its call x x o n (Err e)
failed_discard view its call x o n e f spent = record {
  range = failed_call view x (discard_of call) o n _ _ _ _ _ _ _ _ e f (not_loosened view call x o n) spent;
  performed = λ passed. absurd (passed e f);
}

-- each of these discards may leave places to the layer below
pub is_loose : (call : DiscardCall) → IsLoose (discard_of call)
is_loose C.ToAny = tt
is_loose C.ToBacking = tt

pub never_overflows : (call : DiscardCall) (o n : ℕ) → o + n < 2 ^ 64 → Overflows (discard_of call) o n → ⊥
never_overflows C.ToAny o n small big = omega (arith, small, big)
never_overflows C.ToBacking o n small big = omega (arith, small, big)

-- their tests are those of a zero write
pub same_tests : {St : Type 0} (v : View St) (call : DiscardCall) (o n : ℕ) (e : Error) → FailsTest v Zero o n e → FailsTest v (discard_of call) o n e
same_tests v C.ToAny o n e f = f
same_tests v C.ToBacking o n e f = f
