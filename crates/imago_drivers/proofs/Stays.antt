-- SPDX-License-Identifier: MIT
use Rattle.std.proofs.Common.{◌≡◌, ℕ, ◌+◌, ◌≤◌, ⊎_elim, Bool, List, refl, ◌∙◌, arith}
use Rattle.std.proofs.lemmas.Bool.{cases_lt}
use Rattle.std.specs.Prelude.{IsTrue, slice_index}
use Rattle.imago_storage.specs.Bytes.{SameOutside}
use Rattle.imago_drivers.specs.Place.{Place, IsIn, SamePlaces}
use Rattle.imago_drivers.specs.Outside.{SharesBlock, StayBut, StaysOutside}
use Rattle.imago_drivers.specs.Ranges.{HasBytes}
use Rattle.imago_drivers.specs.Raw.{raw_place}
use Rattle.imago_drivers.proofs.RawSteps.{same_place, stays_stored}

-- an offset shares a block with a range that it lies in
pub shares_own : (block o n p : ℕ) → IsIn o n p → SharesBlock block o n p
shares_own block o n p h = (p, h, refl)

-- what shares a block with a part of a range shares one with the range
pub shares_more : (block o n q m p : ℕ) → o ≤ q → q + m ≤ o + n → SharesBlock block q m p
    → SharesBlock block o n p
shares_more block o n q m p h k s =
    let i = s.1 in
    (s.0, (omega (arith, h, i.0), omega (arith, k, i.1)), s.2)

module _ (keeps : Bool) where
  -- where no place moved, none of those that may not did
  pub stays_same : (moves : ℕ → Type 0) (old new : ℕ → Place) → SamePlaces keeps old new
      → StayBut keeps moves old new
  stays_same moves old new h = record {
    stored = λ p b s f w n e. h.stored p b s f w e;
    same = λ k p n. h.same k p;
  }

  -- where more may move, what may not still stays
  pub stays_weaker : (few many : ℕ → Type 0) (old new : ℕ → Place) → ((p : ℕ) → few p → many p)
      → StayBut keeps few old new → StayBut keeps many old new
  stays_weaker few many old new more h = record {
    stored = λ p b s f w n e. h.stored p b s f w (λ x. n (more p x)) e;
    same = λ k p n. h.same k p (λ x. n (more p x));
  }

  -- what stays in two steps
  pub stays_twice : (moves : ℕ → Type 0) (old mid new : ℕ → Place) → StayBut keeps moves old mid
      → StayBut keeps moves mid new → StayBut keeps moves old new
  stays_twice moves old mid new a b = record {
    stored = λ p x s f w n e. let m = a.stored p x s f w n e in b.stored p (m.0) s f w n (m.1);
    same = λ k p n. b.same k p n ∙ a.same k p n;
  }

  pub stays_itself : (moves : ℕ → Type 0) (place : ℕ → Place) → StayBut keeps moves place place
  stays_itself moves place = record { stored = λ p b s f w n e. (b, e); same = λ k p n. refl }

  -- what a change of a part leaves, one of the whole may leave
  pub outside_more : (block o n q m : ℕ) (old new : ℕ → Place) → o ≤ q → q + m ≤ o + n
      → StaysOutside keeps block q m old new → StaysOutside keeps block o n old new
  outside_more block o n q m old new h k s =
      stays_weaker (SharesBlock block q m) (SharesBlock block o n) old new
      (λ p x. shares_more block o n q m p h k x) s

  -- what a change leaves that moves none but its range
  pub outside_range : (block o n : ℕ) (old new : ℕ → Place) → StayBut keeps (IsIn o n) old new
      → StaysOutside keeps block o n old new
  outside_range block o n old new s =
      stays_weaker (IsIn o n) (SharesBlock block o n) old new (λ p x. shares_own block o n p x) s

  -- a change of storage bytes moves no place of a raw image
  pub raw_outside : (size o n : ℕ) (old new : List ℕ)
      → (IsTrue keeps → (p : ℕ) → (IsIn o n p → ⊥) → slice_index new p ≡ slice_index old p)
      → StaysOutside keeps 1 o n (raw_place size old) (raw_place size new)
  raw_outside size o n old new h =
      outside_range 1 o n (raw_place size old) (raw_place size new) record {
        stored = λ p b s f w out e. stays_stored size old new p b s f w e;
        same = λ k p out. same_place size old new p (h k p out);
      }

-- what is no byte of a range has the old value, where a change is one of the range
pub bytes_outside : (torn : Bool) (o n : ℕ) (byte : ℕ → ℕ) (old new : List ℕ) (p : ℕ)
    → HasBytes torn o n byte old new → (IsIn o n p → ⊥) → slice_index new p ≡ slice_index old p
bytes_outside torn o n byte old new p h out = ⊎_elim
    (λ before. h.before p before)
    (λ from. ⊎_elim
    (λ inside. absurd (out (from, inside)))
    (λ behind. h.behind p behind)
    (cases_lt p (o + n)))
    (cases_lt p o)

-- bytes that are set in a part of a range move no place of a raw image
pub set_outside : (keeps torn : Bool) (size o n q m : ℕ) (byte : ℕ → ℕ) (old new : List ℕ) → o ≤ q
    → q + m ≤ o + n → (IsTrue keeps → HasBytes torn q m byte old new)
    → StaysOutside keeps 1 o n (raw_place size old) (raw_place size new)
set_outside keeps torn size o n q m byte old new h k b =
    raw_outside keeps size o n old new
    (λ kp p out. bytes_outside torn q m byte old new p (b kp)
    (λ i. out (omega (arith, h, i.0), omega (arith, k, i.1))))

-- nor do bytes that are discarded there
pub discard_outside : (keeps : Bool) (size o n q m : ℕ) (old new : List ℕ) → o ≤ q → q + m ≤ o + n
    → SameOutside q m old new
    → StaysOutside keeps 1 o n (raw_place size old) (raw_place size new)
discard_outside keeps size o n q m old new h k s =
    raw_outside keeps size o n old new (λ kp p out. ⊎_elim
    (λ before. s.before p before)
    (λ from. ⊎_elim
    (λ inside. absurd (out (omega (arith, h, from), omega (arith, k, inside))))
    (λ behind. s.behind p behind)
    (cases_lt p (q + m)))
    (cases_lt p q))
