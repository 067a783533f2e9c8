-- Calls on ranges, one after the other: lists of them are put together and cut.
-- SPDX-License-Identifier: MIT

use Rattle.std.proofs.Common.{◌≡◌, ℕ, zero, suc, ◌+◌, ◌-◌, ◌*◌, ◌/◌, ◌%◌, ◌<◌, ◌≤◌, ◌⊎◌, inl, inr, List, [], ◌∷◌, ◌++◌, min, arith, refl, sym, ap, ◌∙◌, subst, Result, Ok, Err}
use Rattle.std.proofs.lemmas.List.{append-nil}
use Rattle.std.proofs.Math.Nat.{mul-add-div_right, mul-add-mod_self_right, mod-eq_of_lt, mod_self, add-mod_right, div-eq_of_lt, div_self}
use Rattle.std.proofs.lemmas.Nat.{div-add-mod'}
use Rattle.std.proofs.lemmas.Bool.{cases_lt}
use Rattle.imago_storage.specs.declared.error.Error.{Error}
use Rattle.imago_storage.specs.Features.{Features, zero_piece}
use Rattle.imago_storage.specs.Maintenance.{Maintenance}
use Rattle.imago_storage.specs.Padding.{Wraps}
use Rattle.imago_storage.specs.Steps.{AreMadeInOrder, some_range, pieces_from, pieces_of, one_piece_or_more, head_of}
use Rattle.imago_storage.specs.Zeroes.{data_ranges, IsZeroesWritten}
use Rattle.imago_storage.proofs.Steps.{nothing_written}

clash : (r : Result (Unit {0}) Error) (x : Unit {0}) (e : Error) → r ≡ Ok x → r ≡ Err e → ⊥
clash r x e ok refused = cc

module _ {S : Type 0} (call : ℕ → ℕ → S → S → Result (Unit {0}) Error → Type 0) where
  pub one_made : (at n : ℕ) {old new : S} {result : Result (Unit {0}) Error} → call at n old new result → AreMadeInOrder call ((at, n) ∷ []) old new result
  one_made at n {new = new} {result = result} made = record { answer = result; between = new; made = made; refused = λ e is. (refl, is); behind = λ is. (refl, is) }

  -- one that is refused, and nothing behind it
  pub one_refused : (at n : ℕ) (more : List (ℕ × ℕ)) {old new : S} {answer result : Result (Unit {0}) Error} {x : Error} → call at n old new answer → answer ≡ Err x → result ≡ answer
      → AreMadeInOrder call ((at, n) ∷ more) old new result
  one_refused at n more {new = new} {answer = answer} made was same = record { answer = answer; between = new; made = made; refused = λ e is. (refl, same ∙ is); behind = λ is. absurd (cc) }

  -- those of one list, and behind them those of the next
  pub both_made : (first second : List (ℕ × ℕ)) (old mid new : S) (answer result : Result (Unit {0}) Error) (x : Unit {0}) → AreMadeInOrder call first old mid answer → answer ≡ Ok x → AreMadeInOrder call second mid new result
      → AreMadeInOrder call (first ++ second) old new result
  both_made [] second old mid new answer result x made ok rest = rw (sym made.0) rest
  both_made ((at, n) ∷ more) second old mid new answer result x made ok rest = record {
    answer = made.answer;
    between = made.between;
    made = made.made;
    refused = λ e is. absurd (clash answer x e ok (made.refused e is).1);
    behind = λ is. both_made more second made.between mid new answer result x (made.behind is) ok rest;
  }

  -- a refusal among the first is the answer
  pub first_refused : (first second : List (ℕ × ℕ)) (old new : S) (result : Result (Unit {0}) Error) (x : Error) → AreMadeInOrder call first old new result → result ≡ Err x
      → AreMadeInOrder call (first ++ second) old new result
  first_refused [] second old new result x made is = absurd (clash result tt x made.1 is)
  first_refused ((at, n) ∷ more) second old new result x made is = record {
    answer = made.answer;
    between = made.between;
    made = made.made;
    refused = made.refused;
    behind = λ ok. first_refused more second made.between new result x (made.behind ok) is;
  }

-- a write of zeroes, also of none
pub zeroed_range : {S : Type 0} (features_of : S → Features) (bytes_of : S → List ℕ) (calls : Maintenance S) (at n : ℕ) {old new : S} {result : Result (Unit {0}) Error} → IsZeroesWritten features_of bytes_of calls at n old new result
    → AreMadeInOrder (IsZeroesWritten features_of bytes_of calls) (some_range at n) old new result
zeroed_range features_of bytes_of calls at zero {old = old} made =
    let fits : ¬ Wraps (features_of old) at 0 = λ w. omega (arith, w.0) in
    nothing_written _ _ _ (features_of old) at [] _ _ _ refl (made.made fits)
zeroed_range features_of bytes_of calls at (suc n) made = one_made (IsZeroesWritten features_of bytes_of calls) at (suc n) made

-- Which pieces there are.

pub pieces_none : (piece at n : ℕ) → 0 < piece → n ≡ 0 → pieces_of piece at n ≡ []
pieces_none piece at n some none =
    let d : n / piece ≡ 0 = div-eq_of_lt (omega (arith, some, none)) in
    let m : n % piece ≡ 0 = mod-eq_of_lt (omega (arith, some, none)) ∙ none in
    rw (d, m) refl

pub some_range_some : (at n : ℕ) → 0 < n → some_range at n ≡ (at, n) ∷ []
some_range_some at zero some = absurd (omega (arith, some))
some_range_some at (suc n) some = refl

-- bytes that fill no more than one piece are one
pub single : (piece at n : ℕ) → 0 < n → n ≤ piece → pieces_of piece at n ≡ (at, n) ∷ []
single piece at n some fits = elim (cases_lt n piece) [
  | inl less ↦ (
      let d : n / piece ≡ 0 = div-eq_of_lt less in
      let m : n % piece ≡ n = mod-eq_of_lt less in
      rw (d, m) (some_range_some at n some))
  | inr more ↦ (
      let same : n ≡ piece = omega (arith, fits, more) in
      let d : piece / piece ≡ 1 = div_self (omega (arith, some, fits)) in
      let m : piece % piece ≡ 0 = mod_self piece in
      rw same (rw (d, m) refl))
]

from_split : (piece at k j rest : ℕ) → pieces_from piece at (j + k) rest ≡ pieces_from piece at k 0 ++ pieces_from piece (at + k * piece) j rest
from_split piece at zero j rest =
    let z : j + 0 ≡ j = omega arith in
    let e : at ≡ at + 0 * piece = omega arith in
    ap (λ (k : ℕ). pieces_from piece at k rest) z ∙ ap (λ (p : ℕ). pieces_from piece p j rest) e
from_split piece at (suc k) j rest =
    let e : at + piece + k * piece ≡ at + (suc k) * piece = omega arith in
    let s : j + suc k ≡ suc (j + k) = omega arith in
    ap (λ (m : ℕ). pieces_from piece at m rest) s ∙ ap (λ (more : List (ℕ × ℕ)). (at, piece) ∷ more) (from_split piece (at + piece) k j rest ∙ ap (λ (p : ℕ). pieces_from piece (at + piece) k 0 ++ pieces_from piece p j rest) e)

-- pieces of what is done, and then pieces of what is left
pub pieces_split : (piece at done n : ℕ) → 0 < piece → (done % piece ≡ 0) ⊎ (done ≡ n) → done ≤ n → pieces_of piece at n ≡ pieces_of piece at done ++ pieces_of piece (at + done) (n - done)
pieces_split piece at done n some (inr all) within =
    let none : n - done ≡ 0 = omega (arith, all) in
    rw (pieces_none piece (at + done) (n - done) some none) (ap (pieces_of piece at) (sym all) ∙ sym (append-nil (pieces_of piece at done)))
pieces_split piece at done n some (inl whole) within =
    let k = done / piece in
    let is : k * piece ≡ done = omega (arith, div-add-mod' done piece, whole) in
    let total : n ≡ k * piece + (n - done) = omega (arith, is, within) in
    let q : n / piece ≡ k + (n - done) / piece = ap (λ (m : ℕ). m / piece) total ∙ mul-add-div_right some k (n - done) in
    let d : n / piece ≡ (n - done) / piece + k = omega (arith, q) in
    let m : n % piece ≡ (n - done) % piece = ap (λ (m : ℕ). m % piece) total ∙ mul-add-mod_self_right k piece (n - done) in
    rw (d, m, whole) (from_split piece at k ((n - done) / piece) ((n - done) % piece) ∙ ap (λ (p : ℕ). pieces_from piece at k 0 ++ pieces_from piece (at + p) ((n - done) / piece) ((n - done) % piece)) is)

-- a next piece, as long as a piece or all that is left
pub next_range : (piece at done next : ℕ) → 0 < piece → done % piece ≡ 0 → 0 < next → next ≤ piece → pieces_of piece at (done + next) ≡ pieces_of piece at done ++ (at + done, next) ∷ []
next_range piece at done next some whole more fits =
    let left : done + next - done ≡ next = omega arith in
    let s : pieces_of piece (at + done) (done + next - done) ≡ (at + done, next) ∷ [] = rw left (single piece (at + done) next more fits) in
    pieces_split piece at done (done + next) some (inl whole) (omega arith) ∙ ap (λ (xs : List (ℕ × ℕ)). pieces_of piece at done ++ xs) s

-- what is done then are whole pieces, or all of them
pub next_pieces : (piece n done next : ℕ) → 0 < piece → done % piece ≡ 0 → done < n → next ≡ min piece (n - done) → ((done + next) % piece ≡ 0) ⊎ (done + next ≡ n)
next_pieces piece n done next some whole more is = elim (cases_lt (n - done) piece) [
  | inl less ↦ inr (omega (arith, is, less, more))
  | inr ge ↦ inl (let same : next ≡ piece = omega (arith, is, ge) in rw same (add-mod_right done piece ∙ whole))
]

-- what is left begins with a whole piece, or is one
pub left_begins : (piece at n next : ℕ) → 0 < piece → 0 < n → next ≡ min piece n → pieces_of piece at n ≡ (at, next) ∷ pieces_of piece (at + next) (n - next)
left_begins piece at n next some more is =
    let fits : next ≤ n = omega (arith, is) in
    let whole : (next % piece ≡ 0) ⊎ (next ≡ n) = elim (cases_lt n piece) [
      | inl less ↦ inr (omega (arith, is, less))
      | inr ge ↦ inl (let same : next ≡ piece = omega (arith, is, ge) in rw same (mod_self piece))
    ] in
    pieces_split piece at next n some whole fits ∙ ap (λ (xs : List (ℕ × ℕ)). xs ++ pieces_of piece (at + next) (n - next)) (single piece at next (omega (arith, is, some, more)) (omega (arith, is)))

-- where there are bytes, at least one piece is there anyway
pub one_or_more : (piece at n : ℕ) → 0 < piece → 0 < n → one_piece_or_more piece at n ≡ pieces_of piece at n
one_or_more piece at n some more = elim (cases_lt n piece) [
  | inl less ↦ (
      let m : min piece n ≡ n = omega (arith, less) in
      let a = pieces_none piece (at + piece) (n - piece) some (omega (arith, less)) in
      rw (m, a) (sym (single piece at n more (omega (arith, less)))))
  | inr ge ↦ (
      let m : min piece n ≡ piece = omega (arith, ge) in
      rw m (sym (left_begins piece at n piece some more (sym m))))
]

-- The ranges of zeroes that are written as data.

pub some_piece : (f : Features) → 0 < zero_piece f
some_piece f = omega arith

-- from a multiple of the request alignment on
pub data_in_pieces : (f : Features) (at n first : ℕ) → first ≡ head_of f at n → first ≡ 0 → data_ranges f at n ≡ pieces_of (zero_piece f) at n
data_in_pieces f at n first is none =
    let head : head_of f at n ≡ 0 = sym is ∙ none in
    let start : at + 0 ≡ at = omega arith in
    let left : n - 0 ≡ n = omega arith in
    rw head (rw (start, left) refl)

-- the bytes up to the first multiple, and then pieces
pub data_then_pieces : (f : Features) (at n first : ℕ) → first ≡ head_of f at n → 0 < first → data_ranges f at n ≡ (at, first) ∷ pieces_of (zero_piece f) (at + first) (n - first)
data_then_pieces f at n first is some = rw (← is) (rw (some_range_some at first some) refl)

-- these bytes alone
pub data_alone : (f : Features) (at n first : ℕ) → first ≡ head_of f at n → 0 < first → first ≡ n → data_ranges f at n ≡ (at, first) ∷ []
data_alone f at n first is some all =
    let none : n - first ≡ 0 = omega (arith, all) in
    data_then_pieces f at n first is some ∙ ap (λ (more : List (ℕ × ℕ)). (at, first) ∷ more) (pieces_none (zero_piece f) (at + first) (n - first) (some_piece f) none)

-- Zeroes in pieces, of which the first one is written also where there are no bytes.

pub first_whole : (piece n first : ℕ) → first ≡ min piece n → (first % piece ≡ 0) ⊎ (first ≡ n)
first_whole piece n first is = elim (cases_lt n piece) [
  | inl less ↦ inr (omega (arith, is, less))
  | inr ge ↦ inl (let same : first ≡ piece = omega (arith, is, ge) in rw same (mod_self piece))
]

pub next_whole_pieces : (piece n done next : ℕ) → 0 < piece → (done % piece ≡ 0) ⊎ (done ≡ n) → done < n → next ≡ min piece (n - done) → ((done + next) % piece ≡ 0) ⊎ (done + next ≡ n)
next_whole_pieces piece n done next some (inl whole) more is = next_pieces piece n done next some whole more is
next_whole_pieces piece n done next some (inr all) more is = absurd (omega (arith, all, more))

one_alone : (piece at first : ℕ) → first ≤ piece → one_piece_or_more piece at first ≡ (at, first) ∷ pieces_of piece (at + piece) 0
one_alone piece at first fits =
    let m : min piece first ≡ first = omega (arith, fits) in
    let none : first - piece ≡ 0 = omega (arith, fits) in
    rw (m, none) refl

module _ {S : Type 0} (call : ℕ → ℕ → S → S → Result (Unit {0}) Error → Type 0) (piece at : ℕ) where
  pub first_piece_made : (first : ℕ) → 0 < piece → first ≤ piece → {old new : S} {result : Result (Unit {0}) Error} → call at first old new result → AreMadeInOrder call (one_piece_or_more piece at first) old new result
  first_piece_made first some fits {old = old} {new = new} {result = result} made =
      let is = one_alone piece at first fits ∙ ap (λ (more : List (ℕ × ℕ)). (at, first) ∷ more) (pieces_none piece (at + piece) 0 some refl) in
      subst (λ (xs : List (ℕ × ℕ)). AreMadeInOrder call xs old new result) (sym is) (one_made call at first made)

  pub first_piece_refused : (n first : ℕ) → first ≡ min piece n → {old new : S} {answer result : Result (Unit {0}) Error} {x : Error} → call at first old new answer → answer ≡ Err x → result ≡ answer
      → AreMadeInOrder call (one_piece_or_more piece at n) old new result
  first_piece_refused n first is made was same = rw (← is) (one_refused call at first (pieces_of piece (at + piece) (n - piece)) made was same)

  module _ (n done next : ℕ) (some : 0 < piece) (whole : (done % piece ≡ 0) ⊎ (done ≡ n)) (begun : 0 < done) (more : done < n) (is : next ≡ min piece (n - done)) where
    in_pieces : done % piece ≡ 0
    in_pieces = elim whole [ inl w ↦ w | inr e ↦ absurd (omega (arith, e, more)) ]

    pub next_piece_made : {old mid new : S} {result : Result (Unit {0}) Error} → AreMadeInOrder call (one_piece_or_more piece at done) old mid (Ok tt) → call (at + done) next mid new result
        → AreMadeInOrder call (one_piece_or_more piece at (done + next)) old new result
    next_piece_made {old = old} {mid = mid} {new = new} {result = result} before made =
        let first = subst (λ (xs : List (ℕ × ℕ)). AreMadeInOrder call xs old mid (Ok tt)) (one_or_more piece at done some begun) before in
        let whole = one_or_more piece at (done + next) some (omega (arith, begun)) ∙ next_range piece at done next some in_pieces (omega (arith, is, some, more)) (omega (arith, is)) in
        subst (λ (xs : List (ℕ × ℕ)). AreMadeInOrder call xs old new result) (sym whole)
        (both_made call (pieces_of piece at done) ((at + done, next) ∷ []) old mid new (Ok tt) result tt first refl (one_made call (at + done) next made))

    pub next_piece_refused : {old mid new : S} {answer result : Result (Unit {0}) Error} {x : Error} → AreMadeInOrder call (one_piece_or_more piece at done) old mid (Ok tt) → call (at + done) next mid new answer → answer ≡ Err x → result ≡ answer
        → AreMadeInOrder call (one_piece_or_more piece at n) old new result
    next_piece_refused {old = old} {mid = mid} {new = new} {result = result} before made was same =
        let first = subst (λ (xs : List (ℕ × ℕ)). AreMadeInOrder call xs old mid (Ok tt)) (one_or_more piece at done some begun) before in
        let begins = left_begins piece (at + done) (n - done) next some (omega (arith, more)) is in
        let whole = one_or_more piece at n some (omega (arith, begun, more)) ∙ pieces_split piece at done n some (inl in_pieces) (omega (arith, more)) ∙ ap (λ (xs : List (ℕ × ℕ)). pieces_of piece at done ++ xs) begins in
        subst (λ (xs : List (ℕ × ℕ)). AreMadeInOrder call xs old new result) (sym whole)
        (both_made call (pieces_of piece at done) ((at + done, next) ∷ pieces_of piece (at + done + next) (n - done - next)) old mid new (Ok tt) result tt first refl (one_refused call (at + done) next (pieces_of piece (at + done + next) (n - done - next)) made was same))
