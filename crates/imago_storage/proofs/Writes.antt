-- SPDX-License-Identifier: MIT
use Rattle.std.proofs.Common.{◌≡◌, ℕ, ◌+◌, ◌-◌, ◌*◌, ◌<◌, ◌≤◌, ◌⊎◌, List, ◌++◌, length, take, drop, replicate, get_or, max, min, arith, inl, inr, refl, sym, ap, ◌∙◌, Bool, Result, Ok, Err, IsErrAnd}
use Rattle.std.proofs.lemmas.List.{places, length-append, length-replicate, length-take-le, length-drop, take-append-drop, take_rest, get_or_append_left, get_or-append_right}
use Rattle.std.proofs.lemmas.Grind.{same_number_lists}
use Rattle.std.proofs.lemmas.Bool.{cases_lt}
use Rattle.std.proofs.lemmas.Result.{err_from_is_err_and}
use Rattle.imago_storage.specs.Bytes.{splice, zero_extended, OldOrNew, WriteOutcome, IsReadAt}
use Rattle.imago_storage.specs.Features.{Features, len_align}
use Rattle.imago_storage.specs.IoCount.{IoCount, AddsAtMost, IsWriteWork}
use Rattle.imago_storage.specs.Padding.{IsPaddedRequest}
use Rattle.imago_storage.specs.declared.error.Error.{Error}
use Rattle.imago_storage.proofs.Outcomes.{WriteOutcome_unchanged, WriteOutcome_refused, WriteOutcome_then}
use Rattle.imago_storage.proofs.Splices.{length-splice, splice_inside, splice_before, splice_after}

-- A part is a splice into bytes that are extended by zeroes, as one write of a padded request leaves it.

-- zeroes behind the bytes change none
pub zero_extended_same : (xs : List ℕ) (e p : ℕ) → get_or (zero_extended xs e) p 0 ≡ get_or xs p 0
zero_extended_same xs e p = grind (arith, places)

pub part_inside : (xs : List ℕ) (at : ℕ) (new : List ℕ) (e p : ℕ) → at ≤ p → p < at + length new → get_or (splice (zero_extended xs e) at new) p 0 ≡ get_or new (p - at) 0
part_inside xs at new e p h k = splice_inside (zero_extended xs e) at new p h k

pub part_before : (xs : List ℕ) (at : ℕ) (new : List ℕ) (e p : ℕ) → p < at → get_or (splice (zero_extended xs e) at new) p 0 ≡ get_or xs p 0
part_before xs at new e p h = splice_before (zero_extended xs e) at new p h ∙ zero_extended_same xs e p

pub part_after : (xs : List ℕ) (at : ℕ) (new : List ℕ) (e p : ℕ) → at + length new ≤ p → get_or (splice (zero_extended xs e) at new) p 0 ≡ get_or xs p 0
part_after xs at new e p h = splice_after (zero_extended xs e) at new p h ∙ zero_extended_same xs e p

pub length-part : (xs : List ℕ) (at : ℕ) (new : List ℕ) (e : ℕ) → at + length new ≤ e → length (splice (zero_extended xs e) at new) ≡ max (length xs) e
length-part xs at new e h = omega (arith, length-splice (zero_extended xs e) at new, length-append xs (replicate (e - length xs) 0), length-replicate {A = ℕ} (e - length xs) 0)

part-append_at : (xs : List ℕ) (at e d : ℕ) (ys zs : List ℕ) (p : ℕ)
    → get_or (splice (zero_extended (splice (zero_extended xs e) at ys) d) (at + length ys) zs) p 0 ≡ get_or (splice (zero_extended xs d) at (ys ++ zs)) p 0
part-append_at xs at e d ys zs p =
    let long : length (ys ++ zs) ≡ length ys + length zs = length-append ys zs in
    elim (cases_lt p at) [
      | inl a ↦ part_before (splice (zero_extended xs e) at ys) (at + length ys) zs d p (omega arith) ∙ part_before xs at ys e p a ∙ sym (part_before xs at (ys ++ zs) d p a)
      | inr a ↦ elim (cases_lt p (at + length ys)) [
        | inl b ↦ part_before (splice (zero_extended xs e) at ys) (at + length ys) zs d p b ∙ part_inside xs at ys e p a b
            ∙ sym (part_inside xs at (ys ++ zs) d p a (omega arith) ∙ get_or_append_left ys zs 0 (p - at) (omega arith))
        | inr b ↦ elim (cases_lt p (at + length ys + length zs)) [
          | inl c ↦ part_inside (splice (zero_extended xs e) at ys) (at + length ys) zs d p b c
              ∙ ap (λ n. get_or zs n 0) (omega arith)
              ∙ sym (part_inside xs at (ys ++ zs) d p a (omega arith) ∙ get_or-append_right ys zs (length ys) (p - at) 0 refl (omega arith))
          | inr c ↦ part_after (splice (zero_extended xs e) at ys) (at + length ys) zs d p c ∙ part_after xs at ys e p b ∙ sym (part_after xs at (ys ++ zs) d p (omega arith))
        ]
      ]
    ]

-- two parts one after the other are one write
part-append : (xs : List ℕ) (at e d : ℕ) (ys zs : List ℕ) → at + length ys ≤ e → e ≤ d → at + length ys + length zs ≤ d
    → splice (zero_extended (splice (zero_extended xs e) at ys) d) (at + length ys) zs ≡ splice (zero_extended xs d) at (ys ++ zs)
part-append xs at e d ys zs h k m = same_number_lists _ _
    (omega (arith, length-part (splice (zero_extended xs e) at ys) (at + length ys) zs d m, length-part xs at ys e h, length-part xs at (ys ++ zs) d, length-append ys zs))
    (λ p l. part-append_at xs at e d ys zs p)

-- a first part leaves at each place what was there or what the whole write leaves
first_part_at : (xs : List ℕ) (at e d : ℕ) (ys zs : List ℕ) (p : ℕ)
    → (get_or (splice (zero_extended xs e) at ys) p 0 ≡ get_or xs p 0) ⊎ (get_or (splice (zero_extended xs e) at ys) p 0 ≡ get_or (splice (zero_extended xs d) at (ys ++ zs)) p 0)
first_part_at xs at e d ys zs p =
    let long : length (ys ++ zs) ≡ length ys + length zs = length-append ys zs in
    elim (cases_lt p at) [
      | inl a ↦ inl (part_before xs at ys e p a)
      | inr a ↦ elim (cases_lt p (at + length ys)) [
        | inl b ↦ inr (part_inside xs at ys e p a b ∙ sym (part_inside xs at (ys ++ zs) d p a (omega arith) ∙ get_or_append_left ys zs 0 (p - at) (omega arith)))
        | inr b ↦ inl (part_after xs at ys e p b)
      ]
    ]

block_write_at : (xs : List ℕ) (b : ℕ) (buf : List ℕ) (head : ℕ) (part : List ℕ) (p : ℕ) → IsReadAt xs b buf → head + length part ≤ length buf
    → get_or (splice xs b (splice buf head part)) p 0 ≡ get_or (splice (zero_extended xs (b + length buf)) (b + head) part) p 0
block_write_at xs b buf head part p shows fits =
    let size : length (splice buf head part) ≡ length buf = omega (arith, length-splice buf head part) in
    elim (cases_lt p b) [
      | inl h ↦ splice_before xs b (splice buf head part) p h ∙ sym (part_before xs (b + head) part (b + length buf) p (omega arith))
      | inr h ↦ let at : p ≡ b + (p - b) = omega arith in elim (cases_lt p (b + head)) [
        | inl k ↦ splice_inside xs b (splice buf head part) p h (omega arith) ∙ splice_before buf head part (p - b) (omega arith)
            ∙ shows (p - b) (omega arith) ∙ ap (λ n. get_or xs n 0) (sym at) ∙ sym (part_before xs (b + head) part (b + length buf) p k)
        | inr k ↦ elim (cases_lt p (b + head + length part)) [
          | inl l ↦ splice_inside xs b (splice buf head part) p h (omega arith) ∙ splice_inside buf head part (p - b) (omega arith) (omega arith)
              ∙ ap (λ n. get_or part n 0) (omega arith) ∙ sym (part_inside xs (b + head) part (b + length buf) p k l)
          | inr l ↦ elim (cases_lt p (b + length buf)) [
            | inl m ↦ splice_inside xs b (splice buf head part) p h (omega arith) ∙ splice_after buf head part (p - b) (omega arith)
                ∙ shows (p - b) (omega arith) ∙ ap (λ n. get_or xs n 0) (sym at) ∙ sym (part_after xs (b + head) part (b + length buf) p l)
            | inr m ↦ splice_after xs b (splice buf head part) p (omega arith) ∙ sym (part_after xs (b + head) part (b + length buf) p l)
          ]
        ]
      ]
    ]

-- a block that shows the bytes, with a part of it written over, leaves that part alone
pub block_write : (xs : List ℕ) (b : ℕ) (buf : List ℕ) (head : ℕ) (part : List ℕ) → IsReadAt xs b buf → head + length part ≤ length buf
    → splice xs b (splice buf head part) ≡ splice (zero_extended xs (b + length buf)) (b + head) part
block_write xs b buf head part shows fits = same_number_lists _ _
    (omega (arith, length-splice buf head part, length-splice xs b (splice buf head part), length-part xs (b + head) part (b + length buf)))
    (λ p l. block_write_at xs b buf head part p shows fits)

-- a splice is a part that is padded to its own end
pub splice_is_part : (xs : List ℕ) (at : ℕ) (new : List ℕ) (e : ℕ) → at + length new ≡ e → splice xs at new ≡ splice (zero_extended xs e) at new
splice_is_part xs at new e h = same_number_lists _ _
    (omega (arith, length-splice xs at new, length-part xs at new e (omega arith)))
    (λ p l. elim (cases_lt p at) [
      | inl a ↦ splice_before xs at new p a ∙ sym (part_before xs at new e p a)
      | inr a ↦ elim (cases_lt p (at + length new)) [
        | inl b ↦ splice_inside xs at new p a b ∙ sym (part_inside xs at new e p a b)
        | inr b ↦ splice_after xs at new p b ∙ sym (part_after xs at new e p b)
      ]
    ])

pub first_is_part : (xs : List ℕ) (at k : ℕ) (vs : List ℕ) → k ≤ length vs → splice xs at (take k vs) ≡ splice (zero_extended xs (at + k)) at (take k vs)
first_is_part xs at k vs h = splice_is_part xs at (take k vs) (at + k) (ap (λ n. at + n) (length-take-le k vs h))

pub part_no_shorter : (xs : List ℕ) (at : ℕ) (new : List ℕ) (e : ℕ) → length xs ≤ length (splice (zero_extended xs e) at new)
part_no_shorter xs at new e = omega (arith, length-splice (zero_extended xs e) at new, length-append xs (replicate (e - length xs) 0))

-- a write that was refused before it changed anything
pub refused_at_once : {U : Type 0} {keeps : Bool} {xs now : List ℕ} (Q : Error → Type 0) (q : Result U Error) (at : ℕ) (new : List ℕ) (e : ℕ) → now ≡ xs → IsErrAnd q Q
    → WriteOutcome keeps xs (splice (zero_extended xs e) at new) now q
refused_at_once {keeps = keeps} {xs = xs} Q q at new e same err =
    let p = err_from_is_err_and q err in
    rw same (WriteOutcome_unchanged keeps xs (splice (zero_extended xs e) at new) q p.0 p.1 (part_no_shorter xs at new e))

-- Some bytes are written in two: `k` of them, padded up to `e`, and then all others, padded up to `d`.
pub record IsSplit (k at n e d : ℕ) : Type 0 where
  pub inside : k ≤ n
  pub first : at + k ≤ e
  pub longer : e ≤ d
  pub covers : at + n ≤ d

-- what follows the first bytes of a slice is as long as is left
pub length-rest : (vs : List ℕ) (k : ℕ) → length (take (length vs - k) (drop k vs)) ≡ length vs - k
length-rest vs k = ap length (take_rest vs k) ∙ length-drop k vs

-- the first leaves what was there or what both leave
first_between : (xs vs : List ℕ) (k at e d : ℕ) → IsSplit k at (length vs) e d → OldOrNew xs (splice (zero_extended xs d) at vs) (splice (zero_extended xs e) at (take k vs))
first_between xs vs k at e d s =
    let l : length (take k vs) ≡ k = length-take-le k vs s.inside in
    let short : length (splice (zero_extended xs e) at (take k vs)) ≡ max (length xs) e = length-part xs at (take k vs) e (omega (arith, s.first)) in
    record {
      each = λ p. rw (take-append-drop k vs) at (first_part_at xs at e d (take k vs) (drop k vs) p);
      no_shorter = omega (arith, short);
      no_longer = omega (arith, short, s.longer, length-part xs at vs d s.covers);
    }

-- both are one write
both_parts : (xs vs : List ℕ) (k at e d : ℕ) → IsSplit k at (length vs) e d
    → splice (zero_extended (splice (zero_extended xs e) at (take k vs)) d) (at + k) (drop k vs) ≡ splice (zero_extended xs d) at vs
both_parts xs vs k at e d s =
    let l : length (take k vs) ≡ k = length-take-le k vs s.inside in
    let t = part-append xs at e d (take k vs) (drop k vs) (omega (arith, l, s.first)) s.longer (omega (arith, l, s.covers, s.inside, length-drop k vs)) in
    rw (l, take-append-drop k vs) at t

-- the first was refused
pub first_refused : {T U : Type 0} {keeps : Bool} {xs now : List ℕ} {k at e d : ℕ} {r : Result T Error} {x : Error} (Q : Error → Type 0) (q : Result U Error) (vs : List ℕ) → IsSplit k at (length vs) e d
    → WriteOutcome keeps xs (splice (zero_extended xs e) at (take k vs)) now r → r ≡ Err x → IsErrAnd q Q → WriteOutcome keeps xs (splice (zero_extended xs d) at vs) now q
first_refused {xs = xs} {k = k} {at = at} {e = e} {d = d} Q q vs s w was err =
    let p = err_from_is_err_and q err in
    WriteOutcome_refused _ _ _ _ _ _ _ _ p.0 was p.1 (first_between xs vs k at e d s) w

-- the first was written, and then the second had its outcome
pub second_written : {T U : Type 0} {keeps : Bool} {xs mid now : List ℕ} {k at e d : ℕ} {r : Result T Error} {x : T} {q : Result U Error} (vs : List ℕ) → IsSplit k at (length vs) e d
    → WriteOutcome keeps xs (splice (zero_extended xs e) at (take k vs)) mid r → r ≡ Ok x
    → WriteOutcome keeps mid (splice (zero_extended mid d) (at + k) (drop k vs)) now q → WriteOutcome keeps xs (splice (zero_extended xs d) at vs) now q
second_written {xs = xs} {mid = mid} {k = k} {at = at} {e = e} {d = d} vs s w was v =
    let l : length (take k vs) ≡ k = length-take-le k vs s.inside in
    let second : at + k + length (drop k vs) ≤ d = omega (arith, s.covers, s.inside, length-drop k vs) in
    WriteOutcome_then _ _ _ _ _ _ _ _ _ _ w was v (first_between xs vs k at e d s)
    (λ made. rw made (both_parts xs vs k at e d s))
    (λ size. omega (arith, size, s.longer, length-part mid (at + k) (drop k vs) d second, length-part xs at (take k vs) e (omega (arith, l, s.first)), length-part xs at vs d s.covers))

-- the parts of a padded request are the work of one write
pub write_work : (f : Features) (at n start len block : ℕ) (old new : IoCount) → AddsAtMost 2 (min (2 * block) len) 3 len old new → block ≡ len_align f
    → IsPaddedRequest f at n start len → IsWriteWork f at n old new
write_work f at n start len block old new w same q = rw (same, q.is_len) at w
