-- SPDX-License-Identifier: MIT
use Rattle.std.proofs.Common.{◌≡◌, ℕ, ◌+◌, ◌-◌, ◌<◌, ◌≤◌, ◌⊎◌, List, ◌++◌, length, take, replicate, get_or, max, arith, inl, refl, ap, ◌∙◌}
use Rattle.std.proofs.lemmas.List.{places, same_lists, take_at, length-append, length-replicate}
use Rattle.imago_storage.specs.Bytes.{splice, OldOrNew}

pub length-splice : (xs : List ℕ) (at : ℕ) (new : List ℕ) → length (splice xs at new) ≡ max (length xs) (at + length new)
unfolding splice
length-splice xs at new = grind (arith, places)

pub splice_inside : (xs : List ℕ) (at : ℕ) (new : List ℕ) (p : ℕ) → at ≤ p → p < at + length new → get_or (splice xs at new) p 0 ≡ get_or new (p - at) 0
unfolding splice
splice_inside xs at new p h k = grind (arith, places)

pub splice_before : (xs : List ℕ) (at : ℕ) (new : List ℕ) (p : ℕ) → p < at → get_or (splice xs at new) p 0 ≡ get_or xs p 0
unfolding splice
splice_before xs at new p h = grind (arith, places)

pub splice_after : (xs : List ℕ) (at : ℕ) (new : List ℕ) (p : ℕ) → at + length new ≤ p → get_or (splice xs at new) p 0 ≡ get_or xs p 0
unfolding splice
splice_after xs at new p h = grind (arith, places)

pub splice-append : (xs : List ℕ) (at : ℕ) (ys zs : List ℕ) → splice (splice xs at ys) (at + length ys) zs ≡ splice xs at (ys ++ zs)
unfolding splice
splice-append xs at ys zs = same_lists _ _ (grind (arith, places)) (λ k d h. grind (arith, places))

-- splices of zeroes follow one another
pub splice_zeroes : (xs : List ℕ) (at m n : ℕ) → splice (splice xs at (replicate m 0)) (at + m) (replicate n 0) ≡ splice xs at (replicate (m + n) 0)
unfolding splice
splice_zeroes xs at m n = same_lists _ _ (grind (arith, places)) (λ k d h. grind (arith, places))

pub OldOrNew_old : (old new : List ℕ) → length old ≤ length new → OldOrNew old new old
OldOrNew_old old new h = record { each = λ p. inl refl; no_shorter = omega arith; no_longer = h }

-- the next step: it stands between what was there and a part, whose every byte is there already or new
pub OldOrNew_more : (old new mid part now : List ℕ) → OldOrNew old new mid → OldOrNew mid part now
    → ((p : ℕ) → (get_or part p 0 ≡ get_or mid p 0) ⊎ (get_or part p 0 ≡ get_or new p 0)) → length part ≤ length new → OldOrNew old new now
OldOrNew_more old new mid part now a b same h = record {
  each = λ p. grind (arith, a.each p, b.each p, same p);
  no_shorter = omega (arith, a.no_shorter, b.no_shorter);
  no_longer = omega (arith, b.no_longer);
}

-- a write past the end, after the bytes have been padded to its end
pub splice_grown : (xs : List ℕ) (at : ℕ) (new : List ℕ) (n : ℕ) → at + length new ≡ n
    → splice (xs ++ replicate (n - length xs) 0) at new ≡ splice xs at new
unfolding splice
splice_grown xs at new n e = same_lists _ _ (grind (arith, places)) (λ k d h. grind (arith, places))

-- a slice of a vector, written over as a whole
pub splice_written : (xs padded ys now : List ℕ) (at : ℕ) (new : List ℕ) (n len : ℕ) → at + length new ≡ n → padded ≡ xs ++ replicate (n - length xs) 0 → len ≡ length padded
    → now ≡ splice padded at new → take len (now ++ ys) ≡ splice xs at new
splice_written xs padded ys now at new n len e p l w =
    let size : length now ≡ len = omega (arith, length-splice padded at new, ap length w, ap length p, length-append xs (replicate (n - length xs) 0), length-replicate {A = ℕ} (n - length xs) 0) in
    take_at now ys len size ∙ w ∙ ap (λ zs. splice zs at new) p ∙ splice_grown xs at new n e

pub splice_length : (xs : List ℕ) (at : ℕ) (new : List ℕ) → length (splice xs at new) ≡ max (length xs) (at + length new)
splice_length xs at new = length-splice xs at new

pub zeroes_read_zero : (n p : ℕ) → get_or (replicate {A = ℕ} n 0) p 0 ≡ 0
zeroes_read_zero n p = grind (arith, places)
