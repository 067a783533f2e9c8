-- SPDX-License-Identifier: MIT
use Rattle.std.proofs.Common.{◌≡◌, ℕ, ◌+◌, ◌-◌, ◌%◌, ◌<◌, ◌≤◌, ◌⊎◌, ⊎_elim, inl, inr, Bool, true, false, List, refl, sym, ap, ◌∙◌, arith, min, nat_lt}
use Rattle.std.specs.Prelude.{slice_index, not, Result, Ok, Err, IfErr}
use Rattle.std.proofs.lemmas.Bool.{cases_lt}
use Rattle.std.proofs.lemmas.Bool.Decides.{nat_tests}
use Rattle.std.proofs.Math.Nat.{mod-le}
use Rattle.imago_storage.specs.Features.{Features, len_align}
use Rattle.imago_storage.specs.declared.error.Error.{Error}
use Rattle.imago_storage.specs.declared.error.Error.TheVariants as E
use Rattle.imago_drivers.specs.LayerBelow.{LayerBelow}
use Rattle.imago_drivers.specs.Place.{Value, Byte}
use Rattle.imago_drivers.specs.Reasons.{allowed}
use Rattle.imago_drivers.specs.Lengths.{padded_to}
use Rattle.imago_cow.specs.Copies.{old_value, block_from, block_until, IsInBlock, IsApart, copy_reasons, round_reasons}

-- a copy round a range: what stands before it, then what stands behind it
pub round_copied : (at : ℕ → Value) (absent overwrite : Bool) (mid now : List ℕ) (o run size block start count : ℕ) → 0 < block → count ≡ min block (size - (o - o % block)) → overwrite ≡ true
    → ((k : ℕ) → k < o % block → old_value at absent (o - o % block + k) ≡ Byte (slice_index mid (start + k)))
    → ((k : ℕ) → k < count - (o % block + run) → old_value at absent (o - o % block + (o % block + run) + k) ≡ Byte (slice_index now (start + (o % block + run) + k)))
    → ((p : ℕ) → (p < start + (o % block + run)) ⊎ (start + (o % block + run) + (count - (o % block + run)) ≤ p) → slice_index now p ≡ slice_index mid p)
    → (p : ℕ) → block_from block o ≤ p → p < block_until block size o → (overwrite ≡ true → (p < o) ⊎ (o + run ≤ p)) → old_value at absent p ≡ Byte (slice_index now (start + (p - block_from block o)))
round_copied at absent overwrite mid now o run size block start count positive is_count over first second outside p h k out =
    let r : o % block ≤ o = mod-le o block in
    ⊎_elim
    (λ before.
    let e : o - o % block + (p - (o - o % block)) ≡ p = omega (arith, h) in
    let l : p - (o - o % block) < o % block = omega (arith, h, before, r) in
    let a : old_value at absent p ≡ Byte (slice_index mid (start + (p - (o - o % block)))) = rw e at (first (p - (o - o % block)) l) in
    a ∙ ap (λ b. Byte b) (sym (outside (start + (p - (o - o % block))) (inl (omega (arith, l))))))
    (λ behind.
    let e : o - o % block + (o % block + run) + (p - (o + run)) ≡ p = omega (arith, behind, r) in
    let l : p - (o + run) < count - (o % block + run) = omega (arith, k, behind, r, is_count) in
    let f : start + (o % block + run) + (p - (o + run)) ≡ start + (p - (o - o % block)) = omega (arith, behind, r) in
    let a : old_value at absent p ≡ Byte (slice_index now (start + (o % block + run) + (p - (o + run)))) = rw e at (second (p - (o + run)) l) in
    a ∙ ap (λ x. Byte (slice_index now x)) f)
    (out over)

pub not_false : (b : Bool) → not b ≡ false → b ≡ true
not_false true e = refl
not_false false e = let z : ⊥ = cc in absurd z

pub only_false : (b : Bool) → not b ≡ true → b ≡ false
only_false true e = let z : ⊥ = cc in absurd z
only_false false e = refl

pub not_true : (b : Bool) → not b ≡ true → b ≡ true → ⊥
not_true true e h = let z : ⊥ = cc in z
not_true false e h = let z : ⊥ = cc in z

-- a padded write in a range ends by that range's end and one alignment
pub padded_within : (f : Features) (to n end : ℕ) → to + n ≤ end → padded_to f to n ≤ end + (len_align f - 1)
padded_within f to n end h = ⊎_elim
    (λ some. let t : nat_lt 0 n ≡ true = grind (arith, nat_tests) in rw t (omega (arith, h)))
    (λ none. let t : nat_lt 0 n ≡ false = grind (arith, nat_tests) in rw t (omega arith))
    (cases_lt 0 n)

-- A copy in the guest block, to its place in the data block, is refused only for what a copy of the
-- guest block may be.
module _ (f : Features) (l : LayerBelow) (absent overwrite : Bool) (block size o n to q m at : ℕ) (after : to ≤ at) (before : at + m ≤ to + block) (inside : 0 < m → IsInBlock block size o q m) (apart : overwrite ≡ true → IsApart o n q m) where
  pub round_allowed : (e : Error) → allowed (copy_reasons f l absent q m at) e → allowed (round_reasons f l absent overwrite block size o n to) e
  round_allowed E.WrapAround c = ⊎_elim (λ w. inl (refl, record { from = at; count = m; above = after; below = before; wraps = w.1 })) (λ d. inr (d.0, (q, m, inside (c.0), apart, d.1))) (c.1)
  round_allowed E.InvalidData c = ⊎_elim (λ w. let x : Error.InvalidData ≡ Error.WrapAround = w.0 in let z : ⊥ = cc in absurd z) (λ d. inr (d.0, (q, m, inside (c.0), apart, d.1))) (c.1)
  round_allowed E.Unsupported c = ⊎_elim (λ w. let x : Error.Unsupported ≡ Error.WrapAround = w.0 in let z : ⊥ = cc in absurd z) (λ d. inr (d.0, (q, m, inside (c.0), apart, d.1))) (c.1)
  round_allowed E.NoAccess c = ⊎_elim (λ w. let x : Error.NoAccess ≡ Error.WrapAround = w.0 in let z : ⊥ = cc in absurd z) (λ d. inr (d.0, (q, m, inside (c.0), apart, d.1))) (c.1)
  round_allowed E.Device c = c
  round_allowed E.Memory c = c
  round_allowed E.ReadOnly c = c
  round_allowed E.BeyondDisk c = c
  round_allowed E.RangeOverflow c = c
  round_allowed E.ForeignMapping c = c
  round_allowed E.Denied c = c
  round_allowed E.NotFound c = c

  pub round_if_allowed : {T : Type 0} (r : Result T Error) → IfErr r (allowed (copy_reasons f l absent q m at)) → IfErr r (allowed (round_reasons f l absent overwrite block size o n to))
  round_if_allowed (Ok x) c = tt
  round_if_allowed (Err e) c = round_allowed e c

-- the part of a guest block from that place of it on, which ends by the disk's end
pub in_block_part : (block size o rest count q m before : ℕ) → rest ≡ o % block → count ≡ min block (size - (o - rest)) → q ≡ o - rest + before → before + m ≤ count → 0 < m → IsInBlock block size o q m
in_block_part block size o rest count q m before is is_count is_q fits some = record { some = some; above = omega (arith, is, is_q); below = omega (arith, is, is_q, is_count, fits, some) }
