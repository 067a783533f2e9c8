-- The head of a file is its bytes with zeroes behind them, and the first 512 bytes alone tell it.
-- SPDX-License-Identifier: MIT
use Rattle.std.proofs.Common.{◌≡◌, ◌∙◌, ℕ, ◌+◌, ◌-◌, ◌<◌, ◌≤◌, ◌⊎◌, List, [], ◌∷◌, ◌++◌, length, take, drop, min, replicate, slice_index, refl, sym, ap, inl, inr, arith}
use Rattle.std.proofs.lemmas.List.{take_all, take-append-le, take-replicate, drop-replicate, append-nil, length-take, length-take-le, get_or-take}
use Rattle.std.proofs.lemmas.Grind.{same_number_lists}
use Rattle.std.proofs.Math.Seq.{take-append-add}
use Rattle.imago_formats.specs.Bytes.{head}
use Rattle.imago_formats.specs.Probes.{taken_by_qemu, probed}
use Rattle.imago_formats.specs.Laws.{FirstBytesTell}

abbrev pub zeroes : ℕ → List ℕ
zeroes n = replicate {A = ℕ} n 0

short_head : (bytes : List ℕ) → length bytes ≤ 512 → head bytes ≡ bytes ++ zeroes (512 - length bytes)
unfolding head
short_head bytes short =
    let n = 512 - length bytes in
    let all : length bytes + n ≡ 512 = omega arith in
    let less : n ≤ 512 = omega arith in
    sym (ap (λ k. take k (bytes ++ zeroes 512)) all) ∙ take-append-add bytes (zeroes 512) n
    ∙ ap (λ zs. bytes ++ zs) (take-replicate n 512 0 less)

long_head : (bytes : List ℕ) → 512 ≤ length bytes → head bytes ≡ take 512 bytes
unfolding head
long_head bytes long = take-append-le 512 bytes (zeroes 512) long

either_way : (n : ℕ) → (n ≤ 512) ⊎ (512 ≤ n)
either_way n = search arith

-- what was copied over the first of 512 zeroes
pub padded : (bytes new : List ℕ) (count : ℕ) → count ≡ min (length bytes) 512 → new ≡ take count bytes
    → new ++ drop count (zeroes 512) ≡ head bytes
padded bytes new count is copied = either (either_way (length bytes))
  where
    either : (length bytes ≤ 512) ⊎ (512 ≤ length bytes) → new ++ drop count (zeroes 512) ≡ head bytes
    either (inl short) =
        let all : count ≡ length bytes = omega (arith, is, short) in
        let whole : new ≡ bytes = copied ∙ take_all count bytes (omega (arith, all)) in
        rw (whole, all) (ap (λ zs. bytes ++ zs) (drop-replicate (length bytes) 512 0) ∙ sym (short_head bytes short))
    either (inr long) =
        let all : count ≡ 512 = omega (arith, is, long) in
        rw (copied, all) (ap (λ zs. take 512 bytes ++ zs) (drop-replicate 512 512 0)
        ∙ append-nil (take 512 bytes) ∙ sym (long_head bytes long))

-- a file that isn't empty is what its head tells
pub by_head : (name bytes : List ℕ) → 0 < length bytes → taken_by_qemu name bytes ≡ probed name (head bytes)
by_head name [] some = absurd (omega (arith, some))
by_head name (b ∷ bytes) some = refl

same_head : (bytes : List ℕ) → 512 ≤ length bytes → head (take 512 bytes) ≡ head bytes
same_head bytes long =
    let whole : length (take 512 bytes) ≡ 512 = length-take-le 512 bytes long in
    long_head (take 512 bytes) (omega (arith, whole)) ∙ take_all 512 (take 512 bytes) (omega (arith, whole))
    ∙ sym (long_head bytes long)

pub first_bytes_tell : FirstBytesTell
first_bytes_tell name bytes = either (either_way (length bytes))
  where
    either : (length bytes ≤ 512) ⊎ (512 ≤ length bytes) → taken_by_qemu name (take 512 bytes) ≡ taken_by_qemu name bytes
    either (inl short) = ap (taken_by_qemu name) (take_all 512 bytes short)
    either (inr long) =
        let whole : length (take 512 bytes) ≡ 512 = length-take-le 512 bytes long in
        by_head name (take 512 bytes) (omega (arith, whole)) ∙ ap (probed name) (same_head bytes long)
        ∙ sym (by_head name bytes (omega (arith, long)))

-- a block that was read of a file, of 512 bytes or all of them, tells what the file is taken for
pub told_by_block :
    (name bytes block : List ℕ) → length block ≡ min (length bytes) 512
    → ((i : ℕ) → i < length block → slice_index block i ≡ slice_index bytes i)
    → taken_by_qemu name block ≡ taken_by_qemu name bytes
told_by_block name bytes block long read =
    let same : length block ≡ length (take 512 bytes) = omega (arith, long, length-take 512 bytes) in
    let is : block ≡ take 512 bytes = same_number_lists block (take 512 bytes) same
    (λ k below. read k below ∙ sym (get_or-take 512 bytes k 0 (omega (arith, long, below)))) in
    ap (taken_by_qemu name) is ∙ first_bytes_tell name bytes
