-- Zeroes of a file in memory.
-- SPDX-License-Identifier: MIT
use Rattle.std.proofs.Common.{◌≡◌, ℕ, ◌+◌, ◌<◌, ◌≤◌, ⊎_elim, List, length, replicate, slice_index, refl, sym, ◌∙◌, arith}
use Rattle.std.proofs.lemmas.Bool.{cases_lt}
use Rattle.std.proofs.lemmas.List.{same_lists, get_or_past, get_or-replicate, length-replicate}
use Rattle.std.proofs.lemmas.List.FromFn.{length-map-range_with_len, get_or-map-range_with_len}
use Rattle.imago_storage.specs.Bytes.{bytes_at}

-- bytes that are 0, one by one
pub zeroes : (xs : List ℕ) (o n : ℕ) → ((k : ℕ) → k < n → slice_index xs (o + k) ≡ 0) → bytes_at xs o n ≡ replicate {A = ℕ} n 0
zeroes xs o n zero =
    let f : ℕ → ℕ = slice_index xs in
    let left : length (bytes_at xs o n) ≡ n = length-map-range_with_len f o n in
    same_lists _ _ (left ∙ sym (length-replicate {A = ℕ} n 0))
    (λ k d h.
    let lt : k < n = omega (arith, h, left) in
    get_or-map-range_with_len f o n k (o + k) d lt refl ∙ zero k lt ∙ sym (get_or-replicate n k 0 d lt))

-- some are 0, and behind them the file ends
pub zeroes_to_end : (xs : List ℕ) (o m n : ℕ) → ((k : ℕ) → k < m → slice_index xs (o + k) ≡ 0) → length xs ≤ o + m → bytes_at xs o n ≡ replicate {A = ℕ} n 0
zeroes_to_end xs o m n zero past = zeroes xs o n (λ k lt. ⊎_elim
    (λ before. zero k before)
    (λ behind. let far : length xs ≤ o + k = omega (arith, past, behind) in get_or_past xs (o + k) 0 far)
    (cases_lt k m))
