-- Bytes of a list from an offset on.
-- SPDX-License-Identifier: MIT
use Rattle.std.proofs.Common.{◌≡◌, ℕ, ◌+◌, List, EachIndex, length, slice_index, refl, sym, ◌∙◌}
use Rattle.std.proofs.lemmas.List.{same_lists, get_or_default}
use Rattle.std.proofs.lemmas.List.FromFn.{length-map-range_with_len, get_or-map-range_with_len}
use Rattle.imago_storage.specs.Bytes.{bytes_at}

-- a buffer that was filled from there on
pub read_bytes : (xs : List ℕ) (o : ℕ) (buf : List ℕ) → EachIndex buf (λ k. slice_index buf k ≡ slice_index xs (o + k)) → buf ≡ bytes_at xs o (length buf)
read_bytes xs o buf h =
    let f : ℕ → ℕ = slice_index xs in
    same_lists _ _ (sym (length-map-range_with_len f o (length buf)))
    (λ k d lt. get_or_default buf k d 0 lt ∙ h k lt ∙ sym (get_or-map-range_with_len f o (length buf) k (o + k) d lt refl))
