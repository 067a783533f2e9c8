-- Streams of compressed clusters, and what they put out.
-- SPDX-License-Identifier: MIT
use Rattle.std.proofs.Common.{◌≡◌, ℕ, ◌+◌, ◌<◌, List, length, slice_index, true, refl, sym, ap, ◌∙◌}
use Rattle.std.proofs.lemmas.List.{same_lists, get_or_default}
use Rattle.std.proofs.lemmas.List.FromFn.{length-map-range_with_len, get_or-map-range_with_len}
use Rattle.imago_storage.specs.Bytes.{IsReadAt, bytes_at}
use Rattle.imago_inflate.specs.Inflate.{inflated}
use Rattle.imago_qcow2.specs.declared.header.Compression.{Compression}
use Rattle.imago_qcow2.specs.declared.header.Compression.TheVariants as By
use Rattle.imago_qcow2.specs.Compressed.{value_in, packed_value}
use Rattle.imago_qcow2.specs.Disk.{AreSameBytes}

-- what was read from an offset on is the bytes there
pub read_bytes : (bytes : List ℕ) (at n : ℕ) (stream : List ℕ) → length stream ≡ n → IsReadAt bytes at stream → stream ≡ bytes_at bytes at n
read_bytes bytes at n stream len h =
    let f : ℕ → ℕ = slice_index bytes in
    same_lists _ _ (len ∙ sym (length-map-range_with_len f at n))
    (λ k d lt. get_or_default stream k d 0 lt ∙ h k lt ∙ sym (get_or-map-range_with_len f at n k (at + k) d (rw len at lt) refl))

-- two files with the same bytes there
pub same_bytes : (a b : List ℕ) (at n : ℕ) → AreSameBytes a b at n → bytes_at a at n ≡ bytes_at b at n
same_bytes a b at n h =
    let f : ℕ → ℕ = slice_index a in
    let g : ℕ → ℕ = slice_index b in
    let len = length-map-range_with_len f at n in
    same_lists _ _ (len ∙ sym (length-map-range_with_len g at n))
    (λ k d lt. let under : k < n = rw len at lt in
    get_or-map-range_with_len f at n k (at + k) d under refl ∙ h k under ∙ sym (get_or-map-range_with_len g at n k (at + k) d under refl))

pub packed_same : (by : Compression) (a b : List ℕ) (cluster at n i : ℕ) → bytes_at a at n ≡ bytes_at b at n → packed_value true by a cluster at n i ≡ packed_value true by b cluster at n i
packed_same By.Zstd a b cluster at n i h = refl
packed_same By.Deflate a b cluster at n i h = ap (λ s. value_in (inflated s cluster) i) h
