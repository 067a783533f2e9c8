-- The headers of two lists of bytes that begin alike.
-- SPDX-License-Identifier: MIT
use Rattle.std.proofs.Common.{◌≡◌, ℕ, ◌+◌, ◌^◌, ◌<◌, ◌≤◌, List, length, refl, ap, ◌∙◌, arith}
use Rattle.std.specs.Prelude.{slice_index}
use Rattle.imago_storage.specs.Bytes.{IsReadAt}
use Rattle.imago_qcow2.specs.declared.header.Header.{Header}
use Rattle.imago_qcow2.specs.Numbers.{be32, be64}
use Rattle.imago_qcow2.specs.Header.{magic_fault, features_at, support_fault, bounds_fault, added_fault, name_fault, size_fault, table_fault, own_length, compression_of, header_of, IsSound}
use Rattle.imago_qcow2.proofs.NumberSteps.{range32, range64}

module _ (bytes head : List ℕ) (same : (i : ℕ) → i < 112 → slice_index head i ≡ slice_index bytes i) where
  moved : (i : ℕ) → i < 112 → slice_index head (0 + i) ≡ slice_index bytes (0 + i)
  moved i h = let e : 0 + i ≡ i = omega arith in rw e (same i h)

  pub same32 : (i : ℕ) → i + 4 ≤ 112 → be32 head i ≡ be32 bytes i
  same32 i h = let e : 0 + i ≡ i = omega arith in let x = range32 head bytes 0 112 moved i h in rw e at x

  pub same64 : (i : ℕ) → i + 8 ≤ 112 → be64 head i ≡ be64 bytes i
  same64 i h = let e : 0 + i ≡ i = omega arith in let x = range64 head bytes 0 112 moved i h in rw e at x

  pub same8 : slice_index head 104 ≡ slice_index bytes 104
  same8 = same 104 (omega arith)

  pub header_same : (file : ℕ) → header_of head file ≡ header_of bytes file
  unfolding header_of compression_of own_length magic_fault features_at support_fault bounds_fault added_fault name_fault size_fault table_fault
  header_same file =
      let a = same32 0 (omega arith) in
      let b = same32 4 (omega arith) in
      let c = same32 16 (omega arith) in
      let d = same32 20 (omega arith) in
      let e = same32 32 (omega arith) in
      let f = same32 36 (omega arith) in
      let g = same32 96 (omega arith) in
      let h = same32 100 (omega arith) in
      let i = same64 8 (omega arith) in
      let j = same64 24 (omega arith) in
      let k = same64 40 (omega arith) in
      let m = same64 72 (omega arith) in
      let n = same64 80 (omega arith) in
      let o = same64 88 (omega arith) in
      rw (a, b, c, d, e, f, g, h, i, j, k, m, n, o, same8) refl

  own_same : own_length head ≡ own_length bytes
  unfolding own_length
  own_same = let a = same32 4 (omega arith) in let b = same32 100 (omega arith) in rw (a, b) refl

  pub compression_same : compression_of head ≡ compression_of bytes
  unfolding compression_of
  compression_same = let a = same32 4 (omega arith) in let b = same32 100 (omega arith) in rw (a, b, same8) refl

  pub sound_same : (file : ℕ) (h : Header) → IsSound head file h → IsSound bytes file h
  sound_same file h s = record {
    version = s.version ∙ same32 4 (omega arith);
    own = s.own ∙ own_same;
    cluster = s.cluster ∙ ap (λ b. 2 ^ b) (same32 20 (omega arith));
    size = s.size ∙ same64 24 (omega arith);
    start = s.start ∙ same64 40 (omega arith);
    name_start = s.name_start ∙ same64 8 (omega arith);
    name_length = s.name_length ∙ same32 16 (omega arith);
    compression = s.compression ∙ compression_same;
    is_size = s.is_size;
    least = s.least;
    most = s.most;
    inside = s.inside;
    covers = s.covers;
  }

-- what was read of a file's begin begins like it
pub head_same : (bytes head : List ℕ) → IsReadAt bytes 0 head → 112 ≤ length head → (i : ℕ) → i < 112 → slice_index head i ≡ slice_index bytes i
head_same bytes head r l i h = let e : 0 + i ≡ i = omega arith in r i (omega (arith, h, l)) ∙ ap (slice_index bytes) e
