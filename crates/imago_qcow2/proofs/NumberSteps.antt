-- Numbers that stand alike in two lists of bytes are the same.
-- SPDX-License-Identifier: MIT
use Rattle.std.proofs.Common.{◌≡◌, ℕ, ◌+◌, ◌<◌, ◌≤◌, List, length, ap, ◌∙◌, arith}
use Rattle.std.specs.Prelude.{slice_index}
use Rattle.imago_storage.specs.Bytes.{IsReadAt}
use Rattle.imago_qcow2.specs.Numbers.{be32, be64}

-- n bytes of the one, from an offset on, are those of the other
module _ (a b : List ℕ) (at n : ℕ) (r : (i : ℕ) → i < n → slice_index a (at + i) ≡ slice_index b (at + i)) where
  range_byte : (i j : ℕ) → i + j < n → slice_index a (at + i + j) ≡ slice_index b (at + i + j)
  range_byte i j h = let e : at + i + j ≡ at + (i + j) = omega arith in rw e (r (i + j) h)

  pub range32 : (i : ℕ) → i + 4 ≤ n → be32 a (at + i) ≡ be32 b (at + i)
  unfolding be32
  range32 i h =
      let x = r i (omega arith) in
      let y = range_byte i 1 (omega arith) in
      let z = range_byte i 2 (omega arith) in
      let w = range_byte i 3 (omega arith) in
      omega (arith, x, y, z, w)

  pub range64 : (i : ℕ) → i + 8 ≤ n → be64 a (at + i) ≡ be64 b (at + i)
  unfolding be64
  range64 i h =
      let x = range32 i (omega arith) in
      let y : be32 a (at + i + 4) ≡ be32 b (at + i + 4) = (let e : at + i + 4 ≡ at + (i + 4) = omega arith in rw e (range32 (i + 4) (omega arith))) in
      omega (arith, x, y)

-- what a buffer has was read from that offset on
module _ (bytes buffer : List ℕ) (at : ℕ) (r : IsReadAt bytes at buffer) where
  -- the j-th byte from the i-th on
  byte_at : (i j : ℕ) → i + j < length buffer → slice_index buffer (i + j) ≡ slice_index bytes (at + i + j)
  byte_at i j h = let e : at + (i + j) ≡ at + i + j = omega arith in r (i + j) h ∙ ap (slice_index bytes) e

  pub read32 : (i : ℕ) → i + 4 ≤ length buffer → be32 buffer i ≡ be32 bytes (at + i)
  unfolding be32
  read32 i h =
      let a = r i (omega arith) in
      let b = byte_at i 1 (omega arith) in
      let c = byte_at i 2 (omega arith) in
      let d = byte_at i 3 (omega arith) in
      omega (arith, a, b, c, d)

  pub read64 : (i : ℕ) → i + 8 ≤ length buffer → be64 buffer i ≡ be64 bytes (at + i)
  unfolding be64
  read64 i h =
      let a = read32 i (omega arith) in
      let b : be32 buffer (i + 4) ≡ be32 bytes (at + i + 4) = (let e : at + (i + 4) ≡ at + i + 4 = omega arith in read32 (i + 4) (omega arith) ∙ ap (be32 bytes) e) in
      omega (arith, a, b)
