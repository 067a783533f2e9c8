-- What bitmaps use.
-- SPDX-License-Identifier: MIT
use Rattle.std.proofs.Common.{◌≡◌, ℕ, ◌+◌, ◌*◌, ◌/◌, ◌<◌, Bool, false, not, nat_eq, List, length, refl, ap, sym, add-one, arith}
use Rattle.imago_storage.specs.Bytes.{IsReadAt}
use Rattle.imago_qcow2.proofs.NumberSteps.{read64}
use Rattle.imago_qcow2.specs.Numbers.{be64}
use Rattle.imago_qcow2_check.specs.declared.tally.Tally.{Tally}
use Rattle.imago_qcow2_check.specs.declared.bitmaps.Bitmap.{Bitmap}
use Rattle.imago_qcow2_check.specs.declared.bitmaps.Directory.{Directory}
use Rattle.imago_qcow2_check.specs.Sums.{total, one_if}
use Rattle.imago_qcow2_check.specs.Clusters.{Setting, use_of, past_fault}
use Rattle.imago_qcow2_check.specs.Entries.{offset_of, length_at}
use Rattle.imago_qcow2_check.specs.Bitmaps.{bitmap_count, directory_start, directory_length, bitmap_table, bitmap_table_count, bitmap_end, bitmap_at, is_valid_bits, bits_use, bits_faults}
use Rattle.imago_qcow2_check.specs.Bitmaps.{bitmap_uses, bitmap_faults, directory_uses, directory_faults, bitmaps_uses, bitmaps_faults}
use Rattle.imago_qcow2_check.specs.BitmapParts.{IsDirectory, IsBitmap}
use Rattle.imago_qcow2_check.specs.Tallies.{Adds}
use Rattle.imago_qcow2_check.proofs.SumSteps.{total_same}
use Rattle.imago_qcow2_check.proofs.TallySteps.{adds_none, adds_same, adds_then, told_adds}

pub at_first : (bytes : List ℕ) (start : ℕ) → start ≡ bitmap_at bytes start 0
unfolding bitmap_at
at_first bytes start = refl

pub at_next : (bytes : List ℕ) (start i : ℕ) → bitmap_at bytes start (i + 1) ≡ bitmap_end bytes (bitmap_at bytes start i)
unfolding bitmap_at
at_next bytes start i = rw add-one refl

-- no bitmap is valid
pub none_adds : (s : Setting) (bytes : List ℕ) (a : Tally) (at : ℕ) → at ≡ 0 → Adds a a (bitmaps_uses s bytes at) (bitmaps_faults s bytes at)
unfolding bitmaps_uses bitmaps_faults
none_adds s bytes a at e = adds_none a (bitmaps_uses s bytes at) (bitmaps_faults s bytes at) (λ n. rw e refl) (rw e refl)

module _ (s : Setting) (a b c : Tally) where
  pub bits_adds : (entry offset count : ℕ) (valid : Bool) → valid ≡ is_valid_bits s.cluster entry → offset ≡ offset_of entry → count ≡ length_at s.cluster offset → Adds a b (λ n. 0) (one_if (not valid))
      → Adds b c (use_of s offset count) (past_fault s offset count) → Adds a c (bits_use s entry) (bits_faults s entry)
  unfolding bits_use bits_faults
  bits_adds entry offset count valid is_valid is_offset is_count p q =
      let x = rw is_valid at p in
      let y = rw is_offset at (rw is_count at q) in
      let len = length_at s.cluster (offset_of entry) in
      adds_same a c (use_of s (offset_of entry) len) (bits_use s entry) (bits_faults s entry) (bits_faults s entry) (λ n. refl) refl
      (told_adds a b c (use_of s (offset_of entry) len) (one_if (not (is_valid_bits s.cluster entry))) (past_fault s (offset_of entry) len) (bits_faults s entry) x y refl)

  -- a bitmap's table that was read
  pub bitmap_adds : (bytes table : List ℕ) (at : ℕ) (x : Bitmap) → IsBitmap bytes at x → length table ≡ 8 * x.count → IsReadAt bytes x.table table
      → Adds a b (use_of s x.table (8 * x.count)) (past_fault s x.table (8 * x.count))
      → Adds b c (λ n. total (λ i. bits_use s (be64 table (8 * i)) n) (length table / 8)) (total (λ i. bits_faults s (be64 table (8 * i))) (length table / 8))
      → Adds a c (bitmap_uses s bytes at) (bitmap_faults s bytes at)
  unfolding bitmap_uses bitmap_faults
  bitmap_adds bytes table at x is whole r p q =
      let start = bitmap_table bytes at in
      let count = bitmap_table_count bytes at in
      let k : length table / 8 ≡ count = omega (arith, is.count, whole) in
      let u : Adds a b (use_of s start (8 * count)) (past_fault s start (8 * count)) = rw (is.table, is.count) at p in
      let v = rw k at q in
      let there : IsReadAt bytes start table = rw is.table at r in
      let same = λ (i : ℕ) (h : i < count). read64 bytes table start there (8 * i) (omega (arith, whole, is.count, h)) in
      adds_then a b c (use_of s start (8 * count)) (λ n. total (λ i. bits_use s (be64 table (8 * i)) n) count) (bitmap_uses s bytes at)
      (past_fault s start (8 * count)) (total (λ i. bits_faults s (be64 table (8 * i))) count) (bitmap_faults s bytes at) u v
      (λ n. ap (λ t. use_of s start (8 * count) n + t) (total_same (λ i. bits_use s (be64 bytes (start + 8 * i)) n) (λ i. bits_use s (be64 table (8 * i)) n) count (λ i h. ap (λ e. bits_use s e n) (sym (same i h)))))
      (ap (λ t. past_fault s start (8 * count) + t) (total_same (λ i. bits_faults s (be64 bytes (start + 8 * i))) (λ i. bits_faults s (be64 table (8 * i))) count (λ i h. ap (λ e. bits_faults s e) (sym (same i h)))))

  -- a directory, behind which each bitmap was looked at
  pub directory_adds : (bytes : List ℕ) (at : ℕ) (d : Directory) → IsDirectory bytes at d → nat_eq at 0 ≡ false
      → Adds a b (use_of s d.start d.size) (past_fault s d.start d.size)
      → Adds b c (λ n. total (λ i. bitmap_uses s bytes (bitmap_at bytes d.start i) n) d.count) (total (λ i. bitmap_faults s bytes (bitmap_at bytes d.start i)) d.count)
      → Adds a c (bitmaps_uses s bytes at) (bitmaps_faults s bytes at)
  unfolding bitmaps_uses bitmaps_faults directory_uses directory_faults
  directory_adds bytes at d is some p q =
      let start = directory_start bytes at in
      let size = directory_length bytes at in
      let count = bitmap_count bytes at in
      let u : Adds a b (use_of s start size) (past_fault s start size) = rw (is.start, is.size) at p in
      let v : Adds b c (λ n. total (λ i. bitmap_uses s bytes (bitmap_at bytes start i) n) count) (total (λ i. bitmap_faults s bytes (bitmap_at bytes start i)) count) = rw (is.start, is.count) at q in
      adds_then a b c (use_of s start size) (λ n. total (λ i. bitmap_uses s bytes (bitmap_at bytes start i) n) count) (bitmaps_uses s bytes at)
      (past_fault s start size) (total (λ i. bitmap_faults s bytes (bitmap_at bytes start i)) count) (bitmaps_faults s bytes at) u v (λ n. rw some refl) (rw some refl)
