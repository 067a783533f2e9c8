-- Reference counts, in a block and one block after the other.
-- SPDX-License-Identifier: MIT
use Rattle.std.proofs.Common.{◌≡◌, ℕ, zero, suc, ◌+◌, ◌-◌, ◌*◌, ◌/◌, ◌%◌, ◌^◌, ◌<◌, ◌≤◌, List, length, min, refl, ap, sym, ◌∙◌, ⊎_elim, add-one, arith}
use Rattle.std.proofs.Math.Nat.{suc-mul}
use Rattle.std.specs.Prelude.{slice_index}
use Rattle.std.proofs.lemmas.Bool.{cases_lt}
use Rattle.std.proofs.lemmas.Nat.{div-mul-add, mod-mul-add}
use Rattle.imago_storage.specs.Bytes.{IsReadAt}
use Rattle.imago_qcow2.specs.Numbers.{be32, be64}
use Rattle.imago_qcow2_check.specs.Counts.{be_number, count_in, per_block, count_by}
use Rattle.imago_qcow2_check.specs.CountParts.{AppendsCounts, block_in, count_from, most_counted}

pub number_32 : (bytes : List ℕ) (at : ℕ) → be_number bytes at 4 ≡ be32 bytes at
unfolding be32
number_32 bytes at =
    let z : slice_index bytes (at + 0) ≡ slice_index bytes at = ap (slice_index bytes) (omega arith) in
    omega (arith, z)

pub number_64 : (bytes : List ℕ) (at : ℕ) → be_number bytes at 8 ≡ be64 bytes at
unfolding be64 be32
number_64 bytes at =
    let z : slice_index bytes (at + 0) ≡ slice_index bytes at = ap (slice_index bytes) (omega arith) in
    let e : at + 4 + 1 ≡ at + 5 = omega arith in
    let f : at + 4 + 2 ≡ at + 6 = omega arith in
    let g : at + 4 + 3 ≡ at + 7 = omega arith in
    rw (e, f, g) (omega (arith, z))

pub first : (block : List ℕ) (j k m : ℕ) → slice_index block j / 2 ^ k % m ≡ slice_index block (0 + j) / 2 ^ k % m
first block j k m = let e : j ≡ 0 + j = omega arith in ap (λ x. slice_index block x / 2 ^ k % m) e

module _ (block : List ℕ) (i : ℕ) where
  pub count_8 : slice_index block i ≡ count_in 3 block 0 i
  unfolding count_in
  count_8 =
      let p : slice_index block (0 + i * 1 + 0) ≡ slice_index block i = ap (slice_index block) (omega arith) in
      omega (arith, p)

  pub count_16 : be_number block (2 * i) 2 ≡ count_in 4 block 0 i
  unfolding count_in
  count_16 = ap (λ x. be_number block x 2) (omega arith)

  pub count_32 : be32 block (4 * i) ≡ count_in 5 block 0 i
  unfolding count_in
  count_32 = sym (number_32 block (4 * i)) ∙ ap (λ x. be_number block x 4) (omega arith)

  pub count_64 : be64 block (8 * i) ≡ count_in 6 block 0 i
  unfolding count_in
  count_64 = sym (number_64 block (8 * i)) ∙ ap (λ x. be_number block x 8) (omega arith)

-- where a count stands in a block
module _ (i n : ℕ) where
  pub inside_0 : i < per_block 0 n → i * 1 < 8 * n
  unfolding per_block
  inside_0 h = omega (arith, h)

  pub inside_1 : i < per_block 1 n → i * 2 < 8 * n
  unfolding per_block
  inside_1 h = omega (arith, h)

  pub inside_2 : i < per_block 2 n → i * 4 < 8 * n
  unfolding per_block
  inside_2 h = omega (arith, h)

  pub inside_3 : i < per_block 3 n → i < n
  unfolding per_block
  inside_3 h = omega (arith, h)

  pub inside_4 : i < per_block 4 n → 2 * i + 2 ≤ n
  unfolding per_block
  inside_4 h = omega (arith, h)

  pub inside_5 : i < per_block 5 n → 4 * i + 4 ≤ n
  unfolding per_block
  inside_5 h = omega (arith, h)

  pub inside_6 : i < per_block 6 n → 8 * i + 8 ≤ n
  unfolding per_block
  inside_6 h = omega (arith, h)

pub per_some : (order n : ℕ) → order ≤ 6 → 512 ≤ n → 0 < per_block order n
unfolding per_block
per_some zero n h k = omega (arith, k)
per_some (suc zero) n h k = omega (arith, k)
per_some (suc (suc zero)) n h k = omega (arith, k)
per_some (suc (suc (suc zero))) n h k = omega (arith, k)
per_some (suc (suc (suc (suc zero)))) n h k = omega (arith, k)
per_some (suc (suc (suc (suc (suc zero))))) n h k = omega (arith, k)
per_some (suc (suc (suc (suc (suc (suc zero)))))) n h k = omega (arith, k)
per_some (suc (suc (suc (suc (suc (suc (suc m))))))) n h k = absurd (omega (arith, h))

pub times_more : (i p : ℕ) → (i + 1) * p ≡ i * p + p
times_more i p = rw add-one (suc-mul i p)

-- what a block has that was read
module _ (bytes block : List ℕ) (start : ℕ) (r : IsReadAt bytes start block) where
  byte_read : (j : ℕ) → j < length block → slice_index block (0 + j) ≡ slice_index bytes (start + j)
  byte_read j h = let e : slice_index block (0 + j) ≡ slice_index block j = ap (slice_index block) (omega arith) in e ∙ r j h

  pub number_read : (j k : ℕ) → j + k ≤ length block → be_number block (0 + j) k ≡ be_number bytes (start + j) k
  number_read j zero h = refl
  number_read j (suc k) h =
      let a = number_read j k (omega (arith, h)) in
      let b : slice_index block (j + k) ≡ slice_index bytes (start + (j + k)) = r (j + k) (omega (arith, h)) in
      let c : slice_index bytes (start + (j + k)) ≡ slice_index bytes (start + j + k) = ap (slice_index bytes) (omega arith) in
      let d : slice_index block (0 + j + k) ≡ slice_index block (j + k) = ap (slice_index block) (omega arith) in
      omega (arith, a, b, c, d)

  pub count_read : (order i : ℕ) → order ≤ 6 → i < per_block order (length block) → count_in order block 0 i ≡ count_in order bytes start i
  unfolding count_in
  count_read zero i h below = ap (λ x. x / 2 ^ (i * 1 % 8) % 2) (byte_read (i * 1 / 8) (omega (arith, inside_0 i (length block) below)))
  count_read (suc zero) i h below = ap (λ x. x / 2 ^ (i * 2 % 8) % 4) (byte_read (i * 2 / 8) (omega (arith, inside_1 i (length block) below)))
  count_read (suc (suc zero)) i h below = ap (λ x. x / 2 ^ (i * 4 % 8) % 16) (byte_read (i * 4 / 8) (omega (arith, inside_2 i (length block) below)))
  count_read (suc (suc (suc zero))) i h below = number_read (i * 1) 1 (omega (arith, inside_3 i (length block) below))
  count_read (suc (suc (suc (suc zero)))) i h below = number_read (i * 2) 2 (omega (arith, inside_4 i (length block) below))
  count_read (suc (suc (suc (suc (suc zero))))) i h below = number_read (i * 4) 4 (omega (arith, inside_5 i (length block) below))
  count_read (suc (suc (suc (suc (suc (suc zero)))))) i h below = number_read (i * 8) 8 (omega (arith, inside_6 i (length block) below))
  count_read (suc (suc (suc (suc (suc (suc (suc n))))))) i h below = absurd (omega (arith, h))

pub appends_same : (f g : ℕ → ℕ) (n : ℕ) (old new : List ℕ) → ((i : ℕ) → i < n → f i ≡ g i) → AppendsCounts f n old new → AppendsCounts g n old new
appends_same f g n old new h x = record {
  len = x.len;
  kept = x.kept;
  added = λ i below. let e = h i below in rw (← e) (x.added i below);
}

-- a count of one more block
more_at : (order cluster : ℕ) (bytes table old new : List ℕ) (index per count entry n i : ℕ) → per ≡ per_block order cluster → length old ≡ index * per → count ≤ per → entry ≡ block_in table index
    → AppendsCounts (count_by order cluster bytes entry) count old new → n ≡ length old + i → i < count → slice_index new n ≡ min (count_from order cluster bytes table n) most_counted
more_at order cluster bytes table old new index per count entry n i is len few is_entry x at inside =
    let small : i < per = omega (arith, inside, few) in
    let place : n ≡ index * per + i = omega (arith, at, len) in
    let q : n / per ≡ index = ap (λ m. m / per) place ∙ div-mul-add index per i small in
    let m : n % per ≡ i = ap (λ m. m % per) place ∙ mod-mul-add index per i small in
    let e : slice_index new n ≡ min (count_by order cluster bytes entry i) most_counted = ap (slice_index new) at ∙ x.added i inside in
    let c : count_from order cluster bytes table n ≡ count_by order cluster bytes (block_in table (n / per)) (n % per) = rw is refl in
    let d : count_by order cluster bytes (block_in table (n / per)) (n % per) ≡ count_by order cluster bytes entry i =
    ap (λ k. count_by order cluster bytes (block_in table k) (n % per)) q ∙ ap (count_by order cluster bytes (block_in table index)) m ∙ ap (λ y. count_by order cluster bytes y i) (sym is_entry) in
    e ∙ ap (λ y. min y most_counted) (sym (c ∙ d))

-- the counts of one more block
pub blocks_more : (order cluster : ℕ) (bytes table old new : List ℕ) (index per count entry : ℕ) → per ≡ per_block order cluster → length old ≡ index * per → count ≤ per → entry ≡ block_in table index
    → AppendsCounts (count_by order cluster bytes entry) count old new → ((n : ℕ) → n < length old → slice_index old n ≡ min (count_from order cluster bytes table n) most_counted)
    → (n : ℕ) → n < length new → slice_index new n ≡ min (count_from order cluster bytes table n) most_counted
blocks_more order cluster bytes table old new index per count entry is len few is_entry x h n below =
    let block_at : (n i : ℕ) → n ≡ length old + i → i < count → slice_index new n ≡ min (count_from order cluster bytes table n) most_counted = λ n i at inside. more_at order cluster bytes table old new index per count entry n i is len few is_entry x at inside in
    ⊎_elim
    (λ (l : n < length old). x.kept n l ∙ h n l)
    (λ (l : length old ≤ n).
    block_at n (n - length old) (omega (arith, l)) (omega (arith, x.len, below, l)))
    (cases_lt n (length old))
