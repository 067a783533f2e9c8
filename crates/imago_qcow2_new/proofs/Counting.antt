-- The reference counts of a new file.
-- SPDX-License-Identifier: MIT
use Rattle.std.proofs.Common.{◌≡◌, ℕ, zero, suc, ◌+◌, ◌-◌, ◌*◌, ◌/◌, ◌%◌, ◌<◌, ◌≤◌, ◌^◌, ⊎_elim, true, false, nat_eq, nat_lt, List, get_or, refl, sym, ap, subst, ◌∙◌, arith}
use Rattle.std.specs.Prelude.{slice_index}
use Rattle.std.specs.Int.{w64, to_be_bytes}
use Rattle.std.proofs.lemmas.Bool.{cases_eq}
use Rattle.std.proofs.lemmas.Bool.Decides.{nat_tests}
use Rattle.std.proofs.lemmas.Nat.{div-add-mod', mul-le, div_below}
use Rattle.imago_drivers.specs.Place.{Value}
use Rattle.imago_qcow2.specs.Numbers.{be32, be64}
use Rattle.imago_qcow2.specs.Entry.{cluster_length}
use Rattle.imago_qcow2_check.specs.Counts.{be_number, count_order, count_in, per_block, blocks_length, block_entry, count_of}
use Rattle.imago_qcow2_new.specs.declared.layout.Layout.{Layout}
use Rattle.imago_qcow2_new.specs.declared.format.Version.TheVariants as V
use Rattle.imago_qcow2_new.specs.Header.{number_of, field_word}
use Rattle.imago_qcow2_new.specs.Layout.{ones, head_word}
use Rattle.imago_qcow2_new.specs.Image.{IsWritten}
use Rattle.imago_qcow2_new.proofs.Whole.{whole_eight, times_eight, whole_sector, sum_whole, times_whole}
use Rattle.imago_qcow2_new.proofs.FileSteps.{per_cluster}
use Rattle.imago_qcow2_new.proofs.WordSteps.{word_whole, word_halves}
use Rattle.imago_qcow2_new.proofs.Reading.{least, starts, head_at, behind, is_field, cluster_is, versions, first_word, own_word}

-- count j of four in a word is 1
abbrev IsOne : ℕ → ℕ → Type 0
IsOne word j = (get_or (to_be_bytes w64 word) (2 * j) 0 ≡ 0) × (get_or (to_be_bytes w64 word) (2 * j + 1) 0 ≡ 1)

one_of_1 : (j : ℕ) → j < 1 → IsOne 281474976710656 j
one_of_1 zero h = (refl, refl)
one_of_1 (suc j) h = absurd (omega (arith, h))

one_of_2 : (j : ℕ) → j < 2 → IsOne 281479271677952 j
one_of_2 zero h = (refl, refl)
one_of_2 (suc zero) h = (refl, refl)
one_of_2 (suc (suc j)) h = absurd (omega (arith, h))

one_of_3 : (j : ℕ) → j < 3 → IsOne 281479271743488 j
one_of_3 zero h = (refl, refl)
one_of_3 (suc zero) h = (refl, refl)
one_of_3 (suc (suc zero)) h = (refl, refl)
one_of_3 (suc (suc (suc j))) h = absurd (omega (arith, h))

one_of_4 : (j : ℕ) → j < 4 → IsOne 281479271743489 j
one_of_4 zero h = (refl, refl)
one_of_4 (suc zero) h = (refl, refl)
one_of_4 (suc (suc zero)) h = (refl, refl)
one_of_4 (suc (suc (suc zero))) h = (refl, refl)
one_of_4 (suc (suc (suc (suc j)))) h = absurd (omega (arith, h))

ones_are : (m j : ℕ) → j < 4 → j < m → IsOne (ones m) j
ones_are m j h k = ⊎_elim
    (λ (a : m ≡ 1). subst (λ x. IsOne (ones x) j) (sym a) (one_of_1 j (omega (arith, a, k))))
    (λ (a : m ≡ 1 → ⊥). ⊎_elim
    (λ (b : m ≡ 2). subst (λ x. IsOne (ones x) j) (sym b) (one_of_2 j (omega (arith, b, k))))
    (λ (b : m ≡ 2 → ⊥). ⊎_elim
    (λ (c : m ≡ 3). subst (λ x. IsOne (ones x) j) (sym c) (one_of_3 j (omega (arith, c, k))))
    (λ (c : m ≡ 3 → ⊥).
    let z : nat_eq m 0 ≡ false = grind (arith, nat_tests, k) in
    let p : nat_eq m 1 ≡ false = grind (arith, nat_tests, a) in
    let q : nat_eq m 2 ≡ false = grind (arith, nat_tests, b) in
    let r : nat_eq m 3 ≡ false = grind (arith, nat_tests, c) in
    let e : ones m ≡ 281479271743489 = rw (z, p, q, r) refl in
    subst (λ x. IsOne x j) (sym e) (one_of_4 j h))
    (cases_eq m 3)) (cases_eq m 2)) (cases_eq m 1)

module _ (l : Layout) (values : ℕ → Value) (file : List ℕ) (is : IsWritten l values file) where
  -- reference counts have 16 bits
  order_is : count_order file ≡ 4
  unfolding count_order
  order_is = ⊎_elim
      (λ (second : l.header.version ≡ V.Two). let v : be32 file 4 ≡ 2 = (first_word l values file is).1 ∙ ap number_of second in rw v refl)
      (λ (third : l.header.version ≡ V.Three). let v : be32 file 4 ≡ 3 = (first_word l values file is).1 ∙ ap number_of third in let o = own_word l values file is third in rw (v, o.0) refl)
      (versions l.header.version)

  pub counts_is : be64 file 48 ≡ l.cluster
  unfolding field_word
  counts_is =
      let e : head_word l 6 ≡ l.header.counts_start = is_field l values file is 6 (omega arith) in
      let small : head_word l 6 < 2 ^ 64 = omega (arith, e, l.counts_at, l.blocks_behind, l.l1_at, l.tables_behind, l.data_at, l.end_at, l.small) in
      word_whole file 48 (head_word l 6) (head_at l values file is 6 (let x = behind l values file is in omega (arith, x))) small ∙ e ∙ l.counts_at

  pub counts_length_is : be32 file 56 ≡ l.header.counts_clusters
  unfolding field_word
  counts_length_is =
      let e : head_word l 7 ≡ l.header.counts_clusters * 4294967296 = is_field l values file is 7 (omega arith) in
      let small : head_word l 7 < 2 ^ 64 = omega (arith, e, l.counts_few) in
      let h = word_halves file 56 (head_word l 7) (head_at l values file is 7 (let x = behind l values file is in omega (arith, x))) small in
      h.0 ∙ omega (arith, e)

  pub count_entries : blocks_length file / 8 ≡ l.header.counts_clusters * (l.cluster / 8)
  count_entries =
      let a = counts_length_is in
      let b = cluster_is l values file is in
      let e : blocks_length file ≡ l.header.counts_clusters * l.cluster = ap (λ x. x * cluster_length file) a ∙ ap (λ x. l.header.counts_clusters * x) b in
      let t : 8 * (l.header.counts_clusters * (l.cluster / 8)) ≡ l.header.counts_clusters * l.cluster = times_eight l.header.counts_clusters l.cluster (per_cluster l) in
      omega (arith, e, t)

  pub blocks_words : 8 * (l.blocks_start / 8) ≡ l.blocks_start
  blocks_words = whole_eight l.cluster l.blocks_start (per_cluster l) l.blocks_whole

  half : l.cluster / 2 ≡ 4 * (l.cluster / 8)
  half = let e = per_cluster l in omega (arith, e)

  -- the table's word for a block
  pub block_there : (q : ℕ) → q < l.blocks → be64 file (l.cluster + 8 * q) ≡ l.blocks_start + q * l.cluster
  unfolding head_word
  block_there q lt =
      let w : ℕ = l.cluster / 8 + q in
      let c8 = per_cluster l in
      let bw = blocks_words in
      let t : 8 * (l.header.counts_clusters * (l.cluster / 8)) ≡ l.header.counts_clusters * l.cluster = times_eight l.header.counts_clusters l.cluster c8 in
      let fits : 8 * w + 8 ≤ l.blocks_start = omega (arith, c8, lt, l.blocks_named, l.blocks_at, t) in
      let a : nat_lt (l.cluster / 8 + q) (l.cluster / 8) ≡ false = grind (arith, nat_tests) in
      let b : nat_lt (l.cluster / 8 + q) (l.blocks_start / 8) ≡ true = grind (arith, nat_tests, fits, bw) in
      let d : l.cluster / 8 + q - l.cluster / 8 ≡ q = omega arith in
      let f : nat_lt q l.blocks ≡ true = grind (arith, nat_tests, lt) in
      let e : head_word l (l.cluster / 8 + q) ≡ l.blocks_start + q * l.cluster = rw (a, b, d, f) refl in
      let m : q * l.cluster ≤ l.blocks * l.cluster = mul-le q l.cluster l.blocks l.cluster (omega (arith, lt)) (omega arith) in
      let small : head_word l (l.cluster / 8 + q) < 2 ^ 64 = omega (arith, e, m, l.l1_at, l.tables_behind, l.data_at, l.end_at, l.small) in
      let place : l.cluster + 8 * q ≡ 8 * (l.cluster / 8 + q) = omega (arith, c8) in
      ap (be64 file) place ∙ word_whole file (8 * w) (head_word l w) (head_at l values file is w (omega (arith, fits, l.l1_at, l.tables_behind))) small ∙ e

  -- the table's words behind those of blocks are 0
  pub block_none : (q : ℕ) → l.blocks ≤ q → q < l.header.counts_clusters * (l.cluster / 8) → be64 file (l.cluster + 8 * q) ≡ 0
  unfolding head_word
  block_none q ge lt =
      let w : ℕ = l.cluster / 8 + q in
      let c8 = per_cluster l in
      let bw = blocks_words in
      let t : 8 * (l.header.counts_clusters * (l.cluster / 8)) ≡ l.header.counts_clusters * l.cluster = times_eight l.header.counts_clusters l.cluster c8 in
      let fits : 8 * w + 8 ≤ l.blocks_start = omega (arith, c8, lt, l.blocks_at, t) in
      let a : nat_lt (l.cluster / 8 + q) (l.cluster / 8) ≡ false = grind (arith, nat_tests) in
      let b : nat_lt (l.cluster / 8 + q) (l.blocks_start / 8) ≡ true = grind (arith, nat_tests, fits, bw) in
      let d : l.cluster / 8 + q - l.cluster / 8 ≡ q = omega arith in
      let f : nat_lt q l.blocks ≡ false = grind (arith, nat_tests, ge) in
      let e : head_word l (l.cluster / 8 + q) ≡ 0 = rw (a, b, d, f) refl in
      let small : head_word l (l.cluster / 8 + q) < 2 ^ 64 = omega (arith, e) in
      let place : l.cluster + 8 * q ≡ 8 * (l.cluster / 8 + q) = omega (arith, c8) in
      ap (be64 file) place ∙ word_whole file (8 * w) (head_word l w) (head_at l values file is w (omega (arith, fits, l.l1_at, l.tables_behind))) small ∙ e

  module _ (n : ℕ) (inside : n < l.end / l.cluster) where
    quarter : n / 4 < l.blocks * (l.cluster / 8)
    quarter =
        let h = half in
        let e : l.blocks * (l.cluster / 2) ≡ l.blocks * (4 * (l.cluster / 8)) = ap (λ x. l.blocks * x) h in
        let f : l.blocks * (4 * (l.cluster / 8)) ≡ 4 * (l.blocks * (l.cluster / 8)) = omega arith in
        omega (arith, inside, l.all_counted, e, f)

    word_is : head_word l (l.blocks_start / 8 + n / 4) ≡ ones (l.end / l.cluster - 4 * (n / 4))
    unfolding head_word
    word_is =
        let q = quarter in
        let c8 = per_cluster l in
        let bw = blocks_words in
        let lw = starts l values file is in
        let t : 8 * (l.blocks * (l.cluster / 8)) ≡ l.blocks * l.cluster = times_eight l.blocks l.cluster c8 in
        let a : nat_lt (l.blocks_start / 8 + n / 4) (l.cluster / 8) ≡ false = grind (arith, nat_tests, l.blocks_behind) in
        let b : nat_lt (l.blocks_start / 8 + n / 4) (l.blocks_start / 8) ≡ false = grind (arith, nat_tests) in
        let far : l.blocks_start / 8 + n / 4 < l.header.l1_start / 8 = omega (arith, q, bw, lw, t, l.l1_at) in
        let d : nat_lt (l.blocks_start / 8 + n / 4) (l.header.l1_start / 8) ≡ true = grind (arith, nat_tests, far) in
        let e : l.blocks_start / 8 + n / 4 - l.blocks_start / 8 ≡ n / 4 = omega arith in
        rw (a, b, d, e) refl

    count_byte : (j : ℕ) → j < 8 → slice_index file (l.blocks_start + 8 * (n / 4) + j) ≡ get_or (to_be_bytes w64 (ones (l.end / l.cluster - 4 * (n / 4)))) j 0
    count_byte j lt =
        let q = quarter in
        let bw = blocks_words in
        let t : 8 * (l.blocks * (l.cluster / 8)) ≡ l.blocks * l.cluster = times_eight l.blocks l.cluster (per_cluster l) in
        let place : l.blocks_start + 8 * (n / 4) + j ≡ 8 * (l.blocks_start / 8 + n / 4) + j = omega (arith, bw) in
        ap (slice_index file) place ∙ head_at l values file is (l.blocks_start / 8 + n / 4) (omega (arith, q, bw, t, l.l1_at, l.tables_behind)) j lt
        ∙ ap (λ x. get_or (to_be_bytes w64 x) j 0) word_is

    -- the block that has the count
    block_lt : n / (l.cluster / 2) < l.blocks
    block_lt =
        let x = least l values file is in
        div_below n (l.cluster / 2) l.blocks (omega (arith, x)) (omega (arith, inside, l.all_counted))

    entry_is : block_entry file (n / (l.cluster / 2)) ≡ l.blocks_start + n / (l.cluster / 2) * l.cluster
    entry_is =
        let q = block_lt in
        ap (λ y. be64 file (y + 8 * (n / (l.cluster / 2)))) counts_is ∙ block_there (n / (l.cluster / 2)) q

    two_bytes : be_number file (l.blocks_start + n / (l.cluster / 2) * l.cluster + n % (l.cluster / 2) * 2) 2 ≡ 1
    two_bytes =
        let h = half in
        let c8 = per_cluster l in
        let r : n / (l.cluster / 2) * (l.cluster / 2) + n % (l.cluster / 2) ≡ n = div-add-mod' n (l.cluster / 2) in
        let twice : l.cluster ≡ 2 * (l.cluster / 2) = omega (arith, c8) in
        let m : n / (l.cluster / 2) * l.cluster ≡ 2 * (n / (l.cluster / 2) * (l.cluster / 2)) = ap (λ x. n / (l.cluster / 2) * x) twice ∙ omega arith in
        let four : 4 * (n / 4) + n % 4 ≡ n = omega arith in
        let at : ℕ = l.blocks_start + n / (l.cluster / 2) * l.cluster + n % (l.cluster / 2) * 2 in
        let first : at + 0 ≡ l.blocks_start + 8 * (n / 4) + 2 * (n % 4) = omega (arith, m, r, four) in
        let next : at + 1 ≡ l.blocks_start + 8 * (n / 4) + (2 * (n % 4) + 1) = omega (arith, m, r, four) in
        let small : n % 4 < 4 = omega arith in
        let ones_here = ones_are (l.end / l.cluster - 4 * (n / 4)) (n % 4) small (omega (arith, inside, four)) in
        let low : slice_index file (at + 0) ≡ 0 = ap (slice_index file) first ∙ count_byte (2 * (n % 4)) (omega (arith, small)) ∙ ones_here.0 in
        let high : slice_index file (at + 1) ≡ 1 = ap (slice_index file) next ∙ count_byte (2 * (n % 4) + 1) (omega (arith, small)) ∙ ones_here.1 in
        omega (arith, low, high)

    pub counted : count_of file n ≡ 1
    unfolding count_of per_block count_in
    counted =
        let o = order_is in
        let e = cluster_is l values file is in
        let a = counts_length_is in
        let c8 = per_cluster l in
        let k : 8 * (l.header.counts_clusters * (l.cluster / 8)) ≡ l.header.counts_clusters * l.cluster = times_eight l.header.counts_clusters l.cluster c8 in
        let b : l.header.counts_clusters * l.cluster / 8 ≡ l.header.counts_clusters * (l.cluster / 8) = omega (arith, k) in
        let h : l.cluster * 8 / 16 ≡ l.cluster / 2 = omega arith in
        let q = block_lt in
        let few : n / (l.cluster / 2) < l.header.counts_clusters * (l.cluster / 8) = omega (arith, q, l.blocks_named) in
        let t : nat_lt (n / (l.cluster / 2)) (l.header.counts_clusters * (l.cluster / 8)) ≡ true = grind (arith, nat_tests, few) in
        let i = entry_is in
        let d : ℕ = l.blocks_start + n / (l.cluster / 2) * l.cluster in
        let whole : d % l.cluster ≡ 0 = sum_whole l.cluster l.blocks_start (n / (l.cluster / 2) * l.cluster) l.blocks_whole (times_whole l.cluster (n / (l.cluster / 2))) in
        let sector : d % 512 ≡ 0 = whole_sector l.cluster l.header.cluster_bits d l.power l.least whole in
        let start : d - d % 512 ≡ d = omega (arith, sector) in
        let x = least l values file is in
        let there : nat_eq d 0 ≡ false = grind (arith, nat_tests, x, l.blocks_behind) in
        let z = two_bytes in
        rw (o, e, h, a, b, t, i, start, there, whole) z
