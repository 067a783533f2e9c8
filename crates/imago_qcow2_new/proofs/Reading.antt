-- What the reader makes of a new file.
-- SPDX-License-Identifier: MIT
use Rattle.std.proofs.Common.{◌≡◌, ℕ, ◌+◌, ◌-◌, ◌*◌, ◌/◌, ◌%◌, ◌<◌, ◌≤◌, ◌^◌, ◌⊎◌, inl, inr, ⊎_elim, Bool, true, false, nat_eq, nat_lt, List, [], length, get_or, refl, sym, ap, subst, ◌∙◌, arith}
use Rattle.std.specs.Prelude.{slice_index, Ok, IsOk}
use Rattle.std.proofs.lemmas.Bool.{cases_lt}
use Rattle.std.proofs.lemmas.Bool.Decides.{nat_tests}
use Rattle.std.proofs.lemmas.Nat.{div-add-mod', div_below, mul-le}
use Rattle.std.proofs.Math.Nat.{mod-lt}
use Rattle.std.specs.Int.{w64, to_be_bytes}
use Rattle.imago_drivers.specs.Place.{Value, Byte, shown, Lower}
use Rattle.imago_qcow2.specs.declared.entry.L2Table.{L2Table}
use Rattle.imago_qcow2.specs.Numbers.{be32, be64}
use Rattle.imago_qcow2.specs.Entry.{version_of, disk_size, l1_start, cluster_length, table_in_entry, cluster_in_entry, l1_entry, table_of, cluster_by, cluster_of, place_by, disk_of, qcow2_place}
use Rattle.imago_qcow2.specs.Qcow2Laws.{in_disk, packed_of}
use Rattle.imago_qcow2.specs.Header.{magic_fault, features_at, support_fault, bounds_fault, added_fault, name_fault, size_fault, table_fault, header_of}
use Rattle.imago_qcow2_new.specs.declared.format.Version.{Version}
use Rattle.imago_qcow2_new.specs.declared.format.Version.TheVariants as V
use Rattle.imago_qcow2_new.specs.declared.layout.Layout.{Layout}
use Rattle.imago_qcow2_new.specs.Extents.{Spot, spot}
use Rattle.imago_qcow2_new.specs.Words.{byte_of}
use Rattle.imago_qcow2_new.specs.Space.{byte_at}
use Rattle.imago_qcow2_new.specs.Header.{words_of, number_of, name_start, field_word}
use Rattle.imago_qcow2_new.specs.Layout.{entry_at, table_word, l1_word, head_word}
use Rattle.imago_qcow2_new.specs.Image.{IsWritten}
use Rattle.imago_qcow2_new.proofs.Whole.{power_least, power_most, whole_eight, times_eight, sum_whole, times_whole, zero_whole, apart}
use Rattle.imago_qcow2_new.proofs.ExtentSteps.{before_most, block_in, block_out, stored_whole}
use Rattle.imago_qcow2_new.proofs.FileSteps.{per_cluster, below_all}
use Rattle.imago_qcow2_new.proofs.WordSteps.{word_whole, word_halves, word_bytes}
use Rattle.imago_qcow2_new.proofs.EntrySteps.{table_entry, no_table, cluster_entry, no_cluster, zero_known}

nine : (v : Version) (w : ℕ) → w < 9 → nat_lt w (words_of v) ≡ true
nine V.Two w h = grind (arith, nat_tests)
nine V.Three w h = grind (arith, nat_tests)

pub either : (b : Bool) → (b ≡ true) ⊎ (b ≡ false)
either true = inl refl
either false = inr refl

-- an entry is a word
entry_small : (start gap : ℕ) (s : Spot) → gap ≤ 1 → start + s.before ≤ 72057594037927936 → entry_at start gap s < 2 ^ 64
entry_small start gap s h k = ⊎_elim
    (λ (st : s.stored ≡ true). let e : entry_at start gap s ≡ 9223372036854775808 + (start + s.before) = rw st refl in omega (arith, e, k))
    (λ (st : s.stored ≡ false). let e : entry_at start gap s ≡ gap = rw st refl in omega (arith, e, h))
    (either s.stored)

pub versions : (v : Version) → (v ≡ V.Two) ⊎ (v ≡ V.Three)
versions V.Two = inl refl
versions V.Three = inr refl

pub words_most : (v : Version) → words_of v ≤ 14
words_most V.Two = omega arith
words_most V.Three = omega arith

module _ (l : Layout) (values : ℕ → Value) (file : List ℕ) (is : IsWritten l values file) where
  -- the backing file's name stands in the first cluster
  pub name_start_most : name_start l.header + l.header.names.count ≤ l.cluster
  name_start_most =
      let w = words_most l.header.version in
      ⊎_elim
      (λ (z : nat_eq l.header.names.count 0 ≡ true). let e : name_start l.header ≡ 0 = rw z refl in let n : l.header.names.count ≡ 0 = grind (arith, nat_tests, z) in omega (arith, e, n))
      (λ (z : nat_eq l.header.names.count 0 ≡ false). let e : name_start l.header ≡ 8 * words_of l.header.version + l.header.names.start = rw z refl in omega (arith, e, w, l.name_inside))
      (either (nat_eq l.header.names.count 0))

  name_start_small : name_start l.header < 2 ^ 64
  name_start_small = let m = name_start_most in let c = power_most l.cluster l.header.cluster_bits l.power l.most in omega (arith, m, c)

  pub least : 512 ≤ l.cluster
  least = power_least l.cluster l.header.cluster_bits l.power l.least

  pub starts : 8 * (l.header.l1_start / 8) ≡ l.header.l1_start
  starts = whole_eight l.cluster l.header.l1_start (per_cluster l) l.l1_whole

  pub head_at : (w : ℕ) → 8 * w + 8 ≤ l.tables_start → (j : ℕ) → j < 8 → slice_index file (8 * w + j) ≡ get_or (to_be_bytes w64 (head_word l w)) j 0
  head_at w h = word_bytes (head_word l) file w (8 * w) (λ j lt. is.head (8 * w + j) (omega (arith, h, lt)))

  pub behind : 512 ≤ l.tables_start
  behind = let x = least in let y : l.blocks_start ≤ l.header.l1_start = omega (arith, l.l1_at) in omega (arith, x, y, l.blocks_behind, l.tables_behind)

  -- fields of the header
  pub is_field : (w : ℕ) → w < 9 → head_word l w ≡ field_word l.header w
  unfolding head_word
  is_field w h =
      let wide = least in
      let a : nat_lt w (l.cluster / 8) ≡ true = grind (arith, nat_tests) in
      let b : nat_lt w (words_of l.header.version) ≡ true = nine l.header.version w h in
      rw (a, b) refl

  pub size_is : disk_size file ≡ l.header.size
  unfolding field_word
  size_is =
      let e : head_word l 3 ≡ l.header.size = is_field 3 (omega arith) in
      word_whole file 24 (head_word l 3) (head_at 3 (let x = behind in omega (arith, x))) (omega (arith, e, l.size_small)) ∙ e

  pub start_is : l1_start file ≡ l.header.l1_start
  unfolding field_word
  start_is =
      let e : head_word l 5 ≡ l.header.l1_start = is_field 5 (omega arith) in
      word_whole file 40 (head_word l 5) (head_at 5 (let x = behind in omega (arith, x))) (omega (arith, e, l.tables_behind, l.data_at, l.end_at, l.small)) ∙ e

  bits_is : be32 file 20 ≡ l.header.cluster_bits
  unfolding field_word
  bits_is =
      let e : head_word l 2 ≡ l.header.names.count * 4294967296 + l.header.cluster_bits = is_field 2 (omega arith) in
      let small : head_word l 2 < 2 ^ 64 = omega (arith, e, l.most, l.name_short) in
      let h = word_halves file 16 (head_word l 2) (head_at 2 (let x = behind in omega (arith, x))) small in
      h.1 ∙ omega (arith, e, l.most)

  pub cluster_is : cluster_length file ≡ l.cluster
  cluster_is = ap (λ x. 2 ^ x) bits_is ∙ sym l.power

  -- fields that the tests of a header read
  long : 512 ≤ length file
  long = let x = behind in omega (arith, x, is.len, l.data_at, l.end_at)

  number_small : (v : Version) → number_of v < 4
  number_small V.Two = omega arith
  number_small V.Three = omega arith

  pub first_word : (be32 file 0 ≡ 1363560955) × (be32 file 4 ≡ number_of l.header.version)
  unfolding field_word
  first_word =
      let n = number_small l.header.version in
      let e : head_word l 0 ≡ 5856449707827527680 + number_of l.header.version = is_field 0 (omega arith) in
      let h = word_halves file 0 (head_word l 0) (head_at 0 (let x = behind in omega (arith, x))) (omega (arith, e, n)) in
      (h.0 ∙ omega (arith, e, n), h.1 ∙ omega (arith, e, n))

  pub name_start_is : be64 file 8 ≡ name_start l.header
  unfolding field_word
  name_start_is =
      let e : head_word l 1 ≡ name_start l.header = is_field 1 (omega arith) in
      let n = name_start_small in
      word_whole file 8 (head_word l 1) (head_at 1 (let x = behind in omega (arith, x))) (omega (arith, e, n)) ∙ e

  pub name_length_is : be32 file 16 ≡ l.header.names.count
  unfolding field_word
  name_length_is =
      let e : head_word l 2 ≡ l.header.names.count * 4294967296 + l.header.cluster_bits = is_field 2 (omega arith) in
      let small : head_word l 2 < 2 ^ 64 = omega (arith, e, l.most, l.name_short) in
      let h = word_halves file 16 (head_word l 2) (head_at 2 (let x = behind in omega (arith, x))) small in
      h.0 ∙ omega (arith, e, l.most)

  pub fourth_word : (be32 file 32 ≡ 0) × (be32 file 36 ≡ l.header.l1_count)
  unfolding field_word
  fourth_word =
      let e : head_word l 4 ≡ l.header.l1_count = is_field 4 (omega arith) in
      let h = word_halves file 32 (head_word l 4) (head_at 4 (let x = behind in omega (arith, x))) (omega (arith, e, l.few)) in
      (h.0 ∙ omega (arith, e, l.few), h.1 ∙ omega (arith, e, l.few))

  module _ (third : l.header.version ≡ V.Three) where
    pub later_field : (w : ℕ) → w < 14 → head_word l w ≡ field_word l.header w
    unfolding head_word
    later_field w h =
        let wide = least in
        let a : nat_lt w (l.cluster / 8) ≡ true = grind (arith, nat_tests) in
        let c : words_of l.header.version ≡ 14 = ap words_of third in
        let b : nat_lt w 14 ≡ true = grind (arith, nat_tests) in
        rw (a, c, b) refl

    pub no_features : be64 file 72 ≡ 0
    unfolding field_word
    no_features =
        let e : head_word l 9 ≡ 0 = later_field 9 (omega arith) in
        word_whole file 72 (head_word l 9) (head_at 9 (let x = behind in omega (arith, x))) (omega (arith, e)) ∙ e

    pub own_word : (be32 file 96 ≡ 4) × (be32 file 100 ≡ 112)
    unfolding field_word
    own_word =
        let e : head_word l 12 ≡ 17179869296 = later_field 12 (omega arith) in
        let h = word_halves file 96 (head_word l 12) (head_at 12 (let x = behind in omega (arith, x))) (omega (arith, e)) in
        (h.0 ∙ omega (arith, e), h.1 ∙ omega (arith, e))

    deflates : slice_index file 104 ≡ 0
    unfolding field_word
    deflates =
        let e : head_word l 13 ≡ 0 = later_field 13 (omega arith) in
        head_at 13 (let x = behind in omega (arith, x)) 0 (omega arith) ∙ ap (λ x. get_or (to_be_bytes w64 x) 0 0) e

    third_support : support_fault file ≡ Ok tt
    unfolding support_fault features_at
    third_support =
        let v : be32 file 4 ≡ 3 = first_word.1 ∙ ap number_of third in
        let f = fourth_word in
        let n = no_features in
        rw (v, f.0, n) refl

    third_added : added_fault file l.cluster ≡ Ok tt
    unfolding added_fault
    third_added =
        let v : be32 file 4 ≡ 3 = first_word.1 ∙ ap number_of third in
        let o = own_word in
        let n = no_features in
        let d = deflates in
        let x = least in
        let t : nat_lt l.cluster 112 ≡ false = grind (arith, nat_tests) in
        rw (v, o.1, o.0, t, d, n) refl

  module _ (second : l.header.version ≡ V.Two) where
    second_support : support_fault file ≡ Ok tt
    unfolding support_fault features_at
    second_support =
        let v : be32 file 4 ≡ 2 = first_word.1 ∙ ap number_of second in
        let f = fourth_word in
        rw (v, f.0) refl

    second_added : added_fault file l.cluster ≡ Ok tt
    unfolding added_fault
    second_added = let v : be32 file 4 ≡ 2 = first_word.1 ∙ ap number_of second in rw v refl

  support : support_fault file ≡ Ok tt
  support = ⊎_elim (λ e. second_support e) (λ e. third_support e) (versions l.header.version)

  added : added_fault file l.cluster ≡ Ok tt
  added = ⊎_elim (λ e. second_added e) (λ e. third_added e) (versions l.header.version)

  magic : magic_fault file (length file) ≡ Ok tt
  unfolding magic_fault
  magic =
      let x = long in
      let f = first_word in
      let t : nat_lt (length file) 72 ≡ false = grind (arith, nat_tests) in
      rw (t, f.0) refl

  bounds : bounds_fault file ≡ Ok tt
  unfolding bounds_fault
  bounds =
      let e = bits_is in
      let t : nat_lt l.header.cluster_bits 9 ≡ false = grind (arith, nat_tests, l.least) in
      let u : nat_lt 21 l.header.cluster_bits ≡ false = grind (arith, nat_tests, l.most) in
      rw (e, t, u) refl

  named : name_fault file l.cluster ≡ Ok tt
  unfolding name_fault
  named =
      let a = name_start_is in
      let b = name_length_is in
      let t : nat_lt 1023 l.header.names.count ≡ false = grind (arith, nat_tests, l.name_short) in
      let m = name_start_most in
      let u : nat_lt l.cluster (name_start l.header) ≡ false = grind (arith, nat_tests, m) in
      let v : nat_lt (l.cluster - name_start l.header) l.header.names.count ≡ false = grind (arith, nat_tests, m) in
      ⊎_elim
      (λ (z : nat_eq (name_start l.header) 0 ≡ true). rw (a, z) refl)
      (λ (z : nat_eq (name_start l.header) 0 ≡ false). rw (a, b, z, t, u, v) refl)
      (either (nat_eq (name_start l.header) 0))

  sized : size_fault file l.cluster ≡ Ok tt
  unfolding size_fault
  sized =
      let a = size_is in
      let b = fourth_word in
      let t : nat_lt (l.header.l1_count * (l.cluster / 8 * l.cluster)) l.header.size ≡ false = grind (arith, nat_tests, l.covers) in
      rw (b.1, a, t) refl

  tabled : table_fault file (length file) l.cluster ≡ Ok tt
  unfolding table_fault
  tabled =
      let a = start_is in
      let b = fourth_word in
      let c : l.header.l1_start + l.header.l1_count * 8 ≤ length file = omega (arith, is.len, l.tables_behind, l.data_at, l.end_at) in
      let t : nat_lt (length file) (l.header.l1_count * 8) ≡ false = grind (arith, nat_tests, c) in
      let u : nat_lt (length file - l.header.l1_count * 8) l.header.l1_start ≡ false = grind (arith, nat_tests, c) in
      let w : l.header.l1_start % l.cluster ≡ 0 = l.l1_whole in
      rw (a, b.1, w, t, u) refl

  pub opens : IsOk (header_of file (length file))
  unfolding header_of
  opens =
      let a = magic in
      let b = support in
      let c = bounds in
      let d = added in
      let e = named in
      let f = sized in
      let g = tabled in
      let h = cluster_is in
      rw (h, a, b, c, d, e, f, g) refl

  -- an L1 entry
  l1_small : (i : ℕ) → l1_word l i < 2 ^ 64
  l1_small i =
      let s : Spot = spot l.tables.stored l.tables.extents.items (i * l.cluster) in
      let m : (spot l.tables.stored l.tables.extents.items (i * l.cluster)).before ≤ l.tables.stored = before_most l.tables.unit l.tables.end l.tables.stored 0 0 l.tables.extents.items l.tables.ordered (i * l.cluster) in
      entry_small l.tables_start 0 s (omega arith) (omega (arith, m, l.data_at, l.end_at, l.small))

  is_l1 : (i : ℕ) → head_word l (l.header.l1_start / 8 + i) ≡ l1_word l i
  unfolding head_word
  is_l1 i =
      let far : l.blocks_start ≤ l.header.l1_start = (let p : 0 ≤ l.blocks * l.cluster = omega arith in omega (arith, l.l1_at, p)) in
      let a : nat_lt (l.header.l1_start / 8 + i) (l.cluster / 8) ≡ false = grind (arith, nat_tests, far, l.blocks_behind) in
      let b : nat_lt (l.header.l1_start / 8 + i) (l.blocks_start / 8) ≡ false = grind (arith, nat_tests, far) in
      let c : nat_lt (l.header.l1_start / 8 + i) (l.header.l1_start / 8) ≡ false = grind (arith, nat_tests) in
      let d : l.header.l1_start / 8 + i - l.header.l1_start / 8 ≡ i = omega arith in
      rw (a, b, c, d) refl

  pub l1_is : (i : ℕ) → i < l.header.l1_count → l1_entry file i ≡ l1_word l i
  l1_is i lt =
      let w : ℕ = l.header.l1_start / 8 + i in
      let x = starts in
      let place : l1_start file + 8 * i ≡ 8 * (l.header.l1_start / 8 + i) = (let y = start_is in omega (arith, x, y)) in
      let e = is_l1 i in
      let small : head_word l (l.header.l1_start / 8 + i) < 2 ^ 64 = (let z = l1_small i in omega (arith, e, z)) in
      ap (be64 file) place ∙ word_whole file (8 * w) (head_word l w) (head_at w (omega (arith, x, lt, l.tables_behind))) small ∙ e

  pub table_says : (i : ℕ) → i < l.header.l1_count → table_of file i ≡ table_in_entry l.end l.cluster (l1_word l i)
  table_says i lt =
      ap (λ x. table_in_entry x (cluster_length file) (l1_entry file i)) is.len ∙ ap (λ x. table_in_entry l.end x (l1_entry file i)) cluster_is ∙ ap (table_in_entry l.end l.cluster) (l1_is i lt)

  module _ (i : ℕ) (lt : i < l.header.l1_count) where
    at_table : Spot
    at_table = spot l.tables.stored l.tables.extents.items (i * l.cluster)

    table_whole : (i * l.cluster) % l.tables.unit ≡ 0
    table_whole = ap (λ x. (i * l.cluster) % x) l.tables_unit ∙ times_whole l.cluster i

    -- the spots of an L2 table's bytes
    in_table : (spot l.tables.stored l.tables.extents.items (i * l.cluster)).stored ≡ true → (r : ℕ) → r < l.cluster
        → ((spot l.tables.stored l.tables.extents.items (i * l.cluster)).before % l.cluster ≡ 0)
        × (spot l.tables.stored l.tables.extents.items (i * l.cluster + r) ≡ record { stored = true; before = (spot l.tables.stored l.tables.extents.items (i * l.cluster)).before + r })
    in_table st r less =
        let positive : 0 < l.tables.unit = (let x = least in omega (arith, x, l.tables_unit)) in
        let b = block_in l.tables.unit l.tables.end l.tables.stored 0 0 l.tables.extents.items l.tables.ordered (zero_whole l.tables.unit positive) (i * l.cluster) r table_whole (omega (arith, less, l.tables_unit)) st in
        (ap (λ x. (spot l.tables.stored l.tables.extents.items (i * l.cluster)).before % x) (sym l.tables_unit) ∙ b.0, b.1)

    pub table_there : (spot l.tables.stored l.tables.extents.items (i * l.cluster)).stored ≡ true → table_of file i ≡ L2Table.Stored (l.tables_start + (spot l.tables.stored l.tables.extents.items (i * l.cluster)).before)
    table_there st =
        let t : ℕ = l.tables_start + (spot l.tables.stored l.tables.extents.items (i * l.cluster)).before in
        let e : l1_word l i ≡ 9223372036854775808 + t = rw st refl in
        let b = below_all l.tables.unit l.tables.end l.tables.stored l.tables.extents.items l.tables.ordered (i * l.cluster) st in
        let x = least in
        let y = behind in
        let first = (in_table st 0 (omega (arith, x))).0 in
        let all_whole : l.tables.stored % l.cluster ≡ 0 = ap (λ u. l.tables.stored % u) (sym l.tables_unit) ∙ stored_whole l.tables.unit l.tables.end l.tables.stored 0 0 l.tables.extents.items l.tables.ordered (zero_whole l.tables.unit (omega (arith, x, l.tables_unit))) in
        let room : (spot l.tables.stored l.tables.extents.items (i * l.cluster)).before + l.cluster ≤ l.tables.stored = apart l.cluster (spot l.tables.stored l.tables.extents.items (i * l.cluster)).before l.tables.stored first all_whole b in
        table_says i lt ∙ ap (table_in_entry l.end l.cluster) e
        ∙ table_entry l.end l.cluster t (omega (arith, b, l.data_at, l.end_at, l.small, x, room)) (sum_whole l.cluster l.tables_start (spot l.tables.stored l.tables.extents.items (i * l.cluster)).before l.tables_whole first) (omega (arith, y)) (omega (arith, room, l.data_at, l.end_at))

    pub table_gone : (spot l.tables.stored l.tables.extents.items (i * l.cluster)).stored ≡ false → table_of file i ≡ L2Table.Absent
    table_gone st =
        let e : l1_word l i ≡ 0 = rw st refl in
        let x = least in
        table_says i lt ∙ ap (table_in_entry l.end l.cluster) e ∙ no_table l.end l.cluster (omega (arith, x))

  -- an L2 entry
  entry_fits : (k : ℕ) → table_word l k < 2 ^ 64
  entry_fits k =
      let s : Spot = spot l.clusters.stored l.clusters.extents.items (k * l.cluster) in
      let m : (spot l.clusters.stored l.clusters.extents.items (k * l.cluster)).before ≤ l.clusters.stored = before_most l.clusters.unit l.clusters.end l.clusters.stored 0 0 l.clusters.extents.items l.clusters.ordered (k * l.cluster) in
      entry_small l.data_start l.gap s l.gap_is (omega (arith, m, l.end_at, l.small))

  module _ (k : ℕ) (lt : k / (l.cluster / 8) < l.header.l1_count) where
    -- where the bytes of the entry are in the space of L2 tables
    entry_place : (b : ℕ) → k / (l.cluster / 8) * l.cluster + (8 * (k % (l.cluster / 8)) + b) ≡ 8 * k + b
    entry_place b =
        let e : k / (l.cluster / 8) * (l.cluster / 8) + k % (l.cluster / 8) ≡ k = div-add-mod' k (l.cluster / 8) in
        let f : 8 * (k / (l.cluster / 8) * (l.cluster / 8)) ≡ k / (l.cluster / 8) * l.cluster = times_eight (k / (l.cluster / 8)) l.cluster (per_cluster l) in
        omega (arith, e, f)

    rest_small : 8 * (k % (l.cluster / 8)) + 8 ≤ l.cluster
    rest_small =
        let x = least in
        let positive : 0 < l.cluster / 8 = omega (arith, x) in
        let m : k % (l.cluster / 8) < l.cluster / 8 = mod-lt k positive in
        let e = per_cluster l in
        omega (arith, m, e)

    entry_inside : 8 * k + 8 ≤ l.header.l1_count * l.cluster
    entry_inside =
        let p = entry_place 8 in
        let r = rest_small in
        let m : (k / (l.cluster / 8) + 1) * l.cluster ≤ l.header.l1_count * l.cluster = mul-le (k / (l.cluster / 8) + 1) l.cluster l.header.l1_count l.cluster (omega (arith, lt)) (omega arith) in
        let e : (k / (l.cluster / 8) + 1) * l.cluster ≡ k / (l.cluster / 8) * l.cluster + l.cluster = omega arith in
        omega (arith, p, r, m, e)

    spot_is : (b : ℕ) → spot l.tables.stored l.tables.extents.items (k / (l.cluster / 8) * l.cluster + (8 * (k % (l.cluster / 8)) + b)) ≡ spot l.tables.stored l.tables.extents.items (8 * k + b)
    spot_is b = ap (spot l.tables.stored l.tables.extents.items) (entry_place b)

    pub entry_there : (spot l.tables.stored l.tables.extents.items (k / (l.cluster / 8) * l.cluster)).stored ≡ true
        → be64 file (l.tables_start + (spot l.tables.stored l.tables.extents.items (k / (l.cluster / 8) * l.cluster)).before + 8 * (k % (l.cluster / 8))) ≡ table_word l k
    entry_there st =
        let t : ℕ = (spot l.tables.stored l.tables.extents.items (k / (l.cluster / 8) * l.cluster)).before in
        let at : ℕ = l.tables_start + t + 8 * (k % (l.cluster / 8)) in
        let bytes : (b : ℕ) → b < 8 → slice_index file (at + b) ≡ byte_of (table_word l) (8 * k + b) = λ b less.
        let r = rest_small in
        let inside = entry_inside in
        let here : spot l.tables.stored l.tables.extents.items (8 * k + b) ≡ record { stored = true; before = t + (8 * (k % (l.cluster / 8)) + b) } = sym (spot_is b) ∙ (in_table (k / (l.cluster / 8)) lt st (8 * (k % (l.cluster / 8)) + b) (omega (arith, less, r))).1 in
        let told : byte_at l.tables_start file (spot l.tables.stored l.tables.extents.items (8 * k + b)) ≡ byte_of (table_word l) (8 * k + b) = is.tables (8 * k + b) (omega (arith, less, inside)) in
        let moved : slice_index file (l.tables_start + (t + (8 * (k % (l.cluster / 8)) + b))) ≡ byte_of (table_word l) (8 * k + b) = subst (λ (s : Spot). byte_at l.tables_start file s ≡ byte_of (table_word l) (8 * k + b)) here told in
        let place : at + b ≡ l.tables_start + (t + (8 * (k % (l.cluster / 8)) + b)) = omega arith in
        ap (slice_index file) place ∙ moved in
        word_whole file at (table_word l k) (word_bytes (table_word l) file k at bytes) (entry_fits k)

    pub entry_gone : (spot l.tables.stored l.tables.extents.items (k / (l.cluster / 8) * l.cluster)).stored ≡ false → table_word l k ≡ 0
    unfolding be64 be32
    entry_gone st =
        let positive : 0 < l.tables.unit = (let x = least in omega (arith, x, l.tables_unit)) in
        let bytes : (b : ℕ) → b < 8 → slice_index [] (0 + b) ≡ byte_of (table_word l) (8 * k + b) = λ b less.
        let r = rest_small in
        let inside = entry_inside in
        let out : (spot l.tables.stored l.tables.extents.items (8 * k + b)).stored ≡ false = ap (λ (s : Spot). s.stored) (sym (spot_is b))
        ∙ block_out l.tables.unit l.tables.end l.tables.stored 0 0 l.tables.extents.items l.tables.ordered (k / (l.cluster / 8) * l.cluster) (8 * (k % (l.cluster / 8)) + b) (table_whole (k / (l.cluster / 8)) lt) (omega (arith, less, r, l.tables_unit)) st in
        let told : byte_at l.tables_start file (spot l.tables.stored l.tables.extents.items (8 * k + b)) ≡ byte_of (table_word l) (8 * k + b) = is.tables (8 * k + b) (omega (arith, less, inside)) in
        let none : byte_at l.tables_start file (spot l.tables.stored l.tables.extents.items (8 * k + b)) ≡ 0 = rw out refl in
        sym none ∙ told in
        sym (word_whole [] 0 (table_word l k) (word_bytes (table_word l) [] k 0 bytes) (entry_fits k))

    -- what a cluster of the disk is
    cluster_is_by : cluster_of file k ≡ cluster_in_entry (version_of file) l.cluster (table_word l k)
    unfolding cluster_of
    cluster_is_by =
        let i : ℕ = k / (l.cluster / 8) in
        let first : cluster_of file k ≡ cluster_by file k (table_of file (k / (l.cluster / 8))) = ap (λ x. cluster_by file k (table_of file (k / (x / 8)))) cluster_is in
        let x = least in
        ⊎_elim
        (λ (st : (spot l.tables.stored l.tables.extents.items (k / (l.cluster / 8) * l.cluster)).stored ≡ true).
        first ∙ ap (cluster_by file k) (table_there (k / (l.cluster / 8)) lt st)
        ∙ ap (λ y. cluster_in_entry (version_of file) y (be64 file (l.tables_start + (spot l.tables.stored l.tables.extents.items (k / (l.cluster / 8) * l.cluster)).before + 8 * (k % (y / 8))))) cluster_is
        ∙ ap (cluster_in_entry (version_of file) l.cluster) (entry_there st))
        (λ (st : (spot l.tables.stored l.tables.extents.items (k / (l.cluster / 8) * l.cluster)).stored ≡ false).
        first ∙ ap (cluster_by file k) (table_gone (k / (l.cluster / 8)) lt st)
        ∙ sym (ap (cluster_in_entry (version_of file) l.cluster) (entry_gone st) ∙ no_cluster (version_of file) l.cluster (omega (arith, x))))
        (either (spot l.tables.stored l.tables.extents.items (k / (l.cluster / 8) * l.cluster)).stored)

  -- a byte of the disk
  -- zero clusters are known to the version
  pub version_three : l.gap ≡ 1 → 3 ≤ version_of file
  version_three one =
      let v = first_word.1 in
      omega (arith, v, one, l.gap_known)

  module _ (p : ℕ) (inside : p < l.header.size) where
    rest_is : p / l.cluster * l.cluster + p % l.cluster ≡ p
    rest_is = div-add-mod' p l.cluster

    rest_lt : p % l.cluster < l.cluster
    rest_lt = let x = least in mod-lt p (let y : 0 < l.cluster = omega (arith, x) in y)

    in_tables : p / l.cluster / (l.cluster / 8) < l.header.l1_count
    in_tables =
        let x = least in
        let span : p < l.header.l1_count * (l.cluster / 8) * l.cluster = (let e : l.header.l1_count * (l.cluster / 8) * l.cluster ≡ l.header.l1_count * (l.cluster / 8 * l.cluster) = omega arith in omega (arith, e, inside, l.covers)) in
        let a : p / l.cluster < l.header.l1_count * (l.cluster / 8) = div_below p l.cluster (l.header.l1_count * (l.cluster / 8)) (omega (arith, x)) span in
        div_below (p / l.cluster) (l.cluster / 8) l.header.l1_count (omega (arith, x)) a

    data_whole : (p / l.cluster * l.cluster) % l.clusters.unit ≡ 0
    data_whole = ap (λ x. (p / l.cluster * l.cluster) % x) l.clusters_unit ∙ times_whole l.cluster (p / l.cluster)

    opened : qcow2_place file p ≡ place_by (packed_of true file (disk_of file)) file (p % l.cluster) p (cluster_in_entry (version_of file) l.cluster (table_word l (p / l.cluster)))
    opened =
        in_disk true file (disk_of file) p (let e = size_is in omega (arith, e, inside))
        ∙ ap (λ x. place_by (packed_of true file (disk_of file)) file (p % x) p (cluster_of file (p / x))) cluster_is
        ∙ ap (place_by (packed_of true file (disk_of file)) file (p % l.cluster) p) (cluster_is_by (p / l.cluster) in_tables)

    told : values p ≡ Byte (byte_at l.data_start file (spot l.clusters.stored l.clusters.extents.items p))
    told = is.clusters p (omega (arith, inside, l.size_inside))

    -- it is the disk's, over a layer below that is zero where clusters that aren't stored are left to it
    pub shown_byte : (lower : ℕ → Value) → (l.gap ≡ 0 → (q : ℕ) → lower q ≡ Byte 0) → shown lower (qcow2_place file p) ≡ values p
    shown_byte lower none = ⊎_elim
        (λ (st : (spot l.clusters.stored l.clusters.extents.items (p / l.cluster * l.cluster)).stored ≡ true).
        let d : ℕ = l.data_start + (spot l.clusters.stored l.clusters.extents.items (p / l.cluster * l.cluster)).before in
        let x = least in
        let y = behind in
        let positive : 0 < l.clusters.unit = omega (arith, x, l.clusters_unit) in
        let less = rest_lt in
        let b = block_in l.clusters.unit l.clusters.end l.clusters.stored 0 0 l.clusters.extents.items l.clusters.ordered (zero_whole l.clusters.unit positive) (p / l.cluster * l.cluster) (p % l.cluster) data_whole (omega (arith, less, l.clusters_unit)) st in
        let first : (spot l.clusters.stored l.clusters.extents.items (p / l.cluster * l.cluster)).before % l.cluster ≡ 0 = ap (λ u. (spot l.clusters.stored l.clusters.extents.items (p / l.cluster * l.cluster)).before % u) (sym l.clusters_unit) ∙ b.0 in
        let data_start_whole : l.data_start % l.cluster ≡ 0 = ap (λ u. u % l.cluster) l.data_at ∙ sum_whole l.cluster l.tables_start l.tables.stored l.tables_whole
        (ap (λ u. l.tables.stored % u) (sym l.tables_unit) ∙ stored_whole l.tables.unit l.tables.end l.tables.stored 0 0 l.tables.extents.items l.tables.ordered (zero_whole l.tables.unit (omega (arith, x, l.tables_unit)))) in
        let whole : d % l.cluster ≡ 0 = sum_whole l.cluster l.data_start (spot l.clusters.stored l.clusters.extents.items (p / l.cluster * l.cluster)).before data_start_whole first in
        let even : d % 2 ≡ 0 = (let z = whole_eight l.cluster d (per_cluster l) whole in omega (arith, z)) in
        let below = below_all l.clusters.unit l.clusters.end l.clusters.stored l.clusters.extents.items l.clusters.ordered (p / l.cluster * l.cluster) st in
        let e : table_word l (p / l.cluster) ≡ 9223372036854775808 + d = rw st refl in
        let c = cluster_entry (version_of file) l.cluster d (omega (arith, below, l.end_at, l.small)) whole even (omega (arith, y, l.data_at)) in
        let here : spot l.clusters.stored l.clusters.extents.items p ≡ record { stored = true; before = (spot l.clusters.stored l.clusters.extents.items (p / l.cluster * l.cluster)).before + p % l.cluster } = ap (spot l.clusters.stored l.clusters.extents.items) (sym rest_is) ∙ b.1 in
        let byte : values p ≡ Byte (slice_index file (l.data_start + ((spot l.clusters.stored l.clusters.extents.items (p / l.cluster * l.cluster)).before + p % l.cluster))) = subst (λ (s : Spot). values p ≡ Byte (byte_at l.data_start file s)) here told in
        let place : d + p % l.cluster ≡ l.data_start + ((spot l.clusters.stored l.clusters.extents.items (p / l.cluster * l.cluster)).before + p % l.cluster) = omega arith in
        ap (shown lower) (opened ∙ ap (λ z. place_by (packed_of true file (disk_of file)) file (p % l.cluster) p (cluster_in_entry (version_of file) l.cluster z)) e ∙ ap (place_by (packed_of true file (disk_of file)) file (p % l.cluster) p) c)
        ∙ ap Byte (ap (slice_index file) place) ∙ sym byte)
        (λ (st : (spot l.clusters.stored l.clusters.extents.items (p / l.cluster * l.cluster)).stored ≡ false).
        let x = least in
        let less = rest_lt in
        let out : (spot l.clusters.stored l.clusters.extents.items p).stored ≡ false = ap (λ z. (spot l.clusters.stored l.clusters.extents.items z).stored) (sym rest_is)
        ∙ block_out l.clusters.unit l.clusters.end l.clusters.stored 0 0 l.clusters.extents.items l.clusters.ordered (p / l.cluster * l.cluster) (p % l.cluster) data_whole (omega (arith, less, l.clusters_unit)) st in
        let zero : byte_at l.data_start file (spot l.clusters.stored l.clusters.extents.items p) ≡ 0 = rw out refl in
        let e : table_word l (p / l.cluster) ≡ l.gap = rw st refl in
        let shows : shown lower (place_by (packed_of true file (disk_of file)) file (p % l.cluster) p (cluster_in_entry (version_of file) l.cluster l.gap)) ≡ Byte 0 = ⊎_elim
        (λ (absent : l.gap < 1).
        let g : l.gap ≡ 0 = omega (arith, absent) in
        ap (λ z. shown lower (place_by (packed_of true file (disk_of file)) file (p % l.cluster) p (cluster_in_entry (version_of file) l.cluster z))) g
        ∙ ap (λ z. shown lower (place_by (packed_of true file (disk_of file)) file (p % l.cluster) p z)) (no_cluster (version_of file) l.cluster (omega (arith, x))) ∙ none g p)
        (λ (some : 1 ≤ l.gap).
        let g : l.gap ≡ 1 = (let most = l.gap_is in omega (arith, some, most)) in
        ap (λ z. shown lower (place_by (packed_of true file (disk_of file)) file (p % l.cluster) p (cluster_in_entry (version_of file) l.cluster z))) g
        ∙ ap (λ z. shown lower (place_by (packed_of true file (disk_of file)) file (p % l.cluster) p z)) (zero_known (version_of file) l.cluster x (version_three g)))
        (cases_lt l.gap 1) in
        ap (shown lower) (opened ∙ ap (λ z. place_by (packed_of true file (disk_of file)) file (p % l.cluster) p (cluster_in_entry (version_of file) l.cluster z)) e)
        ∙ shows ∙ ap Byte (sym zero) ∙ sym told)
        (either (spot l.clusters.stored l.clusters.extents.items (p / l.cluster * l.cluster)).stored)

    -- where it isn't stored, it is left to the layer below
    pub lower_place : l.gap ≡ 0 → (spot l.clusters.stored l.clusters.extents.items p).stored ≡ false → qcow2_place file p ≡ Lower p false
    lower_place none out = ⊎_elim
        (λ (st : (spot l.clusters.stored l.clusters.extents.items (p / l.cluster * l.cluster)).stored ≡ true).
        let x = least in
        let less = rest_lt in
        let b = block_in l.clusters.unit l.clusters.end l.clusters.stored 0 0 l.clusters.extents.items l.clusters.ordered (zero_whole l.clusters.unit (omega (arith, x, l.clusters_unit))) (p / l.cluster * l.cluster) (p % l.cluster) data_whole (omega (arith, less, l.clusters_unit)) st in
        let here : (spot l.clusters.stored l.clusters.extents.items p).stored ≡ true = ap (λ z. (spot l.clusters.stored l.clusters.extents.items z).stored) (sym rest_is) ∙ ap (λ (s : Spot). s.stored) b.1 in
        let both : false ≡ true = sym out ∙ here in
        let z : ⊥ = cc both in absurd z)
        (λ (st : (spot l.clusters.stored l.clusters.extents.items (p / l.cluster * l.cluster)).stored ≡ false).
        let x = least in
        let e : table_word l (p / l.cluster) ≡ l.gap = rw st refl in
        opened ∙ ap (λ z. place_by (packed_of true file (disk_of file)) file (p % l.cluster) p (cluster_in_entry (version_of file) l.cluster z)) (e ∙ none)
        ∙ ap (place_by (packed_of true file (disk_of file)) file (p % l.cluster) p) (no_cluster (version_of file) l.cluster (omega (arith, x))))
        (either (spot l.clusters.stored l.clusters.extents.items (p / l.cluster * l.cluster)).stored)

  -- it has no autoclear feature
  pub features_none : features_at file 88 ≡ 0
  unfolding features_at field_word
  features_none = ⊎_elim
      (λ (second : l.header.version ≡ V.Two). let v : be32 file 4 ≡ 2 = first_word.1 ∙ ap number_of second in rw v refl)
      (λ (third : l.header.version ≡ V.Three).
      let v : be32 file 4 ≡ 3 = first_word.1 ∙ ap number_of third in
      let e : head_word l 11 ≡ 0 = later_field third 11 (omega arith) in
      let f : be64 file 88 ≡ 0 = word_whole file 88 (head_word l 11) (head_at 11 (let x = behind in omega (arith, x))) (omega (arith, e)) ∙ e in
      rw (v, f) refl)
      (versions l.header.version)
