-- qcow2 files of which the tables are in memory.
-- SPDX-License-Identifier: MIT
use Rattle.std.proofs.Common.{◌≡◌, ℕ, zero, suc, refl, ◌+◌, ◌*◌, ◌/◌, ◌^◌, ◌<◌, ◌≤◌, ⊎_elim, List, length, min, sym, ap, subst, ◌∙◌, arith}
use Rattle.std.specs.Prelude.{slice_index}
use Rattle.std.specs.Int.{div_ceil}
use Rattle.std.proofs.lemmas.Bool.{cases_lt}
use Rattle.std.proofs.lemmas.List.{get_or_past}
use Rattle.imago_storage.specs.Bytes.{IsReadAt, bytes_at}
use Rattle.imago_qcow2.specs.declared.entry.L2Table.{L2Table}
use Rattle.imago_qcow2.specs.Numbers.{be64}
use Rattle.imago_qcow2.specs.Entry.{disk_size, cluster_length, per_table, l1_start, l1_entry, table_in_entry, table_of}
use Rattle.imago_qcow2.specs.Tables.{says_entry}
use Rattle.imago_qcow2.specs.Limit.{with_table, table_offsets, tables_length, file_offsets, file_tables, l1_length}
use Rattle.imago_qcow2.specs.Opening.{table_count}
use Rattle.imago_qcow2.specs.Disk.{HaveSameTables}
use Rattle.imago_qcow2.proofs.NumberSteps.{read64}
use Rattle.imago_qcow2.proofs.HeaderSteps.{same32, same64}
use Rattle.imago_session.specs.declared.loaded.LoadedFile.{LoadedFile}
use Rattle.imago_session.specs.Loaded.{loaded_bytes, HasBytesOf, AreThere, Keeps}
use Rattle.imago_session.specs.Tables.{AreLoaded}
use Rattle.imago_session.proofs.LoadedSteps.{loaded_length, byte_at, byte_behind, same_byte, same_range, there_stays}

-- with one table more in memory there are more
pub tables_more : (entries : List ℕ) (cluster file n : ℕ) (a b : LoadedFile) → Keeps a b → AreLoaded entries cluster file n a
    → ((at : ℕ) → table_in_entry file cluster (be64 entries (8 * n)) ≡ L2Table.Stored at → AreThere b at cluster)
    → AreLoaded entries cluster file (n + 1) b
tables_more entries cluster file n a b keeps h last i at lt is = ⊎_elim
    (λ inside. there_stays a b at cluster keeps (h i at inside is))
    (λ at_end.
    let e : n ≡ i = omega (arith, lt, at_end) in
    last at (subst (λ k. table_in_entry file cluster (be64 entries (8 * k)) ≡ L2Table.Stored at) (sym e) is))
    (cases_lt i n)

-- the front of a file, as far as the file reaches, is in memory
pub front_same : (file : List ℕ) (f : LoadedFile) (n : ℕ) → HasBytesOf file f → length file ≡ f.length → 0 < f.block → AreThere f 0 (min n f.length)
    → (i : ℕ) → i < n → slice_index file i ≡ slice_index (loaded_bytes f) i
front_same file f n has len positive there i lt = ⊎_elim
    (λ (inside : i < f.length). same_byte file f has len positive i (there i (omega arith) (omega (arith, lt, inside))))
    (λ (behind : f.length ≤ i). get_or_past file i 0 (omega (arith, len, behind)) ∙ sym (byte_behind f i behind))
    (cases_lt i f.length)

module _ (file head entries : List ℕ) (f : LoadedFile) (start count cluster size : ℕ)
    (head_is : head ≡ bytes_at file 0 112) (entries_are : entries ≡ bytes_at file start (8 * count)) (entries_len : length entries ≡ 8 * count)
    (start_is : start ≡ l1_start head) (count_is : count ≡ table_count head) (cluster_is : cluster ≡ cluster_length head)
    (size_is : length file ≡ size) where
  same : (i : ℕ) → i < 112 → slice_index head i ≡ slice_index file i
  same i h = let e : 0 + i ≡ i = omega arith in byte_at file head 0 112 i head_is h ∙ ap (slice_index file) e

  own_start : start ≡ l1_start file
  own_start = start_is ∙ same64 file head same 40 (omega arith)

  own_cluster : cluster ≡ cluster_length file
  own_cluster = cluster_is ∙ ap (λ (n : ℕ). 2 ^ n) (same32 file head same 20 (omega arith))

  own_count : count ≡ table_count file
  own_count =
      count_is
      ∙ ap (λ (n : ℕ). div_ceil n (per_table head * cluster_length head)) (same64 file head same 24 (omega arith))
      ∙ ap (λ (n : ℕ). div_ceil (disk_size file) (n / 8 * n)) (sym cluster_is ∙ own_cluster)

  is_read : IsReadAt file start entries
  is_read i h = byte_at file entries start (8 * count) i entries_are (let e = entries_len in omega (arith, e, h))

  -- the L1 entry that was read is the file's
  own_entry : (i : ℕ) → i < count → be64 entries (8 * i) ≡ l1_entry file i
  own_entry i h =
      read64 file entries start is_read (8 * i) (let e = entries_len in omega (arith, e, h))
      ∙ ap (λ (n : ℕ). be64 file (n + 8 * i)) own_start

  -- what the L1 entries that were read say is what the file's do
  own_says : (i : ℕ) → i < count → says_entry file cluster entries i ≡ table_of file i
  own_says i h =
      ap (table_in_entry (length file) cluster) (own_entry i h)
      ∙ ap (λ (n : ℕ). table_in_entry (length file) n (l1_entry file i)) own_cluster

  own_offsets : (n : ℕ) → n ≤ count → table_offsets file cluster entries n ≡ file_offsets file n
  unfolding table_offsets file_offsets
  own_offsets zero h = refl
  own_offsets (suc n) h =
      ap (λ (says : L2Table). with_table says (table_offsets file cluster entries n)) (own_says n (omega (arith, h)))
      ∙ ap (with_table (table_of file n)) (own_offsets n (omega (arith, h)))

  -- how many bytes the tables have, by what was read
  pub own_tables : tables_length file cluster entries count ≡ file_tables file
  unfolding file_tables
  own_tables =
      ap (λ (os : List ℕ). 8 * count + cluster * length os) (own_offsets count (omega arith))
      ∙ ap (λ (n : ℕ). 8 * n + cluster * length (file_offsets file n)) own_count
      ∙ ap (λ (c : ℕ). 8 * table_count file + c * length (file_offsets file (table_count file))) own_cluster

  -- how many bytes the L1 table has, by the header that was read
  pub own_l1 : l1_length head ≡ l1_length file
  own_l1 = ap (λ (n : ℕ). 8 * n) (same32 file head same 36 (omega arith))

  pub loads_tables : HasBytesOf file f → f.length ≡ size → 0 < f.block → 112 ≤ cluster → AreThere f 0 (min cluster f.length) → AreThere f start (8 * count)
      → AreLoaded entries cluster size count f → HaveSameTables file (loaded_bytes f)
  loads_tables has len positive small first l1 l2 =
      let whole : length file ≡ f.length = size_is ∙ sym len in
      record {
        len = whole ∙ sym (loaded_length f);
        header = λ i h. front_same file f cluster has whole positive first (0 + i) (omega (arith, h, small));
        l1 = subst (λ (s : ℕ). (i : ℕ) → i < 8 * table_count file → slice_index file (s + i) ≡ slice_index (loaded_bytes f) (s + i)) own_start
            (λ i h. same_range file f start (8 * count) has whole positive l1 i (let e = own_count in omega (arith, e, h)));
        l2 = λ i at h is k lt.
            let inside : i < count = (let e = own_count in omega (arith, e, h)) in
            let says : table_in_entry size cluster (be64 entries (8 * i)) ≡ L2Table.Stored at =
            ap (λ (n : ℕ). table_in_entry n cluster (be64 entries (8 * i))) (sym size_is)
            ∙ ap (λ (n : ℕ). table_in_entry (length file) n (be64 entries (8 * i))) own_cluster
            ∙ ap (table_in_entry (length file) (cluster_length file)) (own_entry i inside) ∙ is in
            let under : k < cluster = (let e = own_cluster in omega (arith, e, lt)) in
            same_range file f at cluster has whole positive (l2 i at inside says) k under;
      }
