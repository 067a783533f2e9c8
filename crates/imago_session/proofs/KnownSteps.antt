-- What is known of a file's tables, and of its header.
-- SPDX-License-Identifier: MIT
use Rattle.std.proofs.Common.{◌≡◌, ℕ, ◌+◌, ◌-◌, ◌*◌, ◌^◌, ◌<◌, ◌≤◌, inl, inr, ◌⊎◌, ⊎_elim, List, length, min, Option, Some, None, Result, Ok, Err, Bool, true, false, true≢false, refl, sym, ap, subst, ◌∙◌, arith}
use Rattle.std.specs.Prelude.{◌⊎◌, slice_index, nat_lt, nat_eq, ◌||◌, if◌then◌else◌}
use Rattle.std.proofs.lemmas.Bool.{cases_lt, lt-ltb}
use Rattle.std.proofs.lemmas.Bool.Decides.{nat_tests}
use Rattle.std.proofs.Math.Pow.{pow_mono}
use Rattle.std.proofs.lemmas.List.{get_or_past}
use Rattle.std.proofs.lemmas.List.FromFn.{length-map-range_with_len, get_or-map-range_with_len}
use Rattle.imago_storage.specs.declared.error.Error.{Error}
use Rattle.imago_storage.specs.Bytes.{IsReadAt, bytes_at}
use Rattle.imago_qcow2.specs.declared.header.Header.{Header}
use Rattle.imago_qcow2.specs.declared.entry.L2Table.{L2Table}
use Rattle.imago_qcow2.specs.Numbers.{be32, be64}
use Rattle.imago_qcow2.specs.Entry.{cluster_length, table_in_entry}
use Rattle.imago_qcow2.specs.Header.{and_then, magic_fault, support_fault, bounds_fault, added_fault, name_fault, header_of}
use Rattle.imago_qcow2.specs.Disk.{HaveSameTables, AreSameBytes}
use Rattle.imago_qcow2.proofs.NumberSteps.{range32, range64}
use Rattle.imago_qcow2.proofs.HeaderSteps.{same32, header_same}
use Rattle.imago_session.specs.declared.loaded.LoadedFile.{LoadedFile}
use Rattle.imago_session.specs.Loaded.{loaded_bytes, AreThere, Keeps}
use Rattle.imago_session.proofs.LoadedSteps.{byte_at, there_stays}
use Rattle.imago_session.proofs.TableSteps.{front_same}
use Rattle.imago_session.specs.declared.loading.Tables.{Tables}
use Rattle.imago_session.specs.declared.loading.Loading.{Loading}
use Rattle.imago_session.specs.Blocks.{IsPartOf}
use Rattle.imago_session.specs.Known.{AreTablesOf, AreKnownOf}
use Rattle.imago_session.specs.Limits.{IsHeadFault, IsTableFault}
use Rattle.imago_qcow2.specs.Limit.{l1_length}
use Rattle.imago_session.specs.Files.{backing_name, HasBacking}
use Rattle.imago_session.specs.Found.{IsBlockGiven, block_start, block_count}
use Rattle.imago_session.proofs.ReadSteps.{same_read, head_front}

-- the first cluster is the file's
pub front_of : (most : ℕ) (bytes : List ℕ) (f : LoadedFile) (t : Tables) → IsPartOf bytes f → AreTablesOf most bytes f t → AreSameBytes bytes (loaded_bytes f) 0 (cluster_length bytes)
front_of most bytes f t part of i lt =
    let h = of.head in
    let same : (j : ℕ) → j < 112 → slice_index h.0 j ≡ slice_index bytes j = λ j less. let e : 0 + j ≡ j = omega arith in byte_at bytes h.0 0 112 j h.1 less ∙ ap (slice_index bytes) e in
    let cluster : t.table.cluster ≡ cluster_length bytes = h.4 ∙ ap (λ (n : ℕ). 2 ^ n) (same32 bytes h.0 same 20 (omega arith)) in
    let e : i ≡ 0 + i = omega arith in
    let under : i < t.table.cluster = omega (arith, lt, cluster) in
    subst (λ (n : ℕ). slice_index bytes n ≡ slice_index (loaded_bytes f) n) e (front_same bytes f t.table.cluster part.0 part.1 f.positive of.first i under)

-- what is known stays so where more is in memory
pub known_kept : (most : ℕ) (bytes : List ℕ) (a b : LoadedFile) (o : Option Tables) → Keeps a b → AreKnownOf most bytes a o → AreKnownOf most bytes b o
known_kept most bytes a b None keeps h = tt
known_kept most bytes a b (Some t) keeps h = record {
  head = h.head;
  entries = h.entries;
  few = h.few;
  first = subst (λ (n : ℕ). AreThere b 0 (min t.table.cluster n)) (sym keeps.len) (there_stays a b 0 (min t.table.cluster a.length) keeps h.first);
  l1 = there_stays a b t.table.start (8 * t.table.count) keeps h.l1;
  l2 = λ i at lt is. there_stays a b at t.table.cluster keeps
      (h.l2 i at lt (subst (λ (n : ℕ). table_in_entry n t.table.cluster (be64 t.entries.items (8 * i)) ≡ L2Table.Stored at) keeps.len is));
}

-- the bytes that are given are those of the block, with zeroes past the file's end
pub block_given : (bytes : List ℕ) (l : Loading) (block : List ℕ) → IsBlockGiven bytes l block → length bytes ≡ l.file.length
    → (i : ℕ) → i < l.file.block → slice_index block i ≡ slice_index bytes (l.number * l.file.block + i)
block_given bytes l block given len i lt =
    let start : ℕ = block_start l in
    let count : ℕ = block_count l in
    let long : length block ≡ count = ap length given ∙ length-map-range_with_len (slice_index bytes) start count in
    ⊎_elim
    (λ (inside : i < count). ap (λ (xs : List ℕ). slice_index xs i) given ∙ get_or-map-range_with_len (slice_index bytes) start count i (start + i) 0 inside refl)
    (λ (behind : count ≤ i).
    let past : l.file.length ≤ start + i = omega (arith, behind, lt) in
    get_or_past block i 0 (omega (arith, long, behind)) ∙ sym (get_or_past bytes (start + i) 0 (omega (arith, len, past))))
    (cases_lt i count)

next_ok : {A : Type 0} (r : Result (Unit {0}) Error) (n : Result A Error) (x : A) → and_then r n ≡ Ok x → (r ≡ Ok tt) × (n ≡ Ok x)
next_ok (Ok u) n x h = (refl, h)
next_ok (Err e) n x h = let q : ⊥ = cc h in absurd q

abbrev IsDone : Result (Unit {0}) Error → Type 0
IsDone r = r ≡ Ok tt

name_tests : (zero big far over : Bool) → IsDone (if zero then Ok tt else (if big || (far || over) then Err Error.InvalidData else Ok tt)) → zero ≡ false → (far ≡ false) × (over ≡ false)
name_tests true big far over h z = let q : ⊥ = cc z in absurd q
name_tests false true far over h z = let q : ⊥ = cc h in absurd q
name_tests false false true over h z = let q : ⊥ = cc h in absurd q
name_tests false false false true h z = let q : ⊥ = cc h in absurd q
name_tests false false false false h z = (refl, refl)

not_less : (a b : ℕ) → nat_lt a b ≡ false → b ≤ a
not_less a b h = ⊎_elim (λ (lt : a < b). absurd (true≢false (sym (lt-ltb a b lt) ∙ h))) (λ (le : b ≤ a). le) (cases_lt a b)

-- a name lies in the first cluster, if the header has no fault
name_inside : (own : List ℕ) (file : ℕ) (h : Header) → header_of own file ≡ Ok h → 0 < be64 own 8 → be64 own 8 + be32 own 16 ≤ cluster_length own
unfolding header_of name_fault
name_inside own file h e some =
    let a = next_ok (magic_fault own file) _ h e in
    let b = next_ok (support_fault own) _ h a.1 in
    let c = next_ok (bounds_fault own) _ h b.1 in
    let d = next_ok (added_fault own (2 ^ be32 own 20)) _ h c.1 in
    let n = next_ok (name_fault own (2 ^ be32 own 20)) _ h d.1 in
    let z : nat_eq (be64 own 8) 0 ≡ false = grind (arith, nat_tests, some) in
    let t = name_tests (nat_eq (be64 own 8) 0) (nat_lt 1023 (be32 own 16)) (nat_lt (2 ^ be32 own 20) (be64 own 8)) (nat_lt (2 ^ be32 own 20 - be64 own 8) (be32 own 16)) n.0 z in
    let far : be64 own 8 ≤ 2 ^ be32 own 20 = not_less (2 ^ be32 own 20) (be64 own 8) t.0 in
    let over : be32 own 16 ≤ 2 ^ be32 own 20 - be64 own 8 = not_less (2 ^ be32 own 20 - be64 own 8) (be32 own 16) t.1 in
    omega (arith, far, over)

bounds_tests : (low high : Bool) → IsDone (if low || high then Err Error.InvalidData else Ok tt) → high ≡ false
bounds_tests true high h = let q : ⊥ = cc h in absurd q
bounds_tests false true h = let q : ⊥ = cc h in absurd q
bounds_tests false false h = refl

-- a cluster has 2 MiB at most, if the header has no fault
pub cluster_small : (own : List ℕ) (file : ℕ) (h : Header) → header_of own file ≡ Ok h → cluster_length own ≤ 2 ^ 21
unfolding header_of bounds_fault
cluster_small own file h e =
    let a = next_ok (magic_fault own file) _ h e in
    let b = next_ok (support_fault own) _ h a.1 in
    let c = next_ok (bounds_fault own) _ h b.1 in
    let high = bounds_tests (nat_lt (be32 own 20) 9) (nat_lt 21 (be32 own 20)) c.0 in
    pow_mono (not_less 21 (be32 own 20) high)

-- the name of a backing file that was read of the front of a file is the file's
pub name_is : (bytes own xs : List ℕ) {h : Header} → HaveSameTables bytes own → AreSameBytes bytes own 0 (cluster_length bytes) → header_of own (length own) ≡ Ok h
    → 0 < be64 own 8 → length xs ≡ be32 own 16 → IsReadAt own (be64 own 8) xs → 0 < length xs → HasBacking bytes × (xs ≡ backing_name bytes)
name_is bytes own xs {h} same front ok some len read full =
    let a : be64 bytes 8 ≡ be64 own 8 = range64 bytes own 0 112 same.header 8 (omega arith) in
    let b : be32 bytes 16 ≡ be32 own 16 = range32 bytes own 0 112 same.header 16 (omega arith) in
    let c : cluster_length bytes ≡ cluster_length own = ap (λ (n : ℕ). 2 ^ n) (range32 bytes own 0 112 same.header 20 (omega arith)) in
    let inside = name_inside own (length own) h ok some in
    let near : (i : ℕ) → i < be32 own 16 → slice_index bytes (be64 own 8 + i) ≡ slice_index own (be64 own 8 + i) = λ i lt.
    let e : 0 + (be64 own 8 + i) ≡ be64 own 8 + i = omega arith in
    subst (λ (n : ℕ). slice_index bytes n ≡ slice_index own n) e (front (be64 own 8 + i) (omega (arith, lt, inside, c))) in (
      (omega (arith, a, some), omega (arith, b, len, full)),
      same_read bytes own (be64 own 8) (be32 own 16) xs len read near
          ∙ ap (λ (s : ℕ). bytes_at bytes s (be32 own 16)) (sym a)
          ∙ ap (bytes_at bytes (be64 bytes 8)) (sym b),
    )

-- why a header is refused, by the file
pub head_refused : (f : LoadedFile) → AreThere f 0 (min 112 f.length) → (e : Error)
    → (e ≡ Error.Memory) ⊎ ((head : List ℕ) × (length head ≡ 112) × IsReadAt (loaded_bytes f) 0 head × IsHeadFault head f.length e)
    → (most : ℕ) → (e ≡ Error.Memory) ⊎ ((bytes : List ℕ) → IsPartOf bytes f → IsTableFault most bytes e)
head_refused f there e (inl memory) most = inl memory
head_refused f there e (inr h) most = inr (λ bytes part.
    let same = head_front bytes f h.0 part there h.1 h.2 in
    ⊎_elim
    (λ (fault : header_of h.0 f.length ≡ Err e). inl (ap (header_of bytes) part.1 ∙ sym (header_same bytes h.0 same f.length) ∙ fault))
    (λ (long : (2 ^ 25 < l1_length h.0) × (e ≡ Error.Unsupported)).
    let own : be32 h.0 36 ≡ be32 bytes 36 = same32 bytes h.0 same 36 (omega arith) in
    inr (inl (omega (arith, long.0, own)), long.1))
    h.3)
