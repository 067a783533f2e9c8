-- Whether the entries of tables can be read.
-- SPDX-License-Identifier: MIT
use Rattle.std.proofs.Common.{◌≡◌, ℕ, zero, suc, ◌+◌, ◌*◌, ◌/◌, ◌^◌, ◌<◌, ◌≤◌, Bool, true, false, ◌&&◌, List, length, Option, IfSome, Result, Ok, Err, refl, sym, ap, ◌∙◌, subst, ⊎_elim, add-one, arith}
use Rattle.std.specs.Prelude.{Decides, None, IsOk, slice_index}
use Rattle.std.proofs.lemmas.Bool.{cases_eq}
use Rattle.imago_storage.specs.Bytes.{IsReadAt}
use Rattle.imago_qcow2.specs.declared.entry.L2Table.{L2Table}
use Rattle.imago_qcow2.specs.declared.entry.L2Table.TheVariants as T
use Rattle.imago_qcow2.specs.Numbers.{be32, be64}
use Rattle.imago_storage.specs.declared.error.Error.{Error}
use Rattle.imago_qcow2.specs.declared.header.Header.{Header}
use Rattle.imago_qcow2.specs.Header.{IsSound, and_then, magic_fault, support_fault, bounds_fault, added_fault, name_fault, size_fault, table_fault, compression_of, header_of}
use Rattle.imago_qcow2.specs.Entry.{version_of, cluster_length, per_table, l1_start, table_in_entry, table_of}
use Rattle.imago_qcow2.specs.Opening.{table_count}
use Rattle.imago_qcow2.proofs.NumberSteps.{read64}
use Rattle.imago_qcow2.proofs.HeldSteps.{enough, span_positive}
use Rattle.imago_qcow2.proofs.HeaderSteps.{same32, same64, compression_same, header_same, head_same}
use Rattle.imago_images.specs.declared.opening.Opening.{Opening}
use Rattle.imago_images.specs.Layers.{SaysBacking}
use Rattle.imago_qcow2.specs.Limit.{l1_length}
use Rattle.imago_img_checks.specs.declared.vet_tables.Shape.{Shape}
use Rattle.imago_img_checks.specs.Vetted.{named_by, named_tables, IsSafeTable, AreSafeTables, IsVetted}
use Rattle.imago_img_checks.specs.VettedParts.{IsEntrySafe, IsTableSafe, AreEntriesSafe}

-- one more of them holds, where all did before
module _ (P : ℕ → Type 0) where
  pub one_more : (n : ℕ) → ((j : ℕ) → j < n → P j) → P n → (j : ℕ) → j < n + 1 → P j
  one_more n before now j below = ⊎_elim
      (λ (same : j ≡ n). subst P (sym same) now)
      (λ (apart : j ≡ n → ⊥). before j (omega (arith, below, apart)))
      (cases_eq j n)

  pub next_of : (n : ℕ) (safe here : Bool) → (safe ≡ true → (j : ℕ) → j < n → P j) → (here ≡ true → P n)
      → (safe && here) ≡ true → (j : ℕ) → j < n + 1 → P j
  next_of n true true before now is = one_more n (before refl) (now refl)
  next_of n true false before now is = let e : ⊥ = cc is in absurd e
  next_of n false here before now is = let e : ⊥ = cc is in absurd e

both : (a b : Bool) → a ≡ true → b ≡ true → (a && b) ≡ true
both true b is also = also
both false b is also = let e : ⊥ = cc is in absurd e

left_of : (a b : Bool) → (a && b) ≡ true → a ≡ true
left_of true b is = refl
left_of false b is = is

right_of : (a b : Bool) → (a && b) ≡ true → b ≡ true
right_of true b is = is
right_of false b is = let e : ⊥ = cc is in absurd e

-- what is decided of two things, of none and of one that is another's
pub decides_both :
    {P Q : Type 0} (a b : Bool) → Decides a P → Decides b Q → Decides (a && b) (P × Q)
decides_both a b p q = (
  (λ is. (p.0 (left_of a b is), q.0 (right_of a b is))),
  (λ (x, y). both a b (p.1 x) (q.1 y)),
)

pub decides_no : {P : Type 0} → (P → ⊥) → Decides false P
decides_no never = ((λ is. let e : ⊥ = cc is in absurd e), λ p. absurd (never p))

pub decides_as : {P Q : Type 0} (a : Bool) → (P → Q) → (Q → P) → Decides a P → Decides a Q
decides_as a to from p = ((λ is. to (p.0 is)), λ q. p.1 (from q))

pub not_decided : {P : Type 0} (a : Bool) → a ≡ false → Decides a P → P → ⊥
not_decided a is p x = let yes = p.1 x in let e : ⊥ = cc (is, yes) in e

-- the same of each of so many
pub decides_none : (P : ℕ → Type 0) → Decides true ((j : ℕ) → j < 0 → P j)
decides_none P = ((λ is j below. let e : ⊥ = omega (arith, below) in absurd e), λ all. refl)

pub decides_next :
    (P : ℕ → Type 0) (n : ℕ) (safe here : Bool) → Decides safe ((j : ℕ) → j < n → P j) → Decides here (P n)
    → Decides (safe && here) ((j : ℕ) → j < n + 1 → P j)
decides_next P n safe here before now = (
  next_of P n safe here before.0 now.0,
  (λ all. both safe here (before.1 (λ j below. all j (omega (arith, below)))) (now.1 (all n (omega arith)))),
)

-- how many tables are named, with one more entry
pub named_more : (says : ℕ → L2Table) (n : ℕ) → named_tables says (n + 1) ≡ named_tables says n + named_by (says n)
named_more says n = rw add-one refl

-- entries that say the same name as many
pub named_same : (f g : ℕ → L2Table) (n : ℕ) → ((i : ℕ) → i < n → f i ≡ g i) → named_tables f n ≡ named_tables g n
named_same f g zero same = refl
named_same f g (suc n) same =
    let a = named_same f g n (λ i below. same i (omega (arith, below))) in
    let b : named_by (f n) ≡ named_by (g n) = ap named_by (same n (omega arith)) in
    omega (arith, a, b)

-- the entries of a table that was read are those of the file
pub table_read : (s : Shape) (bytes table : List ℕ) (at : ℕ) → IsReadAt bytes at table → length table ≡ s.cluster
    → ((j : ℕ) → j < length table / 8 → IsEntrySafe s (be64 table (8 * j)))
    → (j : ℕ) → j < s.cluster / 8 → IsEntrySafe s (be64 bytes (at + 8 * j))
table_read s bytes table at r whole each j below =
    subst (IsEntrySafe s) (read64 bytes table at r (8 * j) (omega (arith, whole, below)))
    (each j (omega (arith, whole, below)))

-- and those of the file are the table's
pub table_written : (s : Shape) (bytes table : List ℕ) (at : ℕ) → IsReadAt bytes at table → length table ≡ s.cluster
    → ((j : ℕ) → j < s.cluster / 8 → IsEntrySafe s (be64 bytes (at + 8 * j)))
    → (j : ℕ) → j < length table / 8 → IsEntrySafe s (be64 table (8 * j))
table_written s bytes table at r whole each j below =
    subst (IsEntrySafe s) (sym (read64 bytes table at r (8 * j) (omega (arith, whole, below))))
    (each j (omega (arith, whole, below)))

module _ (s : Shape) (bytes : List ℕ) (file : s.file ≡ length bytes) (cluster : s.cluster ≡ cluster_length bytes)
    (version : s.version ≡ version_of bytes) (way : s.compression ≡ compression_of bytes) where
  -- what can be read by the shape can be by the file
  pub table_moved : (t : L2Table) → IsTableSafe s bytes t → IsSafeTable bytes t
  table_moved T.Absent safe = tt
  table_moved (T.Stored at) safe = λ j below.
      let near : j < s.cluster / 8 = rw cluster below in
      rw (file, cluster, version, way) at (safe j near)
  table_moved T.Invalid safe = safe

  pub table_back : (t : L2Table) → IsSafeTable bytes t → IsTableSafe s bytes t
  table_back T.Absent safe = tt
  table_back (T.Stored at) safe = λ j below.
      let near : j < per_table bytes = rw cluster at below in
      rw (file, cluster, version, way) (safe j near)
  table_back T.Invalid safe = safe

  -- the tables whose L1 entries were read
  module _ (entries : List ℕ) (start count : ℕ) (is_start : start ≡ l1_start bytes) (is_count : count ≡ table_count bytes)
      (r : IsReadAt bytes start entries) (len : length entries ≡ 8 * count) where
    abbrev says : ℕ → L2Table
    says i = table_in_entry s.file s.cluster (be64 entries (8 * i))

    says_same : (i : ℕ) → i < count → says i ≡ table_of bytes i
    says_same i below =
        let e : be64 entries (8 * i) ≡ be64 bytes (l1_start bytes + 8 * i) = read64 bytes entries start r (8 * i) (omega (arith, len, below)) ∙ ap (λ x. be64 bytes (x + 8 * i)) is_start in
        rw (file, cluster, e) refl

    pub tables_taken : (taken : ℕ) → taken ≡ 8 * count + s.cluster * named_tables says (length entries / 8)
        → taken ≡ 8 * table_count bytes + cluster_length bytes * named_tables (table_of bytes) (table_count bytes)
    tables_taken taken is =
        let k : length entries / 8 ≡ count = omega (arith, len) in
        let named : named_tables says (length entries / 8) ≡ named_tables (table_of bytes) (table_count bytes) =
        ap (named_tables says) k ∙ named_same says (table_of bytes) count says_same ∙ ap (named_tables (table_of bytes)) is_count in
        let all : 8 * count + s.cluster * named_tables says (length entries / 8)
        ≡ 8 * table_count bytes + cluster_length bytes * named_tables (table_of bytes) (table_count bytes) = rw (named, is_count, cluster) refl in
        is ∙ all

    pub tables_safe : (most taken : ℕ) → taken ≡ 8 * count + s.cluster * named_tables says (length entries / 8) → taken ≤ most
        → l1_length bytes ≤ 2 ^ 25 → AreEntriesSafe s bytes entries (length entries / 8) → AreSafeTables most bytes
    tables_safe most taken is few held each =
        let k : length entries / 8 ≡ count = omega (arith, len) in
        record {
          held = held;
          few = subst (λ (n : ℕ). n ≤ most) (tables_taken taken is) few;
          each = λ i below.
              let near : i < count = omega (arith, is_count, below) in
              let here : IsTableSafe s bytes (table_of bytes i) = subst (IsTableSafe s bytes) (says_same i near) (each i (omega (arith, k, near))) in
              table_moved (table_of bytes i) here;
        }

    pub tables_back : (most : ℕ) → AreSafeTables most bytes → AreEntriesSafe s bytes entries (length entries / 8)
    tables_back most safe i below =
        let near : i < count = omega (arith, len, below) in
        subst (IsTableSafe s bytes) (sym (says_same i near))
        (table_back (table_of bytes i) (safe.each i (omega (arith, is_count, near))))

-- what the first bytes of a file say, the file does
module _ (bytes head : List ℕ) (r : IsReadAt bytes 0 head) (len : 112 ≤ length head) where
  begins : (i : ℕ) → i < 112 → slice_index head i ≡ slice_index bytes i
  begins = head_same bytes head r len

  pub cluster_moved : cluster_length head ≡ cluster_length bytes
  cluster_moved = ap (λ k. 2 ^ k) (same32 bytes head begins 20 (omega arith))

  pub start_moved : l1_start head ≡ l1_start bytes
  start_moved = same64 bytes head begins 40 (omega arith)

  pub count_moved : table_count head ≡ table_count bytes
  count_moved =
      let size = same64 bytes head begins 24 (omega arith) in
      let c = cluster_moved in
      rw (size, c) refl

  pub said_moved : l1_length head ≡ l1_length bytes
  said_moved = ap (λ (n : ℕ). 8 * n) (same32 bytes head begins 36 (omega arith))

  pub version_moved : be32 head 4 ≡ version_of bytes
  version_moved = same32 bytes head begins 4 (omega arith)

  pub way_moved : compression_of head ≡ compression_of bytes
  way_moved = compression_same bytes head begins

  pub backing_moved : SaysBacking head None → SaysBacking bytes None
  backing_moved named =
      let at = same64 bytes head begins 8 (omega arith) in
      let n = same32 bytes head begins 16 (omega arith) in
      rw (at, n) at named

  pub backing_back : SaysBacking bytes None → SaysBacking head None
  backing_back named =
      let at = same64 bytes head begins 8 (omega arith) in
      let n = same32 bytes head begins 16 (omega arith) in
      rw (at, n) named

  pub header_faulty : (file : ℕ) (e : Error) → file ≡ length bytes → Err e ≡ header_of head file → IsOk (header_of bytes (length bytes)) → ⊥
  header_faulty file e is fault ok =
      let same : header_of head file ≡ header_of bytes (length bytes) = header_same bytes head begins file ∙ ap (header_of bytes) is in
      let wrong : IsOk {T = Header} (Err e) = subst (λ (x : Result Header Error). IsOk x) (sym (fault ∙ same)) ok in
      let none : ⊥ = cc wrong in none

  pub header_moved : (file : ℕ) (h : Header) → file ≡ length bytes → Ok h ≡ header_of head file → IsOk (header_of bytes (length bytes))
  header_moved file h is ok =
      let e : header_of head file ≡ header_of bytes (length bytes) = header_same bytes head begins file ∙ ap (header_of bytes) is in
      subst (λ (x : Result Header Error). IsOk x) (ok ∙ e) refl

-- the same by how the image is opened
pub vetted_as_said : (a b : Opening) → a ≡ b → (known : Option (List ℕ → List ℕ)) (path : List ℕ) (safe : Bool)
    → IfSome known (λ files. Decides safe (IsVetted a path (files path)))
    → IfSome known (λ files. Decides safe (IsVetted b path (files path)))
vetted_as_said a b same known path safe h = subst (λ (how : Opening). IfSome known (λ files. Decides safe (IsVetted how path (files path)))) same h

-- a header without a fault says how many L1 entries there are, which are enough for the disk
then_ok : {A : Type 0} (r : Result (Unit {0}) Error) (n : Result A Error) (x : A) → and_then r n ≡ Ok x → n ≡ Ok x
then_ok (Ok u) n x h = h
then_ok (Err e) n x h = let never : ⊥ = cc h in absurd never

abbrev count_in : Result Header Error → ℕ
count_in (Ok h) = h.l1_count
count_in (Err e) = 0

said_count : (head : List ℕ) (file : ℕ) (h : Header) → header_of head file ≡ Ok h → be32 head 36 ≡ h.l1_count
unfolding header_of
said_count head file h is =
    let cluster = 2 ^ be32 head 20 in
    let a = then_ok (magic_fault head file) _ h is in
    let b = then_ok (support_fault head) _ h a in
    let c = then_ok (bounds_fault head) _ h b in
    let d = then_ok (added_fault head cluster) _ h c in
    let e = then_ok (name_fault head cluster) _ h d in
    let f = then_ok (size_fault head cluster) _ h e in
    let g = then_ok (table_fault head file cluster) _ h f in
    ap count_in g

pub needed_said : (head : List ℕ) (file : ℕ) (h : Header) → header_of head file ≡ Ok h → IsSound head file h → 8 * table_count head ≤ l1_length head
needed_said head file h is sound =
    let span = h.cluster_size / 8 * h.cluster_size in
    let few = enough h.size h.l1_count span (span_positive h.cluster_size sound.least) sound.covers in
    let size = sound.size in
    let cluster = sound.cluster in
    let needed : table_count head ≤ h.l1_count = rw (size, cluster) at few in
    omega (arith, needed, said_count head file h is)
