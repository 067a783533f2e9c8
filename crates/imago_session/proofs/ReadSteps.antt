-- What is read of a file whose blocks are in memory is the file's.
-- SPDX-License-Identifier: MIT
use Rattle.std.proofs.Common.{◌≡◌, ℕ, ◌+◌, ◌-◌, ◌*◌, ◌/◌, ◌%◌, ◌<◌, ◌≤◌, ⊎_elim, List, length, refl, sym, ap, subst, ◌∙◌, arith}
use Rattle.std.proofs.Common.{true≢false, Result, Ok, Err, IfOk}
use Rattle.std.specs.Prelude.{IfErr}
use Rattle.std.specs.Prelude.{slice_index, Option, Some, None, is_some, Bool, false, true, min, not, ◌||◌, nat_eq, nat_lt, if◌then◌else◌}
use Rattle.std.proofs.lemmas.Bool.{cases_lt, lt-ltb, le-ltb}
use Rattle.std.proofs.lemmas.Grind.{same_number_lists}
use Rattle.std.proofs.lemmas.List.FromFn.{length-map-range_with_len, get_or-map-range_with_len}
use Rattle.std.proofs.Math.Nat.{div-mul-le_self, mul-le-mul_right}
use Rattle.imago_storage.specs.Bytes.{IsReadAt, bytes_at}
use Rattle.imago_qcow2.specs.declared.entry.L2Table.{L2Table}
use Rattle.imago_qcow2.specs.Entry.{table_in_entry, low, high}
use Rattle.imago_session.specs.declared.loaded.LoadedFile.{LoadedFile}
use Rattle.imago_session.specs.Loaded.{loaded_bytes, HasBytesOf, AreThere}
use Rattle.imago_session.proofs.LoadedSteps.{loaded_length, same_byte, same_range}
use Rattle.imago_session.proofs.TableSteps.{front_same}
use Rattle.imago_session.specs.declared.block.Step.{Step}
use Rattle.imago_session.specs.declared.block.Step.TheVariants as S
use Rattle.imago_session.specs.Blocks.{IsPartOf}
use Rattle.imago_session.specs.Steps.{IfReady}

-- a part that was read whose blocks are in memory
pub read_is : (file : List ℕ) (f : LoadedFile) (at n : ℕ) (xs : List ℕ) → HasBytesOf file f → length file ≡ f.length → 0 < f.block → AreThere f at n
    → length xs ≡ n → IsReadAt (loaded_bytes f) at xs → xs ≡ bytes_at file at n
read_is file f at n xs has len positive there whole read = same_number_lists xs (bytes_at file at n)
    (whole ∙ sym (length-map-range_with_len (slice_index file) at n))
    (λ k lt.
    let inside : k < n = omega (arith, lt, whole) in
    read k lt
    ∙ sym (same_range file f at n has len positive there k inside)
    ∙ sym (get_or-map-range_with_len (slice_index file) at n k (at + k) 0 inside refl))

-- bytes that were read are those of a file with the same ones there
pub same_read : (file own : List ℕ) (at n : ℕ) (xs : List ℕ) → length xs ≡ n → IsReadAt own at xs
    → ((i : ℕ) → i < n → slice_index file (at + i) ≡ slice_index own (at + i)) → xs ≡ bytes_at file at n
same_read file own at n xs whole read same = same_number_lists xs (bytes_at file at n)
    (whole ∙ sym (length-map-range_with_len (slice_index file) at n))
    (λ k lt.
    let inside : k < n = omega (arith, lt, whole) in
    read k lt
    ∙ sym (same k inside)
    ∙ sym (get_or-map-range_with_len (slice_index file) at n k (at + k) 0 inside refl))

pub none_is : (o : Option ℕ) → is_some o ≡ false → o ≡ None
none_is None h = refl
none_is (Some x) h = absurd (true≢false h)

-- a block up to the last one of a range inside the file begins inside
pub begins_inside : (at n len k q : ℕ) → 0 < n → at + n ≤ len → q ≤ (at + (n - 1)) / k → q * k < len
begins_inside at n len k q some inside up =
    let low : (at + (n - 1)) / k * k ≤ at + (n - 1) = div-mul-le_self (at + (n - 1)) k in
    let less : q * k ≤ (at + (n - 1)) / k * k = mul-le-mul_right k up in
    omega (arith, low, less, some, inside)

-- a part of a range is in memory
pub there_part : (f : LoadedFile) (n m : ℕ) → min m f.length ≤ n → AreThere f 0 n → AreThere f 0 (min m f.length)
there_part f n m le h p low high = h p low (omega (arith, le, high))

-- the header that was read is the file's
pub head_front : (bytes : List ℕ) (f : LoadedFile) (head : List ℕ) → IsPartOf bytes f → AreThere f 0 (min 112 f.length) → length head ≡ 112 → IsReadAt (loaded_bytes f) 0 head
    → (i : ℕ) → i < 112 → slice_index head i ≡ slice_index bytes i
head_front bytes f head part there whole read i lt =
    let e : 0 + i ≡ i = omega arith in
    read i (omega (arith, lt, whole)) ∙ ap (slice_index (loaded_bytes f)) e ∙ sym (front_same bytes f 112 part.0 part.1 f.positive there i lt)

pub head_is : (bytes : List ℕ) (f : LoadedFile) (head : List ℕ) → IsPartOf bytes f → AreThere f 0 (min 112 f.length) → length head ≡ 112 → IsReadAt (loaded_bytes f) 0 head
    → head ≡ bytes_at bytes 0 112
head_is bytes f head part there whole read = same_read bytes (loaded_bytes f) 0 112 head whole read
    (λ i lt. let e : i ≡ 0 + i = omega arith in subst (λ (n : ℕ). slice_index bytes n ≡ slice_index (loaded_bytes f) n) e (front_same bytes f 112 part.0 part.1 f.positive there i lt))

-- a file that is in memory as a whole
pub same_whole : (bytes : List ℕ) (f : LoadedFile) → IsPartOf bytes f → AreThere f 0 f.length → bytes ≡ loaded_bytes f
same_whole bytes f part there = same_number_lists bytes (loaded_bytes f) (part.1 ∙ sym (loaded_length f))
    (λ k lt. same_byte bytes f part.0 part.1 f.positive k (there k (omega arith) (let e : length bytes ≡ f.length = part.1 in omega (arith, lt, e))))

pub read_whole : (f : LoadedFile) (xs : List ℕ) → length xs ≡ f.length → IsReadAt (loaded_bytes f) 0 xs → xs ≡ loaded_bytes f
read_whole f xs whole read = same_number_lists xs (loaded_bytes f) (whole ∙ sym (loaded_length f))
    (λ k lt. let e : 0 + k ≡ k = omega arith in read k lt ∙ ap (slice_index (loaded_bytes f)) e)

pub if_ok_more : {A E : Type 0} (r : Result A E) (P Q : A → Type 0) → IfOk r P → ((x : A) → P x → Q x) → IfOk r Q
if_ok_more (Ok x) P Q h f = f x h
if_ok_more (Err e) P Q h f = tt

-- what a step found
pub if_ready : {T : Type 0} (s : Step T) (x : T) (P : T → Type 0) → s ≡ S.Ready x → IfReady P s → P x
if_ready {T} s x P is h = subst (λ (q : Step T). IfReady P q) is h

-- a table that an L1 entry names lies in the file
stored_inside : (file cluster at start : ℕ) → (if nat_lt file (start + cluster) then L2Table.Invalid else L2Table.Stored start) ≡ L2Table.Stored at → at + cluster ≤ file
stored_inside file cluster at start is = ⊎_elim
    (λ (past : file < start + cluster).
    let t : nat_lt file (start + cluster) ≡ true = lt-ltb file (start + cluster) past in
    let z : L2Table.Invalid ≡ L2Table.Stored at = rw t at is in
    let q : ⊥ = cc z in absurd q)
    (λ (inside : start + cluster ≤ file).
    let t : nat_lt file (start + cluster) ≡ false = le-ltb file (start + cluster) inside in
    let z : L2Table.Stored start ≡ L2Table.Stored at = rw t at is in
    let e : start ≡ at = cc z in
    omega (arith, e, inside))
    (cases_lt file (start + cluster))

by_tests : (file cluster at start : ℕ) (bad none : Bool) → (if bad then L2Table.Invalid else (if none then L2Table.Absent else (if nat_lt file (start + cluster) then L2Table.Invalid else L2Table.Stored start))) ≡ L2Table.Stored at → at + cluster ≤ file
by_tests file cluster at start true none h = let q : ⊥ = cc h in absurd q
by_tests file cluster at start false true h = let q : ⊥ = cc h in absurd q
by_tests file cluster at start false false h = stored_inside file cluster at start h

pub table_inside : (file cluster entry at : ℕ) → table_in_entry file cluster entry ≡ L2Table.Stored at → at + cluster ≤ file
unfolding table_in_entry
table_inside file cluster entry at is =
    by_tests file cluster at (low entry) (not (nat_eq (high entry % 128) 0) || not (nat_eq (low entry % cluster) 0)) (nat_eq (low entry) 0) is

pub if_err_more : {A E : Type 0} (r : Result A E) (P Q : E → Type 0) → IfErr r P → ((e : E) → P e → Q e) → IfErr r Q
if_err_more (Ok x) P Q h f = tt
if_err_more (Err e) P Q h f = f e h

-- what follows of a refusal that is passed on
pub passed_on : {A E : Type 0} (r : Result A E) (y e : E) (P : E → Type 0) → r ≡ Err y → y ≡ e → P e → IfErr r P
passed_on {A} {E} r y e P is same h = subst (λ (q : Result A E). IfErr q P) (sym is) (subst P (sym same) h)
