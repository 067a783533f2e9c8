-- L2 tables that are loaded, one after the other.
-- SPDX-License-Identifier: MIT
use Rattle.std.proofs.Common.{zero, suc, ◌≡◌, ℕ, ◌+◌, ◌*◌, ◌<◌, ◌≤◌, ⊎_elim, inl, inr, List, [], ◌∷◌, ◌++◌, length, length-append, false, Option, Some, None, refl, ap, ◌∙◌, arith}
use Rattle.std.specs.Prelude.{slice_get, IfSome, IsTrue}
use Rattle.std.specs.declared.sync.ArcSlice.{ArcSlice}
use Rattle.std.specs.Arc.{arc_slice_items}
use Rattle.std.specs.declared.alloc.Global.{Global}
use Rattle.std.specs.BTreeMap.{get, is_at, Updates}
use Rattle.std.specs.Ordering.{nat_cmp}
use Rattle.std.proofs.lemmas.Bool.{cases_eq, cases_lt}
use Rattle.std.proofs.lemmas.Bool.Decides.{nat_tests}
use Rattle.std.proofs.lemmas.Option.{slice_get_past}
use Rattle.imago_storage.specs.declared.error.Error.{Error}
use Rattle.imago_storage.specs.declared.error.Error.TheVariants as E
use Rattle.imago_storage.specs.Bytes.{IsReadAt}
use Rattle.imago_storage.specs.Features.{Features}
use Rattle.imago_drivers.specs.Reasons.{allowed}
use Rattle.imago_qcow2.specs.declared.entry.L2Table.{L2Table}
use Rattle.imago_qcow2.specs.declared.table.HeldTable.{HeldTable}
use Rattle.imago_qcow2.specs.declared.table.HeldTable.TheVariants as H
use Rattle.imago_qcow2.specs.declared.table.Loaded.{Loaded}
use Rattle.imago_qcow2.specs.Numbers.{be64}
use Rattle.imago_qcow2.specs.Entry.{table_in_entry}
use Rattle.imago_qcow2.specs.Opening.{read_reasons, entries_reasons, tables_reasons}
use Rattle.imago_qcow2.specs.Tables.{IsLoaded, IsHeld, AreHeld, AreKnown, KeepsLoaded, says_entry, AreEntriesRead}

pub there_kept : {X : Type 0} (xs : List X) (y : X) (k : ℕ) (x : X) → slice_get xs k ≡ Some x → slice_get (xs ++ y ∷ []) k ≡ Some x
there_kept [] y k x e = let z : ⊥ = cc in absurd z
there_kept (a ∷ xs) y zero x e = e
there_kept (a ∷ xs) y (suc k) x e = there_kept xs y k x e

pub there_last : {X : Type 0} (xs : List X) (y : X) → slice_get (xs ++ y ∷ []) (length xs) ≡ Some y
there_last [] y = refl
there_last (x ∷ xs) y = there_last xs y

pub get_left : {X : Type 0} (xs ys : List X) (i : ℕ) → i < length xs → slice_get (xs ++ ys) i ≡ slice_get xs i
get_left [] ys i h = let z : ⊥ = omega arith in absurd z
get_left (x ∷ xs) ys zero h = refl
get_left (x ∷ xs) ys (suc i) h = get_left xs ys i (omega arith)

not_at : (a q : ℕ) → (a ≡ q → ⊥) → is_at (nat_cmp a) q ≡ false
not_at a q apart = grind (arith, nat_tests)

module _ (f : Features) (bytes : List ℕ) (cluster : ℕ) where
  pub loaded_kept : (old new : List (ArcSlice ℕ Global)) (number at : ℕ) → KeepsLoaded old new → IsLoaded f bytes cluster old number at → IsLoaded f bytes cluster new number at
  loaded_kept old new number at keeps x = record { table = x.table; there = keeps number x.table x.there; whole = x.whole; read = x.read }

  pub loaded_last : (old new : List (ArcSlice ℕ Global)) (table : ArcSlice ℕ Global) (number at : ℕ) → new ≡ old ++ table ∷ [] → number ≡ length old → length (arc_slice_items table) ≡ cluster → (IsTrue f.tells_bytes → IsReadAt bytes at (arc_slice_items table)) → IsLoaded f bytes cluster new number at
  loaded_last old new table number at is n whole read = record { table = table; there = rw (is, n) (there_last old table); whole = whole; read = read }

  keeps_by : (old new : List (ArcSlice ℕ Global)) (at : ℕ) (o : Option ℕ) → KeepsLoaded old new → IfSome o (λ number. IsLoaded f bytes cluster old number at) → IfSome o (λ number. IsLoaded f bytes cluster new number at)
  keeps_by old new at None keeps h = tt
  keeps_by old new at (Some number) keeps h = loaded_kept old new number at keeps h

  -- one more is known
  pub known_more : (old now : Loaded) (at number : ℕ) → KeepsLoaded old.tables.items now.tables.items → IsLoaded f bytes cluster now.tables.items number at
      → Updates nat_cmp old.numbers now.numbers at (Some number) → AreKnown f bytes cluster old → AreKnown f bytes cluster now
  known_more old now at number keeps loaded u h q = ⊎_elim
      (λ e. let there : get nat_cmp now.numbers at ≡ Some number = u.1 in rw (← e, there) loaded)
      (λ apart. rw (u.2 q (not_at at q apart)) (keeps_by old.tables.items now.tables.items q (get nat_cmp old.numbers q) keeps (h q)))
      (cases_eq at q)

  pub known_at : (l : Loaded) (at number : ℕ) → Some number ≡ get nat_cmp l.numbers at → AreKnown f bytes cluster l → IsLoaded f bytes cluster l.tables.items number at
  known_at l at number e h = let x : IfSome (get nat_cmp l.numbers at) (λ n. IsLoaded f bytes cluster l.tables.items n at) = h at in rw (← e) at x

  -- what is held stays so
  pub held_kept : (old new : List (ArcSlice ℕ Global)) (says : L2Table) (t : HeldTable) → KeepsLoaded old new → IsHeld f bytes cluster old says t → IsHeld f bytes cluster new says t
  held_kept old new says H.Absent keeps h = h
  held_kept old new says (H.Loaded number) keeps h = (h.0, h.1, loaded_kept old new number (h.0) keeps (h.2))
  held_kept old new says H.Invalid keeps h = h

  held_by : (old new : List (ArcSlice ℕ Global)) (says : L2Table) (o : Option HeldTable) → KeepsLoaded old new → IfSome o (IsHeld f bytes cluster old says) → IfSome o (IsHeld f bytes cluster new says)
  held_by old new says None keeps h = tt
  held_by old new says (Some t) keeps h = held_kept old new says t keeps h

  last_is : (says other : L2Table) (l2 : List (ArcSlice ℕ Global)) (o : Option HeldTable) (t : HeldTable) → o ≡ Some t → other ≡ says → IsHeld f bytes cluster l2 says t → IfSome o (IsHeld f bytes cluster l2 other)
  last_is says other l2 o t e same h = rw (e, same) h

  past_is : (says : L2Table) (l2 : List (ArcSlice ℕ Global)) (o : Option HeldTable) → o ≡ None → IfSome o (IsHeld f bytes cluster l2 says)
  past_is says l2 o e = rw e tt

-- one more L1 entry is held
pub held_more : (f : Features) (bytes : List ℕ) (cluster : ℕ) (entries : List ℕ) (l1 : List HeldTable) (old new : List (ArcSlice ℕ Global)) (t : HeldTable) → KeepsLoaded old new → AreHeld f bytes cluster entries l1 old
    → IsHeld f bytes cluster new (says_entry bytes cluster entries (length l1)) t → AreHeld f bytes cluster entries (l1 ++ t ∷ []) new
held_more f bytes cluster entries l1 old new t keeps h last i = ⊎_elim
    (λ below.
    let e : slice_get (l1 ++ t ∷ []) i ≡ slice_get l1 i = get_left l1 (t ∷ []) i below in
    rw e (held_by f bytes cluster old new (says_entry bytes cluster entries i) (slice_get l1 i) keeps (h i)))
    (λ above. ⊎_elim
    (λ e. last_is f bytes cluster (says_entry bytes cluster entries (length l1)) (says_entry bytes cluster entries i) new (slice_get (l1 ++ t ∷ []) i) t
    (ap (slice_get (l1 ++ t ∷ [])) e ∙ there_last l1 t) (ap (says_entry bytes cluster entries) e) last)
    (λ apart. past_is f bytes cluster (says_entry bytes cluster entries i) new (slice_get (l1 ++ t ∷ []) i)
    (slice_get_past (l1 ++ t ∷ []) i (let l = length-append l1 (t ∷ []) in omega (arith, l, above, apart))))
    (cases_eq i (length l1)))
    (cases_lt i (length l1))

-- L1 entry i, from what was read of the L1 table
pub says_is : (bytes entries : List ℕ) (i file cluster n : ℕ) (says : L2Table) → file ≡ length bytes → n ≡ be64 entries (8 * i) → says ≡ table_in_entry file cluster n → says ≡ says_entry bytes cluster entries i
says_is bytes entries i file cluster n says is_file is_n e =
    e ∙ ap (λ x. table_in_entry x cluster n) is_file ∙ ap (table_in_entry (length bytes) cluster) is_n

-- why a table isn't loaded is why tables aren't
pub table_refused : (f : Features) (bytes : List ℕ) (cluster : ℕ) (entries : List ℕ) (i at : ℕ) (e : Error) → 8 * i + 8 ≤ length entries → says_entry bytes cluster entries i ≡ L2Table.Stored at
    → allowed (read_reasons f at cluster) e → allowed (entries_reasons f bytes cluster entries) e
table_refused f bytes cluster entries i at E.WrapAround h says r = (refl, (i, at, h, says, r.1))
table_refused f bytes cluster entries i at E.Device h says r = r
table_refused f bytes cluster entries i at E.Memory h says r = r
table_refused f bytes cluster entries i at E.InvalidData h says r = let z : ⊥ = cc (r.0) in absurd z
table_refused f bytes cluster entries i at E.Unsupported h says r = let z : ⊥ = cc (r.0) in absurd z
table_refused f bytes cluster entries i at E.NoAccess h says r = let z : ⊥ = cc (r.0) in absurd z
table_refused f bytes cluster entries i at E.ReadOnly h says r = absurd r
table_refused f bytes cluster entries i at E.BeyondDisk h says r = absurd r
table_refused f bytes cluster entries i at E.RangeOverflow h says r = absurd r
table_refused f bytes cluster entries i at E.ForeignMapping h says r = absurd r
table_refused f bytes cluster entries i at E.Denied h says r = absurd r
table_refused f bytes cluster entries i at E.NotFound h says r = absurd r

-- why the L2 tables aren't loaded is why tables aren't
pub entries_refused : (f : Features) (bytes : List ℕ) (start count cluster : ℕ) (entries : List ℕ) (e : Error) → AreEntriesRead f bytes start count entries
    → allowed (entries_reasons f bytes cluster entries) e → allowed (tables_reasons f bytes start count cluster) e
entries_refused f bytes start count cluster entries E.WrapAround x r = (refl, inr (entries, x, r.1))
entries_refused f bytes start count cluster entries E.Device x r = r
entries_refused f bytes start count cluster entries E.Memory x r = r
entries_refused f bytes start count cluster entries E.InvalidData x r = let z : ⊥ = cc (r.0) in absurd z
entries_refused f bytes start count cluster entries E.Unsupported x r = let z : ⊥ = cc (r.0) in absurd z
entries_refused f bytes start count cluster entries E.NoAccess x r = let z : ⊥ = cc (r.0) in absurd z
entries_refused f bytes start count cluster entries E.ReadOnly x r = absurd r
entries_refused f bytes start count cluster entries E.BeyondDisk x r = absurd r
entries_refused f bytes start count cluster entries E.RangeOverflow x r = absurd r
entries_refused f bytes start count cluster entries E.ForeignMapping x r = absurd r
entries_refused f bytes start count cluster entries E.Denied x r = absurd r
entries_refused f bytes start count cluster entries E.NotFound x r = absurd r

-- why the L1 table isn't read is why tables aren't
pub first_refused : (f : Features) (bytes : List ℕ) (start count cluster : ℕ) (e : Error) → allowed (read_reasons f start (8 * count)) e → allowed (tables_reasons f bytes start count cluster) e
first_refused f bytes start count cluster E.WrapAround r = (refl, inl (r.1))
first_refused f bytes start count cluster E.Device r = r
first_refused f bytes start count cluster E.Memory r = r
first_refused f bytes start count cluster E.InvalidData r = let z : ⊥ = cc (r.0) in absurd z
first_refused f bytes start count cluster E.Unsupported r = let z : ⊥ = cc (r.0) in absurd z
first_refused f bytes start count cluster E.NoAccess r = let z : ⊥ = cc (r.0) in absurd z
first_refused f bytes start count cluster E.ReadOnly r = absurd r
first_refused f bytes start count cluster E.BeyondDisk r = absurd r
first_refused f bytes start count cluster E.RangeOverflow r = absurd r
first_refused f bytes start count cluster E.ForeignMapping r = absurd r
first_refused f bytes start count cluster E.Denied r = absurd r
first_refused f bytes start count cluster E.NotFound r = absurd r
