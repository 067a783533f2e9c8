-- SPDX-License-Identifier: MIT
use Rattle.std.specs.Prelude.{◌≡◌, ℕ, ◌+◌, ◌<◌, ◌≤◌, ◌⊎◌, Bool, true, false, List, length}
use Rattle.std.specs.Prelude.{◌&&◌, IsTrue, slice_index, slice_get, Option, Some, None, refl}
use Rattle.std.proofs.Common.{arith, sym, ap, ◌∙◌, ⊎_elim, inl, inr}
use Rattle.std.proofs.lemmas.Bool.{cases_lt}
use Rattle.std.proofs.lemmas.Option.{slice_get-get_or, slice_get_past}
use Rattle.imago_storage.specs.declared.error.Error.{Error}
use Rattle.imago_storage.specs.declared.error.Error.TheVariants as E
use Rattle.imago_storage.specs.Features.{Features, AreLawful}
use Rattle.imago_test_tables.specs.declared.sparse.Settings.{Settings}
use Rattle.imago_test_tables.specs.declared.sparse.Waiting.{Waiting}
use Rattle.imago_test_tables.specs.declared.table.Origin.{Origin}
use Rattle.imago_test_tables.specs.declared.table.Origin.TheVariants as O
use Rattle.imago_drivers.specs.Operation.{Operation, Map, Read, Write, Zero, DiscardToZero}
use Rattle.imago_drivers.specs.Operation.{DiscardToAny, DiscardToBacking, Grow, Shrink, Flush}
use Rattle.imago_drivers.specs.Place.{Value, Unreadable, Stored, Special, Lower, Refused, End}
use Rattle.imago_drivers.specs.Laws.{IsLawful, AreCauses, CauseBound, refused_unreadable}
use Rattle.imago_test_tables.specs.Table.{HasBarred}
use Rattle.imago_test_tables.specs.Pair.{at_index}
use Rattle.imago_test_tables.specs.Sparse.{entry_place, sparse_place, sparse_view, sparse_cause}
use Rattle.imago_test_tables.specs.Sparse.{sparse_offers, sparse_copies}

-- What an entry that stands in a storage is.
pub record IsStoredEntry (bytes : ℕ → List ℕ) (p : ℕ) (entry : Option Origin) (b s o : ℕ)
    (w : Bool) : Type 0 where
  pub origin : ((entry ≡ Some Origin.First) × (s ≡ 0)) ⊎ ((entry ≡ Some Origin.Second) × (s ≡ 1))
  pub offset : o ≡ p
  pub byte : slice_index (bytes s) p ≡ b
  pub writable : w ≡ true

module _ (bytes : ℕ → List ℕ) (p : ℕ) where
  pub stored_entry : (entry : Option Origin) (b s o : ℕ) (w : Bool) → entry_place bytes p entry
      ≡ Stored b s o w → IsStoredEntry bytes p entry b s o w
  stored_entry (Some O.First) b s o w e = let t : s ≡ 0 = cc in
      rw t (record { origin = inl (refl, refl); offset = cc; byte = cc; writable = cc })
  stored_entry (Some O.Second) b s o w e = let t : s ≡ 1 = cc in
      rw t (record { origin = inr (refl, refl); offset = cc; byte = cc; writable = cc })
  stored_entry (Some O.Zero) b s o w e = let z : ⊥ = cc in absurd z
  stored_entry (Some O.Lower) b s o w e = let z : ⊥ = cc in absurd z
  stored_entry (Some O.Barred) b s o w e = let z : ⊥ = cc in absurd z
  stored_entry None b s o w e = let z : ⊥ = cc in absurd z

  pub lower_entry : (entry : Option Origin) (q : ℕ) (w : Bool) → entry_place bytes p entry
      ≡ Lower q w → (entry ≡ Some Origin.Lower) × (q ≡ p) × (w ≡ false)
  lower_entry (Some O.Lower) q w e = let a : q ≡ p = cc in let b : w ≡ false = cc in (refl, a, b)
  lower_entry (Some O.First) q w e = let z : ⊥ = cc in absurd z
  lower_entry (Some O.Second) q w e = let z : ⊥ = cc in absurd z
  lower_entry (Some O.Zero) q w e = let z : ⊥ = cc in absurd z
  lower_entry (Some O.Barred) q w e = let z : ⊥ = cc in absurd z
  lower_entry None q w e = let z : ⊥ = cc in absurd z

  pub end_entry : (entry : Option Origin) → entry_place bytes p entry ≡ End → entry ≡ None
  end_entry None e = refl
  end_entry (Some O.First) e = let z : ⊥ = cc in absurd z
  end_entry (Some O.Second) e = let z : ⊥ = cc in absurd z
  end_entry (Some O.Zero) e = let z : ⊥ = cc in absurd z
  end_entry (Some O.Lower) e = let z : ⊥ = cc in absurd z
  end_entry (Some O.Barred) e = let z : ⊥ = cc in absurd z

  pub refused_entry : (entry : Option Origin) (r : Error) → entry_place bytes p entry ≡ Refused r
      → (entry ≡ Some Origin.Barred) × (r ≡ Error.NoAccess)
  refused_entry (Some O.Barred) r e = let a : r ≡ Error.NoAccess = cc in (refl, a)
  refused_entry (Some O.First) r e = let z : ⊥ = cc in absurd z
  refused_entry (Some O.Second) r e = let z : ⊥ = cc in absurd z
  refused_entry (Some O.Zero) r e = let z : ⊥ = cc in absurd z
  refused_entry (Some O.Lower) r e = let z : ⊥ = cc in absurd z
  refused_entry None r e = let z : ⊥ = cc in absurd z

  pub no_special : (entry : Option Origin) (b : Value) (o : ℕ) → entry_place bytes p entry
      ≡ Special b o → ⊥
  no_special (Some O.First) b o e = let z : ⊥ = cc in z
  no_special (Some O.Second) b o e = let z : ⊥ = cc in z
  no_special (Some O.Zero) b o e = let z : ⊥ = cc in z
  no_special (Some O.Lower) b o e = let z : ⊥ = cc in z
  no_special (Some O.Barred) b o e = let z : ⊥ = cc in z
  no_special None b o e = let z : ⊥ = cc in z

-- what both keep, both tell
both_told : (a b c d : Bool) → (IsTrue a → IsTrue c) → (IsTrue b → IsTrue d) → IsTrue (a && b)
    → IsTrue (c && d)
both_told true b true d first second keeps = second keeps
both_told true b false d first second keeps = first refl
both_told false b c d first second keeps = let z : ⊥ = cc in absurd z

-- past the table stands nothing
pub past_table : (bytes : ℕ → List ℕ) (table : List Origin) (p : ℕ) → length table ≤ p
    → sparse_place bytes table p ≡ End
past_table bytes table p h = ap (entry_place bytes p) (slice_get_past table p h)

pub none_past : (table : List Origin) (p : ℕ) → slice_get table p ≡ None → length table ≤ p
none_past table p e = ⊎_elim (λ below. let x = slice_get-get_or table p Origin.Zero below in
    let z : ⊥ = cc in absurd z) (λ above. above) (cases_lt p (length table))

module _ (f g : Features) (count : ℕ) (first second : List ℕ) (table : List Origin) (size : ℕ)
    (s : Settings) (short : Bool) (waiting : Option Waiting) where
  bytes : ℕ → List ℕ
  bytes = at_index first second

  pub sparse_lawful : length table ≤ size → 0 < s.granularity → AreLawful f → AreLawful g
      → IsLawful (sparse_view f g count first second table size s short waiting)
  sparse_lawful bounded granular l m = record {
    ends = λ p q h e. past_table (at_index first second) table q
        (let x = none_past table p (end_entry (at_index first second) p (slice_get table p) e) in
        omega arith);
    bounded = λ p h. past_table (at_index first second) table p (omega arith);
    stored = λ p b i o w e. let x = stored_entry (at_index first second) p (slice_get table p) b i o
        w e in
        let y : i < 2 = ⊎_elim (λ a. omega (arith, a.1)) (λ a. omega (arith, a.1)) x.origin in
        (y, rw (x.offset) (x.byte));
    special = λ p b o e. absurd (no_special (at_index first second) p (slice_get table p) b o e);
    faulty = λ p o e h. absurd
        (no_special (at_index first second) p (slice_get table p) (Unreadable e) o h);
    lower = λ p q w e. refl;
    own = λ p q b c i o w e h. let x = stored_entry (at_index first second) p (slice_get table p) b
        i o true e in
        let y = stored_entry (at_index first second) q (slice_get table q) c i o w h in
        sym (x.offset) ∙ y.offset;
    refused = λ p r e. let x = refused_entry (at_index first second) p (slice_get table p) r e in
        inr (x.1);
    told = both_told f.keeps_data g.keeps_data f.tells_bytes g.tells_bytes l.told m.told;
    granularity = λ e. let x : s.granularity ≡ 0 = cc in omega (arith, x);
    blocks = λ e. let z : ⊥ = cc in z;
  }

  only : (op : Operation) (o n : ℕ) (e : Error) (P : Error → Type 0)
      → sparse_cause table short op o n e
      → (sparse_cause table short op o n Error.WrapAround → P Error.WrapAround)
      → (sparse_offers short op ≡ false → P Error.Unsupported)
      → (HasBarred table o n → P Error.NoAccess) → P e
  only op o n E.WrapAround P c w u b = w c
  only op o n E.Unsupported P c w u b = u c
  only op o n E.NoAccess P c w u b = b c
  only op o n E.ReadOnly P c w u b = absurd c
  only op o n E.BeyondDisk P c w u b = absurd c
  only op o n E.RangeOverflow P c w u b = absurd c
  only op o n E.InvalidData P c w u b = absurd c
  only op o n E.Device P c w u b = absurd c
  only op o n E.Memory P c w u b = absurd c
  only op o n E.ForeignMapping P c w u b = absurd c
  only op o n E.Denied P c w u b = absurd c
  only op o n E.NotFound P c w u b = absurd c

  lacking : (op : Operation) (o n : ℕ) → sparse_offers short op ≡ false
      → CauseBound (sparse_view f g count first second table size s short waiting) op o n
      Error.Unsupported
  lacking (Grow mode) o n c = (c, tt)
  lacking Shrink o n c = (c, tt)
  lacking Zero o n c = (c, tt)
  lacking DiscardToZero o n c = (c, tt)
  lacking DiscardToAny o n c = (c, tt)
  lacking DiscardToBacking o n c = (c, tt)
  lacking Map o n c = let z : ⊥ = cc in absurd z
  lacking Read o n c = let z : ⊥ = cc in absurd z
  lacking Write o n c = let z : ⊥ = cc in absurd z
  lacking Flush o n c = let z : ⊥ = cc in absurd z

  copied_part : (op : Operation) (o n q m p : ℕ) → o ≤ q → q + m ≤ o + n
      → sparse_copies table op q m p → sparse_copies table op o n p
  copied_part Write o n q m p h k c = let i = c.0 in let a : o ≤ p = omega (arith, i.0) in
      let b : p < o + n = omega (arith, i.1) in ((a, b), c.1)
  copied_part Map o n q m p h k c = c
  copied_part Read o n q m p h k c = c
  copied_part Zero o n q m p h k c = c
  copied_part DiscardToZero o n q m p h k c = c
  copied_part DiscardToAny o n q m p h k c = c
  copied_part DiscardToBacking o n q m p h k c = c
  copied_part (Grow mode) o n q m p h k c = c
  copied_part Shrink o n q m p h k c = c
  copied_part Flush o n q m p h k c = c

  pub sparse_causes : AreCauses (sparse_view f g count first second table size s short waiting)
  sparse_causes = record {
    part = λ op o n q m e h k c. only op q m e (λ r. sparse_cause table short op o n r) c
        (λ w. w)
        (λ u. u)
        (λ b. let i = b.1 in let x : o ≤ b.0 = omega (arith, i.0) in
        let y : b.0 < o + n = omega (arith, i.1) in (b.0, (x, y), b.2));
    part_copied = copied_part;
    bound = λ op o n e c. only op o n e
        (λ r. CauseBound (sparse_view f g count first second table size s short waiting) op o n r) c
        (λ w. tt)
        (lacking op o n)
        (λ b. refused_unreadable (sparse_place (at_index first second) table) o n Error.NoAccess
        (b.0, b.1, ap (entry_place (at_index first second) (b.0)) (b.2)));
    lends = λ op o n p c. refl;
  }
