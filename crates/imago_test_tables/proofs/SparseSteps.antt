-- SPDX-License-Identifier: MIT
use Rattle.std.proofs.Common.{◌≡◌, ◌≢◌, ℕ, ◌+◌, ◌-◌, ◌<◌, ◌≤◌, ◌⊎◌, ◌&&◌, ⊎_elim, inl, inr, Bool, true, false, List, length, Option, Some, None, refl, sym, ap, subst, ◌∙◌, arith, nat_lt, Result, Ok, Err}
use Rattle.std.specs.Prelude.{slice_index, slice_get, is_none, IsTrue, IfErr}
use Rattle.std.proofs.lemmas.Bool.{cases_lt, cases_eq}
use Rattle.std.proofs.lemmas.Bool.Decides.{nat_tests}
use Rattle.imago_storage.specs.declared.error.Error.{Error}
use Rattle.imago_storage.specs.Error.{IsDeviceOrMemory}
use Rattle.imago_storage.specs.Faults.{CountsFaults}
use Rattle.imago_storage.specs.Features.{Features}
use Rattle.imago_drivers.specs.Done.{driver_reasons}
use Rattle.imago_drivers.specs.Reasons.{allowed}
use Rattle.imago_drivers.specs.declared.mapping.PreparedDataMapping.{PreparedDataMapping}
use Rattle.imago_test_tables.specs.declared.sparse.Settings.{Settings}
use Rattle.imago_test_tables.specs.declared.sparse.Waiting.{Waiting}
use Rattle.imago_test_tables.specs.declared.table.Origin.{Origin}
use Rattle.imago_test_tables.specs.declared.table.Origin.TheVariants as O
use Rattle.imago_drivers.specs.Operation.{Grow, Flush}
use Rattle.imago_drivers.specs.Place.{Value, Byte, Stored, Lower, IsIn, HasStranger, shown}
use Rattle.imago_drivers.specs.Pending.{Pending, IsOwn, StaysPending}
use Rattle.imago_drivers.specs.Lengths.{padded_to}
use Rattle.imago_drivers.specs.View.{View}
use Rattle.imago_drivers.specs.Resized.{IsSameDisk}
use Rattle.imago_drivers.specs.LayerBelow.{LayerBelow}
use Rattle.imago_drivers.specs.Calls.{IsGrowth}
use Rattle.imago_drivers.specs.declared.format.PreallocateMode.{PreallocateMode}
use Rattle.imago_drivers.specs.declared.format.PreallocateMode.TheVariants as Mode
use Rattle.imago_drivers.specs.Frame.{IsUnchanged}
use Rattle.imago_drivers.specs.Prepared.{IsPrepared, IsPut, is_written}
use Rattle.imago_drivers.specs.Ranges.{HasBytes}
use Rattle.imago_drivers.specs.Mapping.{IsRight, Names, IsEof}
use Rattle.imago_drivers.specs.declared.mapping.ShallowMapping.{ShallowMapping}
use Rattle.imago_test_tables.specs.Pair.{at_index}
use Rattle.imago_test_tables.specs.Table.{IsOneKind, IsFree, index_of}
use Rattle.imago_test_tables.specs.Sparse.{offers_growth, origin_for, entry_place, sparse_place, sparse_view, sparse_pending, waiting_byte, mapping_of, HasOldByte, WaitsApart}
use Rattle.imago_test_tables.proofs.CommitSteps.{waits_inside, waits_same, waits_on}
use Rattle.imago_test_tables.specs.SparseLaws.{stored_entry, lower_entry, end_entry, refused_entry}
use Rattle.imago_test_tables.proofs.StaySteps.{waits_near}

-- entries that are all one another's
pub one_kind : (table : List Origin) (o n : ℕ) (origin : Option Origin) → slice_get table o ≡ origin → ((k : ℕ) → k < n → slice_get table (o + k) ≡ origin) → IsOneKind table o n
one_kind table o n origin at equal p i =
    let a : o ≤ p = i.0 in let b : p < o + n = i.1 in
    let k : p - o < n = omega arith in
    let q : o + (p - o) ≡ p = omega arith in
    rw q at (equal (p - o) k) ∙ sym at

-- an entry of the origin of that index is the storage's byte
pub origin_place : (bytes : ℕ → List ℕ) (p : ℕ) (o : Origin) (s : ℕ) → index_of o ≡ Some s → entry_place bytes p (Some o) ≡ Stored (slice_index (bytes s) p) s p true
origin_place bytes p O.First s e = let t : s ≡ 0 = cc in rw t refl
origin_place bytes p O.Second s e = let t : s ≡ 1 = cc in rw t refl
origin_place bytes p O.Zero s e = let z : ⊥ = cc in absurd z
origin_place bytes p O.Lower s e = let z : ⊥ = cc in absurd z
origin_place bytes p O.Barred s e = let z : ⊥ = cc in absurd z

not_free : (o : Origin) (s : ℕ) → index_of o ≡ Some s → IsFree (Some o) → ⊥
not_free O.First s i e = let z : ⊥ = cc in z
not_free O.Second s i e = let z : ⊥ = cc in z
not_free O.Zero s i e = let z : ⊥ = cc in z
not_free O.Lower s i e = let z : ⊥ = cc in z
not_free O.Barred s i e = let z : ⊥ = cc in z

first_only : (o : Origin) (s : ℕ) → index_of o ≡ Some s → s ≡ 0 → o ≡ Origin.First
first_only O.First s e h = refl
first_only O.Second s e h = let x : s ≡ 1 = cc in let z : ⊥ = omega (arith, x, h) in absurd z
first_only O.Zero s e h = let z : ⊥ = cc in absurd z
first_only O.Lower s e h = let z : ⊥ = cc in absurd z
first_only O.Barred s e h = let z : ⊥ = cc in absurd z

second_only : (o : Origin) (s : ℕ) → index_of o ≡ Some s → s ≡ 1 → o ≡ Origin.Second
second_only O.First s e h = let x : s ≡ 0 = cc in let z : ⊥ = omega (arith, x, h) in absurd z
second_only O.Second s e h = refl
second_only O.Zero s e h = let z : ⊥ = cc in absurd z
second_only O.Lower s e h = let z : ⊥ = cc in absurd z
second_only O.Barred s e h = let z : ⊥ = cc in absurd z

pub place_origin : (bytes : ℕ → List ℕ) (p : ℕ) (entry : Option Origin) (o : Origin) (b s f : ℕ) (w : Bool) → index_of o ≡ Some s → entry_place bytes p entry ≡ Stored b s f w → entry ≡ Some o
place_origin bytes p entry o b s f w i e = let x = stored_entry bytes p entry b s f w e in ⊎_elim
    (λ a. a.0 ∙ ap (λ y. Some y) (sym (first_only o s i (a.1))))
    (λ a. a.0 ∙ ap (λ y. Some y) (sym (second_only o s i (a.1))))
    x.origin

-- storage bytes that entries of one origin stand for have no stranger, and others have one
pub no_stranger : (bytes : ℕ → List ℕ) (table : List Origin) (o : Origin) (s f n : ℕ) → index_of o ≡ Some s → ((k : ℕ) → k < n → slice_get table (f + k) ≡ Some o) → HasStranger (sparse_place bytes table) s f n → ⊥
no_stranger bytes table o s f n i equal h = h.2 (f + h.0) (slice_index (bytes s) (f + h.0)) (ap (entry_place bytes (f + h.0)) (equal (h.0) (h.1)) ∙ origin_place bytes (f + h.0) o s i)

pub stranger : (bytes : ℕ → List ℕ) (table : List Origin) (o : Origin) (s f n k : ℕ) → index_of o ≡ Some s → k < n → slice_get table (f + k) ≢ Some o → HasStranger (sparse_place bytes table) s f n
stranger bytes table o s f n k i h other = (
  k,
  h,
  λ p b e.
      let x = stored_entry bytes p (slice_get table p) b s (f + k) true e in
      let q : f + k ≡ p = x.offset in
      other (rw (← q) at (place_origin bytes p (slice_get table p) o b s (f + k) true i e)),
)

module _ (bytes now : ℕ → List ℕ) (p : ℕ) where
  -- a stored place stands where it stood, with the storage's byte
  pub stays_stored : (entry : Option Origin) (b s f : ℕ) (w : Bool) → entry_place bytes p entry ≡ Stored b s f w → entry_place now p entry ≡ Stored (slice_index (now s) p) s f w
  stays_stored entry b s f w e = let x = stored_entry bytes p entry b s f w e in ⊎_elim
      (λ a. rw (a.0, a.1, x.offset, x.writable) refl)
      (λ a. rw (a.0, a.1, x.offset, x.writable) refl)
      x.origin

  -- a place whose byte stays is as it was
  pub same_place : (entry : Option Origin) → (entry ≡ Some Origin.First → slice_index (now 0) p ≡ slice_index (bytes 0) p) → (entry ≡ Some Origin.Second → slice_index (now 1) p ≡ slice_index (bytes 1) p)
      → entry_place now p entry ≡ entry_place bytes p entry
  same_place (Some O.First) a b = ap (λ x. Stored x 0 p true) (a refl)
  same_place (Some O.Second) a b = ap (λ x. Stored x 1 p true) (b refl)
  same_place (Some O.Zero) a b = refl
  same_place (Some O.Lower) a b = refl
  same_place (Some O.Barred) a b = refl
  same_place None a b = refl

module _ (bytes now : ℕ → List ℕ) (table : List Origin) (s o : ℕ) (xs : List ℕ) (torn : Bool) (known : s < 2)
    (change : HasBytes torn o (length xs) (λ k. slice_index xs k) (bytes s) (now s)) (other : (i : ℕ) → i < 2 → i ≢ s → now i ≡ bytes i) where
  -- a byte that isn't written stays
  pub byte_stays : (i p : ℕ) → i < 2 → (i ≡ s → (p < o) ⊎ (o + length xs ≤ p)) → slice_index (now i) p ≡ slice_index (bytes i) p
  byte_stays i p l out = ⊎_elim
      (λ same. rw same (⊎_elim (λ under. change.before p under) (λ over. change.behind p over) (out same)))
      (λ apart. ap (λ x. slice_index x p) (other i l apart))
      (cases_eq i s)

-- an entry of the origin of that index that no byte of a write stands at lies outside
outside : (bytes : ℕ → List ℕ) (table : List Origin) (s o n p : ℕ) → ((b k : ℕ) (w : Bool) → k < n → sparse_place bytes table p ≡ Stored b s (o + k) w → ⊥)
    → (origin : Origin) → slice_get table p ≡ Some origin → index_of origin ≡ Some s → (p < o) ⊎ (o + n ≤ p)
outside bytes table s o n p non origin e i = ⊎_elim
    (λ under. inl under)
    (λ above. ⊎_elim
    (λ below. let q : p ≡ o + (p - o) = omega arith in let l : p - o < n = omega arith in
    absurd (non (slice_index (bytes s) p) (p - o) true l (ap (entry_place bytes p) e ∙ origin_place bytes p origin s i ∙ ap (λ x. Stored (slice_index (bytes s) p) s x true) q)))
    (λ over. inr over)
    (cases_lt p (o + n)))
    (cases_lt p o)

-- bytes that change in a storage change in the disk
pub sparse_put : (bytes now : ℕ → List ℕ) (table : List Origin) (s o : ℕ) (xs : List ℕ) (torn keeps : Bool) → s < 2
    → (IsTrue keeps → HasBytes torn o (length xs) (λ k. slice_index xs k) (bytes s) (now s)) → ((i : ℕ) → i < 2 → i ≢ s → now i ≡ bytes i)
    → IsPut s o xs torn keeps (sparse_place bytes table) (sparse_place now table)
sparse_put bytes now table s o xs torn keeps known change other = record {
  stored = λ p b i f w e. (slice_index (now i) p, stays_stored bytes now p (slice_get table p) b i f w e);
  hit = λ k p b j w l e.
      let x = stored_entry bytes p (slice_get table p) b s (o + j) w e in
      let q : o + j ≡ p = x.offset in
      let y = stays_stored bytes now p (slice_get table p) b s (o + j) w e in
      ⊎_elim
      (λ a. inl (y ∙ ap (λ i. Stored i s (o + j) w) (rw q at a)))
      (λ a. inr (a.0, y ∙ ap (λ i. Stored i s (o + j) w) (rw q at (a.1) ∙ x.byte) ∙ sym e))
      ((change k).inside j l);
  miss = λ k p non. same_place bytes now p (slice_get table p)
      (λ e. byte_stays bytes now table s o xs torn known (change k) other 0 p (omega arith) (λ same. outside bytes table s o (length xs) p non Origin.First e (ap (λ x. Some x) same)))
      (λ e. byte_stays bytes now table s o xs torn known (change k) other 1 p (omega arith) (λ same. outside bytes table s o (length xs) p non Origin.Second e (ap (λ x. Some x) same)));
}

-- what is pending stays so where it is the same
pub stays_same : (keeps : Bool) (p : Option (Pending ℕ)) → StaysPending keeps p p
stays_same keeps None = refl
stays_same keeps (Some q) = (q, refl, record { same = refl; shown = λ k p a b. refl })

pub stays_equal : (keeps : Bool) (old new : Option (Pending ℕ)) → new ≡ old → StaysPending keeps old new
stays_equal keeps old new e = rw e (stays_same keeps old)

-- a write of fewer bytes pads no further
pub padded_more : (f : Features) (at m n : ℕ) → m ≤ n → padded_to f at m ≤ padded_to f at n
padded_more f at m n h = ⊎_elim
    (λ some. let t : nat_lt 0 m ≡ true = grind (arith, nat_tests) in let u : nat_lt 0 n ≡ true = grind (arith, nat_tests) in rw (t, u) (omega arith))
    (λ none. let t : nat_lt 0 m ≡ false = grind (arith, nat_tests) in rw t (omega arith))
    (cases_lt 0 m)

-- a mapping without state that wasn't written, since it is refused or has no byte
pub unwritten : (v : View ℕ) (m : PreparedDataMapping ℕ) (st : Option ℕ) (at : ℕ) (xs : List ℕ) → is_written st true v v m at xs
unwritten v m None at xs = (record { stored = λ p b s f w e. (b, e); hit = λ k p b i w l e. inr (refl, refl); miss = λ k p n. refl }, stays_same v.abilities.keeps_data v.pending)
unwritten v m (Some s) at xs = (
  record { stored = λ p b s f w e. (b, e); same = λ k p. refl },
  λ q e. (q, e, refl, λ k. record { same = refl; changed = record { inside = λ j h. inr (refl, refl); before = λ p h. refl; behind = λ p h. refl } }),
)

pub nothing_written : (v : View ℕ) (m : PreparedDataMapping ℕ) (st : Option ℕ) (at : ℕ) (xs : List ℕ) → is_none st ≡ true → length xs ≡ 0 → is_written st false v v m at xs
nothing_written v m None at xs e n = (record { stored = λ p b s f w e. (b, e); hit = λ k p b i w l e. absurd (omega (arith, n, l)); miss = λ k p x. refl }, stays_same v.abilities.keeps_data v.pending)
nothing_written v m (Some s) at xs e n = let z : ⊥ = cc in absurd z

module _ (f g : Features) (count now_count : ℕ) (first second now : List ℕ) (table : List Origin) (size : ℕ) (s : Settings) (short : Bool) where
  -- bytes that are written where a write waits show nowhere
  hidden : (waiting : Waiting) (o : ℕ) (xs : List ℕ) (torn : Bool) → WaitsApart table waiting → waiting.start ≤ o → o + length xs ≤ waiting.start + waiting.length
      → HasBytes torn o (length xs) (λ k. slice_index xs k) first now → (p : ℕ) → sparse_place (at_index now second) table p ≡ sparse_place (at_index first second) table p
  hidden waiting o xs torn apart above below change p = same_place (at_index first second) (at_index now second) p (slice_get table p)
      (λ e. ⊎_elim
      (λ under. change.before p under)
      (λ from. ⊎_elim
      (λ inside. let i : waiting.start ≤ p = omega arith in let j : p < waiting.start + waiting.length = omega arith in
      let x = apart.free p (i, j) in let y = rw e at x in let z : ⊥ = cc in absurd z)
      (λ over. change.behind p over)
      (cases_lt p (o + length xs)))
      (cases_lt p o))
      (λ e. refl)

  abbrev waits : List ℕ → Waiting → Pending ℕ
  waits bytes w = record { start = w.start; storage = 0; offset = w.start; length = w.length; state = w.ticket; from = w.start; until = w.start + w.length; bytes = waiting_byte (f.keeps_data && g.keeps_data) bytes w }

  pub apart_written : (f' g' : Features) (then : List ℕ) (waiting : Option Waiting) (m : PreparedDataMapping ℕ) (st : Option ℕ) (at : ℕ) (xs : List ℕ) (torn : Bool) → then ≡ second → f' ≡ f → g' ≡ g → m.state ≡ st
      → IsOwn (sparse_pending (f.keeps_data && g.keeps_data) first waiting) m → ((w : Waiting) → waiting ≡ Some w → WaitsApart table w) → at + length xs ≤ m.length
      → (IsTrue (f.keeps_data && g.keeps_data) → HasBytes torn (m.offset + at) (length xs) (λ k. slice_index xs k) first now)
      → is_written st torn (sparse_view f g count first second table size s short waiting) (sparse_view f' g' now_count now then table size s short waiting) m at xs
  apart_written f' g' then None m st at xs torn q u v e own apart h change = absurd own
  apart_written f' g' then (Some w) m None at xs torn q u v e own apart h change = let x = own.3 in let z : ⊥ = cc in absurd z
  apart_written f' g' then (Some w) m (Some t) at xs torn q u v e own apart h change =
      let begins : m.offset ≡ w.start = own.1 in
      let long : m.length ≡ w.length = own.2 in
      rw (q, u, v) (
        record {
          stored = λ p b i o v x. (slice_index (at_index now second i) p, stays_stored (at_index first second) (at_index now second) p (slice_get table p) b i o v x);
          same = λ k p. hidden w (m.offset + at) xs torn (apart w refl) (omega (arith, begins)) (omega (arith, begins, long, h)) (change k) p;
        },
        λ q is. let x : q ≡ waits first w = cc in
            rw x (
              waits now w,
              refl,
              refl,
              λ k. let c = rw begins at (change k) in record {
                same = refl;
                changed = record {
                  inside = λ j l.
                      let i : w.start ≤ w.start + at + j = omega arith in
                      let n : w.start + at + j < w.start + w.length = omega (arith, long, h) in
                      let is_now = waits_inside (f.keeps_data && g.keeps_data) now w (w.start + at + j) k i n in
                      ⊎_elim (λ a. inl (ap (λ y. Byte y) (is_now ∙ a))) (λ a. inr (a.0, ap (λ y. Byte y) (waits_same (f.keeps_data && g.keeps_data) first now w (w.start + at + j) (a.1)))) (c.inside j l);
                  before = λ p l. ap (λ y. Byte y) (waits_same (f.keeps_data && g.keeps_data) first now w p (c.before p l));
                  behind = λ p l. ap (λ y. Byte y) (waits_same (f.keeps_data && g.keeps_data) first now w p (c.behind p l));
                };
              },
            ),
      )

-- a call that changes no byte changes no place
pub same_stores : (f g f' g' : Features) (count now_count : ℕ) (first second now then : List ℕ) (table : List Origin) (size : ℕ) (s : Settings) (short : Bool) (waiting : Option Waiting)
    → now ≡ first → then ≡ second → f' ≡ f → g' ≡ g → IsUnchanged (sparse_view f g count first second table size s short waiting) (sparse_view f' g' now_count now then table size s short waiting)
same_stores f g f' g' count now_count first second now then table size s short waiting a b c d = rw (a, b, c, d) (record {
  framed = record { kind = record { abilities = refl; store_count = refl; store_features = λ i. refl }; size = refl; ends = λ p x. x };
  places = record { stored = λ p b s o v x. (b, x); same = λ k p. refl };
  reaches = λ p q v x. (v, x);
})

-- a table of the same entries is the same disk
pub same_table : (f g : Features) (count : ℕ) (first second : List ℕ) (table now : List Origin) (size : ℕ) (s : Settings) (short : Bool) (waiting : Option Waiting) → now ≡ table
    → IsSameDisk (sparse_view f g count first second table size s short waiting) (sparse_view f g count first second now size s short waiting)
same_table f g count first second table now size s short waiting e = rw e (record {
  size = refl;
  places = record { stored = λ p b s o v x. (b, x); same = λ k p. refl };
  reaches = λ p q v x. (v, x);
  ends = λ p x. x;
  no_shorter = λ i. omega arith;
})

short_refuses : (mode : PreallocateMode) → offers_growth true mode ≡ false
short_refuses Mode.None = refl
short_refuses Mode.Zero = refl
short_refuses Mode.FormatAllocate = refl
short_refuses Mode.FullAllocate = refl
short_refuses Mode.WriteData = refl

pub not_offered : (short : Bool) (mode : PreallocateMode) → (short ≡ true) ⊎ (origin_for mode ≡ None) → offers_growth short mode ≡ false
not_offered short mode (inl e) = rw e (short_refuses mode)
not_offered short Mode.None (inr e) = let z : ⊥ = cc in absurd z
not_offered short Mode.Zero (inr e) = let z : ⊥ = cc in absurd z
not_offered short Mode.FormatAllocate (inr e) = let z : ⊥ = cc in absurd z
not_offered short Mode.FullAllocate (inr e) = refl
not_offered short Mode.WriteData (inr e) = refl

-- a growth that isn't offered
pub growth_refused : (v : View ℕ) (l : LayerBelow) (mode : PreallocateMode) (new_size : ℕ) → v.size < new_size → v.pending ≡ None → v.limits.cause (Grow mode) new_size 0 Error.Unsupported → IsGrowth mode l new_size v v (Err Error.Unsupported)
growth_refused v l mode new_size more spent cause = record {
  grown = tt;
  idle = λ h. absurd (omega (arith, h, more));
  unchanged = record {
    size = refl;
    places = record { stored = λ p b s o w x. (b, x); same = λ k p. refl };
    reaches = λ p q w x. (w, x);
    ends = λ p x. x;
    no_shorter = λ i. omega arith;
  };
  nothing_pending = spent;
  no_longer = λ i. omega arith;
  kind = record { abilities = refl; store_count = refl; store_features = λ i. refl };
  faults = record { later = omega arith; reliable = λ x. refl; device = λ x. let z : ⊥ = cc in absurd z };
  refusals = inl cause;
}

-- what stands at one entry's origin isn't where a write waits
pub still_waits : (keeps : Bool) (bytes now : ℕ → List ℕ) (table : List Origin) (waiting : Option Waiting) (s o : ℕ) (xs : List ℕ) (torn : Bool) (origin : Origin) → s < 2 → index_of origin ≡ Some s
    → ((w : Waiting) → waiting ≡ Some w → WaitsApart table w) → ((k : ℕ) → k < length xs → slice_get table (o + k) ≡ Some origin)
    → (IsTrue keeps → HasBytes torn o (length xs) (λ k. slice_index xs k) (bytes s) (now s)) → ((i : ℕ) → i < 2 → i ≢ s → now i ≡ bytes i)
    → sparse_pending keeps (now 0) waiting ≡ sparse_pending keeps (bytes 0) waiting
still_waits keeps bytes now table waiting s o xs torn origin known i apart equal change other = waits_on keeps (bytes 0) (now 0) waiting (λ w e p k a b.
    byte_stays bytes now table s o xs torn known (change k) other 0 p (omega arith) (λ same.
    ⊎_elim
    (λ under. inl under)
    (λ above. ⊎_elim
    (λ inside. let l : p - o < length xs = omega arith in let q : o + (p - o) ≡ p = omega arith in
    let x : slice_get table p ≡ Some origin = rw q at (equal (p - o) l) in
    let y = (apart w e).free p (a, b) in
    absurd (not_free origin s i (rw x at y)))
    (λ over. inr over)
    (cases_lt p (o + length xs)))
    (cases_lt p o)))

pub some_run : (table : List Origin) (o run count : ℕ) (origin : Origin) → slice_get table o ≡ Some origin → (run < count → slice_get table (o + run) ≢ Some origin) → 0 < count → 0 < run
some_run table o run count origin at ends some = ⊎_elim
    (λ a. a)
    (λ none. let z : run ≡ 0 = omega arith in let q : o + run ≡ o = omega arith in absurd (ends (omega arith) (rw q at)))
    (cases_lt 0 run)

-- a mapping of a run of entries that stand in a storage
pub prepared_existing : (f g : Features) (count : ℕ) (first second : List ℕ) (table : List Origin) (size : ℕ) (s : Settings) (short : Bool) (waiting : Option Waiting)
    (o most run index : ℕ) (origin : Origin) (overwrite told : Bool) (disk : ℕ → Value) (m : PreparedDataMapping ℕ)
    → sparse_pending (f.keeps_data && g.keeps_data) first waiting ≡ None → slice_get table o ≡ Some origin → index_of origin ≡ Some index → run ≤ most
    → ((k : ℕ) → k < run → slice_get table (o + k) ≡ Some origin) → (run < most → slice_get table (o + run) ≢ Some origin)
    → m.storage ≡ index → m.offset ≡ o → m.length ≡ run → m.state ≡ None
    → IsPrepared o most overwrite told disk (sparse_view f g count first second table size s short waiting) (sparse_view f g count first second table size s short waiting) m
prepared_existing f g count first second table size s short waiting o most run index origin overwrite told disk m spent at i within equal ends a b c d = record {
  within = omega (arith, c);
  some = λ h. let x = some_run table o run most origin at ends h in omega (arith, c, x);
  part = (omega (arith, c), one_kind table o m.length (Some origin) at (λ k h. equal k (omega (arith, c, h))));
  whole = λ h. absurd h;
  no_memory = λ h. absurd h;
  later = λ i. let x = padded_more f o m.length most (omega (arith, c)) in omega (arith, x);
  around = λ q e. let x = sym spent ∙ e in let z : ⊥ = cc in absurd z;
  near = λ q e. let x = sym spent ∙ e in let z : ⊥ = cc in absurd z;
  direct = λ e. (
    spent,
    λ k h. (
      slice_index (at_index first second index) (o + k),
      rw (a, b) (ap (entry_place (at_index first second) (o + k)) (equal k (omega (arith, c, h))) ∙ origin_place (at_index first second) (o + k) origin index i),
    ),
  );
  apart = λ t e. let z : ⊥ = cc in absurd z;
  round = λ k tells. rw spent tt;
}

-- a mapping of a run of free entries, which waits
pub prepared_apart : (f g f' g' : Features) (count now_count : ℕ) (first second now then : List ℕ) (table : List Origin) (size : ℕ) (s : Settings) (short : Bool) (waiting : Option Waiting)
    (o most run t : ℕ) (origin : Origin) (overwrite told : Bool) (disk : ℕ → Value) (m : PreparedDataMapping ℕ)
    → f' ≡ f → g' ≡ g → slice_get table o ≡ Some origin → run ≤ most
    → ((k : ℕ) → k < run → slice_get table (o + k) ≡ Some origin) → (run < most → slice_get table (o + run) ≢ Some origin)
    → m.storage ≡ 0 → m.offset ≡ o → m.length ≡ run → m.state ≡ Some t
    → (IsTrue (f.keeps_data && g.keeps_data) → IsTrue told → overwrite ≡ false → (p : ℕ) → IsIn o run p → disk p ≡ Byte (slice_index now p))
    → IsPrepared o most overwrite told disk (sparse_view f g count first second table size s short waiting) (sparse_view f' g' now_count now then table size s short (Some (record { start = o; length = run; ticket = t }))) m
prepared_apart f g f' g' count now_count first second now then table size s short waiting o most run t origin overwrite told disk m same_f same_g at within equal ends a b c d shows = rw (same_f, same_g) (record {
  within = omega (arith, c);
  some = λ h. let x = some_run table o run most origin at ends h in omega (arith, c, x);
  part = (omega (arith, c), one_kind table o m.length (Some origin) at (λ k h. equal k (omega (arith, c, h))));
  whole = λ h. absurd h;
  no_memory = λ h. absurd h;
  later = λ i. let x = padded_more f o m.length most (omega (arith, c)) in omega (arith, x);
  around = λ q e.
      let x : q ≡ record { start = o; storage = 0; offset = o; length = run; state = t; from = o; until = o + run; bytes = waiting_byte (f.keeps_data && g.keeps_data) now (record { start = o; length = run; ticket = t }) } = cc in
      rw x (omega arith, omega arith);
  near = λ q e p low high.
      let x : q.from ≡ o = cc in
      let y : q.until ≡ o + run = cc in
      waits_near o m.length q.from q.until x (omega (arith, y, c)) p low high;
  direct = λ e. let z : ⊥ = cc in absurd z;
  apart = λ x e. (
    record { start = o; storage = 0; offset = o; length = run; state = t; from = o; until = o + run; bytes = waiting_byte (f.keeps_data && g.keeps_data) now (record { start = o; length = run; ticket = t }) },
    refl,
    (a, b, c, d),
    refl,
    λ k tells over p i. let y : o ≤ p = i.0 in let z : p < o + run = omega (arith, i.1, c) in shows k tells over p (y, z) ∙ ap (λ u. Byte u) (sym (waits_inside (f.keeps_data && g.keeps_data) now (record { start = o; length = run; ticket = t }) p k y z)),
  );
  round = λ k tells p y z out. absurd (⊎_elim (λ l. omega (arith, l, y)) (λ l. omega (arith, l, z)) out);
})

-- a view of the same entries whose places show what they showed
pub unchanged_apart : (f g f' g' : Features) (count now_count : ℕ) (first second now then : List ℕ) (table table' : List Origin) (size size' : ℕ) (s s' : Settings) (short short' : Bool) (waiting w : Option Waiting)
    → f' ≡ f → g' ≡ g → table' ≡ table → size' ≡ size → s' ≡ s → short' ≡ short
    → (IsTrue (f.keeps_data && g.keeps_data) → (p : ℕ) → sparse_place (at_index now then) table p ≡ sparse_place (at_index first second) table p)
    → IsUnchanged (sparse_view f g count first second table size s short waiting) (sparse_view f' g' now_count now then table' size' s' short' w)
unchanged_apart f g f' g' count now_count first second now then table table' size size' s s' short short' waiting w a b c d e h same = rw (a, b, c, d, e, h) (record {
  framed = record {
    kind = record { abilities = refl; store_count = refl; store_features = λ i. refl };
    size = refl;
    ends = λ p x. ap (entry_place (at_index first second) p) (end_entry (at_index now then) p (slice_get table p) x);
  };
  places = record { stored = λ p b i o v x. (slice_index (at_index now then i) p, stays_stored (at_index first second) (at_index now then) p (slice_get table p) b i o v x); same = same };
  reaches = λ p q v x.
      let y = lower_entry (at_index now then) p (slice_get table p) q v x in
      (false, ap (entry_place (at_index first second) p) (y.0) ∙ ap (λ i. Lower i false) (sym (y.1)));
})

-- the bytes that are copied are what the disk shows
pub copied_shows : (at : ℕ → Value) (bytes : ℕ → List ℕ) (p : ℕ) (origin : Origin) (byte : ℕ) → IsFree (Some origin) → HasOldByte at p origin byte → shown at (entry_place bytes p (Some origin)) ≡ Byte byte
copied_shows at bytes p O.Zero byte free h = h
copied_shows at bytes p O.Lower byte free h = h
copied_shows at bytes p O.First byte free h = let z : ⊥ = cc in absurd z
copied_shows at bytes p O.Second byte free h = let z : ⊥ = cc in absurd z
copied_shows at bytes p O.Barred byte free h = let z : ⊥ = cc in absurd z

pub and_left : (a b : Bool) → IsTrue (a && b) → IsTrue a
and_left true b e = refl
and_left false b e = e

-- a disk whose commits may fail is reliable less often than its storages
pub sparse_faults : (count now_count : ℕ) (reliable whole : Bool) (result : Result Unit Error) → CountsFaults reliable count now_count result → CountsFaults (reliable && whole) count now_count result
sparse_faults count now_count reliable whole result x = record { later = x.later; reliable = λ e. x.reliable (and_left reliable whole e); device = x.device }

-- what the storages' flush is refused for, the disk's may be
pub sparse_flush_refused : (v : View ℕ) → (v.limits.no_memory Flush 0 0 → ⊥) → (result : Result Unit Error) → IfErr result IsDeviceOrMemory → IfErr result (allowed (driver_reasons v Flush 0 0))
sparse_flush_refused v takes (Ok x) h = tt
sparse_flush_refused v takes (Err e) h = ⊎_elim (λ device. rw device tt) (λ memory. rw memory takes) h

-- a mapping names each entry of its origin
names_entry : (bytes : ℕ → List ℕ) (origin : Origin) (o i : ℕ) (m : ShallowMapping) → mapping_of origin o ≡ Ok m → Names m i (entry_place bytes (o + i) (Some origin))
names_entry bytes O.First o i m e = let x : m ≡ ShallowMapping.Raw 0 o true = cc in rw x (slice_index (bytes 0) (o + i), refl)
names_entry bytes O.Second o i m e = let x : m ≡ ShallowMapping.Raw 1 o true = cc in rw x (slice_index (bytes 1) (o + i), refl)
names_entry bytes O.Zero o i m e = let x : m ≡ ShallowMapping.Zero true = cc in rw x refl
names_entry bytes O.Lower o i m e = let x : m ≡ ShallowMapping.Indirect o false = cc in rw x refl
names_entry bytes O.Barred o i m e = let z : ⊥ = cc in absurd z

never_eof : (origin : Origin) (o : ℕ) (m : ShallowMapping) → mapping_of origin o ≡ Ok m → IsEof m → ⊥
never_eof O.First o m e = let x : m ≡ ShallowMapping.Raw 0 o true = cc in rw x (λ z. z)
never_eof O.Second o m e = let x : m ≡ ShallowMapping.Raw 1 o true = cc in rw x (λ z. z)
never_eof O.Zero o m e = let x : m ≡ ShallowMapping.Zero true = cc in rw x (λ z. z)
never_eof O.Lower o m e = let x : m ≡ ShallowMapping.Indirect o false = cc in rw x (λ z. z)
never_eof O.Barred o m e = let z : ⊥ = cc in absurd z

never_refused : (origin : Origin) (o : ℕ) (m : ShallowMapping) → mapping_of origin o ≡ Ok m → origin ≡ Origin.Barred → ⊥
never_refused origin o m e b = let x : mapping_of Origin.Barred o ≡ Ok m = rw b at e in let z : ⊥ = cc in z

-- a mapping of entries of one origin is the right answer
pub sparse_right : (bytes : ℕ → List ℕ) (table : List Origin) (o most n : ℕ) (origin : Origin) (m : ShallowMapping) → slice_get table o ≡ Some origin → mapping_of origin o ≡ Ok m
    → ((k : ℕ) → k < n → slice_get table (o + k) ≡ Some origin) → (n < most → slice_get table (o + n) ≢ Some origin) → IsRight (sparse_place bytes table) o most m n
sparse_right bytes table o most n origin m at is equal ends = record {
  names = λ i h. rw (equal i h) (names_entry bytes origin o i m is);
  first = λ e. let z : o + 0 ≡ o = omega arith in rw at (subst (λ x. Names m 0 (entry_place bytes x (Some origin))) z (names_entry bytes origin o 0 m is));
  eof = (λ x. absurd (never_eof origin o m is x), λ e. let x = sym at ∙ end_entry bytes o (slice_get table o) e in let z : ⊥ = cc in absurd z);
  no_refusal = λ r e. let x = refused_entry bytes o (slice_get table o) r e in let y : Some origin ≡ Some Origin.Barred = sym at ∙ x.0 in let b : origin ≡ Origin.Barred = cc in never_refused origin o m is b;
  empty = λ z. ⊎_elim (λ some. let x = some_run table o n most origin at ends some in absurd (omega (arith, x, z))) (λ none. inr (omega (arith, none))) (cases_lt 0 most);
}
