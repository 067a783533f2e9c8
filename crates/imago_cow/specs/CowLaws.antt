-- SPDX-License-Identifier: MIT
use Rattle.std.specs.Prelude.{◌≡◌, ℕ, ◌+◌, ◌-◌, ◌*◌, ◌%◌, ◌/◌, ◌<◌, ◌≤◌, Bool, true, false, List}
use Rattle.std.specs.Prelude.{slice_index, slice_get, Option, Some, None, max, refl}
use Rattle.std.proofs.Common.{arith, sym, ap, ◌∙◌, ⊎_elim, inl, inr}
use Rattle.std.proofs.lemmas.Bool.{cases_lt}
use Rattle.std.proofs.lemmas.Option.{slice_get-get_or}
use Rattle.std.proofs.Math.Nat.{mul-le-mul_right}
use Rattle.imago_drivers.specs.declared.format.PreallocateMode.{PreallocateMode}
use Rattle.imago_storage.specs.declared.error.Error.{Error}
use Rattle.imago_storage.specs.declared.error.Error.TheVariants as E
use Rattle.imago_storage.specs.Features.{Features, AreLawful}
use Rattle.imago_drivers.specs.declared.format.PreallocateMode.TheVariants as Mode
use Rattle.imago_drivers.specs.Operation.{Operation, Map, Read, Write, Zero, DiscardToZero}
use Rattle.imago_drivers.specs.Operation.{DiscardToAny, DiscardToBacking, Grow, Shrink, Flush}
use Rattle.imago_drivers.specs.Place.{Value, Unreadable, Place, Stored, Special, Lower, Refused}
use Rattle.imago_drivers.specs.Place.{End}
use Rattle.imago_drivers.specs.Laws.{IsLawful, AreCauses, CauseBound}
use Rattle.imago_cow.specs.declared.table.GuestBlock.{GuestBlock}
use Rattle.imago_cow.specs.declared.table.GuestBlock.TheVariants as G
use Rattle.imago_cow.specs.declared.cow.Waiting.{Waiting}
use Rattle.imago_cow.specs.Guest.{origin_in, entry_place, cow_place, Covers, NamedOnce, is_data}
use Rattle.imago_cow.specs.Guest.{number_of, is_touched}
use Rattle.imago_cow.specs.GuestLaws.{rest_small, one_number, one_rest, one_offset, entry_at}
use Rattle.imago_cow.specs.GuestLaws.{place_in, place_out, number_more, number_longer, one_holds}
use Rattle.imago_cow.specs.GuestLaws.{left_holds, right_holds, touched_more}
use Rattle.imago_cow.specs.Cow.{cow_view, cow_cause, cow_copies, uses_data, DataWraps, data_count}
use Rattle.imago_cow.specs.Cow.{touched_from, touched_until, grown_until, needs_data, has_waiting}
use Rattle.imago_cow.specs.Cow.{guest_count, IsInAbsent}

-- What an entry whose place is stored is.
pub record IsStoredEntry (bytes : List ℕ) (block p : ℕ) (entry : Option GuestBlock) (b s o : ℕ)
    (w : Bool) : Type 0 where
  pub number : ℕ
  pub named : entry ≡ Some (GuestBlock.Data number)
  pub storage : s ≡ 0
  pub offset : o ≡ origin_in block number p
  pub byte : slice_index bytes o ≡ b
  pub writable : w ≡ true

module _ (bytes : List ℕ) (block p : ℕ) where
  pub stored_entry : (entry : Option GuestBlock) (b s o : ℕ) (w : Bool)
      → entry_place bytes block p entry ≡ Stored b s o w → IsStoredEntry bytes block p entry b s o w
  stored_entry (Some (G.Data j)) b s o w e = let t : o ≡ origin_in block j p = cc in
      record {
        number = j;
        named = refl;
        storage = cc;
        offset = t;
        byte = rw t (let u : slice_index bytes (origin_in block j p) ≡ b = cc in u);
        writable = cc;
      }
  stored_entry (Some G.Absent) b s o w e = let z : ⊥ = cc in absurd z
  stored_entry (Some G.Zero) b s o w e = let z : ⊥ = cc in absurd z
  stored_entry None b s o w e = let z : ⊥ = cc in absurd z

  pub lower_entry : (entry : Option GuestBlock) (q : ℕ) (w : Bool) → entry_place bytes block p entry
      ≡ Lower q w → (entry ≡ Some GuestBlock.Absent) × (q ≡ p) × (w ≡ false)
  lower_entry (Some G.Absent) q w e = let a : q ≡ p = cc in let b : w ≡ false = cc in (refl, a, b)
  lower_entry (Some G.Zero) q w e = let z : ⊥ = cc in absurd z
  lower_entry (Some (G.Data j)) q w e = let z : ⊥ = cc in absurd z
  lower_entry None q w e = let z : ⊥ = cc in absurd z

  pub end_entry : (entry : Option GuestBlock) → entry_place bytes block p entry ≡ End → entry ≡ None
  end_entry None e = refl
  end_entry (Some G.Absent) e = let z : ⊥ = cc in absurd z
  end_entry (Some G.Zero) e = let z : ⊥ = cc in absurd z
  end_entry (Some (G.Data j)) e = let z : ⊥ = cc in absurd z

  pub no_refused : (entry : Option GuestBlock) (r : Error) → entry_place bytes block p entry
      ≡ Refused r → ⊥
  no_refused None r e = let z : ⊥ = cc in z
  no_refused (Some G.Absent) r e = let z : ⊥ = cc in z
  no_refused (Some G.Zero) r e = let z : ⊥ = cc in z
  no_refused (Some (G.Data j)) r e = let z : ⊥ = cc in z

  pub no_special : (entry : Option GuestBlock) (v : Value) (o : ℕ) → entry_place bytes block p entry
      ≡ Special v o → ⊥
  no_special None v o e = let z : ⊥ = cc in z
  no_special (Some G.Absent) v o e = let z : ⊥ = cc in z
  no_special (Some G.Zero) v o e = let z : ⊥ = cc in z
  no_special (Some (G.Data j)) v o e = let z : ⊥ = cc in z

module _ (bytes : List ℕ) (size block : ℕ) (entries : List GuestBlock) where
  -- a place that isn't an end lies below the size, and is its entry's
  pub below_size : (p : ℕ) (x : Place) → cow_place bytes size block entries p ≡ x → (x ≡ End → ⊥)
      → (p < size) × (entry_place bytes block p (slice_get entries (p / block)) ≡ x)
  below_size p x e other = ⊎_elim
      (λ under. (under, sym (place_in bytes size block entries p under) ∙ e))
      (λ over. absurd (other (sym e ∙ place_out bytes size block entries p over)))
      (cases_lt p size)

  -- an end lies from the size on
  pub from_size : 0 < block → Covers size block entries → (p : ℕ)
      → cow_place bytes size block entries p ≡ End → size ≤ p
  from_size positive covers p e = ⊎_elim
      (λ under. let x = end_entry bytes block p (slice_get entries (p / block))
      (sym (place_in bytes size block entries p under) ∙ e) in
      let y = slice_get-get_or entries (p / block) GuestBlock.Zero
      (entry_at block positive size entries p covers under) in
      let z : ⊥ = cc in absurd z)
      (λ over. over)
      (cases_lt p size)

  -- no place is special
  pub not_special : (p : ℕ) (v : Value) (o : ℕ) → cow_place bytes size block entries p ≡ Special v o
      → ⊥
  not_special p v o e = let x = below_size p (Special v o) e (λ y. let z : ⊥ = cc in z) in
      no_special bytes block p (slice_get entries (p / block)) v o (x.1)

  pub stored_place : (p b s o : ℕ) (w : Bool) → cow_place bytes size block entries p
      ≡ Stored b s o w → (p < size) × IsStoredEntry bytes block p (slice_get entries (p / block)) b
      s o w
  stored_place p b s o w e = let x = below_size p (Stored b s o w) e (λ y. let z : ⊥ = cc in z) in
      (x.0, stored_entry bytes block p (slice_get entries (p / block)) b s o w (x.1))

  pub lower_place : (p q : ℕ) (w : Bool) → cow_place bytes size block entries p ≡ Lower q w
      → (p < size) × (slice_get entries (p / block) ≡ Some GuestBlock.Absent) × (q ≡ p)
      × (w ≡ false)
  lower_place p q w e = let x = below_size p (Lower q w) e (λ y. let z : ⊥ = cc in z) in
      let y = lower_entry bytes block p (slice_get entries (p / block)) q w (x.1) in
      (x.0, y.0, y.1, y.2)

  pub own_place : 0 < block → NamedOnce entries → (p q b c s o : ℕ) (w : Bool)
      → cow_place bytes size block entries p ≡ Stored b s o true
      → cow_place bytes size block entries q ≡ Stored c s o w → p ≡ q
  own_place positive once p q b c s o w e h =
      let x = (stored_place p b s o true e).1 in
      let y = (stored_place q c s o w h).1 in
      let same : x.number * block + p % block ≡ y.number * block + q % block = sym x.offset
      ∙ y.offset in
      let number : x.number ≡ y.number = one_number block positive x.number y.number (p % block)
      (q % block) (rest_small block positive p) (rest_small block positive q) same in
      let rest : p % block ≡ q % block = one_rest block positive x.number y.number (p % block)
      (q % block) (rest_small block positive p) (rest_small block positive q) same in
      one_offset block positive p q
      (once (p / block) (q / block) x.number x.named
      (y.named ∙ ap (λ j. Some (GuestBlock.Data j)) (sym number))) rest

pub cow_lawful : (f : Features) (count : ℕ) (bytes : List ℕ) (size block : ℕ)
    (entries : List GuestBlock) (blocks : ℕ) (waiting : Option Waiting)
    → 0 < block → Covers size block entries → NamedOnce entries → AreLawful f
    → IsLawful (cow_view f count bytes size block entries blocks waiting)
cow_lawful f count bytes size block entries blocks waiting positive covers once lawful = record {
  told = lawful.told;
  ends = λ p q h e. place_out bytes size block entries q
      (let x = from_size bytes size block entries positive covers p e in omega (arith, x));
  bounded = λ p h. place_out bytes size block entries p h;
  stored = λ p b s o w e. let x = (stored_place bytes size block entries p b s o w e).1 in
      let y : s < 1 = omega (arith, x.storage) in (y, x.byte);
  special = λ p v o e. absurd (not_special bytes size block entries p v o e);
  faulty = λ p o e h. absurd (not_special bytes size block entries p (Unreadable e) o h);
  lower = λ p q w e. refl;
  own = λ p q b c s o w e h. own_place bytes size block entries positive once p q b c s o w e h;
  refused = λ p r e. let x = below_size bytes size block entries p (Refused r) e
      (λ y. let z : ⊥ = cc in z) in
      absurd (no_refused bytes block p (slice_get entries (p / block)) r (x.1));
  granularity = λ e. let x : block ≡ 0 = cc in omega (arith, x, positive);
  blocks = λ e. omega (arith, e, positive);
}

-- A greater count of data blocks: where each guest block that needs data does so there too.
pub count_settled : (f g : ℕ → Bool) (m k b c : ℕ) → ((i : ℕ) → f i ≡ true → g i ≡ true) → m ≤ k
    → b ≤ max c (number_of g k) → max b (number_of f m) ≤ max c (number_of g k)
count_settled f g m k b c sub h more =
    let x = number_more f g m (λ i l. sub i) in
    let y = number_longer g m (k - m) in
    let e : k - m + m ≡ k = omega arith in
    let z : number_of g m ≤ number_of g k = rw e at y in
    omega (arith, x, z, more)

pub data_wraps_more : (f : Features) (block a b : ℕ) → a ≤ b → DataWraps f block a
    → DataWraps f block b
data_wraps_more f block a b h w =
    let x : a * block ≤ b * block = mul-le-mul_right block h in
    record {
      from = w.from;
      count = w.count;
      above = w.above;
      below = omega (arith, w.below, x);
      wraps = w.wraps;
    }

-- a guest block that needs data in a part of a range needs it in the whole
module _ (block size : ℕ) where
  pub grown_more : (mode : PreallocateMode) (a b : ℕ) → a ≤ b → grown_until block size mode a
      ≤ grown_until block size mode b
  grown_more Mode.None a b h = omega arith
  grown_more Mode.Zero a b h = omega arith
  grown_more Mode.FormatAllocate a b h = h
  grown_more Mode.FullAllocate a b h = h
  grown_more Mode.WriteData a b h = h

  pub from_more : (op : Operation) (o q : ℕ) → o ≤ q → touched_from size op o
      ≤ touched_from size op q
  from_more (Grow mode) o q h = omega arith
  from_more Map o q h = h
  from_more Read o q h = h
  from_more Write o q h = h
  from_more Zero o q h = h
  from_more DiscardToZero o q h = h
  from_more DiscardToAny o q h = h
  from_more DiscardToBacking o q h = h
  from_more Shrink o q h = h
  from_more Flush o q h = h

  pub until_more : (op : Operation) (o n q m : ℕ) → q + m ≤ o + n → touched_until block size op q m
      ≤ touched_until block size op o n
  until_more (Grow mode) o n q m h = grown_more mode (q + m) (o + n) h
  until_more Map o n q m h = h
  until_more Read o n q m h = h
  until_more Write o n q m h = h
  until_more Zero o n q m h = h
  until_more DiscardToZero o n q m h = h
  until_more DiscardToAny o n q m h = h
  until_more DiscardToBacking o n q m h = h
  until_more Shrink o n q m h = h
  until_more Flush o n q m h = h

-- How the needs of a smaller range relate to those of a greater one, over changed entries: `other`
-- is why one that has data, or whose write waits, had it before, or is touched now.
pub needs_more : (block size : ℕ) (entries now : List GuestBlock) (waiting later : Option Waiting)
    (op : Operation) (o n q m i : ℕ) → o ≤ q → q + m ≤ o + n
    → (is_data (slice_get now i) ≡ true → needs_data block size entries waiting op o n i ≡ true)
    → (has_waiting block later i ≡ true → needs_data block size entries waiting op o n i ≡ true)
    → needs_data block size now later op q m i ≡ true
    → needs_data block size entries waiting op o n i ≡ true
needs_more block size entries now waiting later op o n q m i h k stored waits e =
    let touched = is_touched block (touched_from size op q) (touched_until block size op q m) i in
    let before = is_touched block (touched_from size op o) (touched_until block size op o n) i in
    ⊎_elim stored
    (λ r. ⊎_elim waits
    (λ t. right_holds (is_data (slice_get entries i)) _
    (right_holds (has_waiting block waiting i) before
    (touched_more block (touched_from size op q) (touched_until block size op q m)
    (touched_from size op o) (touched_until block size op o n) i (from_more block size op o q h)
    (until_more block size op o n q m k) t)))
    (one_holds (has_waiting block later i) touched r))
    (one_holds (is_data (slice_get now i)) _ e)

-- the same entries and the same write that waits
pub needs_same : (block size : ℕ) (entries : List GuestBlock) (waiting : Option Waiting)
    (op : Operation) (o n q m i : ℕ) → o ≤ q → q + m ≤ o + n
    → needs_data block size entries waiting op q m i ≡ true
    → needs_data block size entries waiting op o n i ≡ true
needs_same block size entries waiting op o n q m i h k = needs_more block size entries entries
    waiting waiting op o n q m i h k
    (λ d. left_holds (is_data (slice_get entries i)) _ d)
    (λ w. right_holds (is_data (slice_get entries i)) _
    (left_holds (has_waiting block waiting i) _ w))

pub data_count_more : (block size : ℕ) (entries : List GuestBlock) (blocks : ℕ)
    (waiting : Option Waiting) (op : Operation) (o n q m : ℕ) → o ≤ q → q + m ≤ o + n
    → data_count block size entries blocks waiting op q m ≤ data_count block size entries blocks
    waiting op o n
data_count_more block size entries blocks waiting op o n q m h k =
    count_settled (needs_data block size entries waiting op q m)
    (needs_data block size entries waiting op o n) (guest_count block size entries op q m)
    (guest_count block size entries op o n) blocks blocks
    (λ i. needs_same block size entries waiting op o n q m i h k)
    (let x = until_more block size op o n q m k in omega (arith, x)) (omega arith)

-- a copy-on-write disk's only own cause is a wrap-around
pub cow_only : (f : Features) (block size : ℕ) (entries : List GuestBlock) (blocks : ℕ)
    (waiting : Option Waiting) (op : Operation) (o n : ℕ) (e : Error) (P : Error → Type 0)
    → cow_cause f block size entries blocks waiting op o n e
    → ((uses_data op ≡ true)
    × DataWraps f block (data_count block size entries blocks waiting op o n)
    → P Error.WrapAround) → P e
cow_only f block size entries blocks waiting op o n E.WrapAround P c w = w c
cow_only f block size entries blocks waiting op o n E.Unsupported P c w = absurd c
cow_only f block size entries blocks waiting op o n E.NoAccess P c w = absurd c
cow_only f block size entries blocks waiting op o n E.ReadOnly P c w = absurd c
cow_only f block size entries blocks waiting op o n E.BeyondDisk P c w = absurd c
cow_only f block size entries blocks waiting op o n E.RangeOverflow P c w = absurd c
cow_only f block size entries blocks waiting op o n E.InvalidData P c w = absurd c
cow_only f block size entries blocks waiting op o n E.Device P c w = absurd c
cow_only f block size entries blocks waiting op o n E.Memory P c w = absurd c
cow_only f block size entries blocks waiting op o n E.ForeignMapping P c w = absurd c
cow_only f block size entries blocks waiting op o n E.Denied P c w = absurd c
cow_only f block size entries blocks waiting op o n E.NotFound P c w = absurd c

-- copies of a part are copies of the whole, also over fewer absent guest blocks
absent_more : (block size : ℕ) (entries now : List GuestBlock)
    → ((i : ℕ) → slice_get now i ≡ Some GuestBlock.Absent
    → slice_get entries i ≡ Some GuestBlock.Absent)
    → (from until from' until' p : ℕ) → from' ≤ from → until ≤ until'
    → IsInAbsent block size now from until p → IsInAbsent block size entries from' until' p
absent_more block size entries now sub from until from' until' p h k c = (
  c.0,
  sub (p / block) (c.1),
  touched_more block from until from' until' (p / block) h k (c.2),
)

pub copies_more : (block size : ℕ) (entries now : List GuestBlock)
    → ((i : ℕ) → slice_get now i ≡ Some GuestBlock.Absent
    → slice_get entries i ≡ Some GuestBlock.Absent)
    → (op : Operation) (o n q m p : ℕ) → o ≤ q → q + m ≤ o + n → cow_copies block size now op q m p
    → cow_copies block size entries op o n p
copies_more block size entries now sub Write o n q m p h k c = absent_more block size entries now
    sub q (q + m) o (o + n) p h k c
copies_more block size entries now sub (Grow Mode.None) o n q m p h k c = c
copies_more block size entries now sub (Grow Mode.Zero) o n q m p h k c = absent_more block size
    entries now sub size (grown_until block size Mode.Zero (q + m)) size
    (grown_until block size Mode.Zero (o + n)) p (omega arith) (omega arith) c
copies_more block size entries now sub (Grow Mode.FormatAllocate) o n q m p h k c = ⊎_elim
    (λ a. inl (absent_more block size entries now sub size (q + m) size (o + n) p (omega arith) k
    a)) (λ b. let x : p < o + n = omega (arith, b.1) in inr (b.0, x)) c
copies_more block size entries now sub (Grow Mode.FullAllocate) o n q m p h k c = ⊎_elim
    (λ a. inl (absent_more block size entries now sub size (q + m) size (o + n) p (omega arith) k
    a)) (λ b. let x : p < o + n = omega (arith, b.1) in inr (b.0, x)) c
copies_more block size entries now sub (Grow Mode.WriteData) o n q m p h k c = ⊎_elim
    (λ a. inl (absent_more block size entries now sub size (q + m) size (o + n) p (omega arith) k
    a)) (λ b. let x : p < o + n = omega (arith, b.1) in inr (b.0, x)) c
copies_more block size entries now sub Map o n q m p h k c = c
copies_more block size entries now sub Read o n q m p h k c = c
copies_more block size entries now sub Zero o n q m p h k c = c
copies_more block size entries now sub DiscardToZero o n q m p h k c = c
copies_more block size entries now sub DiscardToAny o n q m p h k c = c
copies_more block size entries now sub DiscardToBacking o n q m p h k c = c
copies_more block size entries now sub Shrink o n q m p h k c = c
copies_more block size entries now sub Flush o n q m p h k c = c

pub cow_causes : (f : Features) (count : ℕ) (bytes : List ℕ) (size block : ℕ)
    (entries : List GuestBlock) (blocks : ℕ) (waiting : Option Waiting)
    → AreCauses (cow_view f count bytes size block entries blocks waiting)
cow_causes f count bytes size block entries blocks waiting = record {
  part = λ op o n q m e h k c. cow_only f block size entries blocks waiting op q m e
      (λ r. cow_cause f block size entries blocks waiting op o n r) c
      (λ w. (
        w.0,
        data_wraps_more f block _ _
            (data_count_more block size entries blocks waiting op o n q m h k) (w.1),
      ));
  part_copied = λ op o n q m p h k c. copies_more block size entries entries (λ i a. a) op o n q m p
      h k c;
  bound = λ op o n e c. cow_only f block size entries blocks waiting op o n e
      (λ r. CauseBound (cow_view f count bytes size block entries blocks waiting) op o n r) c
      (λ w. tt);
  lends = λ op o n p c. refl;
}
