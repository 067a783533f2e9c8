-- SPDX-License-Identifier: MIT
use Rattle.std.proofs.Common.{◌≡◌, ℕ, ◌+◌, ◌-◌, ◌*◌, ◌/◌, ◌<◌, ◌≤◌, ◌⊎◌, ⊎_elim, inl, inr, Bool, true, false, List, length, Option, Some, None, refl, sym, ap, ◌∙◌, arith, Result, min, max, nat_lt}
use Rattle.std.specs.Prelude.{slice_get, slice_index, nat_eq, IsTrue, IsErrOf}
use Rattle.std.proofs.lemmas.Bool.{cases_lt, cases_Bool}
use Rattle.std.proofs.lemmas.Bool.Decides.{nat_tests}
use Rattle.std.proofs.lemmas.Nat.{div-add-mod'}
use Rattle.imago_storage.specs.declared.error.Error.{Error}
use Rattle.imago_storage.specs.declared.error.Error.TheVariants as E
use Rattle.imago_storage.specs.Features.{Features, len_align}
use Rattle.imago_drivers.specs.Operation.{Operation, Map, Read, Write, Zero, DiscardToZero, DiscardToAny, DiscardToBacking, Grow, Shrink, Flush}
use Rattle.imago_drivers.specs.Place.{Value, Byte, IsIn, shown, values, SamePlaces}
use Rattle.imago_drivers.specs.Causes.{IsSettled, IsOnRange, CauseOver}
use Rattle.imago_storage.specs.Features.{AreLawful}
use Rattle.imago_storage.specs.Padding.{Wraps}
use Rattle.imago_drivers.specs.Ranges.{HasWrappingPart}
use Rattle.imago_storage.specs.Faults.{CountsFaults}
use Rattle.imago_storage.proofs.Padding.{wrap_causes}
use Rattle.imago_drivers.specs.Reasons.{Reasons, allowed}
use Rattle.imago_drivers.specs.Done.{lending_reasons}
use Rattle.imago_drivers.specs.Lengths.{padded_to}
use Rattle.imago_drivers.specs.LayerBelow.{LayerBelow}
use Rattle.imago_drivers.specs.Frame.{IsUnchanged}
use Rattle.imago_drivers.specs.Pending.{Pending}
use Rattle.imago_drivers.specs.Prepared.{IsPrepared}
use Rattle.imago_drivers.specs.declared.mapping.PreparedDataMapping.{PreparedDataMapping}
use Rattle.imago_drivers.specs.declared.mapping.Ticket.{Ticket}
use Rattle.imago_cow.specs.declared.table.GuestBlock.{GuestBlock}
use Rattle.imago_cow.specs.declared.cow.Waiting.{Waiting}
use Rattle.imago_cow.specs.declared.table.WithoutData.{WithoutData}
use Rattle.imago_cow.specs.declared.table.WithoutData.TheVariants as W
use Rattle.imago_cow.specs.Table.{named_count, IsLowestUnused, times_used, without_data, is_absent}
use Rattle.imago_cow.specs.Guest.{Covers, entry_place, cow_place, is_data, is_touched, number_of}
use Rattle.imago_cow.specs.GuestLaws.{rest_small, place_in, place_out, entry_at, left_holds, right_holds, touched_at, number_longer, lies_in}
use Rattle.imago_cow.specs.Copies.{old_value, block_from, block_until, IsInBlock, IsApart, round_reasons, over_reasons}
use Rattle.imago_cow.specs.Cow.{cow_view, cow_cause, cow_copies, WaitsApart, waiting_byte, waiting_from, needs_data, has_waiting, guest_count, data_count, touched_from, touched_until, in_block, DataWraps}
use Rattle.imago_cow.specs.CowLaws.{from_size, lower_place, stored_place, cow_only, data_wraps_more, count_settled, needs_more, copies_more, until_more}
use Rattle.imago_cow.proofs.DirectSteps.{not_direct}
use Rattle.imago_cow.proofs.WholeSteps.{times_more}
use Rattle.imago_cow.proofs.MapSteps.{number_ends}
use Rattle.imago_cow.proofs.NumberSteps.{named_number, number_one_more}
use Rattle.imago_cow.proofs.StoredSteps.{same_stored, stays_stored}
use Rattle.imago_cow.proofs.CommitSteps.{same_or_not}

-- the lowest unused number is one
pub lowest_one : (entries : List GuestBlock) (held other : Option ℕ) (count a b : ℕ) → held ≡ other → IsLowestUnused entries held count a → IsLowestUnused entries other count b → a ≡ b
lowest_one entries held other count a b same x y = ⊎_elim
    (λ under. let u = y.lowest a under in let v : times_used a entries other ≡ 0 = rw (← same) (x.unused) in absurd (omega (arith, u, v)))
    (λ over. ⊎_elim
    (λ under. let u = x.lowest b under in let v : times_used b entries held ≡ 0 = rw same (y.unused) in absurd (omega (arith, u, v)))
    (λ above. omega arith)
    (cases_lt b a))
    (cases_lt a b)

pub empty_entry : (absent : Bool) (e : Option GuestBlock) → (absent ≡ true → e ≡ Some GuestBlock.Absent) → (absent ≡ false → e ≡ Some GuestBlock.Zero) → is_data e ≡ false
empty_entry true e here there = ap is_data (here refl)
empty_entry false e here there = ap is_data (there refl)

-- what the kind of a guest block without data says of its entry
pub empty_absent : (kind : WithoutData) (e : Option GuestBlock) → e ≡ Some (without_data kind) → is_absent kind ≡ true → e ≡ Some GuestBlock.Absent
empty_absent W.Absent e h t = h
empty_absent W.Zero e h t = let z : ⊥ = cc in absurd z

pub empty_zero : (kind : WithoutData) (e : Option GuestBlock) → e ≡ Some (without_data kind) → is_absent kind ≡ false → e ≡ Some GuestBlock.Zero
empty_zero W.Absent e h t = let z : ⊥ = cc in absurd z
empty_zero W.Zero e h t = h

pub kind_entry : (kind : WithoutData) (e : Option GuestBlock) → e ≡ Some (without_data kind) → is_data e ≡ false
kind_entry kind e h = empty_entry (is_absent kind) e (empty_absent kind e h) (empty_zero kind e h)

-- an operation on a range may make data of the places of its range
range_from : (size : ℕ) (op : Operation) (o : ℕ) → IsOnRange op → touched_from size op o ≡ o
range_from size Map o h = refl
range_from size Read o h = refl
range_from size Write o h = refl
range_from size Zero o h = refl
range_from size DiscardToZero o h = refl
range_from size DiscardToAny o h = refl
range_from size DiscardToBacking o h = refl
range_from size (Grow mode) o h = absurd h
range_from size Shrink o h = absurd h
range_from size Flush o h = absurd h

range_until : (block size : ℕ) (op : Operation) (o n : ℕ) → IsOnRange op → touched_until block size op o n ≡ o + n
range_until block size Map o n h = refl
range_until block size Read o n h = refl
range_until block size Write o n h = refl
range_until block size Zero o n h = refl
range_until block size DiscardToZero o n h = refl
range_until block size DiscardToAny o n h = refl
range_until block size DiscardToBacking o n h = refl
range_until block size (Grow mode) o n h = absurd h
range_until block size Shrink o n h = absurd h
range_until block size Flush o n h = absurd h

waits_for : (block i : ℕ) (w : Waiting) → has_waiting block (Some w) i ≡ true → w.start / block ≡ i
waits_for block i w e = ⊎_elim (λ same. same) (λ other. let x : nat_eq (w.start / block) i ≡ false = grind (arith, nat_tests) in let y : true ≡ false = sym e ∙ x in let z : ⊥ = cc in absurd z) (same_or_not (w.start / block) i)

-- where a range has a place whose guest block has no data, one more data block than is named may be there
module _ (block size : ℕ) (entries : List GuestBlock) (blocks : ℕ) (positive : 0 < block) (covers : Covers size block entries) (p : ℕ) (under : p < size) (empty : is_data (slice_get entries (p / block)) ≡ false) where
  touched_place : (op : Operation) (o n : ℕ) → IsOnRange op → o ≤ p → p < o + n → is_touched block (touched_from size op o) (touched_until block size op o n) (p / block) ≡ true
  touched_place op o n range h k = rw (range_from size op o range, range_until block size op o n range) (touched_at block positive o (o + n) p h k)

  pub one_more : (op : Operation) (o n : ℕ) → IsOnRange op → o ≤ p → p < o + n → named_count entries + 1 ≤ data_count block size entries blocks None op o n
  one_more op o n range h k =
      let needs = needs_data block size entries None op o n in
      let t = touched_place op o n range h k in
      let a = number_one_more (λ i. is_data (slice_get entries i)) needs (length entries) (p / block) (entry_at block positive size entries p covers under) empty
      (right_holds (is_data (slice_get entries (p / block))) _ (right_holds (has_waiting block None (p / block)) _ t)) (λ i d. left_holds (is_data (slice_get entries i)) _ d) in
      let b = number_longer needs (length entries) (touched_until block size op o n) in
      let e : touched_until block size op o n + length entries ≡ guest_count block size entries op o n = omega arith in
      let c : number_of needs (length entries) ≤ number_of needs (guest_count block size entries op o n) = rw e at b in
      omega (arith, a, c, named_number entries)

-- What a prepared data block leaves: the same entries, and a write that waits for one guest block of them.
module _ (f : Features) (size block : ℕ) (entries : List GuestBlock) (blocks now_blocks : ℕ) (w : Waiting) (positive : 0 < block) (covers : Covers size block entries) (apart : WaitsApart block size entries now_blocks w)
    (added : now_blocks ≤ max blocks (named_count entries + 1)) where
  -- data blocks that an operation on a range with what waits may use
  pub prepared_count : (op : Operation) (a n q m : ℕ) → IsOnRange op → a ≤ w.start → w.start < a + n → a ≤ q → q + m ≤ a + n
      → data_count block size entries now_blocks (Some w) op q m ≤ data_count block size entries blocks None op a n
  prepared_count op a n q m range h k i j =
      let more = one_more block size entries blocks positive covers w.start (omega (arith, apart.some, apart.inside)) apart.free op a n range h k in
      count_settled (needs_data block size entries (Some w) op q m) (needs_data block size entries None op a n) (guest_count block size entries op q m) (guest_count block size entries op a n) now_blocks blocks
      (λ g. needs_more block size entries entries None (Some w) op a n q m g i j
      (λ d. left_holds (is_data (slice_get entries g)) _ d)
      (λ e. let same = waits_for block g w e in
      right_holds (is_data (slice_get entries g)) _ (right_holds (has_waiting block None g) _
      (rw same at (touched_place block size entries blocks positive covers w.start (omega (arith, apart.some, apart.inside)) apart.free op a n range h k)))))
      (let u = until_more block size op a n q m j in omega (arith, u)) (omega (arith, added, more))

  pub prepared_settled : (c : ℕ) → 0 < c → IsSettled IsOnRange (cow_cause f block size entries blocks None) (cow_cause f block size entries now_blocks (Some w)) (cow_copies block size entries) (cow_copies block size entries) w.start c
  prepared_settled c some = record {
    causes = λ op a n q m e range h k i j x. cow_only f block size entries now_blocks (Some w) op q m e (λ r. cow_cause f block size entries blocks None op a n r) x
        (λ y. (y.0, data_wraps_more f block _ _ (prepared_count op a n q m range h (omega (arith, k, some)) i j) (y.1)));
    copied = λ op a n q m p range h k i j x. copies_more block size entries entries (λ g e. e) op a n q m p i j x;
  }

-- what waits, as the driver's callers see it
abbrev pub pending_of : ℕ → ℕ → List ℕ → Waiting → Pending Ticket
pending_of block size bytes w = record {
  start = w.start;
  storage = 0;
  offset = w.offset;
  length = w.length;
  state = w.state;
  from = waiting_from block w;
  until = min size (waiting_from block w + block);
  bytes = waiting_byte block bytes w;
}

-- a greater end is padded to a greater one
pub padded_more : (f : Features) (a b : ℕ) → a ≤ b → padded_to f 0 a ≤ padded_to f 0 b
padded_more f a b h = ⊎_elim
    (λ some. let t : nat_lt 0 a ≡ true = grind (arith, nat_tests) in let u : nat_lt 0 b ≡ true = grind (arith, nat_tests) in rw (t, u) (omega (arith, h)))
    (λ none. let t : nat_lt 0 a ≡ false = grind (arith, nat_tests) in rw t (omega arith))
    (cases_lt 0 a)

module _ (f : Features) (faults now_faults : ℕ) (bytes now : List ℕ) (size block : ℕ) (entries : List GuestBlock) (blocks now_blocks : ℕ) (w : Waiting) (positive : 0 < block) (covers : Covers size block entries) (apart : WaitsApart block size entries now_blocks w)
    (added : now_blocks ≤ max blocks (named_count entries + 1)) where
  -- bytes of named data blocks stay, so no place changes
  pub same_places : (keeps : Bool) → (IsTrue keeps → (x : ℕ) → (x < w.number * block) ⊎ (w.number * block + block ≤ x) → slice_index now x ≡ slice_index bytes x) → SamePlaces keeps (cow_place bytes size block entries) (cow_place now size block entries)
  same_places keeps outside = record {
    stored = λ p b s o v e. (slice_index now o, stays_stored size block entries bytes now p b s o v e);
    same = λ k p. same_stored size block entries bytes now p (λ b s o v e.
        let x = (stored_place bytes size block entries p b s o v e).1 in
        let r = rest_small block positive p in
        outside k o (⊎_elim
        (λ less. let y = number_ends block x.number w.number less in inl (omega (arith, x.offset, r, y)))
        (λ more. ⊎_elim
        (λ greater. let y = number_ends block w.number x.number greater in inr (omega (arith, x.offset, y)))
        (λ not_greater. let y : x.number ≡ w.number = omega arith in absurd (apart.apart (p / block) (x.named ∙ ap (λ j. Some (GuestBlock.Data j)) y)))
        (cases_lt w.number x.number))
        (cases_lt x.number w.number)));
  }

  pub prepared_unchanged : (v : Option Waiting) → (IsTrue f.keeps_data → (x : ℕ) → (x < w.number * block) ⊎ (w.number * block + block ≤ x) → slice_index now x ≡ slice_index bytes x)
      → IsUnchanged (cow_view f faults bytes size block entries blocks None) (cow_view f now_faults now size block entries now_blocks v)
  prepared_unchanged t outside = record {
    framed = record {
      kind = record { abilities = refl; store_count = refl; store_features = λ i. refl };
      size = refl;
      ends = λ p e. place_out bytes size block entries p (from_size now size block entries positive covers p e);
    };
    places = same_places f.keeps_data outside;
    reaches = λ p q u e. let x = lower_place now size block entries p q u e in
        (u, place_in bytes size block entries p (x.0) ∙ ap (entry_place bytes block p) (x.1) ∙ sym (ap (entry_place now block p) (x.1)) ∙ sym (place_in now size block entries p (x.0)) ∙ e);
  }

  -- the byte that waits for a place of the guest block is the copied one
  waits_byte : (p : ℕ) → block_from block w.start ≤ p → waiting_byte block now w p ≡ slice_index now (w.number * block + (p - block_from block w.start))
  waits_byte p h =
      let a = div-add-mod' w.start block in
      let t : nat_lt p (waiting_from block w) ≡ false = grind (arith, nat_tests) in
      let e : w.offset + p - w.start ≡ w.number * block + (p - block_from block w.start) = omega (arith, a, h, apart.offset) in
      rw t (ap (slice_index now) e)

  module _ (at : ℕ → Value) (absent overwrite told : Bool) (here : absent ≡ true → slice_get entries (w.start / block) ≡ Some GuestBlock.Absent) (there : absent ≡ false → slice_get entries (w.start / block) ≡ Some GuestBlock.Zero)
      (copied : IsTrue f.keeps_data → IsTrue told → (p : ℕ) → block_from block w.start ≤ p → p < block_until block size w.start → (overwrite ≡ true → (p < w.start) ⊎ (w.start + w.length ≤ p))
      → old_value at absent p ≡ Byte (slice_index now (w.number * block + (p - block_from block w.start)))) where
    shows : (p : ℕ) → block_from block w.start ≤ p → p < block_until block size w.start → values at (cow_place bytes size block entries) p ≡ old_value at absent p
    shows p h k =
        let a = div-add-mod' w.start block in
        let under : p < size = omega (arith, k) in
        let same : p / block ≡ w.start / block = lies_in block positive (w.start / block) p (omega (arith, a, h)) (omega (arith, a, k)) in
        let entry : values at (cow_place bytes size block entries) p ≡ shown at (entry_place bytes block p (slice_get entries (w.start / block))) = ap (shown at) (place_in bytes size block entries p under) ∙ ap (λ i. shown at (entry_place bytes block p (slice_get entries i))) same in
        entry ∙ ⊎_elim
        (λ t. ap (λ x. shown at (entry_place bytes block p x)) (here t) ∙ ap (λ x. old_value at x p) (sym t))
        (λ t. ap (λ x. shown at (entry_place bytes block p x)) (there t) ∙ ap (λ x. old_value at x p) (sym t))
        (cases_Bool absent)

    pub prepared : (o most : ℕ) (m : PreparedDataMapping Ticket) → o ≡ w.start → 0 < most → w.length ≡ in_block block o most → m.storage ≡ 0 → m.offset ≡ w.offset → m.length ≡ w.length → m.state ≡ Some w.state
        → IsPrepared o most overwrite told (values at (cow_place bytes size block entries)) (cow_view f faults bytes size block entries blocks None) (cow_view f now_faults now size block entries now_blocks (Some w)) m
    prepared o most m start some len storage offset long state = record {
      within = omega (arith, long, len);
      some = λ h. omega (arith, long, apart.some);
      part = long ∙ len;
      whole = λ h. omega (arith, long, len, h);
      no_memory = λ h. absurd (not_direct f f.write_memory (length bytes) block entries o most (ap (λ i. is_data (slice_get entries (i / block))) start ∙ apart.free) h);
      later = λ i.
          let a = prepared_count f size block entries blocks now_blocks w positive covers apart added Write o most o m.length tt (omega (arith, start)) (omega (arith, start, some)) (omega arith) (omega (arith, long, len)) in
          let b = padded_more f _ _ (times_more block _ _ a) in
          omega (arith, b);
      direct = λ e. let x : Some w.state ≡ None = sym state ∙ e in let z : ⊥ = cc in absurd z;
      apart = λ s e. (
        pending_of block size now w,
        refl,
        (storage, offset, long, state),
        sym start,
        λ keeps tells over p i.
            let x : block_from block w.start ≤ p = omega (arith, start, i.0) in
            let y : p < block_until block size w.start = omega (arith, start, i.1, long, apart.in_block, apart.inside, div-add-mod' w.start block) in
            shows p x y ∙ copied keeps tells p x y (λ t. let u : true ≡ false = sym t ∙ over in let z : ⊥ = cc in absurd z) ∙ ap (λ v. Byte v) (sym (waits_byte p x)),
      );
      around = λ q e. let a : pending_of block size now w ≡ q = cc in
          rw (← a) (let x : waiting_from block w ≤ w.start = omega arith in let y : w.start + w.length ≤ min size (waiting_from block w + block) = omega (arith, apart.in_block, apart.inside, div-add-mod' w.start block) in (x, y));
      near = λ q e p. let a : pending_of block size now w ≡ q = cc in
          rw (← a) (λ h k.
          let b = div-add-mod' w.start block in
          let same : p / block ≡ w.start / block = lies_in block positive (w.start / block) p (omega (arith, b, h)) (omega (arith, b, k)) in
          let x : o ≤ w.start = omega (arith, start) in
          let y : w.start < o + m.length = omega (arith, start, long, apart.some) in
          (w.start, (x, y), same));
      round = λ keeps tells p x y out. shows p x y ∙ copied keeps tells p x y (λ t. out) ∙ ap (λ v. Byte v) (sym (waits_byte p x));
    }

-- nothing was done
pub nothing_unchanged : (f : Features) (faults now_faults : ℕ) (bytes : List ℕ) (size block : ℕ) (entries : List GuestBlock) (blocks now_blocks : ℕ) (t v : Option Waiting)
    → IsUnchanged (cow_view f faults bytes size block entries blocks t) (cow_view f now_faults bytes size block entries now_blocks v)
nothing_unchanged f faults now_faults bytes size block entries blocks now_blocks t v = record {
  framed = record { kind = record { abilities = refl; store_count = refl; store_features = λ i. refl }; size = refl; ends = λ p e. e };
  places = record { stored = λ p b s o w e. (b, e); same = λ k p. refl };
  reaches = λ p q w e. (w, e);
}

-- the count of faults of a copy is that of the preparing
pub counts_as : {T U : Type 0} (r : Bool) (a b : ℕ) (x : Result T Error) (y : Result U Error) → (IsErrOf y Error.Device → IsErrOf x Error.Device) → CountsFaults r a b x → CountsFaults r a b y
counts_as r a b x y same f = record { later = f.later; reliable = f.reliable; device = λ e. f.device (same e) }

-- a data block that ends by the last one that an operation may use
pub length_within : (f : Features) (block number count len old : ℕ) → 0 < block → number < count → len ≤ max old (number * block + block + (len_align f - 1)) → len ≤ max old (padded_to f 0 (count * block))
length_within f block number count len old positive known h =
    let x = number_ends block number count known in
    let t : nat_lt 0 (count * block) ≡ true = let u : 0 < count * block = omega (arith, x, positive) in grind (arith, nat_tests) in
    rw t (omega (arith, h, x))

-- a data block that wraps around is one of the first so many
block_wraps : (f : Features) (block number count start : ℕ) → start ≡ number * block → number < count → HasWrappingPart (Wraps f) start block → DataWraps f block count
block_wraps f block number count start starts known part =
    let x = number_ends block number count known in
    record { from = part.from; count = part.count; above = omega arith; below = omega (arith, part.below, starts, x); wraps = part.wraps }

module _ (f : Features) (faults : ℕ) (bytes : List ℕ) (size block : ℕ) (entries : List GuestBlock) (blocks : ℕ) (l : LayerBelow) (absent : Bool) (o most number start : ℕ)
    (positive : 0 < block) (under : o < size) (some : 0 < most) (here : absent ≡ true → slice_get entries (o / block) ≡ Some GuestBlock.Absent)
    (starts : start ≡ number * block) (known : number < data_count block size entries blocks None Write o most) where
  abbrev reasons : Reasons
  reasons = lending_reasons (cow_view f faults bytes size block entries blocks None) l Write o most

  copied_block : absent ≡ true → (q m : ℕ) → block_from block o ≤ q → q + m ≤ block_until block size o → (p : ℕ) → IsIn q m p → cow_copies block size entries Write o most p
  copied_block t q m h k p i =
      let a = div-add-mod' o block in
      let below : p < size = omega (arith, i.1, k) in
      let same : p / block ≡ o / block = lies_in block positive (o / block) p (omega (arith, a, h, i.0)) (omega (arith, a, k, i.1)) in
      (below, ap (slice_get entries) same ∙ here t, ap (is_touched block o (o + most)) same ∙ touched_at block positive o (o + most) o (omega arith) (omega (arith, some)))

  lower : (overwrite : Bool) (run : ℕ) (e : Error) → absent ≡ true → ((q : ℕ) × (m : ℕ) × IsInBlock block size o q m × (overwrite ≡ true → IsApart o run q m) × l.cause q m e) → CauseOver (cow_cause f block size entries blocks None) (cow_copies block size entries) l Write o most e
  lower overwrite run e t (q, m, inside, out, c) = inr (q, m, inside.some, copied_block t q m inside.above inside.below, c)

  pub round_refused : is_data (slice_get entries (o / block)) ≡ false → (overwrite : Bool) (run : ℕ) (e : Error) → allowed (round_reasons f l absent overwrite block size o run start) e → allowed reasons e
  round_refused empty overwrite run E.WrapAround c = ⊎_elim (λ w. inl (refl, block_wraps f block number (data_count block size entries blocks None Write o most) start starts known (w.1))) (λ d. lower overwrite run Error.WrapAround (d.0) (d.1)) c
  round_refused empty overwrite run E.InvalidData c = ⊎_elim (λ w. let x : Error.InvalidData ≡ Error.WrapAround = w.0 in let z : ⊥ = cc in absurd z) (λ d. lower overwrite run Error.InvalidData (d.0) (d.1)) c
  round_refused empty overwrite run E.Unsupported c = ⊎_elim (λ w. let x : Error.Unsupported ≡ Error.WrapAround = w.0 in let z : ⊥ = cc in absurd z) (λ d. lower overwrite run Error.Unsupported (d.0) (d.1)) c
  round_refused empty overwrite run E.NoAccess c = ⊎_elim (λ w. let x : Error.NoAccess ≡ Error.WrapAround = w.0 in let z : ⊥ = cc in absurd z) (λ d. lower overwrite run Error.NoAccess (d.0) (d.1)) c
  round_refused empty overwrite run E.Device c = tt
  round_refused empty overwrite run E.Memory c = not_direct f f.write_memory (length bytes) block entries o most empty
  round_refused empty overwrite run E.ReadOnly c = c
  round_refused empty overwrite run E.BeyondDisk c = absurd c
  round_refused empty overwrite run E.RangeOverflow c = c
  round_refused empty overwrite run E.ForeignMapping c = c
  round_refused empty overwrite run E.Denied c = c
  round_refused empty overwrite run E.NotFound c = c

-- For overwriting nothing of the range is read.
module _ (f : Features) (size block : ℕ) (entries : List GuestBlock) (blocks : ℕ) (l : LayerBelow) (absent overwrite : Bool) (o most run number start : ℕ) (here : absent ≡ true → slice_get entries (o / block) ≡ Some GuestBlock.Absent)
    (starts : start ≡ number * block) (known : number < data_count block size entries blocks None Write o most) (over : overwrite ≡ true) (is_run : run ≡ in_block block o most) where
  over_cause : (e : Error) → (round_reasons f l absent overwrite block size o run start).cause e → (over_reasons f l block size entries blocks o most).cause e
  over_cause e c = ⊎_elim
      (λ w. inl (w.0, block_wraps f block number (data_count block size entries blocks None Write o most) start starts known (w.1)))
      (λ d. let (q, m, inside, out, x) = d.1 in inr (here (d.0), (q, m, inside, rw (← is_run) (out over), x)))
      c

  pub over_refused : (e : Error) → allowed (round_reasons f l absent overwrite block size o run start) e → allowed (over_reasons f l block size entries blocks o most) e
  over_refused E.WrapAround c = over_cause Error.WrapAround c
  over_refused E.InvalidData c = over_cause Error.InvalidData c
  over_refused E.Unsupported c = over_cause Error.Unsupported c
  over_refused E.NoAccess c = over_cause Error.NoAccess c
  over_refused E.Device c = c
  over_refused E.Memory c = c
  over_refused E.ReadOnly c = c
  over_refused E.BeyondDisk c = c
  over_refused E.RangeOverflow c = c
  over_refused E.ForeignMapping c = c
  over_refused E.Denied c = c
  over_refused E.NotFound c = c

-- no place for a new data block is a wrap-around
pub full_wraps : (f : Features) (block size : ℕ) (entries : List GuestBlock) (blocks o most : ℕ) → AreLawful f → 0 < block → blocks < data_count block size entries blocks None Write o most → 18446744073709551616 ≤ blocks * block + block
    → DataWraps f block (data_count block size entries blocks None Write o most)
full_wraps f block size entries blocks o most lawful positive known full = block_wraps f block blocks _ (blocks * block) refl known
    (record { from = blocks * block; count = block; above = omega arith; below = omega arith; wraps = (wrap_causes f lawful (blocks * block) block positive).1 (inl full) })

pub full_refused : (f : Features) (faults : ℕ) (bytes : List ℕ) (size block : ℕ) (entries : List GuestBlock) (blocks : ℕ) (l : LayerBelow) (o most : ℕ) → AreLawful f → 0 < block → blocks < data_count block size entries blocks None Write o most → 18446744073709551616 ≤ blocks * block + block
    → allowed (lending_reasons (cow_view f faults bytes size block entries blocks None) l Write o most) Error.WrapAround
full_refused f faults bytes size block entries blocks l o most lawful positive known full = inl (refl, full_wraps f block size entries blocks o most lawful positive known full)
