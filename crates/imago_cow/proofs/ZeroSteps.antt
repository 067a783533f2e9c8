-- SPDX-License-Identifier: MIT
use Rattle.std.proofs.Common.{◌≡◌, ℕ, ◌+◌, ◌-◌, ◌*◌, ◌/◌, ◌<◌, ◌≤◌, ◌⊎◌, ⊎_elim, inl, inr, true, false, List, length, Some, None, Ok, refl, sym, ap, ◌∙◌, arith}
use Rattle.std.specs.Prelude.{slice_get}
use Rattle.std.proofs.lemmas.Bool.{cases_lt}
use Rattle.std.proofs.lemmas.Nat.{div-add-mod'}
use Rattle.std.proofs.lemmas.Option.{slice_get_past}
use Rattle.imago_storage.specs.Features.{Features}
use Rattle.imago_drivers.specs.Operation.{Operation}
use Rattle.imago_drivers.specs.Place.{Value, IsIn, shown, values}
use Rattle.imago_drivers.specs.View.{View}
use Rattle.imago_drivers.specs.Outside.{StaysOutside}
use Rattle.imago_drivers.proofs.Stays.{shares_own}
use Rattle.imago_drivers.specs.Calls.{IsZeroCall, IsDiscard}
use Rattle.imago_drivers.specs.Done.{HasDone}
use Rattle.imago_drivers.specs.Causes.{AddsNone}
use Rattle.imago_drivers.specs.Changes.{Change, IsChanged, zeroes}
use Rattle.imago_drivers.specs.Frame.{IsFramed, ReachesNoMore}
use Rattle.imago_drivers.specs.declared.mapping.Ticket.{Ticket}
use Rattle.imago_cow.specs.declared.table.GuestBlock.{GuestBlock}
use Rattle.imago_cow.specs.Guest.{IsWholeBlock, IsWholePart, AreWholeCleared, Covers, entry_place, cow_place, is_data}
use Rattle.imago_cow.specs.GuestLaws.{rest_small, entry_at, place_in, place_out, left_holds}
use Rattle.imago_cow.specs.Cow.{cow_view, cow_cause, cow_copies, cow_answers, cow_whole, needs_data, guest_count, uses_data}
use Rattle.imago_cow.specs.CowLaws.{from_size, lower_place, cow_only, data_wraps_more, count_settled, needs_more, copies_more}

-- a part that is to be the whole range is it
pub whole_same : (block size o n q m : ℕ) → IsWholePart block size o n q m → ((p : ℕ) → IsIn o n p → IsWholeBlock block size o n (p / block)) → (q ≡ o) × (m ≡ n)
whole_same block size o n q m part all = ⊎_elim
    (λ some.
    let a = part.all o (let x : o ≤ o = omega arith in let y : o < o + n = omega arith in (x, y)) (all o (let x : o ≤ o = omega arith in let y : o < o + n = omega arith in (x, y))) in
    let l : IsIn o n (o + n - 1) = let x : o ≤ o + n - 1 = omega arith in let y : o + n - 1 < o + n = omega arith in (x, y) in
    let b = part.all (o + n - 1) l (all (o + n - 1) l) in
    let c = (part.inside q (let x : q ≤ q = omega arith in let y : q < q + m = omega (arith, a.0, a.1) in (x, y))).0 in
    let d = (part.inside (q + m - 1) (let x : q ≤ q + m - 1 = omega (arith, a.0, a.1) in let y : q + m - 1 < q + m = omega (arith, a.0, a.1) in (x, y))).0 in
    let x : q ≡ o = omega (arith, a.0, c.0) in
    let y : m ≡ n = omega (arith, a.0, a.1, b.1, c.0, d.1) in
    (x, y))
    (λ none. ⊎_elim
    (λ some. let d = (part.inside q (let x : q ≤ q = omega arith in let y : q < q + m = omega arith in (x, y))).0 in absurd (omega (arith, d.0, d.1, none)))
    (λ zero. let x : m ≡ 0 = omega arith in let y : m ≡ n = omega arith in (part.none x, y))
    (cases_lt 0 m))
    (cases_lt 0 n)

-- a guest block lies in the range, or doesn't
is_whole_or_not : (block size o n i : ℕ) → IsWholeBlock block size o n i ⊎ (IsWholeBlock block size o n i → ⊥)
is_whole_or_not block size o n i = ⊎_elim
    (λ early. inr (λ w. omega (arith, early, w.begins)))
    (λ begins. ⊎_elim
    (λ cut. ⊎_elim
    (λ past. inr (λ w. ⊎_elim (λ e. omega (arith, e, past)) (λ e. omega (arith, e, cut)) w.ends))
    (λ inside. inl (record { begins = begins; ends = inl inside }))
    (cases_lt (o + n) (i * block + block)))
    (λ all. inl (record { begins = begins; ends = inr all }))
    (cases_lt (o + n) size))
    (cases_lt (i * block) o)

module _ (f : Features) (faults : ℕ) (bytes : List ℕ) (size block : ℕ) (old new : List GuestBlock) (blocks o n q m : ℕ) (entry : GuestBlock)
    (positive : 0 < block) (inside : o + n ≤ size) (covers : Covers size block old) (part : IsWholePart block size o n q m) (cleared : AreWholeCleared block size o n entry old new) where
  abbrev before : View Ticket
  before = cow_view f faults bytes size block old blocks None

  abbrev after : View Ticket
  after = cow_view f faults bytes size block new blocks None

  now_covers : Covers size block new
  now_covers = rw (cleared.len) covers

  cleared_or_same : (i : ℕ) → (slice_get new i ≡ slice_get old i) ⊎ ((slice_get new i ≡ Some entry) × (i < length old) × IsWholeBlock block size o n i)
  cleared_or_same i = ⊎_elim
      (λ under. ⊎_elim (λ w. inr (cleared.inside i under w, under, w)) (λ w. inl (cleared.outside i w)) (is_whole_or_not block size o n i))
      (λ over. inl (slice_get_past new i (omega (arith, over, cleared.len)) ∙ sym (slice_get_past old i over)))
      (cases_lt i (length old))

  -- outside the part a place stays
  same_outside : (p : ℕ) → (IsIn q m p → ⊥) → cow_place bytes size block new p ≡ cow_place bytes size block old p
  same_outside p out = ⊎_elim
      (λ under. place_in bytes size block new p under ∙ ⊎_elim
      (λ same. ap (entry_place bytes block p) same)
      (λ w. let whole = w.2 in
      let e = div-add-mod' p block in
      let r = rest_small block positive p in
      let a : o ≤ p = omega (arith, e, whole.begins) in
      let b : p < o + n = ⊎_elim (λ x. omega (arith, e, r, x)) (λ x. omega (arith, under, x)) whole.ends in
      absurd (out (part.all p (a, b) whole)))
      (cleared_or_same (p / block)) ∙ sym (place_in bytes size block old p under))
      (λ over. place_out bytes size block new p over ∙ sym (place_out bytes size block old p over))
      (cases_lt p size)

  -- what shares no guest block with the range stays
  outside : StaysOutside f.keeps_data block o n (cow_place bytes size block old) (cow_place bytes size block new)
  outside = record {
    stored = λ p b s g w out e. (b, same_outside p (λ i. out (shares_own block o n p ((part.inside p i).0))) ∙ e);
    same = λ k p out. same_outside p (λ i. out (shares_own block o n p ((part.inside p i).0)));
  }

  -- in the part a place is that of the entry
  made_inside : (p : ℕ) → IsIn q m p → cow_place bytes size block new p ≡ entry_place bytes block p (Some entry)
  made_inside p i =
      let w = part.inside p i in
      let in_range = w.0 in
      let under : p < size = omega (arith, in_range.1, inside) in
      place_in bytes size block new p under ∙ ap (entry_place bytes block p) (cleared.inside (p / block) (entry_at block positive size old p covers under) (w.1))

  changed : (how : Change) (below : ℕ → Value) → ((k : ℕ) (v : Value) → how k v (shown below (entry_place bytes block (q + k) (Some entry))))
      → IsChanged q m how (values below (cow_place bytes size block old)) (values below (cow_place bytes size block new))
  changed how below shows = record {
    inside = λ k h. let a : q ≤ q + k = omega arith in let b : q + k < q + m = omega (arith, h) in rw (made_inside (q + k) (a, b)) (shows k (values below (cow_place bytes size block old) (q + k)));
    before = λ p h. ap (shown below) (same_outside p (λ i. omega (arith, h, i.0)));
    behind = λ p h. ap (shown below) (same_outside p (λ i. omega (arith, h, i.1)));
  }

  pub framed : IsFramed before after
  framed = record {
    kind = record { abilities = refl; store_count = refl; store_features = λ i. refl };
    size = refl;
    ends = λ p e. place_out bytes size block old p (from_size bytes size block new positive now_covers p e);
  }

  part_inside : (m ≡ 0) ⊎ ((o ≤ q) × (q + m ≤ o + n))
  part_inside = ⊎_elim
      (λ some.
      let c = (part.inside q (let x : q ≤ q = omega arith in let y : q < q + m = omega arith in (x, y))).0 in
      let d = (part.inside (q + m - 1) (let x : q ≤ q + m - 1 = omega arith in let y : q + m - 1 < q + m = omega arith in (x, y))).0 in
      let x : q + m ≤ o + n = omega (arith, d.1, some) in
      inr (c.0, x))
      (λ none. inl (omega arith))
      (cases_lt 0 m)

  pub has_done : (op : Operation) (how : (ℕ → Value) → ℕ → Change) → cow_answers block size op o n q m → (cow_whole block size op o n → (p : ℕ) → IsIn o n p → IsWholeBlock block size o n (p / block))
      → ((below : ℕ → Value) (k : ℕ) (v : Value) → how below q k v (shown below (entry_place bytes block (q + k) (Some entry))))
      → HasDone how op o n before after (Ok (q, m))
  has_done op how answers whole shows = record {
    inside = part_inside;
    part = answers;
    whole = λ h. whole_same block size o n q m part (whole h);
    done = λ keeps below. changed (how below q) below (shows below);
    refused = λ keeps below. tt;
  }

  -- an entry without data needs none that wasn't there
  pub adds_none : is_data (Some entry) ≡ false → (entry ≡ GuestBlock.Absent → ⊥) → AddsNone (cow_cause f block size old blocks None) (cow_cause f block size new blocks None) (cow_copies block size old) (cow_copies block size new)
  adds_none empty there = record {
    causes = λ op a c e h. cow_only f block size new blocks None op a c e (λ r. cow_cause f block size old blocks None op a c r) h
        (λ w. (
          w.0,
          data_wraps_more f block _ _ (count_settled (needs_data block size new None op a c) (needs_data block size old None op a c) (guest_count block size new op a c) (guest_count block size old op a c) blocks blocks
              (λ i. needs_more block size old new None None op a c a c i (omega arith) (omega arith)
              (λ d. ⊎_elim (λ same. left_holds (is_data (slice_get old i)) _ (ap is_data (sym same) ∙ d)) (λ made. let x : true ≡ false = sym d ∙ ap is_data (made.0) ∙ empty in let z : ⊥ = cc in absurd z) (cleared_or_same i))
              (λ x. let z : ⊥ = cc in absurd z))
              (omega (arith, cleared.len)) (omega arith)) (w.1),
        ));
    copied = λ op a c p h. copies_more block size old new
        (λ i e. ⊎_elim (λ same. sym same ∙ e) (λ made. let x : Some entry ≡ Some GuestBlock.Absent = sym (made.0) ∙ e in let y : entry ≡ GuestBlock.Absent = cc in absurd (there y)) (cleared_or_same i))
        op a c a c p (omega arith) (omega arith) h;
  }

  pub reaches : (entry ≡ GuestBlock.Absent → ⊥) → ReachesNoMore before after
  reaches there p r w e =
      let x = lower_place bytes size block new p r w e in
      ⊎_elim
      (λ same. (w, place_in bytes size block old p (x.0) ∙ ap (entry_place bytes block p) (sym same) ∙ sym (place_in bytes size block new p (x.0)) ∙ e))
      (λ made. let y : Some entry ≡ Some GuestBlock.Absent = sym (made.0) ∙ x.1 in let z : entry ≡ GuestBlock.Absent = cc in absurd (there z))
      (cleared_or_same (p / block))

  pub zero_call : (op : Operation) → entry ≡ GuestBlock.Zero → cow_answers block size op o n q m → (cow_whole block size op o n → (p : ℕ) → IsIn o n p → IsWholeBlock block size o n (p / block))
      → IsZeroCall op o n before after (Ok (q, m))
  zero_call op is answers whole = record {
    done = has_done op (λ b k. zeroes) answers whole (λ below k v. ap (λ e. shown below (entry_place bytes block (q + k) (Some e))) is);
    causes = adds_none (ap (λ e. is_data (Some e)) is) (λ x. let y : GuestBlock.Zero ≡ GuestBlock.Absent = sym is ∙ x in let z : ⊥ = cc in z);
    reaches = reaches (λ x. let y : GuestBlock.Zero ≡ GuestBlock.Absent = sym is ∙ x in let z : ⊥ = cc in z);
    nothing_pending = refl;
    lengths = record { no_shorter = λ i. omega arith; no_longer = λ i. omega arith };
    framed = framed;
    faults = record { later = omega arith; reliable = λ e. refl; device = λ e. let z : ⊥ = cc in absurd z };
    refusals = tt;
    outside = outside;
  }

  -- a discard, whose own operation has no cause
  pub discard : (op : Operation) (how : (ℕ → Value) → ℕ → Change) → uses_data op ≡ false → ((a c p : ℕ) → cow_copies block size new op a c p → ⊥) → cow_answers block size op o n q m
      → (cow_whole block size op o n → (p : ℕ) → IsIn o n p → IsWholeBlock block size o n (p / block))
      → ((below : ℕ → Value) (k : ℕ) (v : Value) → how below q k v (shown below (entry_place bytes block (q + k) (Some entry))))
      → IsDiscard how op o n before after (Ok (q, m))
  discard op how free no_copy answers whole shows = record {
    done = has_done op how answers whole shows;
    causes = record {
      causes = λ x a c d k e t h i j l y. cow_only f block size new blocks None x d k e (λ r. cow_cause f block size old blocks None x a c r) y
          (λ w. let u : true ≡ false = sym (w.0) ∙ ap uses_data t ∙ free in let z : ⊥ = cc in absurd z);
      copied = λ x a c d k p t h i j l y. absurd (no_copy d k p (rw t at y));
    };
    nothing_pending = refl;
    lengths = record { no_shorter = λ i. omega arith; no_longer = λ i. omega arith };
    framed = framed;
    faults = record { later = omega arith; reliable = λ e. refl; device = λ e. let z : ⊥ = cc in absurd z };
    refusals = tt;
    outside = outside;
  }
