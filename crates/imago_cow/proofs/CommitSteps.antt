-- SPDX-License-Identifier: MIT
use Rattle.std.proofs.lemmas.List.{length-set}
use Prim.Native.Nat.{zero, suc}
use Rattle.std.proofs.Common.{[], ◌∷◌, ◌≡◌, ◌≢◌, ℕ, ◌+◌, ◌-◌, ◌*◌, ◌/◌, ◌%◌, ◌<◌, ◌≤◌, ◌⊎◌, ⊎_elim, inl, inr, true, false, List, length, Some, None, refl, sym, ap, ◌∙◌, arith, min, nat_lt}
use Rattle.std.specs.Prelude.{slice_get, slice_set, slice_index, nat_eq}
use Rattle.std.proofs.lemmas.Bool.{cases_lt}
use Rattle.std.proofs.lemmas.Bool.Decides.{nat_tests}
use Rattle.std.proofs.lemmas.Nat.{div-add-mod'}
use Rattle.imago_storage.specs.Features.{Features}
use Rattle.imago_drivers.specs.Place.{Value, Byte, Stored, shown, values, PlacesAreWritableAt}
use Rattle.imago_drivers.specs.Causes.{IsSettled, IsOnRange}
use Rattle.imago_drivers.specs.Pending.{ShowsRound}
use Rattle.imago_drivers.specs.Frame.{IsFramed, ReachesNoMore}
use Rattle.imago_drivers.specs.Commit.{is_committed, commit_moves}
use Rattle.imago_drivers.specs.Outside.{StayBut}
use Rattle.imago_cow.specs.declared.table.GuestBlock.{GuestBlock}
use Rattle.imago_cow.specs.declared.cow.Waiting.{Waiting}
use Rattle.imago_cow.specs.Guest.{Covers, IsEntered, entry_place, cow_place, is_data}
use Rattle.imago_cow.specs.GuestLaws.{rest_small, same_block, same_rest, place_in, place_out, entry_at, left_holds, right_holds}
use Rattle.imago_cow.specs.Cow.{cow_view, cow_cause, cow_copies, cow_pending, WaitsApart, waiting_byte, waiting_from, needs_data, has_waiting, guest_count}
use Rattle.imago_cow.specs.CowLaws.{from_size, lower_place, cow_only, data_wraps_more, count_settled, needs_more, copies_more, until_more}

pub same_or_not : (a b : ℕ) → (a ≡ b) ⊎ (a ≢ b)
same_or_not a b = ⊎_elim (λ l. inr (λ e. omega (arith, l, e))) (λ h. ⊎_elim (λ l. inr (λ e. omega (arith, l, e))) (λ k. inl (omega arith)) (cases_lt b a)) (cases_lt a b)

set_same : {X : Type 0} (xs : List X) (i : ℕ) (y : X) → i < length xs → slice_get (slice_set xs i y) i ≡ Some y
set_same [] i y h = absurd (omega arith)
set_same (x ∷ xs) zero y h = refl
set_same (x ∷ xs) (suc i) y h = set_same xs i y (omega arith)

pub set_other : {X : Type 0} (xs : List X) (i k : ℕ) (y : X) → k ≢ i → slice_get (slice_set xs i y) k ≡ slice_get xs k
set_other [] i k y h = refl
set_other (x ∷ xs) zero zero y h = absurd (h refl)
set_other (x ∷ xs) zero (suc k) y h = refl
set_other (x ∷ xs) (suc i) zero y h = refl
set_other (x ∷ xs) (suc i) (suc k) y h = set_other xs i k y (λ e. h (ap suc e))

set_length : {X : Type 0} (xs : List X) (i : ℕ) (y : X) → length (slice_set xs i y) ≡ length xs
set_length xs i y = length-set xs i y

pub set_entered : (i j : ℕ) (entries : List GuestBlock) → i < length entries → IsEntered i j entries (slice_set entries i (GuestBlock.Data j))
set_entered i j entries h = record {
  len = set_length entries i (GuestBlock.Data j);
  at = set_same entries i (GuestBlock.Data j) h;
  others = λ k other. set_other entries i k (GuestBlock.Data j) other;
}

pub in_disk : (size block : ℕ) (entries : List GuestBlock) (blocks : ℕ) (w : Waiting) → 0 < block → Covers size block entries → WaitsApart block size entries blocks w → w.start / block < length entries
in_disk size block entries blocks w positive covers apart = entry_at block positive size entries w.start covers (omega (arith, apart.some, apart.inside))

eq_true : (a : ℕ) → nat_eq a a ≡ true
eq_true a = grind (arith, nat_tests)

module _ (f : Features) (faults : ℕ) (bytes : List ℕ) (size block : ℕ) (old new : List GuestBlock) (blocks : ℕ) (w : Waiting)
    (positive : 0 < block) (covers : Covers size block old) (apart : WaitsApart block size old blocks w) (entered : IsEntered (w.start / block) w.number old new) where
  now_covers : Covers size block new
  now_covers = rw (entered.len) covers

  -- a place in another guest block stays
  same_other : (p : ℕ) → p / block ≢ w.start / block → cow_place bytes size block new p ≡ cow_place bytes size block old p
  same_other p other = ⊎_elim
      (λ under. place_in bytes size block new p under ∙ ap (entry_place bytes block p) (entered.others (p / block) other) ∙ sym (place_in bytes size block old p under))
      (λ over. place_out bytes size block new p over ∙ sym (place_out bytes size block old p over))
      (cases_lt p size)

  same_past : (p : ℕ) → size ≤ p → cow_place bytes size block new p ≡ cow_place bytes size block old p
  same_past p over = place_out bytes size block new p over ∙ sym (place_out bytes size block old p over)

  -- a place in the guest block is stored in the data block
  stored_there : (p : ℕ) → p < size → p / block ≡ w.start / block → cow_place bytes size block new p ≡ Stored (slice_index bytes (w.number * block + p % block)) 0 (w.number * block + p % block) true
  stored_there p under same = place_in bytes size block new p under ∙ ap (λ i. entry_place bytes block p (slice_get new i)) same ∙ ap (entry_place bytes block p) entered.at

  -- the byte that waits for a place of the guest block
  waits_there : (p : ℕ) → p / block ≡ w.start / block → waiting_byte block bytes w p ≡ slice_index bytes (w.number * block + p % block)
  waits_there p same =
      let a = div-add-mod' p block in
      let b = div-add-mod' w.start block in
      let c : p / block * block ≡ w.start / block * block = ap (λ x. x * block) same in
      let t : nat_lt p (waiting_from block w) ≡ false = let u : waiting_from block w ≤ p = omega (arith, a, b, c) in grind (arith, nat_tests) in
      let e : w.offset + p - w.start ≡ w.number * block + p % block = omega (arith, a, b, c, apart.offset) in
      rw t (ap (slice_index bytes) e)

  in_waiting : (k : ℕ) → k < w.length → (w.start + k) / block ≡ w.start / block
  in_waiting k h = same_block block positive w.start (w.start + k) (omega arith) (omega (arith, apart.in_block, h, rest_small block positive w.start))

  writable : PlacesAreWritableAt (cow_place bytes size block new) 0 w.offset w.length w.start
  writable k h =
      let same = in_waiting k h in
      let rest = same_rest block positive w.start (w.start + k) (omega arith) (omega (arith, apart.in_block, h, rest_small block positive w.start)) in
      let e : w.number * block + (w.start + k) % block ≡ w.offset + k = omega (arith, rest, apart.offset) in
      (slice_index bytes (w.number * block + (w.start + k) % block), stored_there (w.start + k) (omega (arith, h, apart.inside)) same ∙ ap (λ x. Stored (slice_index bytes (w.number * block + (w.start + k) % block)) 0 x true) e)

  -- round what waits a place shows the byte that it showed
  shows_same : (below : ℕ → Value) → ShowsRound (values below (cow_place bytes size block old)) (cow_pending block size bytes (Some w)) → (p : ℕ) → (p < w.start) ⊎ (w.start + w.length ≤ p)
      → values below (cow_place bytes size block new) p ≡ values below (cow_place bytes size block old) p
  shows_same below round p out = ⊎_elim
      (λ same. ⊎_elim
      (λ under.
      let a = div-add-mod' p block in
      let b = div-add-mod' w.start block in
      let c : p / block * block ≡ w.start / block * block = ap (λ x. x * block) same in
      let r = rest_small block positive p in
      let x : waiting_from block w ≤ p = omega (arith, a, b, c) in
      let y : p < min size (waiting_from block w + block) = omega (arith, a, b, c, r, under) in
      ap (shown below) (stored_there p under same) ∙ ap (λ v. Byte v) (sym (waits_there p same)) ∙ sym (round p x y out))
      (λ over. ap (shown below) (same_past p over))
      (cases_lt p size))
      (λ other. ap (shown below) (same_other p other))
      (same_or_not (p / block) (w.start / block))

  stays_there : (p : ℕ) → ((waiting_from block w ≤ p) × (p < min size (waiting_from block w + block)) → ⊥) → cow_place bytes size block new p ≡ cow_place bytes size block old p
  stays_there p out = ⊎_elim
      (λ same. ⊎_elim
      (λ under.
      let a = div-add-mod' p block in
      let b = div-add-mod' w.start block in
      let c : p / block * block ≡ w.start / block * block = ap (λ x. x * block) same in
      let r = rest_small block positive p in
      let x : waiting_from block w ≤ p = omega (arith, a, b, c) in
      let y : p < min size (waiting_from block w + block) = omega (arith, a, b, c, r, under) in
      absurd (out (x, y)))
      (λ over. same_past p over)
      (cases_lt p size))
      (λ other. same_other p other)
      (same_or_not (p / block) (w.start / block))

  pub committed : is_committed (cow_pending block size bytes (Some w)) (Some w.state) false (cow_view f faults bytes size block old blocks (Some w)) (cow_view f faults bytes size block new blocks None)
  committed = (
    λ e. writable,
    λ keeps below round. record {
      inside = λ k h. inl (ap (shown below) (stored_there (w.start + k) (omega (arith, h, apart.inside)) (in_waiting k h)) ∙ ap (λ v. Byte v) (sym (waits_there (w.start + k) (in_waiting k h))));
      before = λ p h. shows_same below round p (inl h);
      behind = λ p h. shows_same below round p (inr h);
    },
  )

  pub commit_reaches : ReachesNoMore (cow_view f faults bytes size block old blocks (Some w)) (cow_view f faults bytes size block new blocks None)
  commit_reaches p q v e =
      let x = lower_place bytes size block new p q v e in
      ⊎_elim
      (λ same. let y : Some (GuestBlock.Data w.number) ≡ Some GuestBlock.Absent = sym entered.at ∙ ap (slice_get new) (sym same) ∙ x.1 in let z : ⊥ = cc in absurd z)
      (λ other. (v, sym (same_other p other) ∙ e))
      (same_or_not (p / block) (w.start / block))

  -- what a commit may not move stays
  pub commit_outside : StayBut f.keeps_data (commit_moves (cow_pending block size bytes (Some w)) (Some w.state)) (cow_place bytes size block old) (cow_place bytes size block new)
  commit_outside = record {
    stored = λ p b s g v out e. (b, stays_there p out ∙ e);
    same = λ k p out. stays_there p out;
  }

  pub commit_framed : IsFramed (cow_view f faults bytes size block old blocks (Some w)) (cow_view f faults bytes size block new blocks None)
  commit_framed = record {
    kind = record { abilities = refl; store_count = refl; store_features = λ i. refl };
    size = refl;
    ends = λ p e. place_out bytes size block old p (from_size bytes size block new positive now_covers p e);
  }

  pub commit_settled : (a b : ℕ) → IsSettled IsOnRange (cow_cause f block size old blocks (Some w)) (cow_cause f block size new blocks None) (cow_copies block size old) (cow_copies block size new) a b
  commit_settled a b = record {
    causes = λ op c d q m e t h i j k x. cow_only f block size new blocks None op q m e (λ r. cow_cause f block size old blocks (Some w) op c d r) x
        (λ y. (
          y.0,
          data_wraps_more f block _ _ (count_settled (needs_data block size new None op q m) (needs_data block size old (Some w) op c d) (guest_count block size new op q m) (guest_count block size old op c d) blocks blocks
              (λ g. needs_more block size old new (Some w) None op c d q m g j k
              (λ s. ⊎_elim
              (λ same. right_holds (is_data (slice_get old g)) _ (left_holds (has_waiting block (Some w) g) _ (rw same (eq_true (w.start / block)))))
              (λ other. left_holds (is_data (slice_get old g)) _ (ap is_data (sym (entered.others g other)) ∙ s))
              (same_or_not g (w.start / block)))
              (λ s. let z : ⊥ = cc in absurd z))
              (let u = until_more block size op c d q m k in omega (arith, u, entered.len)) (omega arith)) (y.1),
        ));
    copied = λ op c d q m p t h i j k x. copies_more block size old new
        (λ g e. ⊎_elim
        (λ same. let y : Some (GuestBlock.Data w.number) ≡ Some GuestBlock.Absent = sym entered.at ∙ ap (slice_get new) (sym same) ∙ e in let z : ⊥ = cc in absurd z)
        (λ other. sym (entered.others g other) ∙ e)
        (same_or_not g (w.start / block)))
        op c d q m p j k x;
  }
