-- SPDX-License-Identifier: MIT
use Rattle.std.proofs.Common.{zero, suc, ◌≡◌, ℕ, ◌+◌, ◌-◌, ◌*◌, ◌/◌, ◌<◌, ◌≤◌, ⊎_elim, true, false, List, [], ◌∷◌, ◌++◌, length, take, replicate, length-append, Some, None, Ok, refl, sym, ap, ◌∙◌, arith}
use Rattle.std.specs.Prelude.{slice_get}
use Rattle.std.proofs.lemmas.Bool.{cases_lt}
use Rattle.std.proofs.lemmas.List.{length-take-le, length-replicate}
use Rattle.std.proofs.Math.Nat.{div-lt_iff_lt-mul, lt_of_mul-lt-mul_right}
use Rattle.imago_storage.specs.Features.{Features}
use Rattle.imago_drivers.specs.Place.{Lower, shown}
use Rattle.imago_drivers.specs.Calls.{IsShrink}
use Rattle.imago_cow.specs.declared.table.GuestBlock.{GuestBlock}
use Rattle.imago_cow.specs.Guest.{cow_place, entry_place, IsExact, Covers, AreAdded}
use Rattle.imago_cow.specs.CowLaws.{from_size}
use Rattle.imago_drivers.specs.Calls.{IsGrowth}
use Rattle.imago_drivers.specs.LayerBelow.{LayerBelow}
use Rattle.imago_drivers.specs.declared.format.PreallocateMode.{PreallocateMode}
use Rattle.imago_drivers.specs.Resized.{grown_into}
use Rattle.imago_cow.specs.GuestLaws.{place_in}
use Rattle.imago_cow.specs.Cow.{cow_view}

pub slice_get_take : {X : Type 0} (xs : List X) (n i : ℕ) → i < n → slice_get (take n xs) i ≡ slice_get xs i
slice_get_take xs zero i h = let z : ⊥ = omega arith in absurd z
slice_get_take [] (suc n) i h = refl
slice_get_take (x ∷ xs) (suc n) zero h = refl
slice_get_take (x ∷ xs) (suc n) (suc i) h = slice_get_take xs n i (omega arith)

-- what was taken is taken again by its own length
take_length : {X : Type 0} (xs : List X) (n : ℕ) → take (length (take n xs)) xs ≡ take n xs
take_length xs zero = refl
take_length [] (suc n) = refl
take_length (x ∷ xs) (suc n) = ap (λ t. x ∷ t) (take_length xs n)

pub taken_again : {X : Type 0} (n : ℕ) (old new : List X) → new ≡ take n old → new ≡ take (length new) old
taken_again n old new e = e ∙ sym (take_length old n) ∙ ap (λ t. take (length t) old) (sym e)

-- the entries that a cut disk needs are there
enough : (block size new_size len n : ℕ) → new_size ≤ size → size ≤ len * block → n * block < new_size + block → n ≤ len
enough block size new_size len n h covers near =
    let l : n * block < (len + 1) * block = omega arith in
    let m : n < len + 1 = lt_of_mul-lt-mul_right block l in
    omega arith

module _ (f : Features) (faults : ℕ) (bytes : List ℕ) (size block : ℕ) (old : List GuestBlock) (blocks new_size : ℕ) (positive : 0 < block) where
  -- a disk that was cut to its first guest blocks
  module _ (n : ℕ) (less : new_size ≤ size) (covers : new_size ≤ n * block) where
    same_place : (p : ℕ) → p < new_size → cow_place bytes new_size block (take n old) p ≡ cow_place bytes size block old p
    same_place p h =
        let l : p / block < n = (div-lt_iff_lt-mul positive).1 (omega (arith, h, covers)) in
        place_in bytes new_size block (take n old) p h ∙ ap (entry_place bytes block p) (slice_get_take old n (p / block) l) ∙ sym (place_in bytes size block old p (omega (arith, h, less)))

    pub cut_disk : IsShrink new_size (cow_view f faults bytes size block old blocks None) (cow_view f faults bytes new_size block (take n old) blocks None) (Ok tt)
    cut_disk = record {
      cut = record {
        size = omega (arith, less);
        kept = λ keeps below p h. ap (shown below) (same_place p h);
        ends = λ p h e. sym (same_place p h) ∙ e;
      };
      idle = λ h. refl;
      unchanged = tt;
      nothing_pending = refl;
      no_longer = λ i. omega arith;
      kind = record { abilities = refl; store_count = refl; store_features = λ i. refl };
      faults = record { later = omega arith; reliable = λ e. refl; device = λ e. let z : ⊥ = cc in absurd z };
      refusals = tt;
    }

  -- a disk that is as small already
  pub small_disk : size ≤ new_size → IsShrink new_size (cow_view f faults bytes size block old blocks None) (cow_view f faults bytes size block old blocks None) (Ok tt)
  small_disk small = record {
    cut = record {
      size = omega (arith, small);
      kept = λ keeps below p h. refl;
      ends = λ p h e. e;
    };
    idle = λ h. refl;
    unchanged = tt;
    nothing_pending = refl;
    no_longer = λ i. omega arith;
    kind = record { abilities = refl; store_count = refl; store_features = λ i. refl };
    faults = record { later = omega arith; reliable = λ e. refl; device = λ e. let z : ⊥ = cc in absurd z };
    refusals = tt;
  }

-- the entries of a cut disk are as many as it needs
pub exact_cut : (block size new_size n : ℕ) (old : List GuestBlock) → new_size ≤ size → IsExact size block old → new_size ≤ n * block → n * block < new_size + block → IsExact new_size block (take n old)
exact_cut block size new_size n old less exact covers near =
    let k : n ≤ length old = enough block size new_size (length old) n less exact.covers near in
    let l : length (take n old) ≡ n = length-take-le n old k in
    record {
      covers = rw l covers;
      near = rw l near;
    }

slice_get_left : {X : Type 0} (xs ys : List X) (i : ℕ) → i < length xs → slice_get (xs ++ ys) i ≡ slice_get xs i
slice_get_left [] ys i h = let z : ⊥ = omega arith in absurd z
slice_get_left (x ∷ xs) ys zero h = refl
slice_get_left (x ∷ xs) ys (suc i) h = slice_get_left xs ys i (omega arith)

slice_get_replicate : {X : Type 0} (n : ℕ) (y : X) (i : ℕ) → i < n → slice_get (replicate n y) i ≡ Some y
slice_get_replicate zero y i h = let z : ⊥ = omega arith in absurd z
slice_get_replicate (suc n) y zero h = refl
slice_get_replicate (suc n) y (suc i) h = slice_get_replicate n y i (omega arith)

-- each place of a new disk leads below
pub leads_below : (bytes : List ℕ) (size block n : ℕ) → size ≤ n * block → (p : ℕ) → p < size → cow_place bytes size block (replicate n GuestBlock.Absent) p ≡ Lower p false
leads_below bytes size block n covers p h =
    let positive : 0 < block = ⊎_elim (λ pos. pos)
    (λ none. let e : block ≡ 0 = omega (arith, none) in let z : ⊥ = omega (arith, ap (λ x. n * x) e, covers, h) in absurd z)
    (cases_lt 0 block) in
    let inside : p / block < n = (div-lt_iff_lt-mul positive).1 (omega (arith, h, covers)) in
    place_in bytes size block (replicate n GuestBlock.Absent) p h ∙ ap (entry_place bytes block p) (slice_get_replicate n GuestBlock.Absent (p / block) inside)

slice_get_added : {X : Type 0} (xs : List X) (n : ℕ) (y : X) (i : ℕ) → length xs ≤ i → i < length xs + n → slice_get (xs ++ replicate n y) i ≡ Some y
slice_get_added [] n y i h k = slice_get_replicate n y i (omega arith)
slice_get_added (x ∷ xs) n y zero h k = let z : ⊥ = omega arith in absurd z
slice_get_added (x ∷ xs) n y (suc i) h k = slice_get_added xs n y i (omega arith) (omega arith)

length_added : {X : Type 0} (xs : List X) (n : ℕ) (y : X) → length (xs ++ replicate n y) ≡ length xs + n
length_added xs n y = let a = length-append xs (replicate n y) in let b = length-replicate n y in omega (arith, a, b)

pub are_added : (entry : GuestBlock) (old : List GuestBlock) (n : ℕ) → AreAdded entry old (old ++ replicate n entry)
are_added entry old n =
    let l = length_added old n entry in
    record {
      no_fewer = omega (arith, l);
      kept = λ i h. slice_get_left old (replicate n entry) i h;
      added = λ i h k. slice_get_added old n entry i h (omega (arith, k, l));
    }

-- a larger disk needs no fewer entries
pub needs_no_fewer : (block size new_size len n : ℕ) → size ≤ new_size → new_size ≤ n * block → len * block < size + block → len ≤ n
needs_no_fewer block size new_size len n grows covers near =
    let l : len * block < (n + 1) * block = omega arith in
    let m : len < n + 1 = lt_of_mul-lt-mul_right block l in
    omega arith

pub exact_added : (block new_size n : ℕ) (entry : GuestBlock) (old : List GuestBlock) → length old ≤ n → new_size ≤ n * block → n * block < new_size + block → IsExact new_size block (old ++ replicate (n - length old) entry)
exact_added block new_size n entry old fewer covers near =
    let l : length (old ++ replicate (n - length old) entry) ≡ n = let a = length_added old (n - length old) entry in omega (arith, a, fewer) in
    record {
      covers = rw l covers;
      near = rw l near;
    }

module _ (f : Features) (faults : ℕ) (bytes : List ℕ) (size block : ℕ) (old new : List GuestBlock) (blocks new_size : ℕ) (positive : 0 < block) (l : LayerBelow) where
  module _ (entry : GuestBlock) (grows : size ≤ new_size) (before : Covers size block old) (covers : Covers new_size block new) (added : AreAdded entry old new) where
    kept_place : (p : ℕ) → p < size → cow_place bytes new_size block new p ≡ cow_place bytes size block old p
    kept_place p h =
        let k : p / block < length old = (div-lt_iff_lt-mul positive).1 (omega (arith, h, before)) in
        place_in bytes new_size block new p (omega (arith, h, grows)) ∙ ap (entry_place bytes block p) (added.kept (p / block) k) ∙ sym (place_in bytes size block old p h)

    -- a disk that grew by guest blocks alone
    pub grown_disk : (mode : PreallocateMode) → ((p : ℕ) → size ≤ p → p < new_size → grown_into mode true l.at p (shown l.at (cow_place bytes new_size block new p)))
        → IsGrowth mode l new_size (cow_view f faults bytes size block old blocks None) (cow_view f faults bytes new_size block new blocks None) (Ok tt)
    grown_disk mode shows = record {
      grown = record {
        size = omega (arith, grows);
        kept = λ keeps told p h. ap (shown l.at) (kept_place p h);
        added = λ keeps told p h k. shows p h k;
        ends = λ p h e. sym (kept_place p h) ∙ e;
        listed = λ was p h e. let past = from_size bytes new_size block new positive covers p e in omega (arith, past, h);
      };
      idle = λ h. refl;
      unchanged = tt;
      nothing_pending = refl;
      no_longer = λ i. omega arith;
      kind = record { abilities = refl; store_count = refl; store_features = λ i. refl };
      faults = record { later = omega arith; reliable = λ e. refl; device = λ e. let z : ⊥ = cc in absurd z };
      refusals = tt;
    }

    pub grown_absent : IsGrowth PreallocateMode.None l new_size (cow_view f faults bytes size block old blocks None) (cow_view f faults bytes new_size block new blocks None) (Ok tt)
    grown_absent = grown_disk PreallocateMode.None (λ p h k. tt)
