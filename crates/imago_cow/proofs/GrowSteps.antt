-- SPDX-License-Identifier: MIT
use Rattle.std.proofs.Common.{◌≡◌, ℕ, ◌+◌, ◌-◌, ◌*◌, ◌/◌, ◌%◌, ◌<◌, ◌≤◌, ◌&&◌, ⊎_elim, inl, inr, Bool, true, false, List, length, min, max, Option, Some, None, Result, Ok, Err, refl, sym, ap, ◌∙◌, arith}
use Rattle.std.specs.Prelude.{slice_get, slice_index, IsTrue, IfOk, OnErr}
use Rattle.std.proofs.lemmas.Bool.{cases_lt}
use Rattle.imago_storage.specs.declared.error.Error.{Error}
use Rattle.imago_storage.specs.Faults.{CountsFaults}
use Rattle.imago_storage.specs.Features.{Features}
use Rattle.imago_drivers.specs.Calls.{IsGrowth}
use Rattle.imago_drivers.specs.Lengths.{padded_to}
use Rattle.imago_drivers.specs.LayerBelow.{LayerBelow}
use Rattle.imago_drivers.specs.Operation.{Grow}
use Rattle.imago_drivers.specs.Place.{Value, Byte, Stored, Lower, End, shown}
use Rattle.imago_drivers.specs.Resized.{IsSameDisk, grown_into}
use Rattle.imago_drivers.specs.declared.format.PreallocateMode.{PreallocateMode}
use Rattle.imago_cow.specs.declared.table.GuestBlock.{GuestBlock}
use Rattle.imago_cow.specs.declared.table.GuestBlock.TheVariants as G
use Rattle.imago_cow.specs.Guest.{origin_in, entry_place, cow_place, Covers}
use Rattle.imago_cow.specs.Growth.{SameOutside}
use Rattle.imago_cow.specs.GuestLaws.{rest_small, rest_of, place_in, place_out}
use Rattle.imago_cow.specs.Cow.{cow_view, data_count}
use Rattle.imago_cow.specs.CowLaws.{from_size, lower_place}
use Rattle.imago_cow.proofs.WholeSteps.{times_next}

-- a byte of another data block than the one that was written into
pub other_block : (block : ℕ) → 0 < block → (old new : List ℕ) (j k a count p : ℕ) → a + count ≤ block → (k ≡ j → ⊥) → SameOutside (j * block + a) count old new → slice_index new (origin_in block k p) ≡ slice_index old (origin_in block k p)
other_block block positive old new j k a count p inside other same =
    let r = rest_small block positive p in
    ⊎_elim
    (λ below. same (origin_in block k p) (inl (omega (arith, times_next block k j below, r))))
    (λ above. ⊎_elim
    (λ behind. same (origin_in block k p) (inr (omega (arith, times_next block j k behind, inside))))
    (λ over. let e : k ≡ j = omega arith in absurd (other e))
    (cases_lt j k))
    (cases_lt k j)

-- a place of another data block, or of none
pub other_place : (block : ℕ) → 0 < block → (old new : List ℕ) (j a count p : ℕ) (entry : Option GuestBlock) → a + count ≤ block → (entry ≡ Some (GuestBlock.Data j) → ⊥) → SameOutside (j * block + a) count old new
    → entry_place new block p entry ≡ entry_place old block p entry
other_place block positive old new j a count p None inside other same = refl
other_place block positive old new j a count p (Some G.Absent) inside other same = refl
other_place block positive old new j a count p (Some G.Zero) inside other same = refl
other_place block positive old new j a count p (Some (G.Data k)) inside other same =
    ap (λ b. Stored b 0 (origin_in block k p) true) (other_block block positive old new j k a count p inside (λ e. other (ap (λ n. Some (GuestBlock.Data n)) e)) same)

module _ (f : Features) (faults faults' : ℕ) (bytes bytes' : List ℕ) (size block : ℕ) (old new : List GuestBlock) (blocks blocks' new_size : ℕ) (positive : 0 < block) (l : LayerBelow) (mode : PreallocateMode) where
  -- a growth that took data blocks and filled them
  pub grown_filled : size ≤ new_size → Covers new_size block new
      → (IsTrue f.keeps_data → IsTrue l.tells_bytes → (p : ℕ) → p < size → shown l.at (cow_place bytes' new_size block new p) ≡ shown l.at (cow_place bytes size block old p))
      → (IsTrue f.keeps_data → IsTrue l.tells_bytes → (p : ℕ) → size ≤ p → p < new_size → grown_into mode true l.at p (shown l.at (cow_place bytes' new_size block new p)))
      → length bytes' ≤ max (length bytes) (padded_to f 0 (data_count block size old blocks None (Grow mode) new_size 0 * block))
      → CountsFaults {T = Unit {0}} (f.is_reliable && l.is_reliable) faults faults' (Ok tt)
      → IsGrowth mode l new_size (cow_view f faults bytes size block old blocks None) (cow_view f faults' bytes' new_size block new blocks' None) (Ok tt)
  grown_filled grows covers kept added longer counted = record {
    grown = record {
      size = omega (arith, grows);
      kept = kept;
      added = added;
      ends = λ p h e. let past = from_size bytes' new_size block new positive covers p e in let z : ⊥ = omega (arith, past, h, grows) in absurd z;
      listed = λ was p h e. let past = from_size bytes' new_size block new positive covers p e in omega (arith, past, h);
    };
    idle = λ h. refl;
    unchanged = tt;
    nothing_pending = refl;
    no_longer = λ i. longer;
    kind = record { abilities = refl; store_count = refl; store_features = λ i. refl };
    faults = counted;
    refusals = tt;
  }

module _ (f : Features) (faults faults' : ℕ) (bytes bytes' : List ℕ) (size block : ℕ) (entries : List GuestBlock) (blocks blocks' : ℕ) where
  same_stored : (p : ℕ) (entry : Option GuestBlock) (b s o : ℕ) (w : Bool) → entry_place bytes block p entry ≡ Stored b s o w → (c : ℕ) × (entry_place bytes' block p entry ≡ Stored c s o w)
  same_stored p None b s o w e = let z : ⊥ = cc in absurd z
  same_stored p (Some G.Absent) b s o w e = let z : ⊥ = cc in absurd z
  same_stored p (Some G.Zero) b s o w e = let z : ⊥ = cc in absurd z
  same_stored p (Some (G.Data j)) b s o w e =
      let x : 0 ≡ s = cc in
      let y : origin_in block j p ≡ o = cc in
      let z : true ≡ w = cc in
      (slice_index bytes' (origin_in block j p), ap (λ n. Stored (slice_index bytes' (origin_in block j p)) n (origin_in block j p) true) x ∙ ap (λ n. Stored (slice_index bytes' (origin_in block j p)) s n true) y ∙ ap (λ v. Stored (slice_index bytes' (origin_in block j p)) s o v) z)

  -- what a refused growth leaves that may have filled data blocks which nothing names
  pub refused_filled : 0 < block → Covers size block entries → (IsTrue f.keeps_data → (p : ℕ) → p < size → cow_place bytes' size block entries p ≡ cow_place bytes size block entries p) → length bytes ≤ length bytes'
      → IsSameDisk (cow_view f faults bytes size block entries blocks None) (cow_view f faults' bytes' size block entries blocks' None)
  refused_filled positive covers same longer = record {
    size = refl;
    places = record {
      stored = λ p b s o w e.
          ⊎_elim
          (λ under.
          let x = same_stored p (slice_get entries (p / block)) b s o w (sym (place_in bytes size block entries p under) ∙ e) in
          (x.0, place_in bytes' size block entries p under ∙ x.1))
          (λ over. let x : End ≡ Stored b s o w = sym (place_out bytes size block entries p over) ∙ e in let z : ⊥ = cc in absurd z)
          (cases_lt p size);
      same = λ keeps p. ⊎_elim
          (λ under. same keeps p under)
          (λ over. place_out bytes' size block entries p over ∙ sym (place_out bytes size block entries p over))
          (cases_lt p size);
    };
    reaches = λ p q w e.
        let x = lower_place bytes' size block entries p q w e in
        (w, place_in bytes size block entries p (x.0) ∙ ap (entry_place bytes block p) (x.1) ∙ ap (λ n. Lower n false) (sym (x.2)) ∙ ap (λ v. Lower q v) (sym (x.3)));
    ends = λ p e. let past = from_size bytes' size block entries positive covers p e in place_out bytes size block entries p past;
    no_shorter = λ i. longer;
  }

-- data blocks that end at an offset, with one more that was taken
pub addressed_after : (most block count now : ℕ) (r : Result ℕ Error) → IfOk r (λ j. now ≡ max count (j + 1)) → IfOk r (λ j. j * block + block < most) → OnErr r (now ≡ count) → count * block < most → now * block < most
addressed_after most block count now (Ok j) is fits same h = ⊎_elim
    (λ under. let e : now ≡ j + 1 = omega (arith, is, under) in let x : now * block ≡ (j + 1) * block = ap (λ n. n * block) e in omega (arith, x, fits))
    (λ over. let e : now ≡ count = omega (arith, is, over) in let x : now * block ≡ count * block = ap (λ n. n * block) e in omega (arith, x, h))
    (cases_lt count (j + 1))
addressed_after most block count now (Err e) is fits same h = let x : now * block ≡ count * block = ap (λ n. n * block) same in omega (arith, x, h)

-- what was copied from a guest block's first place on is what its places show
pub copied_place : (at : ℕ → Value) (block m len n count end p : ℕ) (bytes : List ℕ) → 0 < block → m ≡ len → count ≡ min block (end - m * block)
    → ((k : ℕ) → k < count → at (m * block + k) ≡ Byte (slice_index bytes (n * block + k)))
    → len * block ≤ p → p < len * block + block → p < end → at p ≡ Byte (slice_index bytes (origin_in block n p))
copied_place at block m len n count end p bytes positive is c copied a b l =
    let t : m * block ≡ len * block = ap (λ x. x * block) is in
    let small : p - m * block < block = omega (arith, t, a, b) in
    let k : p - m * block < count = omega (arith, c, t, a, b, l) in
    let e : m * block + (p - m * block) ≡ p = omega (arith, t, a) in
    let r : p % block ≡ p - m * block = ap (λ x. x % block) (sym e) ∙ rest_of block positive m (p - m * block) small in
    ap at (sym e) ∙ copied (p - m * block) k ∙ ap (λ x. Byte (slice_index bytes (n * block + x))) (sym r)
