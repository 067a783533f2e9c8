-- SPDX-License-Identifier: MIT
use Rattle.std.proofs.Common.{◌≡◌, ℕ, ◌+◌, ◌-◌, ◌*◌, ◌/◌, ◌%◌, ◌<◌, ◌≤◌, Bool, true, List, Option, Some, None, refl, sym, subst, ap, ◌∙◌, arith, Ok, min}
use Rattle.std.specs.Prelude.{slice_get, slice_index, length}
use Rattle.imago_storage.specs.Features.{Features}
use Rattle.imago_drivers.specs.Operation.{Write}
use Rattle.imago_drivers.specs.Place.{Value, Stored, PlacesAreWritableAt}
use Rattle.imago_drivers.specs.LayerBelow.{LayerBelow}
use Rattle.imago_drivers.specs.Laws.{AreCauses}
use Rattle.imago_drivers.specs.Calls.{IsPreparation}
use Rattle.imago_drivers.specs.Prepared.{IsPrepared}
use Rattle.imago_drivers.specs.View.{View}
use Rattle.imago_drivers.specs.declared.mapping.PreparedDataMapping.{PreparedDataMapping}
use Rattle.imago_drivers.specs.declared.mapping.Ticket.{Ticket}
use Rattle.imago_cow.specs.declared.table.GuestBlock.{GuestBlock}
use Rattle.imago_cow.specs.Guest.{entry_place, cow_place}
use Rattle.imago_cow.specs.GuestLaws.{rest_small, same_block, same_rest, place_in}
use Rattle.imago_cow.specs.Cow.{cow_view, IsDirect}
use Rattle.imago_cow.specs.CowLaws.{data_count_more}
use Rattle.imago_cow.proofs.WholeSteps.{times_more}
use Rattle.imago_cow.proofs.PrepareSteps.{padded_more}

-- an entry that isn't data names no data block
pub not_in_data : (e : Option GuestBlock) (x : GuestBlock) (j : ℕ) → e ≡ Some x → ((k : ℕ) → x ≡ GuestBlock.Data k → ⊥) → e ≡ Some (GuestBlock.Data j) → ⊥
not_in_data e x j is none here = let t : Some x ≡ Some (GuestBlock.Data j) = sym is ∙ here in let s : x ≡ GuestBlock.Data j = cc in none j s

-- a preparing that changes nothing
pub stands_prepared : {St : Type 0} (v : View St) (l : LayerBelow) (o n : ℕ) → v.pending ≡ None → AreCauses v → (m : PreparedDataMapping St) → IsPreparation l o n v v (Ok m)
stands_prepared v l o n spent laws m = record {
  unchanged = record {
    framed = record { kind = record { abilities = refl; store_count = refl; store_features = λ i. refl }; size = refl; ends = λ p x. x };
    places = record { stored = λ p b s f w x. (b, x); same = λ k p. refl };
    reaches = λ p q w x. (w, x);
  };
  refused = tt;
  causes = record { causes = λ op a c q k e t h i j x y. laws.part op a c q k e j x y; copied = λ op a c q k p t h i j x y. laws.part_copied op a c q k p j x y };
  lengths = record { no_shorter = λ i. omega arith; no_longer = λ i. omega arith };
  faults = record { later = omega arith; reliable = λ x. refl; device = λ x. let z : ⊥ = cc in absurd z };
  refusals = tt;
}

module _ (f : Features) (count : ℕ) (bytes : List ℕ) (size block : ℕ) (entries : List GuestBlock) (blocks o n : ℕ) (positive : 0 < block) (inside : o + n ≤ size) where
  -- the places of a range of a guest block in a data block stand there
  stands_at : (j run : ℕ) → slice_get entries (o / block) ≡ Some (GuestBlock.Data j) → run ≤ n → run ≤ block - o % block → PlacesAreWritableAt (cow_place bytes size block entries) 0 (j * block + o % block) run o
  stands_at j run at within short k h =
      let small : o + k < o + (block - o % block) = omega (arith, h, short) in
      let under : o + k < size = omega (arith, h, within, inside) in
      let rest = same_rest block positive o (o + k) (omega arith) small in
      let e : j * block + (o + k) % block ≡ j * block + o % block + k = omega (arith, rest) in (
        slice_index bytes (j * block + (o + k) % block),
        place_in bytes size block entries (o + k) under ∙ ap (λ x. entry_place bytes block (o + k) (slice_get entries x)) (same_block block positive o (o + k) (omega arith) small) ∙ ap (entry_place bytes block (o + k)) at
            ∙ ap (λ x. Stored (slice_index bytes (j * block + (o + k) % block)) 0 x true) e,
      )

  -- a mapping of bytes that stand in the data block already
  pub prepared_existing : (j run : ℕ) (overwrite told : Bool) (disk : ℕ → Value) (m : PreparedDataMapping Ticket) → slice_get entries (o / block) ≡ Some (GuestBlock.Data j) → 0 < n → run ≡ min n (block - o % block)
      → m.storage ≡ 0 → m.offset ≡ j * block + o % block → m.length ≡ run → m.state ≡ None
      → IsPrepared o n overwrite told disk (cow_view f count bytes size block entries blocks None) (cow_view f count bytes size block entries blocks None) m
  prepared_existing j run overwrite told disk m at some len storage offset long state =
      let r = rest_small block positive o in
      record {
        within = omega (arith, long, len);
        some = λ h. omega (arith, long, len, r, some);
        part = long ∙ len;
        whole = λ h. omega (arith, long, len, h);
        no_memory = λ h. let all : n ≡ m.length = omega (arith, long, len, h.whole) in (h, subst (λ k. IsDirect f f.write_memory (length bytes) block entries o k) all h, λ t. t.1);
        later = λ i.
            let a = data_count_more block size entries blocks None Write o n o m.length (omega arith) (omega (arith, long, len)) in
            let b = padded_more f _ _ (times_more block _ _ a) in
            omega (arith, b);
        direct = λ e. (refl, rw (storage, offset, long) (stands_at j run at (omega (arith, len)) (omega (arith, len))));
        apart = λ s e. let x : None ≡ Some s = sym state ∙ e in let z : ⊥ = cc in absurd z;
        around = λ q e. let z : ⊥ = cc in absurd z;
        near = λ q e. let z : ⊥ = cc in absurd z;
        round = λ keeps tells. tt;
      }

  -- an empty mapping
  pub prepared_none : (overwrite told : Bool) (disk : ℕ → Value) (m : PreparedDataMapping Ticket) → n ≡ 0 → m.length ≡ 0 → m.state ≡ None
      → IsPrepared o n overwrite told disk (cow_view f count bytes size block entries blocks None) (cow_view f count bytes size block entries blocks None) m
  prepared_none overwrite told disk m none long state = record {
    within = omega (arith, long);
    some = λ h. absurd (omega (arith, h, none));
    part = omega (arith, long, none);
    whole = λ h. omega (arith, long, none);
    no_memory = λ h. let all : n ≡ m.length = omega (arith, long, none) in (h, subst (λ k. IsDirect f f.write_memory (length bytes) block entries o k) all h, λ t. t.1);
    later = λ i.
        let a = data_count_more block size entries blocks None Write o n o m.length (omega arith) (omega (arith, long)) in
        let b = padded_more f _ _ (times_more block _ _ a) in
        omega (arith, b);
    direct = λ e. (refl, λ k h. absurd (omega (arith, h, long)));
    apart = λ s e. let x : None ≡ Some s = sym state ∙ e in let z : ⊥ = cc in absurd z;
    around = λ q e. let z : ⊥ = cc in absurd z;
    near = λ q e. let z : ⊥ = cc in absurd z;
    round = λ keeps tells. tt;
  }
