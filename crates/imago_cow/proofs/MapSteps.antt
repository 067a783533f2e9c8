-- SPDX-License-Identifier: MIT
use Rattle.std.proofs.Common.{◌≡◌, ℕ, ◌+◌, ◌-◌, ◌*◌, ◌/◌, ◌%◌, ◌<◌, ◌≤◌, ◌⊎◌, ⊎_elim, inl, inr, true, false, List, Some, refl, sym, ap, ◌∙◌, arith, min}
use Rattle.std.specs.Prelude.{slice_get, slice_index}
use Rattle.std.proofs.Math.Nat.{mul-le-mul_right}
use Rattle.imago_drivers.specs.declared.mapping.ShallowMapping.{ShallowMapping}
use Rattle.imago_drivers.specs.Place.{Stored, Refused, End, PlacesStandAt}
use Rattle.imago_drivers.specs.Mapping.{IsRight, Names, IsEof}
use Rattle.imago_cow.specs.declared.table.GuestBlock.{GuestBlock}
use Rattle.imago_cow.specs.Guest.{Covers, entry_place, cow_place}
use Rattle.imago_cow.specs.GuestLaws.{rest_small, same_block, same_rest, place_in, place_out}
use Rattle.imago_cow.specs.CowLaws.{from_size, below_size, no_refused, stored_place}

-- data block j ends by the last one's end
pub number_ends : (block j count : ℕ) → j < count → j * block + block ≤ count * block
number_ends block j count h = let x : (j + 1) * block ≤ count * block = mul-le-mul_right block (omega arith) in omega (arith, x)

module _ (bytes : List ℕ) (size block : ℕ) (entries : List GuestBlock) (o most : ℕ) (positive : 0 < block) (covers : Covers size block entries) where
  -- past the end
  pub right_end : size ≤ o → IsRight (cow_place bytes size block entries) o most ShallowMapping.Eof 0
  right_end h = record {
    names = λ i l. absurd (omega arith);
    first = λ e. absurd (e (place_out bytes size block entries o h));
    eof = (λ e. place_out bytes size block entries o h, λ e. tt);
    no_refusal = λ e r. let x : End ≡ Refused e = sym (place_out bytes size block entries o h) ∙ r in let z : ⊥ = cc in z;
    empty = λ e. inl (place_out bytes size block entries o h);
  }

  -- a place of the same guest block has the same entry
  pub place_of : (entry : GuestBlock) (i n : ℕ) → slice_get entries (o / block) ≡ Some entry → o < size → n ≡ min (min most (block - o % block)) (size - o) → (i < n) ⊎ (i ≡ 0)
      → cow_place bytes size block entries (o + i) ≡ entry_place bytes block (o + i) (Some entry)
  place_of entry i n at inside len h =
      let r = rest_small block positive o in
      let small : o + i < o + (block - o % block) = ⊎_elim (λ l. omega (arith, l, len)) (λ l. omega (arith, l, r)) h in
      let under : o + i < size = ⊎_elim (λ l. omega (arith, l, len)) (λ l. omega (arith, l, inside)) h in
      place_in bytes size block entries (o + i) under ∙ ap (λ x. entry_place bytes block (o + i) (slice_get entries x)) (same_block block positive o (o + i) (omega arith) small) ∙ ap (entry_place bytes block (o + i)) at

  -- inside, by what the entry is
  right_inside : (entry : GuestBlock) (m : ShallowMapping) (n : ℕ) → slice_get entries (o / block) ≡ Some entry → o < size → n ≡ min (min most (block - o % block)) (size - o)
      → ((i : ℕ) → (i < n) ⊎ (i ≡ 0) → Names m i (entry_place bytes block (o + i) (Some entry))) → (IsEof m → ⊥)
      → IsRight (cow_place bytes size block entries) o most m n
  right_inside entry m n at inside len names no_end =
      let first : Names m 0 (cow_place bytes size block entries o) =
      let e : o + 0 ≡ o = omega arith in
      let x : Names m 0 (cow_place bytes size block entries (o + 0)) = rw (place_of entry 0 n at inside len (inr refl)) (names 0 (inr refl)) in
      rw e at x in
      record {
        names = λ i l. rw (place_of entry i n at inside len (inl l)) (names i (inl l));
        first = λ e. first;
        eof = (λ e. absurd (no_end e), λ e. absurd (omega (arith, inside, from_size bytes size block entries positive covers o e)));
        no_refusal = λ e r. let x = below_size bytes size block entries o (Refused e) r (λ y. let z : ⊥ = cc in z) in no_refused bytes block o (slice_get entries (o / block)) e (x.1);
        empty = λ e. inr (omega (arith, e, len, inside, rest_small block positive o));
      }

  pub right_absent : (n : ℕ) → slice_get entries (o / block) ≡ Some GuestBlock.Absent → o < size → n ≡ min (min most (block - o % block)) (size - o) → IsRight (cow_place bytes size block entries) o most (ShallowMapping.Indirect o false) n
  right_absent n at inside len = right_inside GuestBlock.Absent (ShallowMapping.Indirect o false) n at inside len (λ i h. refl) (λ e. e)

  pub right_zero : (n : ℕ) → slice_get entries (o / block) ≡ Some GuestBlock.Zero → o < size → n ≡ min (min most (block - o % block)) (size - o) → IsRight (cow_place bytes size block entries) o most (ShallowMapping.Zero true) n
  right_zero n at inside len = right_inside GuestBlock.Zero (ShallowMapping.Zero true) n at inside len (λ i h. refl) (λ e. e)

  pub right_data : (j n : ℕ) → slice_get entries (o / block) ≡ Some (GuestBlock.Data j) → o < size → n ≡ min (min most (block - o % block)) (size - o) → IsRight (cow_place bytes size block entries) o most (ShallowMapping.Raw 0 (j * block + o % block) true) n
  right_data j n at inside len = right_inside (GuestBlock.Data j) (ShallowMapping.Raw 0 (j * block + o % block) true) n at inside len
      (λ i h.
      let r = rest_small block positive o in
      let small : o + i < o + (block - o % block) = ⊎_elim (λ l. omega (arith, l, len)) (λ l. omega (arith, l, r)) h in
      let rest = same_rest block positive o (o + i) (omega arith) small in
      let e : j * block + (o + i) % block ≡ j * block + o % block + i = omega (arith, rest) in
      (slice_index bytes (j * block + (o + i) % block), ap (λ x. Stored (slice_index bytes (j * block + (o + i) % block)) 0 x true) e))
      (λ e. e)

-- bytes of the storage that places stand at lie in the data blocks
pub stands_within : (bytes : List ℕ) (size block : ℕ) (entries : List GuestBlock) (blocks s offset n o : ℕ) → 0 < block → ((i j : ℕ) → slice_get entries i ≡ Some (GuestBlock.Data j) → j < blocks)
    → 0 < n → PlacesStandAt (cow_place bytes size block entries) s offset n o → offset + n ≤ blocks * block
stands_within bytes size block entries blocks s offset n o positive known some at =
    let a = at (n - 1) (omega arith) in
    let x = (stored_place bytes size block entries (o + (n - 1)) (a.0) s (offset + (n - 1)) (a.1) (a.2)).1 in
    let y = number_ends block x.number blocks (known ((o + (n - 1)) / block) x.number x.named) in
    let r = rest_small block positive (o + (n - 1)) in
    omega (arith, x.offset, y, r, some)
