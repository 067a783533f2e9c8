-- SPDX-License-Identifier: MIT
use Rattle.std.specs.Prelude.{◌≡◌, ℕ, zero, suc, ◌+◌, ◌-◌, ◌*◌, ◌%◌, ◌/◌, ◌<◌, ◌≤◌, ◌⊎◌, ◌&&◌, ◌||◌}
use Rattle.std.specs.Prelude.{Bool, true, false, List, length, slice_get, if◌then◌else◌, nat_lt}
use Rattle.std.specs.Prelude.{refl}
use Rattle.std.proofs.Common.{arith, sym, ap, ◌∙◌, ⊎_elim, inl, inr}
use Rattle.std.proofs.lemmas.Bool.{cases_lt}
use Rattle.std.proofs.lemmas.Bool.Decides.{nat_tests}
use Rattle.std.proofs.lemmas.Nat.{div-add-mod', div-mul-add, mod-mul-add}
use Rattle.std.proofs.Math.Nat.{mod-lt, div-lt_iff_lt-mul}
use Rattle.imago_drivers.specs.Place.{End}
use Rattle.imago_cow.specs.declared.table.GuestBlock.{GuestBlock}
use Rattle.imago_cow.specs.Guest.{entry_place, cow_place, Covers, number_of, is_touched}

module _ (block : ℕ) (positive : 0 < block) where
  pub rest_small : (p : ℕ) → p % block < block
  rest_small p = mod-lt p positive

  -- the offset r in block i lies in block i, at r
  pub block_of : (i r : ℕ) → r < block → (i * block + r) / block ≡ i
  block_of i r h = div-mul-add i block r h

  pub rest_of : (i r : ℕ) → r < block → (i * block + r) % block ≡ r
  rest_of i r h = mod-mul-add i block r h

  -- offsets of one block
  pub same_block : (o p : ℕ) → o ≤ p → p < o + (block - o % block) → p / block ≡ o / block
  same_block o p h k =
      let e : p ≡ o / block * block + (o % block + (p - o)) = omega (arith, div-add-mod' o block) in
      let t : o % block + (p - o) < block = omega (arith, rest_small o) in
      ap (λ x. x / block) e ∙ block_of (o / block) (o % block + (p - o)) t

  pub same_rest : (o p : ℕ) → o ≤ p → p < o + (block - o % block) → p % block ≡ o % block + (p - o)
  same_rest o p h k =
      let e : p ≡ o / block * block + (o % block + (p - o)) = omega (arith, div-add-mod' o block) in
      let t : o % block + (p - o) < block = omega (arith, rest_small o) in
      ap (λ x. x % block) e ∙ rest_of (o / block) (o % block + (p - o)) t

  -- an offset between a block's ends lies in it
  pub lies_in : (i p : ℕ) → i * block ≤ p → p < i * block + block → p / block ≡ i
  lies_in i p h k =
      let e : p ≡ i * block + (p - i * block) = omega arith in
      let t : p - i * block < block = omega arith in
      ap (λ x. x / block) e ∙ block_of i (p - i * block) t

  -- an offset of the storage is one byte of one data block
  pub one_number : (j k a b : ℕ) → a < block → b < block → j * block + a ≡ k * block + b → j ≡ k
  one_number j k a b h l e = sym (block_of j a h) ∙ ap (λ x. x / block) e ∙ block_of k b l

  pub one_rest : (j k a b : ℕ) → a < block → b < block → j * block + a ≡ k * block + b → a ≡ b
  one_rest j k a b h l e = sym (rest_of j a h) ∙ ap (λ x. x % block) e ∙ rest_of k b l

  -- offsets with one block and one rest are one
  pub one_offset : (p q : ℕ) → p / block ≡ q / block → p % block ≡ q % block → p ≡ q
  one_offset p q e f = sym (div-add-mod' p block) ∙ ap (λ x. x * block + p % block) e
      ∙ ap (λ x. q / block * block + x) f ∙ div-add-mod' q block

  -- each place of the disk has an entry
  pub entry_at : (size : ℕ) (entries : List GuestBlock) (p : ℕ) → Covers size block entries
      → p < size → p / block < length entries
  entry_at size entries p c h = (div-lt_iff_lt-mul positive).1 (omega (arith, c, h))

pub place_in : (bytes : List ℕ) (size block : ℕ) (entries : List GuestBlock) (p : ℕ) → p < size
    → cow_place bytes size block entries p ≡ entry_place bytes block p
    (slice_get entries (p / block))
place_in bytes size block entries p h = let t : nat_lt p size ≡ true = grind (arith, nat_tests) in
    rw t refl

pub place_out : (bytes : List ℕ) (size block : ℕ) (entries : List GuestBlock) (p : ℕ) → size ≤ p
    → cow_place bytes size block entries p ≡ End
place_out bytes size block entries p h = let t : nat_lt p size ≡ false = grind (arith, nat_tests) in
    rw t refl

-- A greater count comes from a test that passes wherever the other does, over as many numbers or
-- more.
one_of : (a b : Bool) → (a ≡ true → b ≡ true) → (if a then 1 else 0) ≤ (if b then 1 else 0)
one_of true true h = omega arith
one_of true false h = let x = h refl in let z : ⊥ = cc in absurd z
one_of false b h = omega arith

pub number_more : (f g : ℕ → Bool) (m : ℕ) → ((i : ℕ) → i < m → f i ≡ true → g i ≡ true)
    → number_of f m ≤ number_of g m
unfolding number_of
number_more f g zero h = omega arith
number_more f g (suc m) h = let x = one_of (f m) (g m) (h m (omega arith)) in
    let y = number_more f g m (λ i l. h i (omega arith)) in omega (arith, x, y)

pub number_longer : (f : ℕ → Bool) (m k : ℕ) → number_of f m ≤ number_of f (k + m)
unfolding number_of
number_longer f m zero = let e : 0 + m ≡ m = omega arith in rw e (omega arith)
number_longer f m (suc k) = let x = number_longer f m k in
    let e : suc k + m ≡ suc (k + m) = omega arith in rw e (omega (arith, x))

pub below_true : (a b : ℕ) → nat_lt a b ≡ true → a < b
below_true a b e = ⊎_elim (λ under. under)
    (λ over. let x : nat_lt a b ≡ false = grind (arith, nat_tests) in let z : ⊥ = cc in absurd z)
    (cases_lt a b)

pub true_below : (a b : ℕ) → a < b → nat_lt a b ≡ true
true_below a b h = grind (arith, nat_tests)

pub left_true : (a b : Bool) → (a && b) ≡ true → a ≡ true
left_true true b e = refl
left_true false b e = let z : ⊥ = cc in absurd z

pub right_true : (a b : Bool) → (a && b) ≡ true → b ≡ true
right_true true b e = e
right_true false b e = let z : ⊥ = cc in absurd z

pub both_hold : (a b : Bool) → a ≡ true → b ≡ true → (a && b) ≡ true
both_hold true b e f = f
both_hold false b e f = let z : ⊥ = cc in absurd z

pub one_holds : (a b : Bool) → (a || b) ≡ true → (a ≡ true) ⊎ (b ≡ true)
one_holds true b e = inl refl
one_holds false b e = inr e

pub left_holds : (a b : Bool) → a ≡ true → (a || b) ≡ true
left_holds true b e = refl
left_holds false b e = let z : ⊥ = cc in absurd z

pub right_holds : (a b : Bool) → b ≡ true → (a || b) ≡ true
right_holds true b e = refl
right_holds false b e = e

-- what a touched block is
pub record Touches (block from until i : ℕ) : Type 0 where
  pub some : from < until
  pub begins : i * block < until
  pub ends : from < i * block + block

pub touches : (block from until i : ℕ) → is_touched block from until i ≡ true
    → Touches block from until i
touches block from until i e =
    let r = right_true (nat_lt from until) (nat_lt (i * block) until
    && nat_lt from (i * block + block)) e in
    record {
      some = below_true from until
          (left_true (nat_lt from until) (nat_lt (i * block) until
          && nat_lt from (i * block + block)) e);
      begins = below_true (i * block) until
          (left_true (nat_lt (i * block) until) (nat_lt from (i * block + block)) r);
      ends = below_true from (i * block + block)
          (right_true (nat_lt (i * block) until) (nat_lt from (i * block + block)) r);
    }

pub touched_by : (block from until i : ℕ) → Touches block from until i
    → is_touched block from until i ≡ true
touched_by block from until i t =
    both_hold (nat_lt from until) (nat_lt (i * block) until && nat_lt from (i * block + block))
    (true_below from until t.some)
    (both_hold (nat_lt (i * block) until) (nat_lt from (i * block + block))
    (true_below (i * block) until t.begins) (true_below from (i * block + block) t.ends))

pub touched_more : (block from until from' until' i : ℕ) → from' ≤ from → until ≤ until'
    → is_touched block from until i ≡ true → is_touched block from' until' i ≡ true
touched_more block from until from' until' i h k e =
    let t = touches block from until i e in
    touched_by block from' until' i
    (record {
      some = omega (arith, t.some);
      begins = omega (arith, t.begins);
      ends = omega (arith, t.ends);
    })

-- the block of a place of the range is touched
pub touched_at : (block : ℕ) → 0 < block → (from until p : ℕ) → from ≤ p → p < until
    → is_touched block from until (p / block) ≡ true
touched_at block positive from until p h k =
    let e = div-add-mod' p block in
    let r = rest_small block positive p in
    touched_by block from until (p / block)
    (record { some = omega arith; begins = omega (arith, e); ends = omega (arith, e, r) })
