-- SPDX-License-Identifier: MIT
use Prim.Native.Nat.{zero, suc}
use Rattle.std.proofs.Common.{◌≡◌, ℕ, ◌+◌, ◌<◌, ◌≤◌, ⊎_elim, Bool, true, false, List, [], ◌∷◌, length, Some, refl, arith}
use Rattle.std.specs.Prelude.{slice_get, if◌then◌else◌}
use Rattle.std.proofs.lemmas.Bool.{cases_lt}
use Rattle.std.proofs.lemmas.List.Sums.{sum_by-cons}
use Rattle.imago_cow.specs.declared.table.GuestBlock.{GuestBlock}
use Rattle.imago_cow.specs.declared.table.GuestBlock.TheVariants as G
use Rattle.imago_cow.specs.Table.{names_any, named_count}
use Rattle.imago_cow.specs.Guest.{is_data, number_of}
use Rattle.imago_cow.specs.GuestLaws.{number_more}

-- the first number apart
number_shift : (f : ℕ → Bool) (m : ℕ) → number_of f (suc m) ≡ (if f 0 then 1 else 0) + number_of (λ i. f (suc i)) m
unfolding number_of
number_shift f zero = omega arith
number_shift f (suc m) = let x = number_shift f m in omega (arith, x)

is_one : (g : GuestBlock) → names_any g ≡ (if is_data (Some g) then 1 else 0)
is_one G.Absent = refl
is_one G.Zero = refl
is_one (G.Data j) = refl

-- the named data blocks, by the entries that name them
pub named_number : (entries : List GuestBlock) → named_count entries ≡ number_of (λ i. is_data (slice_get entries i)) (length entries)
unfolding number_of
named_number [] = refl
named_number (x ∷ xs) =
    let a : named_count (x ∷ xs) ≡ names_any x + named_count xs = sum_by-cons names_any x xs in
    let b = number_shift (λ i. is_data (slice_get (x ∷ xs) i)) (length xs) in
    let c = named_number xs in
    let d = is_one x in
    omega (arith, a, b, c, d)

one_less : (a b : Bool) → (a ≡ true → b ≡ true) → (if a then 1 else 0) ≤ (if b then 1 else 0)
one_less true true h = omega arith
one_less true false h = let x = h refl in let z : ⊥ = cc in absurd z
one_less false b h = omega arith

one_gap : (a b : Bool) → a ≡ false → b ≡ true → (if a then 1 else 0) + 1 ≤ (if b then 1 else 0)
one_gap false true e f = omega arith
one_gap false false e f = let z : ⊥ = cc in absurd z
one_gap true b e f = let z : ⊥ = cc in absurd z

-- a test that passes once more counts one more
pub number_one_more : (f g : ℕ → Bool) (m i : ℕ) → i < m → f i ≡ false → g i ≡ true → ((k : ℕ) → f k ≡ true → g k ≡ true) → number_of f m + 1 ≤ number_of g m
unfolding number_of
number_one_more f g zero i h off on sub = absurd (omega arith)
number_one_more f g (suc m) i h off on sub = ⊎_elim
    (λ under. let x = number_one_more f g m i under off on sub in let y = one_less (f m) (g m) (sub m) in omega (arith, x, y))
    (λ over.
    let e : m ≡ i = omega (arith, over, h) in
    let t : f m ≡ false = rw e off in
    let u : g m ≡ true = rw e on in
    let a = one_gap (f m) (g m) t u in
    let x = number_more f g m (λ k l. sub k) in
    omega (arith, a, x))
    (cases_lt i m)
