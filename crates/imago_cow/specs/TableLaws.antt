-- SPDX-License-Identifier: MIT
use Prim.Native.Nat.{zero, suc}
use Rattle.std.specs.Prelude.{◌≡◌, ℕ, ◌+◌, ◌<◌, ◌≤◌, List, [], ◌∷◌, Option, Some, slice_get}
use Rattle.std.proofs.Common.{⊎_elim, ap, ◌∙◌, arith}
use Rattle.std.proofs.lemmas.Bool.{cases_lt}
use Rattle.std.proofs.lemmas.Bool.Decides.{nat_tests}
use Rattle.std.proofs.lemmas.List.Sums.{sum_by-cons}
use Rattle.imago_cow.specs.declared.table.GuestBlock.{GuestBlock}
use Rattle.imago_cow.specs.declared.table.Table.{Table}
use Rattle.imago_cow.specs.Free.{one_if_same}
use Rattle.imago_cow.specs.Table.{names, times_named, times_held, one_below}
use Rattle.imago_cow.specs.TableView.{entries_of, held_of, count_of}

is_same : (n : ℕ) → one_if_same n n ≡ 1
is_same n = grind (arith, nat_tests)

at_most_one_below : (j count : ℕ) → one_below j count ≤ 1
at_most_one_below j count = grind (arith, nat_tests)

none_from : (j count : ℕ) → count ≤ j → one_below j count ≡ 0
none_from j count h = grind (arith, nat_tests)

-- an entry that names a data block counts
counts : (entries : List GuestBlock) (i j : ℕ) → slice_get entries i ≡ Some (GuestBlock.Data j)
    → 1 ≤ times_named j entries
counts [] i j e = let z : ⊥ = cc in absurd z
counts (x ∷ xs) zero j e =
    let a : times_named j (x ∷ xs) ≡ names j x + times_named j xs = sum_by-cons (names j) x xs in
    let x_is : x ≡ GuestBlock.Data j = cc in
    let b : names j x ≡ 1 = ap (names j) x_is ∙ is_same j in
    omega (arith, a, b)
counts (x ∷ xs) (suc i) j e =
    let a : times_named j (x ∷ xs) ≡ names j x + times_named j xs = sum_by-cons (names j) x xs in
    let r = counts xs i j e in
    omega (arith, a, r)

-- two such entries count twice
counts_twice : (entries : List GuestBlock) (i k j : ℕ) → i < k
    → slice_get entries i ≡ Some (GuestBlock.Data j)
    → slice_get entries k ≡ Some (GuestBlock.Data j) → 2 ≤ times_named j entries
counts_twice [] i k j l e f = let z : ⊥ = cc in absurd z
counts_twice (x ∷ xs) zero zero j l e f = let z : ⊥ = omega arith in absurd z
counts_twice (x ∷ xs) (suc i) zero j l e f = let z : ⊥ = omega arith in absurd z
counts_twice (x ∷ xs) zero (suc k) j l e f =
    let a : times_named j (x ∷ xs) ≡ names j x + times_named j xs = sum_by-cons (names j) x xs in
    let x_is : x ≡ GuestBlock.Data j = cc in
    let b : names j x ≡ 1 = ap (names j) x_is ∙ is_same j in
    let c = counts xs k j f in
    omega (arith, a, b, c)
counts_twice (x ∷ xs) (suc i) (suc k) j l e f =
    let a : times_named j (x ∷ xs) ≡ names j x + times_named j xs = sum_by-cons (names j) x xs in
    let m : i < k = omega arith in
    let r = counts_twice xs i k j m e f in
    omega (arith, a, r)

-- No data block is used twice.
used_once : (t : Table) (j : ℕ) → times_named j (entries_of t) + times_held j (held_of t) ≤ 1
used_once t j = let a = t.each_once j in let b = at_most_one_below j (count_of t) in
    omega (arith, a, b)

-- What is used is below the count.
used_below : (t : Table) (j : ℕ) → 1 ≤ times_named j (entries_of t) + times_held j (held_of t)
    → j < count_of t
used_below t j h = ⊎_elim
    (λ below. below)
    (λ above. let a = t.each_once j in let b = none_from j (count_of t) above in
    let z : ⊥ = omega (arith, a, b, h) in absurd z)
    (cases_lt j (count_of t))

-- Two entries that name one data block are one entry.
pub named_once : (t : Table) (i k j : ℕ) → slice_get (entries_of t) i ≡ Some (GuestBlock.Data j)
    → slice_get (entries_of t) k ≡ Some (GuestBlock.Data j) → i ≡ k
named_once t i k j e f = ⊎_elim
    (λ below. let a = counts_twice (entries_of t) i k j below e f in let b = used_once t j in
    let z : ⊥ = omega (arith, a, b) in absurd z)
    (λ above. ⊎_elim
    (λ below. let a = counts_twice (entries_of t) k i j below f e in let b = used_once t j in
    let z : ⊥ = omega (arith, a, b) in absurd z)
    (λ over. omega (arith, above, over))
    (cases_lt k i))
    (cases_lt i k)

-- A data block that an entry names is there.
pub named_below : (t : Table) (i j : ℕ) → slice_get (entries_of t) i ≡ Some (GuestBlock.Data j)
    → j < count_of t
named_below t i j e = let a = counts (entries_of t) i j e in used_below t j (omega (arith, a))

held_counts : (held : Option ℕ) (j : ℕ) → held ≡ Some j → times_held j held ≡ 1
held_counts held j h = ap (times_held j) h ∙ is_same j

-- The held data block is there.
pub held_below : (t : Table) (j : ℕ) → held_of t ≡ Some j → j < count_of t
held_below t j h = let a = held_counts (held_of t) j h in used_below t j (omega (arith, a))

-- No entry names the held data block.
pub held_apart : (t : Table) (i j : ℕ) → held_of t ≡ Some j → slice_get (entries_of t) i
    ≡ Some (GuestBlock.Data j) → ⊥
held_apart t i j h e =
    let a = held_counts (held_of t) j h in
    let b = counts (entries_of t) i j e in
    let c = used_once t j in
    omega (arith, a, b, c)
