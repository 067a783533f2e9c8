-- SPDX-License-Identifier: MIT
use Rattle.std.proofs.Common.{suc, zero, ◌≡◌, ◌≢◌, ℕ, ◌+◌, ◌-◌, ◌<◌, ◌≤◌, ⊎_elim, List, [], ◌∷◌, length, Option, Some, None, refl, sym, ap, ◌∙◌, arith}
use Rattle.std.specs.Prelude.{sum_by, slice_set, slice_get, slice_index_or, take}
use Rattle.std.proofs.lemmas.Option.{slice_get_within, get_or_from_slice_get}
use Rattle.std.proofs.lemmas.Bool.{cases_lt}
use Rattle.std.proofs.lemmas.Bool.Decides.{nat_tests}
use Rattle.std.proofs.lemmas.List.Sums.{sum_by-cons}
use Rattle.std.proofs.lemmas.List.{take-take, take_all, length-take-le}
use Rattle.imago_cow.specs.declared.free.FreeBlocks.{FreeBlocks}
use Rattle.imago_cow.specs.declared.table.GuestBlock.{GuestBlock}
use Rattle.imago_cow.specs.declared.table.GuestBlock.TheVariants as G
use Rattle.imago_cow.specs.declared.table.WithoutData.{WithoutData}
use Rattle.imago_cow.specs.declared.table.WithoutData.TheVariants as W
use Rattle.imago_cow.specs.Free.{one_if_same, times_free, IsEmpty, IsLowest, IsWithout, IsSame}
use Rattle.imago_cow.specs.Table.{names, names_any, named_count, times_used, one_below, without_data, IsEachOnce, IsLowestUnused}

-- a sum over a list of which one item was replaced
pub sum_by_replaced : {X : Type 0} (f : X → ℕ) (xs : List X) (i : ℕ) (d y : X) → i < length xs → sum_by f (slice_set xs i y) + f (slice_index_or xs i d) ≡ sum_by f xs + f y
sum_by_replaced f [] i d y h = let z : ⊥ = omega arith in absurd z
sum_by_replaced f (x ∷ xs) zero d y h =
    let a = sum_by-cons f y xs in
    let b = sum_by-cons f x xs in
    omega (arith, a, b)
sum_by_replaced f (x ∷ xs) (suc i) d y h =
    let a = sum_by-cons f x (slice_set xs i y) in
    let b = sum_by-cons f x xs in
    let l : i < length xs = omega arith in
    let c = sum_by_replaced f xs i d y l in
    omega (arith, a, b, c)

-- a free block was taken
pub taken : (free rest : FreeBlocks) (j : ℕ) (entries : List GuestBlock) (count : ℕ) → IsWithout j free rest → IsEachOnce free entries None count → IsEachOnce rest entries (Some j) count
taken free rest j entries count w once k =
    let a = w.counts k in
    let d = once k in
    omega (arith, a, d)

-- one block isn't used any more, and is free
pub freed : (free more : FreeBlocks) (j : ℕ) (entries entries' : List GuestBlock) (held held' : Option ℕ) (count : ℕ) → IsWithout j more free → ((k : ℕ) → times_used k entries held ≡ one_if_same j k + times_used k entries' held') → IsEachOnce free entries held count → IsEachOnce more entries' held' count
freed free more j entries entries' held held' count w less once k =
    let a = w.counts k in
    let d = once k in
    let u = less k in
    omega (arith, a, d, u)

-- each block is used as often as before
pub moved : (free : FreeBlocks) (entries entries' : List GuestBlock) (held held' : Option ℕ) (count : ℕ) → ((k : ℕ) → times_used k entries' held' ≡ times_used k entries held) → IsEachOnce free entries held count → IsEachOnce free entries' held' count
moved free entries entries' held held' count same once k = ap (λ n. times_free k free + n) (same k) ∙ once k

one_more_below : (count k : ℕ) → one_if_same count k + one_below k count ≡ one_below k (count + 1)
one_more_below count k = grind (arith, nat_tests)

one_below_yes : (j count : ℕ) → j < count → one_below j count ≡ 1
one_below_yes j count h = grind (arith, nat_tests)

one_below_no : (j count : ℕ) → count ≤ j → one_below j count ≡ 0
one_below_no j count h = grind (arith, nat_tests)

-- a new block behind all others was taken
pub added : (free same : FreeBlocks) (entries : List GuestBlock) (count : ℕ) → IsEmpty free → IsSame free same → IsEachOnce free entries None count → IsEachOnce same entries (Some count) (count + 1)
added free same entries count empty s once k =
    let a = s.counts k in
    let c = empty.none k in
    let d = once k in
    let e = one_more_below count k in
    omega (arith, a, c, d, e)

-- what counts once is below the count
pub is_below : (j count n : ℕ) → 1 ≤ n → n ≤ one_below j count → j < count
is_below j count n h l = ⊎_elim (λ y. y) (λ no. let a = one_below_no j count no in let z : ⊥ = omega (arith, a) in absurd z) (cases_lt j count)

-- a free block is below the count
pub free_is_below : (free : FreeBlocks) (entries : List GuestBlock) (held : Option ℕ) (count j : ℕ) → IsLowest free j → IsEachOnce free entries held count → j < count
free_is_below free entries held count j low once =
    let o = once j in
    let s : times_free j free ≤ one_below j count = omega (arith, o) in
    is_below j count (times_free j free) low.among s

-- the lowest free one is the lowest that isn't used
pub free_is_lowest : (free : FreeBlocks) (entries : List GuestBlock) (held : Option ℕ) (count j : ℕ) → IsLowest free j → IsEachOnce free entries held count → IsLowestUnused entries held count j
free_is_lowest free entries held count j low once =
    let b = free_is_below free entries held count j low once in
    record {
      within = omega (arith, b);
      unused = let o = once j in let y = one_below_yes j count b in let a = low.among in omega (arith, a, o, y);
      lowest = λ k l.
          let f = low.none_lower k l in
          let m : k < count = omega (arith, b) in
          let n = one_below_yes k count m in
          let q = once k in
          omega (arith, f, n, q);
    }

-- where none is free, it's the count
pub count_is_lowest : (free : FreeBlocks) (entries : List GuestBlock) (held : Option ℕ) (count : ℕ) → IsEmpty free → IsEachOnce free entries held count → IsLowestUnused entries held count count
count_is_lowest free entries held count empty once = record {
  within = omega arith;
  unused =
      let o = once count in
      let n = one_below_no count count (omega arith) in
      let f = empty.none count in
      omega (arith, o, n, f);
  lowest = λ k l.
      let o = once k in
      let n = one_below_yes k count l in
      let f = empty.none k in
      omega (arith, o, n, f);
}

-- what an entry that isn't data counts
empty_entry : (k : ℕ) (g : GuestBlock) → ((j : ℕ) → g ≢ GuestBlock.Data j) → (names k g ≡ 0) × (names_any g ≡ 0)
empty_entry k G.Absent h = (refl, refl)
empty_entry k G.Zero h = (refl, refl)
empty_entry k (G.Data j) h = absurd (h j refl)

no_data_at : (entries : List GuestBlock) (i : ℕ) (d : GuestBlock) → i < length entries → ((j : ℕ) → slice_get entries i ≢ Some (GuestBlock.Data j)) → (j : ℕ) → slice_index_or entries i d ≢ GuestBlock.Data j
no_data_at [] i d h none j e = let z : ⊥ = omega arith in z
no_data_at (x ∷ xs) zero d h none j e = none j (ap Some e)
no_data_at (x ∷ xs) (suc i) d h none j e = let l : i < length xs = omega arith in no_data_at xs i d l none j e

-- the held block was entered where no data was
pub entered : (free : FreeBlocks) (entries : List GuestBlock) (i j count : ℕ) → i < length entries → ((j : ℕ) → slice_get entries i ≢ Some (GuestBlock.Data j)) → IsEachOnce free entries (Some j) count → IsEachOnce free (slice_set entries i (GuestBlock.Data j)) None count
entered free entries i j count l none once =
    let d : GuestBlock = GuestBlock.Absent in
    moved free entries (slice_set entries i (GuestBlock.Data j)) (Some j) None count
    (λ k.
    let r = sum_by_replaced (names k) entries i d (GuestBlock.Data j) l in
    let e = (empty_entry k (slice_index_or entries i d) (no_data_at entries i d l none)).0 in
    omega (arith, r, e))
    once

pub entered_count : (entries : List GuestBlock) (i j : ℕ) → i < length entries → ((j : ℕ) → slice_get entries i ≢ Some (GuestBlock.Data j)) → named_count (slice_set entries i (GuestBlock.Data j)) ≡ named_count entries + 1
entered_count entries i j l none =
    let d : GuestBlock = GuestBlock.Absent in
    let r = sum_by_replaced names_any entries i d (GuestBlock.Data j) l in
    let e = (empty_entry 0 (slice_index_or entries i d) (no_data_at entries i d l none)).1 in
    omega (arith, r, e)

-- what an entry without data counts
no_data_counts : (k : ℕ) (kind : WithoutData) → (names k (without_data kind) ≡ 0) × (names_any (without_data kind) ≡ 0)
no_data_counts k W.Absent = (refl, refl)
no_data_counts k W.Zero = (refl, refl)

-- a sum over a list of which one item was replaced, by that item
sum_by_put : (f : GuestBlock → ℕ) (xs : List GuestBlock) (i : ℕ) (x y : GuestBlock) → slice_get xs i ≡ Some x → sum_by f (slice_set xs i y) + f x ≡ sum_by f xs + f y
sum_by_put f xs i x y e =
    let l : i < length xs = slice_get_within xs i x e in
    let r = sum_by_replaced f xs i x y l in
    let g : f (slice_index_or xs i x) ≡ f x = ap f (get_or_from_slice_get xs i x x e) in
    omega (arith, r, g)

module _ (entries : List GuestBlock) (i : ℕ) (kind : WithoutData) where
  -- a guest block that was in a data block is without data
  pub cleared : (free more : FreeBlocks) (j : ℕ) (held : Option ℕ) (count : ℕ) → slice_get entries i ≡ Some (GuestBlock.Data j) → IsWithout j more free → IsEachOnce free entries held count → IsEachOnce more (slice_set entries i (without_data kind)) held count
  cleared free more j held count e w once =
      freed free more j entries (slice_set entries i (without_data kind)) held held count w
      (λ k.
      let r = sum_by_put (names k) entries i (GuestBlock.Data j) (without_data kind) e in
      let z = (no_data_counts k kind).0 in
      omega (arith, r, z))
      once

  pub cleared_count : (j : ℕ) → slice_get entries i ≡ Some (GuestBlock.Data j) → named_count (slice_set entries i (without_data kind)) + 1 ≡ named_count entries
  cleared_count j e =
      let r = sum_by_put names_any entries i (GuestBlock.Data j) (without_data kind) e in
      let z = (no_data_counts 0 kind).1 in
      omega (arith, r, z)

  -- one that wasn't is so still
  pub still_empty : (free : FreeBlocks) (g : GuestBlock) (held : Option ℕ) (count : ℕ) → slice_get entries i ≡ Some g → ((j : ℕ) → g ≢ GuestBlock.Data j) → IsEachOnce free entries held count → IsEachOnce free (slice_set entries i (without_data kind)) held count
  still_empty free g held count e none once =
      moved free entries (slice_set entries i (without_data kind)) held held count
      (λ k.
      let r = sum_by_put (names k) entries i g (without_data kind) e in
      let n = (empty_entry k g none).0 in
      let z = (no_data_counts k kind).0 in
      omega (arith, r, n, z))
      once

  pub still_empty_count : (g : GuestBlock) → slice_get entries i ≡ Some g → ((j : ℕ) → g ≢ GuestBlock.Data j) → named_count (slice_set entries i (without_data kind)) ≡ named_count entries
  still_empty_count g e none =
      let r = sum_by_put names_any entries i g (without_data kind) e in
      let n = (empty_entry 0 g none).1 in
      let z = (no_data_counts 0 kind).1 in
      omega (arith, r, n, z)

-- one entry less, down to those that stay
pub one_less : {X : Type 0} (xs ys : List X) (n : ℕ) → n < length xs → ys ≡ take (length xs - 1) xs → (take n ys ≡ take n xs) × (length ys + 1 ≡ length xs)
one_less xs ys n h e =
    let l : n ≤ length xs - 1 = omega arith in
    let t : take n (take (length xs - 1) xs) ≡ take n xs = take-take n (length xs - 1) xs l in
    let k : length (take (length xs - 1) xs) ≡ length xs - 1 = length-take-le (length xs - 1) xs (omega arith) in
    (ap (take n) e ∙ t, let m : length ys ≡ length xs - 1 = ap length e ∙ k in omega (arith, m, h))

pub all_left : {X : Type 0} (xs ys : List X) (n : ℕ) → length ys ≤ n → take n ys ≡ take n xs → ys ≡ take n xs
all_left xs ys n h e = sym (take_all n ys h) ∙ e
