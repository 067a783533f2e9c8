-- SPDX-License-Identifier: MIT
use Rattle.std.proofs.Common.{◌≡◌, ◌≢◌, ℕ, ◌+◌, ◌-◌, ◌*◌, ◌/◌, ◌%◌, ◌<◌, ◌≤◌, ◌⊎◌, ⊎_elim, true, List, length, Some, sym, ap, ◌∙◌, arith, min}
use Rattle.std.specs.Prelude.{slice_get, slice_index}
use Rattle.std.proofs.lemmas.Bool.{cases_lt}
use Rattle.std.proofs.lemmas.Nat.{div-add-mod'}
use Rattle.std.proofs.lemmas.Option.{slice_get_within}
use Rattle.imago_drivers.specs.Place.{Stored, BytesAreWritable, HasStranger}
use Rattle.imago_cow.specs.declared.table.GuestBlock.{GuestBlock}
use Rattle.imago_cow.specs.Guest.{IsExact, entry_place, cow_place}
use Rattle.imago_cow.specs.GuestLaws.{rest_small, block_of, rest_of, one_number, one_rest, place_in}
use Rattle.imago_cow.specs.CowLaws.{stored_place}
use Rattle.imago_cow.proofs.WholeSteps.{times_more, times_next}

-- an entry's guest block begins inside the disk
pub begins_inside : (size block : ℕ) (entries : List GuestBlock) (i : ℕ) (x : GuestBlock) → IsExact size block entries → slice_get entries i ≡ Some x → i * block < size
begins_inside size block entries i x exact e = let a = times_next block i (length entries) (slice_get_within entries i x e) in omega (arith, a, exact.near)

-- none of the first entries names the data block
abbrev pub NoneBefore : List GuestBlock → ℕ → ℕ → Type 0
NoneBefore entries number n = (i : ℕ) → i < n → slice_get entries i ≢ Some (GuestBlock.Data number)

-- the bytes of the range that lie in data blocks before that one are writable places'
abbrev pub ShownBefore : List ℕ → ℕ → ℕ → List GuestBlock → ℕ → ℕ → ℕ → Type 0
ShownBefore bytes size block entries o n number = (k : ℕ) → k < n → (o + k) / block < number → (p : ℕ) × (b : ℕ) × (cow_place bytes size block entries p ≡ Stored b 0 (o + k) true)

module _ (bytes : List ℕ) (size block : ℕ) (entries : List GuestBlock) (o n : ℕ) (positive : 0 < block) where
  pub first_shown : ShownBefore bytes size block entries o n (o / block)
  first_shown k h l = absurd (omega (arith, l, times_next block ((o + k) / block) (o / block) l, div-add-mod' (o + k) block, div-add-mod' o block, rest_small block positive (o + k)))

  pub next_shown : (number until : ℕ) → until ≡ min block (o + n - number * block) → ((i : ℕ) × (slice_get entries i ≡ Some (GuestBlock.Data number)) × (i * block + until ≤ size)) → ShownBefore bytes size block entries o n number → ShownBefore bytes size block entries o n (number + 1)
  next_shown number until is (i, named, inside) before k h l = ⊎_elim
      (λ less. before k h less)
      (λ not_less.
      let same : (o + k) / block ≡ number = omega (arith, l, not_less) in
      let a = div-add-mod' (o + k) block in
      let b : (o + k) / block * block ≡ number * block = ap (λ x. x * block) same in
      let r = rest_small block positive (o + k) in
      let rest = (o + k) % block in
      let small : rest < until = omega (arith, is, a, b, h, r) in
      let p : ℕ = i * block + rest in
      let under : p < size = omega (arith, inside, small) in
      let at : p / block ≡ i = block_of block positive i rest r in
      let off : p % block ≡ rest = rest_of block positive i rest r in
      let place : cow_place bytes size block entries p ≡ entry_place bytes block p (Some (GuestBlock.Data number)) = place_in bytes size block entries p under ∙ ap (λ x. entry_place bytes block p (slice_get entries x)) at ∙ ap (entry_place bytes block p) named in
      let e : number * block + p % block ≡ o + k = omega (arith, off, a, b) in
      (p, slice_index bytes (number * block + p % block), place ∙ ap (λ x. Stored (slice_index bytes (number * block + p % block)) 0 x true) e))
      (cases_lt ((o + k) / block) number)

  pub all_writable : (last : ℕ) → last ≡ (o + (n - 1)) / block → ShownBefore bytes size block entries o n (last + 1) → BytesAreWritable (cow_place bytes size block entries) 0 o n
  all_writable last is shown k h = shown k h
      (⊎_elim
      (λ less. less)
      (λ more. absurd (omega (arith, is, times_next block ((o + (n - 1)) / block) ((o + k) / block) (omega (arith, more, is)), div-add-mod' (o + k) block, div-add-mod' (o + (n - 1)) block, rest_small block positive (o + (n - 1)), h)))
      (cases_lt ((o + k) / block) (last + 1)))

  -- a data block whose bytes in the range aren't all places' has a stranger there
  pub has_stranger : (s number until : ℕ) → o / block ≤ number → number ≤ (o + (n - 1)) / block → 0 < n → until ≡ min block (o + n - number * block)
      → ((i : ℕ) → slice_get entries i ≡ Some (GuestBlock.Data number) → size < i * block + until) → HasStranger (cow_place bytes size block entries) s o n
  has_stranger s number until from to some is none =
      let a = div-add-mod' o block in
      let r = rest_small block positive o in
      let l : number * block ≤ o + (n - 1) = omega (arith, times_more block number ((o + (n - 1)) / block) to, div-add-mod' (o + (n - 1)) block) in
      let m : o < number * block + block = omega (arith, times_more block (o / block) number from, a, r) in
      let positive_until : 0 < until = omega (arith, is, positive, l, some) in
      let x : ℕ = number * block + (until - 1) in
      let low : o ≤ x = omega (arith, is, m, l, some) in
      let high : x < o + n = omega (arith, is, l, some, positive_until) in (
        x - o,
        omega (arith, low, high),
        λ p b e.
            let t : o + (x - o) ≡ x = omega (arith, low) in
            let y = stored_place bytes size block entries p b s (o + (x - o)) true e in
            let z = y.1 in
            let q : z.number * block + p % block ≡ number * block + (until - 1) = sym z.offset ∙ t in
            let small : until - 1 < block = omega (arith, is, positive_until) in
            let same : z.number ≡ number = one_number block positive z.number number (p % block) (until - 1) (rest_small block positive p) small q in
            let rest : p % block ≡ until - 1 = one_rest block positive z.number number (p % block) (until - 1) (rest_small block positive p) small q in
            let bad = none (p / block) (z.named ∙ ap (λ j. Some (GuestBlock.Data j)) same) in
            omega (arith, bad, div-add-mod' p block, rest, y.0, positive_until),
      )

  -- a range past the data blocks has one too
  pub stranger_past : (s blocks : ℕ) → ((i j : ℕ) → slice_get entries i ≡ Some (GuestBlock.Data j) → j < blocks) → 0 < n → ((0 < s) ⊎ (blocks * block < o + n)) → HasStranger (cow_place bytes size block entries) s o n
  stranger_past s blocks known some why = (
    n - 1,
    omega (arith, some),
    λ p b e.
        let y = (stored_place bytes size block entries p b s (o + (n - 1)) true e).1 in
        ⊎_elim
        (λ other. omega (arith, other, y.storage))
        (λ past. omega (arith, past, y.offset, times_next block y.number blocks (known (p / block) y.number y.named), rest_small block positive p, some))
        why,
  )
