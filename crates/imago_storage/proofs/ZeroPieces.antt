-- SPDX-License-Identifier: MIT
use Rattle.std.proofs.Common.{◌≡◌, ℕ, ◌+◌, ◌-◌, ◌%◌, ◌≤◌, ◌⊎◌, List, take, replicate, get_or, max, min, arith, refl, ap, ◌∙◌, Bool, Result, Ok}
use Rattle.std.proofs.lemmas.List.{places, length-replicate, take-replicate}
use Rattle.std.specs.Int.{IsPowerOfTwo}
use Rattle.imago_storage.specs.Bytes.{splice, OldOrNew, WriteOutcome}
use Rattle.imago_storage.specs.Features.{Features, AreLawful, IsAlignedRequest, IsAlignedTo, len_align}
use Rattle.imago_storage.specs.declared.error.Error.{Error}
use Rattle.imago_storage.proofs.Alignment.{multiple_add, multiple_sub, multiple_of_multiple, multiple_min, max_first, max_power, multiple_of_max}
use Rattle.imago_storage.proofs.Outcomes.{WriteOutcome_then}
use Rattle.imago_storage.proofs.Splices.{length-splice, splice_zeroes}

-- 2 ^ 20 is a multiple of an alignment that is no greater
pub piece_whole : (a : ℕ) → IsPowerOfTwo a → max a 1048576 % a ≡ 0
piece_whole a p = let q : IsPowerOfTwo 1048576 = (20, refl) in max_first a 1048576 p q

pub align_power : (f : Features) → AreLawful f → IsPowerOfTwo (len_align f)
align_power f a = max_power f.req_align f.mem_align a.req a.mem

-- one piece of zeroes is an aligned write, and what is done after it is whole again
pub next_whole : (f : Features) (at n done : ℕ) → AreLawful f → IsAlignedTo f.zero_align at n → n % f.mem_align ≡ 0
    → done % len_align f ≡ 0 → min (max (len_align f) 1048576) (n - done) % len_align f ≡ 0
next_whole f at n done a i m d =
    let req : n % f.req_align ≡ 0 = multiple_of_multiple f.req_align f.zero_align n i.whole a.zero_whole in
    let whole : n % len_align f ≡ 0 = multiple_of_max f.req_align f.mem_align n req m in
    multiple_min (len_align f) (max (len_align f) 1048576) (n - done) (piece_whole (len_align f) (align_power f a)) (multiple_sub (len_align f) n done whole d)

pub next_piece : (f now : Features) (at n done : ℕ) → now ≡ f → AreLawful f → IsAlignedTo f.zero_align at n → n % f.mem_align ≡ 0
    → done % len_align f ≡ 0 → done ≤ n → (k : ℕ) → k ≡ min (max (len_align f) 1048576) (n - done) → IsAlignedRequest now (at + done) k
next_piece f now at n done e a i m d le k is = rw (e, is) (record {
  start = multiple_add f.req_align at done
      (multiple_of_multiple f.req_align f.zero_align at i.start a.zero_whole)
      (multiple_of_multiple f.req_align (len_align f) done d (max_first f.req_align f.mem_align a.req a.mem));
  whole = next_whole f at n done a i m d;
  ends = omega (arith, i.ends);
})

-- each place of some zeroes holds what was there or what all the zeroes leave
pub zeroes_so_far : (xs : List ℕ) (at n m p : ℕ) → m ≤ n
    → (get_or (splice xs at (replicate m 0)) p 0 ≡ get_or xs p 0) ⊎ (get_or (splice xs at (replicate m 0)) p 0 ≡ get_or (splice xs at (replicate n 0)) p 0)
unfolding splice
zeroes_so_far xs at n m p le = grind (arith, places)

pub OldOrNew_zeroes : (xs : List ℕ) (at n m : ℕ) → m ≤ n → OldOrNew xs (splice xs at (replicate n 0)) (splice xs at (replicate m 0))
OldOrNew_zeroes xs at n m le = record {
  each = λ p. zeroes_so_far xs at n m p le;
  no_shorter = omega (arith, length-splice xs at (replicate m 0));
  no_longer = omega (arith, length-splice xs at (replicate m 0), length-splice xs at (replicate n 0), length-replicate {A = ℕ} m 0, length-replicate {A = ℕ} n 0);
}

-- zeroes so far, and the next piece of them
pub zeroes_then : {T U : Type 0} (keeps : Bool) (old mid now : List ℕ) (at m k : ℕ) (r : Result T Error) (x : T) (q : Result U Error)
    → WriteOutcome keeps old (splice old at (replicate m 0)) mid r → r ≡ Ok x → WriteOutcome keeps mid (splice mid (at + m) (replicate k 0)) now q
    → WriteOutcome keeps old (splice old at (replicate (m + k) 0)) now q
zeroes_then keeps old mid now at m k r x q w was v = WriteOutcome_then keeps old (splice old at (replicate m 0)) mid (splice mid (at + m) (replicate k 0)) (splice old at (replicate (m + k) 0)) now r x q w was v
    (OldOrNew_zeroes old at (m + k) m (omega arith))
    (λ made. ap (λ zs. splice zs (at + m) (replicate k 0)) made ∙ splice_zeroes old at m k)
    (λ long. omega (arith, long, length-splice mid (at + m) (replicate k 0), length-splice old at (replicate m 0), length-splice old at (replicate (m + k) 0), length-replicate {A = ℕ} m 0, length-replicate {A = ℕ} k 0, length-replicate {A = ℕ} (m + k) 0))

-- a front of a buffer of zeroes
pub zero_front : (buffer : List ℕ) (n k : ℕ) → buffer ≡ replicate n 0 → k ≤ n → take k buffer ≡ replicate k 0
zero_front buffer n k e le = rw e (take-replicate k n 0 le)
