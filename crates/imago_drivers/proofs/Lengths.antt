-- SPDX-License-Identifier: MIT
use Rattle.std.proofs.Common.{◌≡◌, ℕ, ◌+◌, ◌-◌, ◌<◌, ◌≤◌, true, List, length, replicate, max, arith, refl}
use Rattle.std.specs.Prelude.{nat_lt}
use Rattle.std.proofs.lemmas.Bool.Decides.{nat_tests}
use Rattle.std.proofs.lemmas.List.{places}
use Rattle.imago_storage.specs.Bytes.{splice, zero_extended}
use Rattle.imago_storage.specs.Features.{Features, len_align}
use Rattle.imago_drivers.specs.Lengths.{padded_to}

pub padded_some : (f : Features) (at n : ℕ) → 0 < n → padded_to f at n ≡ at + n + (len_align f - 1)
padded_some f at n h = let t : nat_lt 0 n ≡ true = grind (arith, nat_tests) in rw t refl

below_end : (a range_end end now before : ℕ) → end < range_end + a → now ≤ max before end → now ≤ max before (range_end + (a - 1))
below_end a range_end end now before near bound = grind arith

-- what ends by less than one alignment past a range is no longer than the range padded
pub near_end : (f : Features) (o n end now before : ℕ) → 0 < n → end < o + n + len_align f → now ≤ max before end → now ≤ max before (padded_to f o n)
near_end f o n end now before some near bound = let e = padded_some f o n some in rw e (below_end (len_align f) (o + n) end now before near bound)

-- a zero write makes a storage no longer than to where it is padded
pub longest_zeroes : (old : List ℕ) (at n end now : ℕ) → at + n ≤ end → now ≤ length (zero_extended (splice old at (replicate n 0)) end) → now ≤ max (length old) end
unfolding splice
longest_zeroes old at n end now inside h = grind (arith, places)
