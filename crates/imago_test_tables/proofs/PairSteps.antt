-- SPDX-License-Identifier: MIT
use Rattle.std.proofs.Common.{◌≡◌, ◌≢◌, ℕ, zero, suc, ◌<◌, ◌≤◌, List, length, max, refl, ap, arith}
use Rattle.std.proofs.Common.{Bool, true, false}
use Rattle.std.specs.Prelude.{◌&&◌, IsTrue}
use Rattle.imago_storage.specs.Features.{Features}
use Rattle.imago_drivers.specs.Lengths.{GrowAt, padded_to}
use Rattle.imago_test_tables.specs.Pair.{at_index, pair_stores}

-- what holds of both holds of each
pub of_first : (a b : Bool) → IsTrue (a && b) → IsTrue a
of_first true b both = refl
of_first false b both = both

pub of_second : (a b : Bool) → IsTrue (a && b) → IsTrue b
of_second true b both = both
of_second false b both = let z : ⊥ = cc in absurd z

-- a write to the second of two leaves the first
pub first_stays : (A B C : List ℕ) (index : ℕ) → index ≢ 0 → index < 2 → (i : ℕ) → i < 2 → i ≢ index → at_index A C i ≡ at_index A B i
first_stays A B C index h l zero k e = refl
first_stays A B C index h l (suc i) k e = let x : i ≡ 0 = omega (arith, k) in absurd (e (omega (arith, x, h, l)))

pub grow_each : (A B C D : List ℕ) → length A ≤ length C → length B ≤ length D → (k : ℕ) → length (at_index A B k) ≤ length (at_index C D k)
grow_each A B C D a b zero = a
grow_each A B C D a b (suc k) = b

second_stays : (A B C : List ℕ) (k : ℕ) → k ≢ 0 → length (at_index C B k) ≡ length (at_index A B k)
second_stays A B C zero e = absurd (e refl)
second_stays A B C (suc k) e = refl

grow_at : (A B C : List ℕ) (f g : Features) (offset n index : ℕ) → index ≢ 0 → length C ≤ max (length B) (padded_to g offset n) → length (at_index A C index) ≤ max (length (at_index A B index)) (padded_to (at_index f g index) offset n)
grow_at A B C f g offset n zero e h = absurd (e refl)
grow_at A B C f g offset n (suc k) e h = h

-- a write to one of two storages makes that one alone longer
module _ (f g h i : Features) (first second now : List ℕ) (offset n index : ℕ) where
  pub grow_first : length first ≤ length now → length now ≤ max (length first) (padded_to f offset n) → index ≡ 0 → GrowAt index offset n (pair_stores f g first second) (pair_stores h i now second)
  grow_first low high e = rw e (record {
    no_shorter = grow_each first second now second low (omega arith);
    no_longer = high;
    others = λ k l x. second_stays first second now k x;
  })

  pub grow_second : length second ≤ length now → length now ≤ max (length second) (padded_to g offset n) → index ≢ 0 → index < 2 → GrowAt index offset n (pair_stores f g first second) (pair_stores h i first now)
  grow_second low high e l = record {
    no_shorter = grow_each first second first now (omega arith) low;
    no_longer = grow_at first second now f g offset n index e high;
    others = λ k m x. ap length (first_stays first second now index e l k m x);
  }
