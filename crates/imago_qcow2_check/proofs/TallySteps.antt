-- Uses and faults that were counted one after the other.
-- SPDX-License-Identifier: MIT
use Rattle.std.proofs.Common.{◌≡◌, ℕ, ◌+◌, List, length, refl, ◌∙◌, arith}
use Rattle.imago_qcow2_check.specs.declared.tally.Tally.{Tally}
use Rattle.imago_qcow2_check.specs.Sums.{total}
use Rattle.imago_qcow2_check.specs.Tallies.{AddsUses, Adds}
use Rattle.imago_qcow2_check.proofs.SumSteps.{total_none, total_more}

pub uses_none : (a : List ℕ) (f : ℕ → ℕ) → ((n : ℕ) → f n ≡ 0) → AddsUses a a f
uses_none a f h = record { len = refl; each = λ n below. let e = h n in omega (arith, e) }

pub uses_equal : (a b : List ℕ) → b ≡ a → AddsUses a b (λ n. 0)
uses_equal a b e = rw e (uses_none a (λ n. 0) (λ n. refl))

pub uses_same : (a b : List ℕ) (f g : ℕ → ℕ) → ((n : ℕ) → f n ≡ g n) → AddsUses a b f → AddsUses a b g
uses_same a b f g h x = record { len = x.len; each = λ n below. let p = x.each n below in let e = h n in omega (arith, p, e) }

pub uses_then : (a b c : List ℕ) (f g h : ℕ → ℕ) → AddsUses a b f → AddsUses b c g → ((n : ℕ) → h n ≡ f n + g n) → AddsUses a c h
uses_then a b c f g h x y e = record {
  len = omega (arith, x.len, y.len);
  each = λ n below.
      let p = x.each n below in
      let q = y.each n (omega (arith, x.len, below)) in
      let r = e n in
      omega (arith, p, q, r);
}

pub adds_none : (a : Tally) (f : ℕ → ℕ) (x : ℕ) → ((n : ℕ) → f n ≡ 0) → x ≡ 0 → Adds a a f x
adds_none a f x h e = record { uses = uses_none a.uses.items f h; faults = omega (arith, e); leaks = refl }

pub adds_same : (a b : Tally) (f g : ℕ → ℕ) (x y : ℕ) → ((n : ℕ) → f n ≡ g n) → x ≡ y → Adds a b f x → Adds a b g y
adds_same a b f g x y h e p = record { uses = uses_same a.uses.items b.uses.items f g h p.uses; faults = omega (arith, p.faults, e); leaks = p.leaks }

pub adds_then : (a b c : Tally) (f g h : ℕ → ℕ) (x y z : ℕ) → Adds a b f x → Adds b c g y → ((n : ℕ) → h n ≡ f n + g n) → z ≡ x + y → Adds a c h z
adds_then a b c f g h x y z p q e s = record {
  uses = uses_then a.uses.items b.uses.items c.uses.items f g h p.uses q.uses e;
  faults = omega (arith, p.faults, q.faults, s);
  leaks = q.leaks ∙ p.leaks;
}

-- faults alone
pub adds_told : (a b c : Tally) (f : ℕ → ℕ) (x y z : ℕ) → Adds a b f x → Adds b c (λ n. 0) y → z ≡ x + y → Adds a c f z
adds_told a b c f x y z p q s = adds_then a b c f (λ n. 0) f x y z p q (λ n. omega arith) s

pub told_adds : (a b c : Tally) (f : ℕ → ℕ) (x y z : ℕ) → Adds a b (λ n. 0) x → Adds b c f y → z ≡ x + y → Adds a c f z
told_adds a b c f x y z p q s = adds_then a b c (λ n. 0) f f x y z p q (λ n. omega arith) s

-- one entry behind the other
pub adds_first : (a : Tally) (f : ℕ → ℕ → ℕ) (g : ℕ → ℕ) → Adds a a (λ n. total (λ j. f j n) 0) (total g 0)
adds_first a f g = adds_none a (λ n. total (λ j. f j n) 0) (total g 0) (λ n. total_none (λ j. f j n)) (total_none g)

pub adds_next : (a b c : Tally) (f : ℕ → ℕ → ℕ) (g : ℕ → ℕ) (i : ℕ) → Adds a b (λ n. total (λ j. f j n) i) (total g i) → Adds b c (f i) (g i)
    → Adds a c (λ n. total (λ j. f j n) (i + 1)) (total g (i + 1))
adds_next a b c f g i p q = adds_then a b c (λ n. total (λ j. f j n) i) (f i) (λ n. total (λ j. f j n) (i + 1)) (total g i) (g i) (total g (i + 1)) p q
    (λ n. total_more (λ j. f j n) i) (total_more g i)

-- there are as many clusters as before
pub adds_len : (a b : Tally) (f : ℕ → ℕ) (x n : ℕ) → Adds a b f x → length a.uses.items ≡ n → length b.uses.items ≡ n
adds_len a b f x n p e = p.uses.len ∙ e
