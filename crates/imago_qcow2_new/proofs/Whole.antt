-- Multiples of a unit.
-- SPDX-License-Identifier: MIT
use Rattle.std.proofs.lemmas.Bool.{cases_lt}
use Rattle.std.specs.Prelude.{max}
use Rattle.std.proofs.Common.{◌≡◌, ℕ, ◌+◌, ◌-◌, ◌*◌, ◌%◌, ◌/◌, ◌<◌, ◌≤◌, ◌^◌, ⊎_elim, sym, ap, ◌∙◌, arith, mul_assoc}
use Rattle.std.proofs.lemmas.Nat.{div-add-mod', mul-le, pow-add}
use Rattle.std.proofs.Math.Nat.{add-mul, add-mul-mod_self_right, mod-eq_of_lt, mul-mod_left, pow-le-pow_right}

module _ (u : ℕ) where
  pub as_product : (x : ℕ) → x % u ≡ 0 → x ≡ x / u * u
  as_product x h = let e : x / u * u + x % u ≡ x = div-add-mod' x u in omega (arith, e, h)

  pub sum_whole : (a b : ℕ) → a % u ≡ 0 → b % u ≡ 0 → (a + b) % u ≡ 0
  sum_whole a b h k = ap (λ x. (a + x) % u) (as_product b k) ∙ add-mul-mod_self_right a (b / u) u ∙ h

  pub rest_whole : (a b d : ℕ) → a % u ≡ 0 → b % u ≡ 0 → d + b ≡ a → d % u ≡ 0
  rest_whole a b d h k e =
      sym (add-mul-mod_self_right d (b / u) u) ∙ ap (λ x. (d + x) % u) (sym (as_product b k)) ∙ ap (λ x. x % u) e ∙ h

  -- what is left of a number without its remainder
  pub floor_whole : 0 < u → (x d : ℕ) → d + x % u ≡ x → d % u ≡ 0
  floor_whole h x d e =
      let f : x / u * u + x % u ≡ x = div-add-mod' x u in
      let g : d ≡ 0 + x / u * u = omega (arith, e, f) in
      ap (λ y. y % u) g ∙ add-mul-mod_self_right 0 (x / u) u ∙ mod-eq_of_lt h

  -- the greater one of two multiples
  pub either_whole : (a b m : ℕ) → a % u ≡ 0 → b % u ≡ 0 → m ≡ max a b → m % u ≡ 0
  either_whole a b m h k e = ⊎_elim
      (λ (lt : a < b). let f : b ≡ m = omega (arith, lt, e) in ap (λ x. x % u) (sym f) ∙ k)
      (λ (ge : b ≤ a). let f : a ≡ m = omega (arith, ge, e) in ap (λ x. x % u) (sym f) ∙ h)
      (cases_lt a b)

  pub zero_whole : 0 < u → 0 % u ≡ 0
  zero_whole h = mod-eq_of_lt h

pub mod_le : (x u : ℕ) → x % u ≤ x
mod_le x u = let f : x / u * u + x % u ≡ x = div-add-mod' x u in omega (arith, f)

pub times_whole : (u k : ℕ) → (k * u) % u ≡ 0
times_whole u k = mul-mod_left k u

-- a number of whole clusters fits
pub power_most : (c bits : ℕ) → c ≡ 2 ^ bits → bits ≤ 21 → c ≤ 2097152
power_most c bits e h = let two : 0 < 2 = omega arith in let x : 2 ^ bits ≤ 2 ^ 21 = pow-le-pow_right two h in omega (arith, x, e)

pub power_least : (c bits : ℕ) → c ≡ 2 ^ bits → 9 ≤ bits → 512 ≤ c
power_least c bits e h = let two : 0 < 2 = omega arith in let x : 2 ^ 9 ≤ 2 ^ bits = pow-le-pow_right two h in omega (arith, x, e)

pub entry_fits : (index n c : ℕ) → index < n * (c / 8) → n ≤ 4194304 → c ≤ 2097152 → index * c < 2305843009213693953
entry_fits index n c h few most =
    let a : n * (c / 8) ≤ 4194304 * 262144 = mul-le n (c / 8) 4194304 262144 few (omega (arith, most)) in
    let b : index * c ≤ 1099511627776 * 2097152 = mul-le index c 1099511627776 2097152 (omega (arith, h, a)) most in
    omega (arith, b)

pub table_fits : (table n c : ℕ) → table < n → n ≤ 4194304 → c ≤ 2097152 → table * (c / 8 * c) < 2305843009213693953
table_fits table n c h few most =
    let a : c / 8 * c ≤ 262144 * 2097152 = mul-le (c / 8) c 262144 2097152 (omega (arith, most)) most in
    let b : table * (c / 8 * c) ≤ 4194304 * 549755813888 = mul-le table (c / 8 * c) 4194304 549755813888 (omega (arith, h, few)) (omega (arith, a)) in
    omega (arith, b)

pub index_fits : (index c : ℕ) → index < 4294967296 → c ≤ 2097152 → index * c < 18446744073709551616
index_fits index c h most = let b : index * c ≤ 4294967296 * 2097152 = mul-le index c 4294967296 2097152 (omega (arith, h)) most in omega (arith, b)

pub entry_place : (table i per c : ℕ) → (table * per + i) * c ≡ table * (per * c) + i * c
entry_place table i per c = add-mul (table * per) i c ∙ ap (λ x. x + i * c) (mul_assoc table per c)

pub entry_near : (i c : ℕ) → i < c / 8 → i * c < c / 8 * c
entry_near i c h =
    let a : (i + 1) * c ≤ c / 8 * c = mul-le (i + 1) c (c / 8) c (omega (arith, h)) (omega arith) in
    let b : (i + 1) * c ≡ i * c + c = omega arith in
    let d : 8 ≤ c = omega (arith, h) in
    omega (arith, a, b, d)

-- a cluster is so many words, and what consists of whole clusters does of whole words
pub eight : (c bits : ℕ) → c ≡ 2 ^ bits → 9 ≤ bits → 8 * (c / 8) ≡ c
eight c bits e h =
    let f : 3 + (bits - 3) ≡ bits = omega (arith, h) in
    let g : 2 ^ (3 + (bits - 3)) ≡ 2 ^ 3 * 2 ^ (bits - 3) = pow-add 2 3 (bits - 3) in
    let k : c ≡ 8 * 2 ^ (bits - 3) = e ∙ ap (λ x. 2 ^ x) (sym f) ∙ g in
    omega (arith, k)

pub whole_eight : (c x : ℕ) → 8 * (c / 8) ≡ c → x % c ≡ 0 → 8 * (x / 8) ≡ x
whole_eight c x e h =
    let a : x ≡ x / c * c = as_product c x h in
    let b : x / c * c ≡ x / c * (8 * (c / 8)) = ap (λ y. x / c * y) (sym e) in
    let d : x / c * (8 * (c / 8)) ≡ 8 * (x / c * (c / 8)) = omega arith in
    omega (arith, a, b, d)

pub times_eight : (n c : ℕ) → 8 * (c / 8) ≡ c → 8 * (n * (c / 8)) ≡ n * c
times_eight n c e =
    let d : 8 * (n * (c / 8)) ≡ n * (8 * (c / 8)) = omega arith in
    d ∙ ap (λ y. n * y) e

pub per_fits : (table n c : ℕ) → table < n → n ≤ 4194304 → c ≤ 2097152 → table * (c / 8) + c / 8 < 18446744073709551616
per_fits table n c h few most =
    let b : table * (c / 8) ≤ 4194304 * 262144 = mul-le table (c / 8) 4194304 262144 (omega (arith, h, few)) (omega (arith, most)) in
    omega (arith, b, most)

-- different multiples are a unit apart, at least
pub apart : (u a b : ℕ) → a % u ≡ 0 → b % u ≡ 0 → a < b → a + u ≤ b
apart u a b h k lt =
    let x = as_product u a h in
    let y = as_product u b k in
    ⊎_elim
    (λ (less : a / u < b / u).
    let m : (a / u + 1) * u ≤ b / u * u = mul-le (a / u + 1) u (b / u) u (omega (arith, less)) (omega arith) in
    let e : (a / u + 1) * u ≡ a / u * u + u = omega arith in
    omega (arith, x, y, m, e))
    (λ (ge : b / u ≤ a / u). let m : b / u * u ≤ a / u * u = mul-le (b / u) u (a / u) u ge (omega arith) in absurd (omega (arith, x, y, m, lt)))
    (cases_lt (a / u) (b / u))

-- what consists of whole clusters does of whole sectors
pub whole_sector : (c bits x : ℕ) → c ≡ 2 ^ bits → 9 ≤ bits → x % c ≡ 0 → x % 512 ≡ 0
whole_sector c bits x e h w =
    let f : 9 + (bits - 9) ≡ bits = omega (arith, h) in
    let g : 2 ^ (9 + (bits - 9)) ≡ 2 ^ 9 * 2 ^ (bits - 9) = pow-add 2 9 (bits - 9) in
    let k : c ≡ 512 * 2 ^ (bits - 9) = e ∙ ap (λ y. 2 ^ y) (sym f) ∙ g in
    let a : x ≡ x / c * c = as_product c x w in
    let b : x / c * c ≡ x / c * 2 ^ (bits - 9) * 512 = ap (λ y. x / c * y) k ∙ omega arith in
    ap (λ y. y % 512) (a ∙ b) ∙ times_whole 512 (x / c * 2 ^ (bits - 9))
