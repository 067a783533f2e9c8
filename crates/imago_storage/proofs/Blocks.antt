-- SPDX-License-Identifier: MIT
use Rattle.std.proofs.Common.{◌≡◌, ℕ, ◌+◌, ◌-◌, ◌*◌, ◌%◌, ◌/◌, ◌<◌, ◌≤◌, arith, ap, ◌∙◌}
use Rattle.std.proofs.Math.Nat.{mod-eq-zero_of_dvd, mod_self, mod-eq_of_lt, div-add-mod', dvd-mul_left}
use Rattle.std.specs.Int.{next_multiple_of}
use Rattle.imago_storage.specs.Blocks.{IsInParts, IsInBlocks}
use Rattle.imago_storage.specs.Features.{Features, IsAlignedRequest, len_align}
use Rattle.imago_storage.proofs.Alignment.{multiple_add, multiple_of_multiple}
use Rattle.imago_storage.proofs.Padding.{len_positive, len_whole, next_whole_zero, next_add, multiple_ge, multiple_one}
use Rattle.imago_storage.proofs.Writes.{IsSplit}

-- A request in parts, where `a` is a block's length: from a block's start on, or in one block, or in one and what follows it.
pub record PartFacts (f : Features) (a at n start len : ℕ) : Type 0 where
  pub from_start : start + (at - start) ≡ at
  pub in_block : at - start ≤ a
  pub wide : a ≤ len
  pub first : IsAlignedRequest f start a
  pub no_head : at - start ≡ 0 → IsInBlocks f a at n
  pub no_head_ends : at - start ≡ 0 → at + next_multiple_of n a ≡ start + len
  pub one_block : n ≤ a - (at - start) → len ≡ a
  pub split : a - (at - start) < n → IsSplit (a - (at - start)) at n (start + a) (start + len)
  pub rest : a - (at - start) < n → IsInBlocks f a (start + a) (n - (a - (at - start)))
  pub rest_ends : a - (at - start) < n → start + a + next_multiple_of (n - (a - (at - start))) a ≡ start + len

pub part_facts : {f : Features} {a at n start len : ℕ} → IsInParts f a at n start len → PartFacts f a at n start len
part_facts {f} {a} {at} {n} {start} {len} r =
    let q = r.padded in
    let positive : 0 < a = rw r.is_block (len_positive f r.lawful) in
    let whole : len % a ≡ 0 = rw r.is_block q.aligned.whole in
    let long : 0 < len = omega (arith, q.covers, q.before, r.some) in
    let wide : a ≤ len = multiple_ge len a long whole in
    let small : len < at - start + n + a = rw r.is_block q.small in
    let near : at - start ≤ a = rw r.is_block (omega (arith, q.near, q.before)) in
    let step : a % f.req_align ≡ 0 = rw r.is_block (len_whole f r.lawful) in
    let is_len : len ≡ next_multiple_of (at % f.req_align + n) a = rw r.is_block q.is_len in
    let head : at % f.req_align ≡ at - start = omega (arith, q.is_start, q.before) in
    let no_head : at - start ≡ 0 → at + next_multiple_of n a ≡ start + len = λ z.
    let same : len ≡ next_multiple_of n a = is_len ∙ ap (λ x. next_multiple_of x a) (omega (arith, head)) in
    omega (arith, same, q.before) in
    let rest : a - (at - start) < n → start + a + next_multiple_of (n - (a - (at - start))) a ≡ start + len = λ h.
    let more : len ≡ a + next_multiple_of (n - (a - (at - start))) a = is_len ∙ ap (λ x. next_multiple_of x a) (omega (arith, head)) ∙ next_add (n - (a - (at - start))) a in
    omega (arith, more) in
    let start_at : at - start ≡ 0 → start ≡ at = λ z. omega (arith, q.before) in
    record {
      from_start = omega (arith, q.before);
      in_block = near;
      wide = wide;
      first = record { start = q.aligned.start; whole = rw (← r.is_block) (mod_self a); ends = omega (arith, q.aligned.ends) };
      no_head = λ z. record { lawful = r.lawful; is_block = r.is_block; some = r.some; start = rw (← start_at z) q.aligned.start; ends = omega (arith, no_head z, q.aligned.ends) };
      no_head_ends = no_head;
      one_block = λ h. multiple_one len a positive long whole (omega arith);
      split = λ h. record { inside = omega arith; first = omega (arith, q.before); longer = omega arith; covers = q.covers };
      rest = λ h. record { lawful = r.lawful; is_block = r.is_block; some = omega arith; start = multiple_add f.req_align start a q.aligned.start step; ends = omega (arith, rest h, q.aligned.ends) };
      rest_ends = rest;
    }

-- Bytes in blocks: the `whole` bytes of those that are filled, and a part of one more, where any is left.
pub record BlockFacts (f : Features) (a at n whole : ℕ) : Type 0 where
  pub fits : whole ≤ n
  pub split : IsSplit whole at n (at + whole) (at + next_multiple_of n a)
  pub all : whole ≡ n → at + n ≡ at + next_multiple_of n a
  pub one_more : whole < n → at + whole + a ≡ at + next_multiple_of n a
  pub one_block : whole ≡ 0 → at + a ≡ at + next_multiple_of n a
  pub first : IsAlignedRequest f at whole
  pub last : whole < n → IsAlignedRequest f (at + whole) a

pub block_facts : {f : Features} {a at n : ℕ} (whole : ℕ) → whole ≡ n / a * a → IsInBlocks f a at n → BlockFacts f a at n whole
block_facts {f} {a} {at} {n} whole is r =
    let positive : 0 < a = rw r.is_block (len_positive f r.lawful) in
    let fits : whole ≤ n = omega (arith, is, div-add-mod' n a) in
    let covers : n ≤ next_multiple_of n a = omega arith in
    let ends = r.ends in
    let more : whole < n → at + whole + a ≡ at + next_multiple_of n a = λ h.
    let m : (a - n % a) % a ≡ a - n % a = mod-eq_of_lt (omega (arith, is, div-add-mod' n a)) in
    omega (arith, is, div-add-mod' n a) in
    let step : whole % len_align f ≡ 0 = rw (← r.is_block, is) (mod-eq-zero_of_dvd a (dvd-mul_left a (n / a))) in
    record {
      fits = fits;
      split = record { inside = fits; first = omega arith; longer = omega arith; covers = omega arith };
      all = λ h. let same : next_multiple_of n a ≡ n = next_whole_zero n a positive (omega (arith, is, div-add-mod' n a)) in omega (arith, same);
      one_more = more;
      one_block = λ h. let left : whole < n = omega (arith, r.some) in omega (arith, more left);
      first = record { start = r.start; whole = step; ends = omega arith };
      last = λ h. record {
        start = multiple_add f.req_align at whole r.start (multiple_of_multiple f.req_align (len_align f) whole step (len_whole f r.lawful));
        whole = rw (← r.is_block) (mod_self a);
        ends = omega (arith, more h);
      };
    }
