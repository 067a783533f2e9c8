-- SPDX-License-Identifier: MIT
use Rattle.std.proofs.Common.{◌≡◌, ℕ, ◌<◌, ◌≤◌, ⊎_elim, get_or, arith, below_more}
use Rattle.std.specs.Prelude.{bit_or}
use Rattle.std.proofs.lemmas.Nat.{le_or_l, le_or_r}
use Rattle.std.proofs.lemmas.Bool.{cases_lt}
use Rattle.std.proofs.lemmas.Bool.Decides.{nat_tests}
use Rattle.imago_qcow2_new.proofs.Appends.{all_zero}
use Rattle.imago_qcow2_new.proofs.zero.is_zero.Goals as goal

pub loop-byte-preserved : goal.loop-byte-preserved
loop-byte-preserved c =
    let i : ℕ = c.loop-byte.byte-index in
    let byte : ℕ = get_or c.args.bytes.now i 0 in
    record {
      zero = λ e.
          let left = le_or_l c.loop-byte.all byte in
          let right = le_or_r c.loop-byte.all byte in
          let a : c.loop-byte.all ≡ 0 = omega (arith, left, e) in
          let b : byte ≡ 0 = omega (arith, right, e) in
          below_more (λ k. get_or c.args.bytes.now k 0 ≡ 0) i (c.loop-byte.invariant.zero a) b;
      some = λ h. ⊎_elim
          (λ (lt : 0 < byte). (i, omega arith, lt))
          (λ (ge : byte ≤ 0). ⊎_elim
          (λ (more : 0 < c.loop-byte.all). let x = c.loop-byte.invariant.some more in (x.0, (let y = x.1 in omega (arith, y)), x.2))
          (λ (none : c.loop-byte.all ≤ 0).
          let a : c.loop-byte.all ≡ 0 = omega (arith, none) in
          let b : byte ≡ 0 = omega (arith, ge) in
          let z : 0 < bit_or 0 0 = rw (a, b) at h in
          absurd (omega (arith, z)))
          (cases_lt 0 c.loop-byte.all))
          (cases_lt 0 byte);
    }

pub returns-clause-zero : goal.returns-clause-zero
returns-clause-zero c = λ e.
    let z : c.loop-byte.all ≡ 0 = grind (arith, nat_tests, e) in
    all_zero c.args.bytes.now (λ k lt. c.loop-byte.invariant.zero z k (omega (arith, lt, c.loop-byte-test.false)))

pub returns-clause-some : goal.returns-clause-some
returns-clause-some c = λ e.
    let z : 0 < c.loop-byte.all = grind (arith, nat_tests, e) in
    let x = c.loop-byte.invariant.some z in
    (x.0, (let y = x.1 in omega (arith, y)), x.2)
