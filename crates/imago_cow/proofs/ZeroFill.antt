-- SPDX-License-Identifier: MIT
use Rattle.std.proofs.Common.{◌≡◌, ℕ, ◌+◌, ◌-◌, ◌%◌, ◌^◌, ◌≤◌, ⊎_elim, arith}
use Rattle.imago_storage.specs.Features.{Features, ZeroSupport, AreLawful}
use Rattle.imago_storage.specs.Padding.{Wraps, aligned_start}
use Rattle.imago_storage.specs.Zeroes.{MayWrap}
use Rattle.imago_storage.proofs.Alignment.{power_positive, multiple_add, multiple_of_multiple}
use Rattle.imago_storage.proofs.Padding.{next_whole_zero}
use Rattle.imago_storage.proofs.ZeroWraps.{padded_covers}

-- a zero write of a range of whole blocks wraps around only where a write of it does
pub whole_wraps : (f : Features) (z : ZeroSupport) (at n : ℕ) → AreLawful f → at % f.zero_align ≡ 0 → n % f.zero_align ≡ 0 → MayWrap f z at n → Wraps f at n
whole_wraps f z at n laws h k w =
    let start : aligned_start f.zero_align at ≡ at = next_whole_zero at f.zero_align (power_positive f.zero_align laws.zero) h in
    let first : aligned_start f.req_align at ≡ at = next_whole_zero at f.req_align (power_positive f.req_align laws.req) (multiple_of_multiple f.req_align f.zero_align at h laws.zero_whole) in
    let whole : (at + n) % f.zero_align ≡ 0 = multiple_add f.zero_align at n h k in
    let same : at + n - at ≡ n = omega arith in
    let far : 2 ^ 64 ≤ at + n → Wraps f at n = λ x. (w.some, omega (arith, x, padded_covers f at n)) in
    ⊎_elim
    (λ range. ⊎_elim far (λ x. far (omega (arith, x, start))) range)
    (λ rest. ⊎_elim
    (λ part. ⊎_elim (λ a. absurd (omega (arith, a.0, start))) (λ b. absurd (omega (arith, b.0, whole))) (part.2))
    (λ inner. ⊎_elim
    (λ a. absurd (omega (arith, a.0, first)))
    (λ b. let c : Wraps f at (at + n - at) = rw first at b in let d : Wraps f at n = rw same at c in d)
    (inner.1))
    rest)
    w.why
