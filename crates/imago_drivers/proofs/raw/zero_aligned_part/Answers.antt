-- SPDX-License-Identifier: MIT
use Rattle.std.proofs.Common.{rules, ◌≡◌, ◌-◌, ◌<◌, arith, inr, refl, true, false}
use Rattle.std.proofs.lemmas.Result.{err_from_is_err_and}
use Rattle.std.specs.Prelude.{IsErrOf}
use Rattle.imago_storage.specs.declared.error.Error.{Error}
use Rattle.imago_storage.proofs.Outcomes.{CountsFaults_ok}
use Rattle.imago_storage.specs.Features.{IsAlignedTo}
use Rattle.imago_storage.specs.Padding.{IsAlignedPart}
use Rattle.imago_drivers.proofs.StorageBytes.{zeroed_bytes, torn_zeroes, torn_in_range, on_refusal}
use Rattle.imago_drivers.proofs.AlignedParts.{whole_start, whole_length, same_faults, aligned_part_is, part_zeroed, nothing_zeroed, wraps_without_part}
use Rattle.imago_drivers.proofs.Stays.{set_outside}
use Rattle.imago_drivers.proofs.Lengths.{near_end, longest_zeroes}
use Rattle.imago_drivers.proofs.raw.zero_aligned_part.Goals as goal

pub returns-clause-zeroed : goal.returns-clause-zeroed
returns-clause-zeroed g c = λ k.
    let some : 0 < c.in-Some.end - c.in-Some.start = omega (arith, c.if-end-start.false) in
    let z = c.in_ok-write_zeroes.ensures.written some in
    zeroed_bytes _ _ c.in-Some.start (c.in-Some.end - c.in-Some.start) z.end (z.written.done k)

pub returns-in_err-write_zeroes-clause-torn : goal.returns-in_err-write_zeroes-clause-torn
returns-in_err-write_zeroes-clause-torn g c = λ k.
    let some : 0 < c.in-Some.end - c.in-Some.start = omega (arith, c.if-end-start.false) in
    let p = c.in-Some.ensures in
    let z = c.in_err-write_zeroes.ensures.written some in
    on_refusal _ _ (torn_in_range _ _ c.in-Some.start (c.in-Some.end - c.in-Some.start) c.args.offset c.args.count p.before (omega (arith, p.behind))
    (torn_zeroes _ _ c.in-Some.start (c.in-Some.end - c.in-Some.start) z.end (z.written.refused k)))

pub returns-in_err-write_zeroes-clause-memory : goal.returns-in_err-write_zeroes-clause-memory
returns-in_err-write_zeroes-clause-memory g c = λ e a i.
    let p = c.in-Some.ensures in
    let b : IsAlignedTo c.zero_align-align.result c.args.offset c.args.count = rw c.zero_align-align.ensures.value a in
    let s : c.in-Some.start ≡ c.args.offset = whole_start _ _ _ _ _ p b in
    let n : c.in-Some.end - c.in-Some.start ≡ c.args.count = whole_length _ _ _ _ _ p b in
    let m : c.in-Some.end - c.args.offset ≡ c.args.count = rw s at n in
    let refused = rw (s, m) at c.in_err-write_zeroes.ensures.memory in
    refused (search rules) a i

pub returns-clause-lengths : goal.returns-clause-lengths
returns-clause-lengths g c =
    let some : 0 < c.in-Some.end - c.in-Some.start = omega (arith, c.if-end-start.false) in
    let p = c.in-Some.ensures in
    let z = c.in_ok-write_zeroes.ensures.written some in
    record {
      no_shorter = z.written.no_shorter;
      near = near_end (g.S.Storage.features c.args.storage.now) c.args.offset c.args.count z.end _ _ (omega (arith, p.before, p.behind, some)) (omega (arith, z.near, p.behind, some))
          (longest_zeroes _ c.in-Some.start (c.in-Some.end - c.in-Some.start) z.end _ z.covers z.written.no_longer);
    }

pub returns-in_err-write_zeroes-clause-lengths : goal.returns-in_err-write_zeroes-clause-lengths
returns-in_err-write_zeroes-clause-lengths g c =
    let some : 0 < c.in-Some.end - c.in-Some.start = omega (arith, c.if-end-start.false) in
    let p = c.in-Some.ensures in
    let z = c.in_err-write_zeroes.ensures.written some in
    record {
      no_shorter = z.written.no_shorter;
      near = near_end (g.S.Storage.features c.args.storage.now) c.args.offset c.args.count z.end _ _ (omega (arith, p.before, p.behind, some)) (omega (arith, z.near, p.behind, some))
          (longest_zeroes _ c.in-Some.start (c.in-Some.end - c.in-Some.start) z.end _ z.covers z.written.no_longer);
    }

pub returns-in_err-write_zeroes-clause-wraps : goal.returns-in_err-write_zeroes-clause-wraps
returns-in_err-write_zeroes-clause-wraps g c = λ is.
    let p = err_from_is_err_and c.from_residual.result c.from_residual.ensures.1 in
    let e : IsErrOf c.write_zeroes.result Error.WrapAround = search rules in
    let a = c.in-Some.ensures in
    record { from = c.in-Some.start; count = c.in-Some.end - c.in-Some.start; above = a.before; below = omega (arith, a.before, a.behind, c.if-end-start.false); wraps = c.write_zeroes.ensures.may_wrap e }

pub returns-in_err-write_zeroes-clause-cause : goal.returns-in_err-write_zeroes-clause-cause
returns-in_err-write_zeroes-clause-cause g c =
    let p = err_from_is_err_and c.from_residual.result c.from_residual.ensures.1 in
    let cause = rw c.in_err-write_zeroes.was at c.write_zeroes.ensures.cause in
    rw (p.1, p.2) (same_faults _ _ _ _ cause)

pub returns-clause-part : goal.returns-clause-part
returns-clause-part g c =
    let p = c.in-Some.ensures in
    record {
      part = aligned_part_is _ _ _ _ _ _ c.zero_align-align.ensures.value p;
      inside = inr (p.before, omega (arith, p.behind, c.if-end-start.false));
      whole = λ a. (whole_start _ _ _ _ _ p (rw c.zero_align-align.ensures.value a), whole_length _ _ _ _ _ p (rw c.zero_align-align.ensures.value a));
    }

pub returns-clause-cause : goal.returns-clause-cause
returns-clause-cause g c = CountsFaults_ok _ _ _ _ _ c.write_zeroes.ensures.cause

pub returns-clause-performed : goal.returns-clause-performed
returns-clause-performed g c =
    part_zeroed g.S.Storage.features g.S.Storage.bytes g.S.Storage.maintenance g.S.Storage.work (g.S.Storage.features c.args.storage.now) c.zero_align-align.result c.args.offset c.args.count c.in-Some.start c.in-Some.end _ _ c.write_zeroes.result _ c.zero_align-align.ensures.value c.in-Some.ensures
    (omega (arith, c.if-end-start.false)) c.write_zeroes.ensures.performed (rw c.in_ok-write_zeroes.was refl)

pub returns-in_err-write_zeroes-clause-performed : goal.returns-in_err-write_zeroes-clause-performed
returns-in_err-write_zeroes-clause-performed g c =
    let p = err_from_is_err_and c.from_residual.result c.from_residual.ensures.1 in
    part_zeroed g.S.Storage.features g.S.Storage.bytes g.S.Storage.maintenance g.S.Storage.work (g.S.Storage.features c.args.storage.now) c.zero_align-align.result c.args.offset c.args.count c.in-Some.start c.in-Some.end _ _ c.write_zeroes.result _ c.zero_align-align.ensures.value c.in-Some.ensures
    (omega (arith, c.if-end-start.false)) c.write_zeroes.ensures.performed (rw (c.in_err-write_zeroes.was, p.1, p.2) refl)

pub returns-in_default-clause-performed : goal.returns-in_default-clause-performed
returns-in_default-clause-performed g c =
    let f = g.S.Storage.features c.args.storage.now in
    nothing_zeroed _ _ _ _ f _ _ _ (wraps_without_part f.zero_align c.args.offset c.args.count c.requires (rw c.zero_align-align.ensures.value at c.in_default.ensures))

pub returns-then-end-start-clause-performed : goal.returns-then-end-start-clause-performed
returns-then-end-start-clause-performed g c =
    let p = c.in-Some.ensures in
    let q : IsAlignedPart (g.S.Storage.features c.args.storage.now).zero_align c.args.offset c.args.count c.in-Some.start c.in-Some.end = rw c.zero_align-align.ensures.value at p in
    nothing_zeroed _ _ _ _ (g.S.Storage.features c.args.storage.now) _ _ _ (omega (arith, q.is_start, q.is_end, c.if-end-start.true))

pub returns-clause-outside : goal.returns-clause-outside
returns-clause-outside g c = λ size.
    let p = c.in-Some.ensures in
    let some : 0 < c.in-Some.end - c.in-Some.start = omega (arith, c.if-end-start.false) in
    let z = c.in_ok-write_zeroes.ensures.written some in
    set_outside _ false size c.args.offset c.args.count c.in-Some.start
    (c.in-Some.end - c.in-Some.start) _ _ _ p.before (omega (arith, p.behind))
    (λ k. zeroed_bytes _ _ c.in-Some.start (c.in-Some.end - c.in-Some.start) z.end
    (z.written.done k))

pub returns-in_err-write_zeroes-clause-outside : goal.returns-in_err-write_zeroes-clause-outside
returns-in_err-write_zeroes-clause-outside g c = λ size.
    let p = c.in-Some.ensures in
    let some : 0 < c.in-Some.end - c.in-Some.start = omega (arith, c.if-end-start.false) in
    let z = c.in_err-write_zeroes.ensures.written some in
    set_outside _ true size c.args.offset c.args.count c.in-Some.start
    (c.in-Some.end - c.in-Some.start) _ _ _ p.before (omega (arith, p.behind))
    (λ k. torn_zeroes _ _ c.in-Some.start (c.in-Some.end - c.in-Some.start) z.end
    (z.written.refused k))
