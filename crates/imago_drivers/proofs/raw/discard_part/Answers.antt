-- SPDX-License-Identifier: MIT
use Rattle.std.proofs.Common.{rules, ◌-◌, ◌<◌, arith, inr, refl}
use Rattle.std.proofs.lemmas.Result.{err_from_is_err_and}
use Rattle.std.specs.Prelude.{IsErrOf}
use Rattle.imago_storage.specs.declared.error.Error.{Error}
use Rattle.imago_storage.specs.Padding.{RangeWraps}
use Rattle.imago_drivers.proofs.StorageBytes.{no_wrap}
use Rattle.imago_drivers.proofs.AlignedParts.{aligned_part_is, whole_start, whole_length, part_fits, outside_part, outside_more, same_faults, part_discarded}
use Rattle.imago_drivers.proofs.Stays.{discard_outside}
use Rattle.imago_drivers.proofs.raw.discard_part.Goals as goal

pub returns-clause-part : goal.returns-clause-part
returns-clause-part g c =
    let p = c.in-Some.ensures in
    record {
      part = aligned_part_is _ _ _ _ _ _ c.discard_align-align.ensures.value p;
      inside = inr (p.before, omega (arith, p.behind, c.if-end-start.false));
      whole = λ a. (whole_start _ _ _ _ _ p (rw c.discard_align-align.ensures.value a), whole_length _ _ _ _ _ p (rw c.discard_align-align.ensures.value a));
    }

pub returns-in_err-discard-clause-only : goal.returns-in_err-discard-clause-only
returns-in_err-discard-clause-only g c =
    let p = c.in-Some.ensures in
    let fits : RangeWraps c.discard_align-align.result c.in-Some.start (c.in-Some.end - c.in-Some.start) → ⊥ = part_fits _ _ _ _ _ p (omega (arith, c.if-end-start.false)) in
    let w : IsErrOf c.discard.result Error.WrapAround → ⊥ = λ e. fits (rw c.discard_align-align.ensures.value ((c.discard.ensures.wraps).0 e)) in
    search (rules, no_wrap)

pub returns-clause-discarded : goal.returns-clause-discarded
returns-clause-discarded g c =
    outside_part (g.S.Storage.features c.args.storage.now).discard_align c.discard_align-align.result c.args.offset c.args.count c.in-Some.start c.in-Some.end _ _ c.discard_align-align.ensures.value c.in-Some.ensures
    (omega (arith, c.if-end-start.false)) c.discard.ensures.bytes

pub returns-clause-performed : goal.returns-clause-performed
returns-clause-performed g c =
    part_discarded g.S.Storage.maintenance (g.S.Storage.features c.args.storage.now).discard_align c.discard_align-align.result c.args.offset c.args.count c.in-Some.start c.in-Some.end _ _ c.discard.result _ c.discard_align-align.ensures.value c.in-Some.ensures
    (omega (arith, c.if-end-start.false)) c.discard.ensures.performed (rw c.in_ok-discard.was refl)

pub returns-in_err-discard-clause-performed : goal.returns-in_err-discard-clause-performed
returns-in_err-discard-clause-performed g c =
    let p = err_from_is_err_and c.from_residual.result c.from_residual.ensures.1 in
    part_discarded g.S.Storage.maintenance (g.S.Storage.features c.args.storage.now).discard_align c.discard_align-align.result c.args.offset c.args.count c.in-Some.start c.in-Some.end _ _ c.discard.result _ c.discard_align-align.ensures.value c.in-Some.ensures
    (omega (arith, c.if-end-start.false)) c.discard.ensures.performed (rw (c.in_err-discard.was, p.1, p.2) refl)

pub returns-in_err-discard-clause-refused : goal.returns-in_err-discard-clause-refused
returns-in_err-discard-clause-refused g c =
    let p = err_from_is_err_and c.from_residual.result c.from_residual.ensures.1 in
    let part = outside_part (g.S.Storage.features c.args.storage.now).discard_align c.discard_align-align.result c.args.offset c.args.count c.in-Some.start c.in-Some.end _ _ c.discard_align-align.ensures.value c.in-Some.ensures
    (omega (arith, c.if-end-start.false)) c.discard.ensures.bytes in
    let a = c.in-Some.ensures in
    rw p.1 (outside_more c.args.offset c.args.count c.in-Some.start (c.in-Some.end - c.in-Some.start) _ _ a.before (omega (arith, a.before, a.behind, c.if-end-start.false)) part)

pub returns-in_err-discard-clause-cause : goal.returns-in_err-discard-clause-cause
returns-in_err-discard-clause-cause g c =
    let p = err_from_is_err_and c.from_residual.result c.from_residual.ensures.1 in
    let cause = rw c.in_err-discard.was at c.discard.ensures.cause in
    rw (p.1, p.2) (same_faults _ _ _ _ cause)

pub returns-clause-outside : goal.returns-clause-outside
returns-clause-outside g c = λ size.
    let a = c.in-Some.ensures in
    let n = c.in-Some.end - c.in-Some.start in
    let align = c.discard_align-align.ensures.value in
    let some : 0 < n = omega (arith, c.if-end-start.false) in
    let part = outside_part (g.S.Storage.features c.args.storage.now).discard_align
    c.discard_align-align.result c.args.offset c.args.count c.in-Some.start c.in-Some.end _ _
    align a (omega (arith, c.if-end-start.false)) c.discard.ensures.bytes in
    discard_outside _ size c.args.offset c.args.count c.in-Some.start n _ _ a.before
    (omega (arith, a.before, a.behind, some)) part

pub returns-in_err-discard-clause-outside : goal.returns-in_err-discard-clause-outside
returns-in_err-discard-clause-outside g c = λ size.
    let a = c.in-Some.ensures in
    let n = c.in-Some.end - c.in-Some.start in
    let align = c.discard_align-align.ensures.value in
    let some : 0 < n = omega (arith, c.if-end-start.false) in
    let part = outside_part (g.S.Storage.features c.args.storage.now).discard_align
    c.discard_align-align.result c.args.offset c.args.count c.in-Some.start c.in-Some.end _ _
    align a (omega (arith, c.if-end-start.false)) c.discard.ensures.bytes in
    discard_outside _ size c.args.offset c.args.count c.in-Some.start n _ _ a.before
    (omega (arith, a.before, a.behind, some)) part
