-- SPDX-License-Identifier: MIT
use Rattle.std.proofs.Common.{arith, ◌-◌, ◌+◌, ⊎_elim, inl, inr, refl}
use Rattle.std.proofs.lemmas.Result.{err_from_is_err_and}
use Rattle.imago_access.specs.Zeroing.{operation_of}
use Rattle.imago_access.proofs.ZeroLoops.{rest_refused, all_filled, part_filled}
use Rattle.imago_access.proofs.access.FormatAccess.zero_next.Goals as goal

pub returns-in_err-fill_zeroes-clause-zeroed : goal.returns-in_err-fill_zeroes-clause-zeroed
returns-in_err-fill_zeroes-clause-zeroed g c =
    let p = err_from_is_err_and c.from_residual-in_err-fill_zeroes.result c.from_residual-in_err-fill_zeroes.ensures.1 in
    rw (p.1, p.2) (rest_refused g.D.FormatDriverInstance.view _ _ (operation_of c.args.call) c.args.self.now c.zero_part.new.self c.fill_zeroes.new.self c.args.offset c.args.count c.args.offset c.args.count c.in_err-fill_zeroes.field-0.0 _ (omega arith) (omega arith) c.in_ok-start.ensures.zeroed
    (λ free. let w = c.in_ok-start.ensures.zeroed.whole free in omega (arith, w.1, c.if-length-eq0.true, c.requires.some)) c.in_err-fill_zeroes.ensures.zeroed)

pub returns-then-length-eq0-clause-zeroed : goal.returns-then-length-eq0-clause-zeroed
returns-then-length-eq0-clause-zeroed g c =
    all_filled g.D.FormatDriverInstance.view (operation_of c.args.call) c.args.self.now c.zero_part.new.self c.fill_zeroes.new.self c.args.offset c.args.count _ _ _ c.in_ok-start.ensures.zeroed c.in_ok-fill_zeroes.ensures.zeroed

pub returns-in_err-fill_zeroes-2-clause-zeroed : goal.returns-in_err-fill_zeroes-2-clause-zeroed
returns-in_err-fill_zeroes-2-clause-zeroed g c =
    let p = err_from_is_err_and c.from_residual-in_err-fill_zeroes-2.result c.from_residual-in_err-fill_zeroes-2.ensures.1 in
    let e = c.in_err-fill_zeroes-2.ensures in
    ⊎_elim
    (λ none. absurd (c.if-length-eq0.false none))
    (λ some. rw (p.1, p.2) (rest_refused g.D.FormatDriverInstance.view _ _ (operation_of c.args.call) c.args.self.now c.zero_part.new.self c.fill_zeroes-2.new.self c.args.offset c.args.count c.args.offset (c.in_ok-start.start - c.args.offset) c.in_err-fill_zeroes-2.field-0.0 _ (omega arith) (omega (arith, some.0, some.1)) c.in_ok-start.ensures.zeroed
    (λ free. let w = c.in_ok-start.ensures.zeroed.whole free in let q = (e.empty (omega (arith, w.0))).0 in let z : ⊥ = cc in z) e.zeroed))
    c.in_ok-start.ensures.zeroed.inside

pub returns-clause-zeroed : goal.returns-clause-zeroed
returns-clause-zeroed g c =
    ⊎_elim
    (λ none. absurd (c.if-length-eq0.false none))
    (λ some. part_filled g.D.FormatDriverInstance.view (operation_of c.args.call) c.args.self.now c.zero_part.new.self c.fill_zeroes-2.new.self c.args.offset c.args.count c.in_ok-start.start c.in_ok-start.length (some.0) (some.1) c.in_ok-start.ensures.zeroed _ _ c.in_ok-fill_zeroes-2.ensures.zeroed)
    c.in_ok-start.ensures.zeroed.inside

pub returns-in_err-fill_zeroes-clause-performed : goal.returns-in_err-fill_zeroes-clause-performed
returns-in_err-fill_zeroes-clause-performed g c =
    let p = err_from_is_err_and c.from_residual-in_err-fill_zeroes.result c.from_residual-in_err-fill_zeroes.ensures.1 in
    rw (p.1, p.2) (inr ((c.in_ok-start.start, c.in_ok-start.length), c.args.count, c.args.count, c.zero_part.new.self, c.in_ok-start.ensures.performed, inl (c.if-length-eq0.true, refl, refl), c.in_err-fill_zeroes.ensures.performed))

pub returns-in_err-fill_zeroes-2-clause-performed : goal.returns-in_err-fill_zeroes-2-clause-performed
returns-in_err-fill_zeroes-2-clause-performed g c =
    let p = err_from_is_err_and c.from_residual-in_err-fill_zeroes-2.result c.from_residual-in_err-fill_zeroes-2.ensures.1 in
    rw (p.1, p.2) (inr ((c.in_ok-start.start, c.in_ok-start.length), c.in_ok-start.start - c.args.offset, c.in_ok-start.start - c.args.offset + c.in_ok-start.length, c.zero_part.new.self, c.in_ok-start.ensures.performed, inr (omega (arith, c.if-length-eq0.false), refl, refl), c.in_err-fill_zeroes-2.ensures.performed))
