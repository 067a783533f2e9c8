-- SPDX-License-Identifier: MIT
use Rattle.std.proofs.Common.{◌≡◌, true, arith, subst, length-take}
use Rattle.std.proofs.lemmas.Result.{err_from_is_err_and}
use Rattle.imago_access.specs.declared.mapping.Mapping.{Mapping}
use Rattle.imago_access.specs.Resolved.{IsResolved}
use Rattle.imago_access.proofs.ZeroSteps.{zero_mapped, explicit_alone}
use Rattle.imago_access.proofs.ZeroLoops.{zero_already, piece_done, piece_refused}
use Rattle.imago_access.proofs.access.FormatAccess.zero_first.Goals as goal

pub returns-then-is_explicit_zero-clause-zeroed : goal.returns-then-is_explicit_zero-clause-zeroed
returns-then-is_explicit_zero-clause-zeroed g c =
    let v = g.D.FormatDriverInstance.view in
    let m = c.in_ok-mapping in
    let is : m.mapping ≡ Mapping.Zero true = c.is_explicit_zero.ensures.0 c.if-is_explicit_zero.true in
    let right = subst (λ (k : Mapping). IsResolved v c.args.self.now c.args.offset c.args.count k m.length) is m.ensures.right in
    zero_already v c.args.self.now c.args.offset c.args.count (g.met.D.FormatDriverInstance.causes_lawful _) c.requires.takes.spent _ m.length
    (zero_mapped v c.args.self.now c.args.offset c.args.count m.length true right)
    (explicit_alone v c.args.self.now c.args.offset c.args.count m.length right)

pub returns-in_err-written-clause-zeroed : goal.returns-in_err-written-clause-zeroed
returns-in_err-written-clause-zeroed g c =
    let p = err_from_is_err_and c.from_residual-in_err-written.result c.from_residual-in_err-written.ensures.1 in
    rw (p.1, p.2) (piece_refused g.D.FormatDriverInstance.view c.args.self.now c.args.offset c.args.count (g.met.D.FormatDriverInstance.causes_lawful _) c.requires.takes.spent _ _ c.write_zero_piece.new.self _ c.in_err-written.field-0.0 (simp length-take (omega (arith, c.piece_of-piece.ensures.within))) c.in_err-written.ensures.zeroed)

pub returns-clause-zeroed : goal.returns-clause-zeroed
returns-clause-zeroed g c =
    piece_done g.D.FormatDriverInstance.view c.args.self.now c.args.offset c.args.count
    (g.met.D.FormatDriverInstance.causes_lawful _) c.requires.takes.spent _ _ c.write_zero_piece.new.self
    _ c.in_ok-written.written (simp length-take (omega (arith, c.piece_of-piece.ensures.within)))
    c.in_ok-written.ensures.zeroed
