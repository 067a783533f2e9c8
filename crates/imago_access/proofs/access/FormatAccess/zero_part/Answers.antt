-- SPDX-License-Identifier: MIT
use Rattle.std.proofs.Common.{sym, subst}
use Rattle.imago_drivers.specs.Operation.{Zero, DiscardToZero}
use Rattle.imago_access.specs.Lending.{with_driver}
use Rattle.imago_access.specs.declared.zero.ZeroCall.{ZeroCall}
use Rattle.imago_access.specs.Zeroing.{operation_of, HasZeroedPart}
use Rattle.imago_access.proofs.Written.{stays}
use Rattle.imago_access.proofs.ZeroSteps.{part_zeroed}
use Rattle.imago_access.proofs.access.FormatAccess.zero_part.Goals as goal

pub returns-in-EnsureZero-clause-zeroed : goal.returns-in-EnsureZero-clause-zeroed
returns-in-EnsureZero-clause-zeroed g c =
    let e = c.ensure_zero_mapping.ensures.call in
    let v = g.D.FormatDriverInstance.view in
    let d = c.ensure_zero_mapping.new.self in
    subst (λ (k : ZeroCall). HasZeroedPart v (operation_of k) c.args.offset c.args.count c.args.self.now (with_driver c.args.self.now d) c.ensure_zero_mapping.result) (sym c.in-EnsureZero.is)
    (part_zeroed v c.args.self.now d Zero c.args.offset c.args.count c.ensure_zero_mapping.result (g.met.D.FormatDriverInstance.causes_lawful _) e.done e.causes e.reaches e.nothing_pending (stays _ _ e.framed e.lengths.no_shorter) e.outside e.faults e.refusals)

pub returns-in-DiscardToZero-clause-zeroed : goal.returns-in-DiscardToZero-clause-zeroed
returns-in-DiscardToZero-clause-zeroed g c =
    let e = c.discard_to_zero.ensures.call in
    let v = g.D.FormatDriverInstance.view in
    let d = c.discard_to_zero.new.self in
    subst (λ (k : ZeroCall). HasZeroedPart v (operation_of k) c.args.offset c.args.count c.args.self.now (with_driver c.args.self.now d) c.discard_to_zero.result) (sym c.in-DiscardToZero.is)
    (part_zeroed v c.args.self.now d DiscardToZero c.args.offset c.args.count c.discard_to_zero.result (g.met.D.FormatDriverInstance.causes_lawful _) e.done e.causes e.reaches e.nothing_pending (stays _ _ e.framed e.lengths.no_shorter) e.outside e.faults e.refusals)
