-- SPDX-License-Identifier: MIT
use Rattle.std.proofs.Common.{arith, ◌+◌, ◌-◌, subst}
use Rattle.imago_access.specs.declared.mapping.Mapping.{Mapping}
use Rattle.imago_access.specs.Resolved.{IsResolved}
use Rattle.imago_access.specs.Chain.{disk_value}
use Rattle.imago_access.proofs.ZeroSteps.{zero_mapped, zero_more}
use Rattle.imago_access.proofs.access.FormatAccess.maps_as_zero.Goals as goal

pub loop-done-preserved : goal.loop-done-preserved
loop-done-preserved g c =
    let m = c.in-Ok-Zero-default in
    let r = m.ensures.right in
    let v = g.D.FormatDriverInstance.view in
    (omega (arith, r.within, c.loop-done.invariant.0), zero_more (disk_value v c.args.self.now) c.args.offset c.loop-done.done m.length c.loop-done.invariant.1 (zero_mapped v c.args.self.now (c.args.offset + c.loop-done.done) (c.args.count - c.loop-done.done) m.length m.field-0-0-0 (subst (λ (k : Mapping). IsResolved v c.args.self.now (c.args.offset + c.loop-done.done) (c.args.count - c.loop-done.done) k m.length) m.field-0-0-is r)))
