-- SPDX-License-Identifier: MIT
use Rattle.std.proofs.Common.{ℕ, ◌<◌, ◌+◌, subst}
use Rattle.imago_access.specs.declared.mapping.Mapping.{Mapping}
use Rattle.imago_access.specs.Resolved.{LeadsTo}
use Rattle.imago_access.specs.Target.{target}
use Rattle.imago_qcow2_new.proofs.DiskSteps.{mapped_zero}
use Rattle.imago_qcow2_new.proofs.write.known_zeroes.Goals as goal

pub returns-in-Zero-clause-zero : goal.returns-in-Zero-clause-zero
returns-in-Zero-clause-zero g c =
    let view = g.D.FormatDriverInstance.view in
    let x = c.args.image.now in
    let r = c.in_ok-mapping in
    mapped_zero view x _ c.args.at r.count (subst (λ (m : Mapping). (i : ℕ) → i < r.count → LeadsTo m i (target view x (c.args.at + i))) c.in-Zero.is r.ensures.right.leads)
