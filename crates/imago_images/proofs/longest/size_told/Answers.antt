-- SPDX-License-Identifier: MIT
use Rattle.std.proofs.Common.{IfErr, subst, sym}
use Rattle.imago_images.specs.declared.format.ImageFormat.{ImageFormat}
use Rattle.imago_images.specs.Longest.{IsSizeUnknown}
use Rattle.imago_images.specs.Refusals.{IsRefused}
use Rattle.imago_images.proofs.LongestSteps.{unknown_by_length}
use Rattle.imago_images.proofs.longest.size_told.Goals as goal

pub returns-in-Raw-clause-refused : goal.returns-in-Raw-clause-refused
returns-in-Raw-clause-refused g c = λ bytes told.
    unknown_by_length c.length_of.result c.args.path.now bytes c.args.accepted c.args.format c.length_of.ensures.refused

pub returns-in-Vmdk-clause-refused : goal.returns-in-Vmdk-clause-refused
returns-in-Vmdk-clause-refused g c = λ bytes told.
    subst (λ (f : ImageFormat). IfErr c.described_size.result
    (IsRefused c.args.path.now (IsSizeUnknown c.args.accepted f bytes))) (sym c.in-Vmdk.is)
    (c.described_size.ensures.refused bytes told)

pub returns-in-Qcow2-clause-refused : goal.returns-in-Qcow2-clause-refused
returns-in-Qcow2-clause-refused g c = λ bytes told.
    subst (λ (f : ImageFormat). IfErr c.header_size.result
    (IsRefused c.args.path.now (IsSizeUnknown c.args.accepted f bytes))) (sym c.in-Qcow2.is)
    (c.header_size.ensures.refused c.args.accepted bytes told)
