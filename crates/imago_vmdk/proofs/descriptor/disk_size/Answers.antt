-- SPDX-License-Identifier: MIT
use Rattle.std.proofs.Common.{◌≡◌, true, false, ◌∙◌, refl, rules}
use Rattle.imago_vmdk.specs.Reading.{is_version}
use Rattle.imago_vmdk.proofs.Lines.{size_by_survey, gives_size}
use Rattle.imago_vmdk.proofs.descriptor.disk_size.Goals as goal

pub returns-then-not-is_known_version : goal.returns-then-not-is_known_version
returns-then-not-is_known_version c =
    let unknown : is_version c.args.version ≡ false = search rules in
    λ r h. size_by_survey r (c.args.version, c.args.size) h ∙ rw unknown refl

pub returns : goal.returns
returns c =
    let known : is_version c.args.version ≡ true = search rules in
    λ r h.
    let e = size_by_survey r (c.args.version, c.args.size) h in
    rw c.ok_or.ensures.value (gives_size c.args.size _ (rw known at e))
