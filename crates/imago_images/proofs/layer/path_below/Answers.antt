-- SPDX-License-Identifier: MIT
use Rattle.std.proofs.Common.{◌≡◌, ◌⊎◌, None, option_map, refl, sym, ap, ◌∙◌, inr}
use Rattle.imago_images.specs.declared.failure.Reason.TheVariants as Reason
use Rattle.imago_images.specs.BackingNames.{file_named}
use Rattle.imago_images.specs.Refusals.{IsByDriver, IsProtocol}
use Rattle.imago_images.proofs.RefusalSteps.{refused_for}
use Rattle.imago_images.proofs.layer.path_below.Goals as goal

pub returns-in-None-clause-refused : goal.returns-in-None-clause-refused
returns-in-None-clause-refused c =
    let name = c.in_ok-name.name in
    let text = c.in_ok-name.ensures.text in
    let none : file_named c.args.name.items ≡ None =
    ap file_named (sym text ∙ sym c.deref.ensures) ∙ sym c.file_named.ensures
    ∙ ap (λ o. option_map (λ file. file.now) o) c.in-None.is in
    refused_for c.args.path.now (λ r. IsByDriver r ⊎ IsProtocol c.args.name.items r) (Reason.BackingProtocol name)
    (inr (name, refl, text, none)) c.of_file.result c.of_file.ensures
