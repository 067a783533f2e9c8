-- SPDX-License-Identifier: MIT
use Rattle.std.proofs.Common.{rules, ◌≡◌, ◌∙◌, sym, ap, Ok, Err, Some, None, inr}
use Rattle.std.proofs.lemmas.Result.{err_from_is_err_and}
use Rattle.std.specs.String.{string_bytes}
use Rattle.imago_qcow2.specs.Qcow2Image.{storage_in}
use Rattle.imago_images.specs.declared.failure.Reason.TheVariants as Reason
use Rattle.imago_images.specs.Formats.{format_named}
use Rattle.imago_images.specs.Refusals.{IsUnopened}
use Rattle.imago_images.proofs.RefusalSteps.{refused_for, by_driver}
use Rattle.imago_images.proofs.ImageSteps.{refused_with}
use Rattle.imago_images.proofs.NameSteps.{format_is, other_format}
use Rattle.imago_images.proofs.layer.format_below.Goals as goal

pub returns-in-Some-named-clause-said : goal.returns-in-Some-named-clause-said
returns-in-Some-named-clause-said g c = λ tells.
    let found : c.or_image.result ≡ Ok (Some c.in-Some.name) = search rules in
    format_is (g.S.Storage.bytes (storage_in c.args.qcow2.now)) c.backing_format.result c.or_image.result
    c.in-Some.name c.deref.result.now c.in-Some-named.format (c.backing_format.ensures.name tells)
    c.or_image.ensures.given found (c.deref.ensures ∙ c.in_ok-name-2.ensures.text)
    (sym c.named.ensures ∙ c.in-Some-named.is)

pub returns-in-None-clause-refused : goal.returns-in-None-clause-refused
returns-in-None-clause-refused g c = λ limit tells names.
    let bytes = g.S.Storage.bytes (storage_in c.args.qcow2.now) in
    let found : c.or_image.result ≡ Ok (Some c.in-Some.name) = search rules in
    let text = string_bytes c.in_ok-name-2.name in
    let none : format_named text ≡ None =
    ap format_named (sym c.deref.ensures) ∙ sym c.named.ensures ∙ c.in-None.is in
    refused_for c.args.path.now (IsUnopened limit bytes) (Reason.BackingFormat c.in_ok-name-2.name) (
      names,
      other_format bytes c.backing_format.result c.or_image.result c.in-Some.name text
          (c.backing_format.ensures.name tells) c.or_image.ensures.given found c.in_ok-name-2.ensures.text none,
    )
    c.of_file.result c.of_file.ensures

pub returns-in_err-name-clause-refused : goal.returns-in_err-name-clause-refused
returns-in_err-name-clause-refused g c = λ limit tells names.
    let e = c.in_err-name.field-0.0 in
    let p = err_from_is_err_and c.from_residual.result c.from_residual.ensures.1 in
    refused_with c.from_residual.result e _ (p.1 ∙ ap (λ x. Err x) p.2)
    (by_driver c.args.path.now (IsUnopened limit (g.S.Storage.bytes (storage_in c.args.qcow2.now)))
    (λ error. inr (inr names)) e c.in_err-name.ensures.refused)

pub returns-in_err-name-2-clause-refused : goal.returns-in_err-name-2-clause-refused
returns-in_err-name-2-clause-refused g c = λ limit tells names.
    let e = c.in_err-name-2.field-0.0 in
    let p = err_from_is_err_and c.from_residual-in_err-name-2.result c.from_residual-in_err-name-2.ensures.1 in
    refused_with c.from_residual-in_err-name-2.result e _ (p.1 ∙ ap (λ x. Err x) p.2)
    (by_driver c.args.path.now (IsUnopened limit (g.S.Storage.bytes (storage_in c.args.qcow2.now)))
    (λ error. inr (inr names)) e c.in_err-name-2.ensures.refused)
