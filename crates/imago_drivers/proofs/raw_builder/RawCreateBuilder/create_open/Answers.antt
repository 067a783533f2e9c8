-- SPDX-License-Identifier: MIT
use Rattle.std.proofs.Common.{◌∙◌, ap, Ok, Err, rules, arith, subst}
use Rattle.std.proofs.lemmas.Grind.{common_steps}
use Rattle.std.proofs.lemmas.Result.{err_from_is_err_and}
use Rattle.imago_drivers.specs.RawBuilder.{IsRawOpening}
use Rattle.imago_drivers.proofs.raw_builder.RawCreateBuilder.create_open.Goals as goal

pub returns-in_err-empty-clause-created : goal.returns-in_err-empty-clause-created
returns-in_err-empty-clause-created g c =
    let p = err_from_is_err_and c.from_residual.result c.from_residual.ensures.1 in
    let why = c.in_err-empty.ensures.refusals in
    (Err c.in_err-empty.field-0.0, (search rules, c.empty.new.storage, rw (c.get_image-storage.ensures) at c.in_err-empty.ensures.performed), p.1 ∙ ap (λ e. Err e) p.2)

pub returns-in_err-builder-clause-created : goal.returns-in_err-builder-clause-created
returns-in_err-builder-clause-created g c =
    let p = err_from_is_err_and c.from_residual-in_err-builder.result c.from_residual-in_err-builder.ensures.1 in
    let h = c.in_ok-empty.ensures in
    (Ok c.empty.new.storage, (search rules, search rules, search rules, rw (c.get_image-storage.ensures) at h.performed), (Err c.in_err-builder.field-0.0, c.in_err-builder.ensures, p.1 ∙ ap (λ e. Err e) p.2))

pub returns-in_err-image-clause-created : goal.returns-in_err-image-clause-created
returns-in_err-image-clause-created g c =
    let p = err_from_is_err_and c.from_residual-in_err-image.result c.from_residual-in_err-image.ensures.1 in
    let h = c.in_ok-empty.ensures in
    (Ok c.empty.new.storage, (search rules, search rules, search rules, rw (c.get_image-storage.ensures) at h.performed), (Ok c.in_ok-builder.builder, c.in_ok-builder.ensures, (Err c.in_err-image.field-0.0, subst (λ x. IsRawOpening {g = g.S.Storage} {h = g.S.Display} g.S.Storage.bytes g.S.Storage.features g.G.ImplicitOpenGate.opened c.args.gate x (Err c.in_err-image.field-0.0)) c.write.ensures c.in_err-image.ensures.opened, p.1 ∙ ap (λ e. Err e) p.2)))

pub returns-in_err-resize_grow-clause-created : goal.returns-in_err-resize_grow-clause-created
returns-in_err-resize_grow-clause-created g c =
    let p = err_from_is_err_and c.from_residual-in_err-resize_grow.result c.from_residual-in_err-resize_grow.ensures.1 in
    let h = c.in_ok-empty.ensures in
    (Ok c.empty.new.storage, (search rules, search rules, search rules, rw (c.get_image-storage.ensures) at h.performed), (Ok c.in_ok-builder.builder, c.in_ok-builder.ensures, (Ok c.in_ok-image.image, subst (λ x. IsRawOpening {g = g.S.Storage} {h = g.S.Display} g.S.Storage.bytes g.S.Storage.features g.G.ImplicitOpenGate.opened c.args.gate x (Ok c.in_ok-image.image)) c.write.ensures c.in_ok-image.ensures.opened, rw (p.1, p.2) (c.resize_grow.new.self, rw (c.get_preallocate-mode.ensures, c.get_size-size.ensures) at c.in_err-resize_grow.ensures.call, rw (c.get_preallocate-mode.ensures, c.get_size-size.ensures) at c.in_err-resize_grow.ensures.performed))))

pub returns-clause-created : goal.returns-clause-created
returns-clause-created g c =
    let h = c.in_ok-empty.ensures in
    (Ok c.empty.new.storage, (search rules, search rules, search rules, rw (c.get_image-storage.ensures) at h.performed), (Ok c.in_ok-builder.builder, c.in_ok-builder.ensures, (Ok c.in_ok-image.image, subst (λ x. IsRawOpening {g = g.S.Storage} {h = g.S.Display} g.S.Storage.bytes g.S.Storage.features g.G.ImplicitOpenGate.opened c.args.gate x (Ok c.in_ok-image.image)) c.write.ensures c.in_ok-image.ensures.opened, (rw (c.get_preallocate-mode.ensures, c.get_size-size.ensures) at c.in_ok-resize_grow.ensures.call, rw (c.get_size-size.ensures) at c.in_ok-resize_grow.ensures.exact, rw (c.get_preallocate-mode.ensures, c.get_size-size.ensures) at c.in_ok-resize_grow.ensures.performed))))

pub returns-clause-writable : goal.returns-clause-writable
returns-clause-writable g c = grind (arith, common_steps)
