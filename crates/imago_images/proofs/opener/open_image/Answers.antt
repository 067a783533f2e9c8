-- SPDX-License-Identifier: MIT
use Rattle.std.proofs.Common.{◌∙◌, ap, ℕ, subst, Err, false}
use Rattle.std.proofs.lemmas.Result.{err_from_is_err_and}
use Rattle.imago_qcow2.specs.Limit.{IsWithin}
use Rattle.imago_any_driver.specs.AnyDriver.{view_over}
use Rattle.imago_file.specs.StorageParts.{faults_of}
use Rattle.imago_images.specs.Way.{entered}
use Rattle.imago_images.proofs.AloneSteps.{image_alone_told}
use Rattle.imago_images.proofs.PathSteps.{features_of, bytes_of}
use Rattle.imago_images.proofs.ImageSteps.{refused_with, image_out, image_over, has_end}
use Rattle.imago_images.proofs.opener.open_image.Goals as goal

pub returns-in_err-file-clause-refused : goal.returns-in_err-file-clause-refused
returns-in_err-file-clause-refused g c =
    let e = c.in_err-file.field-0.0 in
    let p = err_from_is_err_and c.from_residual.result c.from_residual.ensures.1 in
    refused_with c.from_residual.result e _ (p.1 ∙ ap (λ x. Err x) p.2) (c.in_err-file.ensures.refused false)

pub returns-in_err-image-clause-refused : goal.returns-in_err-image-clause-refused
returns-in_err-image-clause-refused g c =
    let host = c.args.host.now in
    let e = c.in_err-image.field-0.0 in
    let p = err_from_is_err_and c.from_residual-in_err-image.result c.from_residual-in_err-image.ensures.1 in
    let first = c.in_ok-file.ensures.entered in
    refused_with c.from_residual-in_err-image.result e _ (p.1 ∙ ap (λ x. Err x) p.2)
    (image_out (g.H.Files.contents host) (g.H.Files.statuses host) (g.H.Files.real_paths host)
    c.args.how.other_files c.args.path.now c.args.how.format e false c.args.how c.in_ok-file.format first.0
    (entered c.first_file.new.way) c.in_ok-file.ensures.format first.1 first.2 c.in_err-image.ensures.refused)

pub returns-clause-end : goal.returns-clause-end
returns-clause-end g c =
    let host = c.args.host.now in
    let first = c.in_ok-file.ensures.entered in
    has_end _ c.in_ok-image.image (g.H.Files.contents host) (g.H.Files.statuses host) (g.H.Files.real_paths host)
    c.args.how c.args.path.now c.in_ok-file.format first.0 (entered c.first_file.new.way) first.1 first.2
    c.in_ok-image.ensures.image c.in_ok-image.ensures.end

pub returns-clause-alone : goal.returns-clause-alone
returns-clause-alone g c = λ none.
    image_alone_told _ c.args.how (g.H.Files.contents c.args.host.now)
    c.args.path.now c.in_ok-file.format c.in_ok-image.image none c.in_ok-image.ensures.image

pub returns-in_err-refuse_size-clause-refused : goal.returns-in_err-refuse_size-clause-refused
returns-in_err-refuse_size-clause-refused g c =
    let contents = g.H.Files.contents in
    let opened = g.H.File.HostFile.contents in
    let host = c.args.host.now in
    let e = c.in_err-refuse_size.field-0.0 in
    let p = err_from_is_err_and c.from_residual-in_err-refuse_size.result c.from_residual-in_err-refuse_size.ensures.1 in
    refused_with c.from_residual-in_err-refuse_size.result e _ (p.1 ∙ ap (λ x. Err x) p.2)
    (image_over (view_over (features_of contents opened) faults_of (bytes_of contents opened)) c.in_ok-image.image
    (contents host) (g.H.Files.statuses host) (g.H.Files.real_paths host) c.args.how.other_files c.args.path.now
    c.args.how.format e false c.args.how c.in_ok-file.format c.size.result c.size.ensures
    c.in_ok-file.ensures.format c.in_ok-image.ensures.image c.in_err-refuse_size.ensures.refused)

pub returns-clause-longest : goal.returns-clause-longest
returns-clause-longest g c =
    subst (λ (n : ℕ). IsWithin c.args.how.longest n) c.size.ensures c.in_ok-refuse_size.ensures.within
