-- SPDX-License-Identifier: MIT
use Rattle.std.proofs.Common.{◌∙◌, ◌++◌, ◌∷◌, [], ℕ, List, ap, Err}
use Rattle.std.proofs.lemmas.Result.{err_from_is_err_and}
use Rattle.imago_images.specs.declared.failure.OpenError.{OpenError}
use Rattle.imago_images.specs.PathFile.{file_status}
use Rattle.imago_images.specs.Way.{identity}
use Rattle.imago_images.proofs.PathSteps.{held_by, features_of, bytes_of}
use Rattle.imago_images.proofs.ImageSteps.{refused_with, identity_told, image_unknown, image_another, image_one, image_long, image_within}
use Rattle.imago_images.specs.Longest.{IsNoLonger, HasShortL1}
use Rattle.imago_images.proofs.opener.first_file.Goals as goal

pub returns-in_err-format-clause-refused : goal.returns-in_err-format-clause-refused
returns-in_err-format-clause-refused g c = λ writable.
    let contents = g.H.Files.contents in
    let opened = g.H.File.HostFile.contents in
    let host = c.args.host.now in
    let e = c.in_err-format.field-0.0 in
    let p = err_from_is_err_and c.from_residual-in_err-format.result c.from_residual-in_err-format.ensures.1 in
    refused_with c.from_residual-in_err-format.result e _ (p.1 ∙ ap (λ x. Err x) p.2)
    (image_unknown (features_of contents opened) (bytes_of contents opened) (contents host) (g.H.Files.statuses host)
    (g.H.Files.real_paths host) c.args.how.other_files c.args.path.now c.args.how.format
    c.in_ok-file-2.file (held_by contents opened c.in_ok-file.file) e c.in_ok-file-2.ensures.told
    writable c.args.how c.in_ok-file.ensures.told c.in_err-format.ensures.refused)

pub returns-in_err-refuse_another-clause-refused : goal.returns-in_err-refuse_another-clause-refused
returns-in_err-refuse_another-clause-refused g c = λ writable.
    let contents = g.H.Files.contents in
    let opened = g.H.File.HostFile.contents in
    let host = c.args.host.now in
    let e = c.in_err-refuse_another.field-0.0 in
    let p = err_from_is_err_and c.from_residual-in_err-refuse_another.result c.from_residual-in_err-refuse_another.ensures.1 in
    refused_with c.from_residual-in_err-refuse_another.result e _ (p.1 ∙ ap (λ x. Err x) p.2)
    (image_another (features_of contents opened) (bytes_of contents opened) (contents host) (g.H.Files.statuses host)
    (g.H.Files.real_paths host) c.args.how.other_files c.args.path.now c.args.how.format
    c.in_ok-file-2.file (held_by contents opened c.in_ok-file.file) e c.in_ok-file-2.ensures.told
    writable c.args.how c.in_ok-file.ensures.told c.in_err-refuse_another.ensures.refused)

pub returns-in_err-refuse_larger-clause-refused : goal.returns-in_err-refuse_larger-clause-refused
returns-in_err-refuse_larger-clause-refused g c = λ writable.
    let contents = g.H.Files.contents in
    let opened = g.H.File.HostFile.contents in
    let host = c.args.host.now in
    let e = c.in_err-refuse_larger.field-0.0 in
    let p = err_from_is_err_and c.from_residual-in_err-refuse_larger.result c.from_residual-in_err-refuse_larger.ensures.1 in
    refused_with c.from_residual-in_err-refuse_larger.result e _ (p.1 ∙ ap (λ x. Err x) p.2)
    (image_long (features_of contents opened) (bytes_of contents opened) (contents host) (g.H.Files.statuses host)
    (g.H.Files.real_paths host) c.args.how.other_files c.args.path.now c.args.how.format
    c.in_ok-file-2.file (held_by contents opened c.in_ok-file.file) e c.in_ok-file-2.ensures.told
    writable c.args.how c.in_ok-format.format c.in_ok-file.ensures.told c.in_ok-format.ensures.told
    c.in_err-refuse_larger.ensures.refused)

pub returns-clause-one : goal.returns-clause-one
returns-clause-one g c =
    let contents = g.H.Files.contents in
    let opened = g.H.File.HostFile.contents in
    let host = c.args.host.now in
    image_one (features_of contents opened) (bytes_of contents opened) (contents host) (g.H.Files.statuses host)
    (g.H.Files.real_paths host) c.args.how.other_files c.args.path.now c.args.how.format
    c.in_ok-file-2.file (held_by contents opened c.in_ok-file.file) OpenError.Memory c.in_ok-file-2.ensures.told
    c.in_ok-file.ensures.told c.in_ok-refuse_another.ensures.one

pub returns-clause-longest : goal.returns-clause-longest
returns-clause-longest g c =
    let contents = g.H.Files.contents in
    let opened = g.H.File.HostFile.contents in
    let host = c.args.host.now in
    image_within (features_of contents opened) (bytes_of contents opened) (contents host) (g.H.Files.statuses host)
    (g.H.Files.real_paths host) c.args.how.other_files c.args.path.now c.args.how.format
    c.in_ok-file-2.file (held_by contents opened c.in_ok-file.file) OpenError.Memory c.in_ok-file-2.ensures.told
    (IsNoLonger c.args.how.longest c.args.how.accepted c.in_ok-format.format) c.in_ok-file.ensures.told
    c.in_ok-refuse_larger.ensures.within

pub returns-clause-l1 : goal.returns-clause-l1
returns-clause-l1 g c =
    let contents = g.H.Files.contents in
    let opened = g.H.File.HostFile.contents in
    let host = c.args.host.now in
    image_within (features_of contents opened) (bytes_of contents opened) (contents host) (g.H.Files.statuses host)
    (g.H.Files.real_paths host) c.args.how.other_files c.args.path.now c.args.how.format
    c.in_ok-file-2.file (held_by contents opened c.in_ok-file.file) OpenError.Memory c.in_ok-file-2.ensures.told
    (HasShortL1 c.in_ok-format.format) c.in_ok-file.ensures.told c.in_ok-refuse_larger.ensures.l1

pub returns-clause-entered : goal.returns-clause-entered
returns-clause-entered g c =
    let host = c.args.host.now in
    let status = file_status c.in_ok-file.file in (
      identity status,
      identity_told (g.H.Files.statuses host) c.args.path.now status c.in_ok-file.ensures.status,
      c.in_ok-enter.ensures.entered ∙ ap (λ (xs : List (ℕ × ℕ)). xs ++ identity status ∷ []) c.requires.first,
    )
