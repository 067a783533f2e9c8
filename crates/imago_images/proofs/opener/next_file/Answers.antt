-- SPDX-License-Identifier: MIT
use Rattle.std.proofs.Common.{◌∙◌, ap, Err}
use Rattle.std.proofs.lemmas.Result.{err_from_is_err_and}
use Rattle.std.specs.String.{string_bytes}
use Rattle.imago_images.specs.GateParts.{gate_host}
use Rattle.imago_images.specs.declared.failure.OpenError.{OpenError}
use Rattle.imago_images.specs.Way.{entered}
use Rattle.imago_images.proofs.PathSteps.{held_by, features_of, bytes_of}
use Rattle.imago_images.proofs.ImageSteps.{refused_with, next_unknown, next_long, next_within}
use Rattle.imago_images.specs.Longest.{IsNoLonger, HasShortL1}
use Rattle.imago_images.proofs.opener.next_file.Goals as goal

pub returns-in_err-format-clause-refused : goal.returns-in_err-format-clause-refused
returns-in_err-format-clause-refused g c =
    let contents = g.H.Files.contents in
    let opened = g.H.File.HostFile.contents in
    let host = c.args.host.now in
    let e = c.in_err-format.field-0.0 in
    let p = err_from_is_err_and c.from_residual-in_err-format.result c.from_residual-in_err-format.ensures.1 in
    refused_with c.from_residual-in_err-format.result e _ (p.1 ∙ ap (λ x. Err x) p.2)
    (next_unknown (features_of contents opened) (bytes_of contents opened) (contents host) (g.H.Files.statuses host)
    (g.H.Files.real_paths host) c.args.how.other_files c.args.path.now c.args.next.now.format
    c.in_ok-file-2.file (held_by contents opened c.in_ok-file.file) e c.in_ok-file-2.ensures.told
    c.args.how (contents (gate_host c.in_ok-gate.gate)) (entered c.args.way.now) (string_bytes c.args.next.now.path)
    c.deref.result.now c.deref-3.result.now (ap contents c.in_ok-gate.ensures.host)
    c.deref.ensures c.deref-3.ensures c.in_ok-file.ensures.told c.in_err-format.ensures.refused)

pub returns-in_err-refuse_larger-clause-refused : goal.returns-in_err-refuse_larger-clause-refused
returns-in_err-refuse_larger-clause-refused g c =
    let contents = g.H.Files.contents in
    let opened = g.H.File.HostFile.contents in
    let host = c.args.host.now in
    let e = c.in_err-refuse_larger.field-0.0 in
    let p = err_from_is_err_and c.from_residual-in_err-refuse_larger.result c.from_residual-in_err-refuse_larger.ensures.1 in
    refused_with c.from_residual-in_err-refuse_larger.result e _ (p.1 ∙ ap (λ x. Err x) p.2)
    (next_long (features_of contents opened) (bytes_of contents opened) (contents host) (g.H.Files.statuses host)
    (g.H.Files.real_paths host) c.args.how.other_files c.args.path.now c.args.next.now.format
    c.in_ok-file-2.file (held_by contents opened c.in_ok-file.file) e c.in_ok-file-2.ensures.told
    c.args.how (contents (gate_host c.in_ok-gate.gate)) (entered c.args.way.now) (string_bytes c.args.next.now.path)
    c.deref.result.now c.deref-3.result.now c.deref-4.result.now c.in_ok-format.format (ap contents c.in_ok-gate.ensures.host)
    c.deref.ensures c.deref-3.ensures c.deref-4.ensures c.in_ok-file.ensures.told c.in_ok-format.ensures.told
    c.in_err-refuse_larger.ensures.refused)

pub returns-clause-longest : goal.returns-clause-longest
returns-clause-longest g c =
    let contents = g.H.Files.contents in
    let opened = g.H.File.HostFile.contents in
    let host = c.args.host.now in
    next_within (features_of contents opened) (bytes_of contents opened) (contents host) (g.H.Files.statuses host)
    (g.H.Files.real_paths host) c.args.how.other_files c.args.path.now c.args.next.now.format
    c.in_ok-file-2.file (held_by contents opened c.in_ok-file.file) OpenError.Memory c.in_ok-file-2.ensures.told
    (IsNoLonger c.args.how.longest c.args.how.accepted c.in_ok-format.format)
    (contents (gate_host c.in_ok-gate.gate)) (string_bytes c.args.next.now.path) c.deref.result.now
    (ap contents c.in_ok-gate.ensures.host) c.deref.ensures c.in_ok-file.ensures.told
    c.in_ok-refuse_larger.ensures.within

pub returns-clause-l1 : goal.returns-clause-l1
returns-clause-l1 g c =
    let contents = g.H.Files.contents in
    let opened = g.H.File.HostFile.contents in
    let host = c.args.host.now in
    next_within (features_of contents opened) (bytes_of contents opened) (contents host) (g.H.Files.statuses host)
    (g.H.Files.real_paths host) c.args.how.other_files c.args.path.now c.args.next.now.format
    c.in_ok-file-2.file (held_by contents opened c.in_ok-file.file) OpenError.Memory c.in_ok-file-2.ensures.told
    (HasShortL1 c.in_ok-format.format)
    (contents (gate_host c.in_ok-gate.gate)) (string_bytes c.args.next.now.path) c.deref.result.now
    (ap contents c.in_ok-gate.ensures.host) c.deref.ensures c.in_ok-file.ensures.told
    c.in_ok-refuse_larger.ensures.l1
