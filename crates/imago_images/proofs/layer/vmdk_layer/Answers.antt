-- SPDX-License-Identifier: MIT
use Rattle.std.proofs.Common.{◌≡◌, ◌∙◌, ap, refl, IfSome, Err}
use Rattle.std.proofs.lemmas.Result.{err_from_is_err_and}
use Rattle.std.specs.String.{string_bytes}
use Rattle.imago_vmdk.specs.declared.line.Accepted.{Accepted}
use Rattle.imago_file.specs.Names.{path_beside}
use Rattle.imago_images.proofs.PathSteps.{features_of, bytes_of}
use Rattle.imago_file.specs.StorageParts.{faults_of}
use Rattle.imago_images.specs.HostBytes.{HasBytes}
use Rattle.imago_images.specs.Refusals.{IsByVmdk}
use Rattle.imago_images.proofs.FaultSteps.{vmdk_fault, folder_out, described_out}
use Rattle.imago_images.proofs.ImageSteps.{refused_with}
use Rattle.imago_images.proofs.PartSteps.{beside_named, IsLookedBy}
use Rattle.imago_images.proofs.RefusalSteps.{where_held}
use Rattle.imago_images.proofs.VmdkSteps.{vmdk_opened}
use Rattle.imago_images.proofs.NamedSteps.{vmdk_named}
use Rattle.imago_images.proofs.layer.vmdk_layer.Goals as goal

pub returns-in-Ok-clause-layer : goal.returns-in-Ok-clause-layer
returns-in-Ok-clause-layer g c =
    let contents = g.H.Files.contents in
    let opened = g.H.File.HostFile.contents in
    vmdk_opened contents (features_of contents opened) faults_of (bytes_of contents opened)
    (λ s relative name. IfSome s.name (λ file. name ≡ path_beside (string_bytes file) relative))
    c.args.host.now c.args.path.now c.args.how.accepted c.args.how.other_files
    c.args.file _ _ _ c.in-Ok.vmdk c.requires.told
    (λ relative name. beside_named string_bytes c.args.file.name _ c.args.path.now relative name c.requires.path refl)
    (c.accept_vmfs-builder.ensures.settings ∙ c.accept_unknown_keys.ensures.settings ∙ c.builder.ensures.settings)
    (c.accept_vmfs-builder.ensures.accepted
    ∙ ap (λ (a : Accepted). record a { vmfs = c.args.how.accepted.vmfs }) c.accept_unknown_keys.ensures.accepted)
    c.in-Ok.ensures.opened
    (c.in_ok-gate.ensures.host, c.in_ok-gate.ensures.image, c.in_ok-gate.ensures.files)
    c.in-Ok.vmdk.read c.in-Ok.vmdk.sized c.places_of_bytes.ensures

pub returns-in_err-gate-clause-refused : goal.returns-in_err-gate-clause-refused
returns-in_err-gate-clause-refused g c =
    let host = c.args.host.now in
    let e = c.in_err-gate.field-0.0 in
    let p = err_from_is_err_and c.from_residual.result c.from_residual.ensures.1 in
    refused_with c.from_residual.result e _ (p.1 ∙ ap (λ x. Err x) p.2)
    (folder_out (g.H.Files.contents host) (g.H.Files.statuses host) (g.H.Files.real_paths host)
    c.args.how.other_files c.args.how c.args.path.now e c.in_err-gate.ensures.refused)

pub returns-clause-refused : goal.returns-clause-refused
returns-clause-refused g c =
    let contents = g.H.Files.contents in
    let opened = g.H.File.HostFile.contents in
    let host = c.args.host.now in
    described_out (contents host) (g.H.Files.statuses host) (g.H.Files.real_paths host)
    c.args.how.other_files c.args.how c.args.path.now c.not_described.result c.in-Err.cause
    (where_held (contents host)
    (λ files. HasBytes (features_of contents opened) (bytes_of contents opened) (files c.args.path.now) c.args.file)
    (λ files. IsByVmdk c.args.how.accepted (files c.args.path.now) c.args.path.now c.in-Err.cause)
    c.requires.told
    (λ files told. vmdk_fault (bytes_of contents opened) (features_of contents opened)
    (λ s relative name. IfSome s.name (λ file. name ≡ path_beside (string_bytes file) relative))
    (IsLookedBy contents (features_of contents opened) (bytes_of contents opened))
    (files c.args.path.now) c.args.path.now c.args.file c.args.how.accepted _ _ _ c.open.result c.in-Err.cause c.in-Err.is
    (c.accept_vmfs-builder.ensures.settings ∙ c.accept_unknown_keys.ensures.settings ∙ c.builder.ensures.settings)
    (c.accept_vmfs-builder.ensures.accepted
    ∙ ap (λ (a : Accepted). record a { vmfs = c.args.how.accepted.vmfs }) c.accept_unknown_keys.ensures.accepted)
    c.open.ensures.opened told))
    c.not_described.ensures

pub returns-in-Ok-clause-files : goal.returns-in-Ok-clause-files
returns-in-Ok-clause-files g c =
    let contents = g.H.Files.contents in
    let opened = g.H.File.HostFile.contents in
    vmdk_named contents (features_of contents opened) (bytes_of contents opened)
    (λ s relative name. IfSome s.name (λ file. name ≡ path_beside (string_bytes file) relative))
    c.args.host.now c.args.path.now c.args.how.accepted c.args.file _ _ _ c.in-Ok.vmdk
    c.requires.told c.requires.path
    (λ relative name. beside_named string_bytes c.args.file.name _ c.args.path.now relative name c.requires.path refl)
    (c.accept_vmfs-builder.ensures.settings ∙ c.accept_unknown_keys.ensures.settings ∙ c.builder.ensures.settings)
    (c.accept_vmfs-builder.ensures.accepted
    ∙ ap (λ (a : Accepted). record a { vmfs = c.args.how.accepted.vmfs }) c.accept_unknown_keys.ensures.accepted)
    c.in-Ok.ensures.opened c.in-Ok.vmdk.read
