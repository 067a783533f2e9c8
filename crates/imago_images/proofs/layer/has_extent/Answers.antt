-- SPDX-License-Identifier: MIT
use Rattle.std.proofs.Common.{◌≡◌, ◌∙◌, List, String, Global, map, subst}
use Rattle.std.specs.String.{string_bytes}
use Rattle.imago_vmdk.specs.declared.line.Extent.{Extent}
use Rattle.imago_vmdk.specs.Line.{extent_with}
use Rattle.imago_images.specs.Extents.{HasFlat}
use Rattle.imago_images.specs.HostBytes.{HasBytes}
use Rattle.imago_images.proofs.FaultSteps.{extent_read}
use Rattle.imago_images.proofs.PathSteps.{features_of, bytes_of}
use Rattle.imago_images.proofs.RefusalSteps.{where_held}
use Rattle.imago_images.proofs.layer.has_extent.Goals as goal

pub returns-in-Ok : goal.returns-in-Ok
returns-in-Ok g c = λ is.
    let contents = g.H.Files.contents in
    let opened = g.H.File.HostFile.contents in
    let known = contents c.args.host.now in
    let path = c.args.path.now in
    extent_read (λ d. (map (extent_with string_bytes) d.extents.items, d.size)) known c.args.how.accepted path
    c.args.other.now c.deref.result.now c.in-Ok.described
    (subst (λ (es : List (Extent (String Global))). HasFlat (map (extent_with string_bytes) es) path c.args.other.now)
    c.deref-in-Ok.ensures.value (c.in_ok-has_flat-in-Ok.ensures is))
    (where_held known
    (λ files. HasBytes (features_of contents opened) (bytes_of contents opened) (files path) c.in_ok-file.file)
    (λ files. c.deref.result.now ≡ files path) c.in_ok-file.ensures.told
    (λ files told. c.deref.ensures.value ∙ c.in_ok-text.ensures.told (files path) told))
    c.in-Ok.ensures.reading
