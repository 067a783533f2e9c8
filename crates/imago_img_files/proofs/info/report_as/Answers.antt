-- SPDX-License-Identifier: MIT
use Rattle.std.proofs.Common.{◌≡◌, ◌∙◌, List, String, Global, map, sym, ap, subst}
use Rattle.imago_images.specs.Extents.{size_read}
use Rattle.imago_images.specs.Layers.{size_by}
use Rattle.std.specs.String.{string_bytes}
use Rattle.imago_vmdk.specs.declared.line.Extent.{Extent}
use Rattle.imago_vmdk.specs.Line.{extent_with}
use Rattle.imago_images.specs.declared.format.ImageFormat.{ImageFormat}
use Rattle.imago_img_files.specs.Described.{HaveNoFiles, NamesNothing}
use Rattle.imago_img_files.proofs.info.report_as.Goals as goal

pub returns-in_ok-size-in-Raw-clause-alone : goal.returns-in_ok-size-in-Raw-clause-alone
returns-in_ok-size-in-Raw-clause-alone g c = λ bytes has none.
    subst (λ (f : ImageFormat). NamesNothing c.args.how.accepted bytes f) (sym c.in-Raw.is) tt

pub returns-in_ok-extents-in-Vmdk-clause-alone : goal.returns-in_ok-extents-in-Vmdk-clause-alone
returns-in_ok-extents-in-Vmdk-clause-alone g c = λ bytes has none.
    let described = c.in_ok-described-in-Vmdk.described in
    let apart : HaveNoFiles (map (extent_with string_bytes) described.extents.items) =
    subst (λ (es : List (Extent (String Global))). HaveNoFiles (map (extent_with string_bytes) es))
    c.deref.ensures.value (c.in_ok-refuse_files-in-Vmdk.ensures none) in
    subst (λ (f : ImageFormat). NamesNothing c.args.how.accepted bytes f) (sym c.in-Vmdk.is)
    (map (extent_with string_bytes) described.extents.items, described.size, c.in_ok-described-in-Vmdk.ensures bytes has, apart)

pub returns-in_ok-found-in-Qcow2-clause-alone : goal.returns-in_ok-found-in-Qcow2-clause-alone
returns-in_ok-found-in-Qcow2-clause-alone g c = λ bytes has none.
    subst (λ (f : ImageFormat). NamesNothing c.args.how.accepted bytes f) (sym c.in-Qcow2.is)
    (c.in_ok-found-in-Qcow2.ensures.alone bytes has none)

pub returns-in_ok-size-in-Raw-clause-size : goal.returns-in_ok-size-in-Raw-clause-size
returns-in_ok-size-in-Raw-clause-size g c = λ bytes has.
    subst (λ (f : ImageFormat). c.in_ok-size-in-Raw.size ≡ size_by c.args.how.accepted f bytes) (sym c.in-Raw.is)
    (c.in_ok-size-in-Raw.ensures.told bytes has)

pub returns-in_ok-extents-in-Vmdk-clause-size : goal.returns-in_ok-extents-in-Vmdk-clause-size
returns-in_ok-extents-in-Vmdk-clause-size g c = λ bytes has.
    let size = c.in_ok-described-in-Vmdk.described.size in
    subst (λ (f : ImageFormat). size ≡ size_by c.args.how.accepted f bytes) (sym c.in-Vmdk.is)
    (sym (ap size_read (c.in_ok-described-in-Vmdk.ensures bytes has)))

pub returns-in_ok-found-in-Qcow2-clause-size : goal.returns-in_ok-found-in-Qcow2-clause-size
returns-in_ok-found-in-Qcow2-clause-size g c = λ bytes has.
    subst (λ (f : ImageFormat). c.disk_size.result ≡ size_by c.args.how.accepted f bytes) (sym c.in-Qcow2.is)
    (c.disk_size.ensures ∙ c.in_ok-found-in-Qcow2.ensures.size bytes has)
