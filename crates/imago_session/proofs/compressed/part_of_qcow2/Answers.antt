-- SPDX-License-Identifier: MIT
use Rattle.std.proofs.Common.{◌≡◌, ◌/◌, ◌<◌, ◌∙◌, refl, ap, arith}
use Rattle.std.proofs.Props.{props}
use Rattle.std.proofs.Math.Logic.{∥∥₁_elim}
use Rattle.imago_qcow2.specs.declared.header.Header.{Header}
use Rattle.imago_qcow2.specs.Entry.{cluster_length, cluster_of, disk_size}
use Rattle.imago_qcow2.specs.Header.{compression_of}
use Rattle.imago_qcow2.specs.Qcow2Image.{storage_in}
use Rattle.imago_qcow2.proofs.ToldSteps.{size_told, told_sound}
use Rattle.imago_session.specs.Features.{loaded_features}
use Rattle.imago_session.specs.Loaded.{loaded_bytes}
use Rattle.imago_session.proofs.StreamSteps.{part_place}
use Rattle.imago_session.proofs.compressed.part_of_qcow2.Goals as goal

pub returns-clause-places : goal.returns-clause-places
returns-clause-places c = λ bytes i same near.
    let q = c.args.qcow2.now in
    let own = loaded_bytes (storage_in q) in
    let p = c.args.at in
    let length = c.cluster_size-length.result in
    let header = c.header-header.ensures.header in
    let size : q.header.size ≡ disk_size own = size_told loaded_features own refl q.header q.tables q.cluster.length q.cluster_is q.loaded in
    let told : c.disk_size-size.result ≡ disk_size own = c.disk_size-size.ensures ∙ ap (λ (h : Header). h.size) header ∙ size in
    let kind : q.header.compression ≡ compression_of own =
    let prop : IsProp (q.header.compression ≡ compression_of own) = Prim.hlevel props in
    ∥∥₁_elim q.loaded prop (λ x. (told_sound loaded_features own refl q.header (x.0)).compression) in
    let under : p < disk_size own = omega (arith, c.if-at-size.false, told) in
    let found = c.in_ok-cluster.ensures.told refl under in
    let is : cluster_of own (p / cluster_length own) ≡ c.in_ok-cluster.cluster = cc found in
    part_place bytes own same length c.compression.result c.in_ok-cluster.cluster p i
    (c.cluster_size-length.ensures ∙ ap (λ (h : Header). h.cluster_size) header ∙ c.image_of_bytes.ensures.cluster refl)
    (c.compression.ensures ∙ ap (λ (h : Header). h.compression) header ∙ kind)
    is
    (let least = c.header-header.ensures.cluster in let e = c.cluster_size-length.ensures in omega (arith, least, e))
    under
    (let m = c.min.ensures in omega (arith, near, m, told))
