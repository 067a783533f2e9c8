-- SPDX-License-Identifier: MIT
use Rattle.imago_images.proofs.PartSteps.{told_same}
use Rattle.imago_images.proofs.RefusalSteps.{layer_refused}
use Rattle.std.proofs.Common.{◌≡◌, ap, ◌∙◌}
use Rattle.imago_images.proofs.layer.qcow2_layer.Goals as goal

pub returns-clause-driver : goal.returns-clause-driver
returns-clause-driver g c = λ bytes told.
    c.layer_in_qcow2.ensures.driver bytes
    (told_same g.S.Storage.features g.S.Storage.bytes bytes _ _ c.in_ok-qcow2.ensures.opened.0 told)

pub returns-clause-below : goal.returns-clause-below
returns-clause-below g c = λ bytes told.
    c.layer_in_qcow2.ensures.below bytes
    (told_same g.S.Storage.features g.S.Storage.bytes bytes _ _ c.in_ok-qcow2.ensures.opened.0 told)

pub returns-clause-format : goal.returns-clause-format
returns-clause-format g c = λ bytes told.
    c.layer_in_qcow2.ensures.format bytes
    (told_same g.S.Storage.features g.S.Storage.bytes bytes _ _ c.in_ok-qcow2.ensures.opened.0 told)

pub returns-clause-refused : goal.returns-clause-refused
returns-clause-refused g c =
    layer_refused g.S.Storage.features g.S.Storage.bytes (g.H.Files.contents c.args.host.now) c.args.path.now
    c.args.most_tables _ _ c.layer_in_qcow2.result c.in_ok-qcow2.ensures.opened.0 c.layer_in_qcow2.ensures.refused

pub returns-clause-files : goal.returns-clause-files
returns-clause-files g c = λ named.
    c.layer_in_qcow2.ensures.files (ap (λ s. (g.S.Storage.features s).filename) c.in_ok-qcow2.ensures.opened.0 ∙ named)
