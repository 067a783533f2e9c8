-- SPDX-License-Identifier: MIT
use Rattle.std.proofs.Common.{None, refl}
use Rattle.imago_images.proofs.RefusalSteps.{qcow2_out}
use Rattle.imago_images.proofs.layer.open_qcow2.Goals as goal

pub returns-in-Err-clause-refused : goal.returns-in-Err-clause-refused
returns-in-Err-clause-refused g c =
    qcow2_out g.S.Storage.features g.S.Storage.bytes (g.H.Files.contents c.args.host.now) c.args.path.now None
    c.args.file c.in-Err.cause c.not_opened.result (c.in-Err.ensures.refused refl) (c.not_opened.ensures.of_bytes None)

pub returns-in-Err-clause-told : goal.returns-in-Err-clause-told
returns-in-Err-clause-told g c = c.not_opened.ensures.told None
