-- SPDX-License-Identifier: MIT
use Rattle.imago_access.specs.Disk.{disk, value_at}
use Rattle.imago_access.specs.ReaderOf.{image_of}
use Rattle.imago_qcow2_new.proofs.StoredSteps.{part_values}
use Rattle.imago_qcow2_new.proofs.scan.Scan.read_part.Goals as goal

pub returns-clause-sparse : goal.returns-clause-sparse
returns-clause-sparse g c = λ tells known.
    c.in_ok-look_at.ensures.sparse (value_at (disk g.D.FormatDriverInstance.view (image_of c.args.reader.now)))
    (part_values _ _ _ _ (c.in_ok-read.ensures.disk tells)) known
