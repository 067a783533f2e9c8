-- SPDX-License-Identifier: MIT
use Rattle.std.proofs.Common.{subst, sym}
use Rattle.imago_access.specs.Disk.{disk, value_at}
use Rattle.imago_qcow2_new.specs.declared.extents.Extents.{Extents}
use Rattle.imago_qcow2_new.specs.Space.{StoresData}
use Rattle.imago_qcow2_new.proofs.scan.layout_of.Goals as goal

pub returns-clause-sparse : goal.returns-clause-sparse
returns-clause-sparse g c = λ tells.
    subst (λ (e : Extents). StoresData e (value_at (disk g.D.FormatDriverInstance.view c.args.image.now))) (sym c.in_ok-layout.ensures.clusters) (c.in_ok-stored.ensures tells)
