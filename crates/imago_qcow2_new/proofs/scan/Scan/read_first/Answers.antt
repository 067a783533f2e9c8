-- SPDX-License-Identifier: MIT
use Rattle.std.proofs.Common.{IsTrue, subst}
use Rattle.imago_access.specs.declared.access.FormatAccess.{FormatAccess}
use Rattle.imago_access.specs.Chain.{tells_bytes}
use Rattle.imago_access.specs.Disk.{disk, value_at}
use Rattle.imago_qcow2_new.specs.Space.{StoresData}
use Rattle.imago_qcow2_new.proofs.scan.Scan.read_first.Goals as goal

pub returns-clause-sparse : goal.returns-clause-sparse
returns-clause-sparse g c = λ tells known.
    let view = g.D.FormatDriverInstance.view in
    let first = c.in_ok-shows_data.ensures in
    let old = c.shows_data.new.self.stored in
    let new = c.read_part.new.self.stored in
    subst (λ (x : FormatAccess _). IsTrue (tells_bytes view x) → StoresData old (value_at (disk view x)) → StoresData new (value_at (disk view x))) first.image c.in_ok-count.ensures.sparse tells (first.sparse tells known)
