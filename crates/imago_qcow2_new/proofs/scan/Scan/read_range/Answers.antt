-- SPDX-License-Identifier: MIT
use Rattle.std.proofs.Common.{IsTrue, ◌∙◌, subst, arith}
use Rattle.imago_access.specs.declared.access.FormatAccess.{FormatAccess}
use Rattle.imago_access.specs.Chain.{tells_bytes}
use Rattle.imago_access.specs.Disk.{disk, value_at}
use Rattle.imago_qcow2_new.specs.Space.{StoresData}
use Rattle.imago_qcow2_new.proofs.scan.Scan.read_range.Goals as goal

pub loop-done-preserved : goal.loop-done-preserved
loop-done-preserved g c =
    let view = g.D.FormatDriverInstance.view in
    let inv = c.loop-done.invariant in
    let e = c.in_ok-done.ensures in
    let old = c.loop-done.self.stored in
    let new = c.read_first.new.self.stored in
    record {
      within = omega (arith, e.some.1);
      unit = e.unit ∙ inv.unit;
      keeping = e.keeping;
      image = e.image ∙ inv.image;
      sparse = λ tells known. subst (λ (x : FormatAccess _). IsTrue (tells_bytes view x) → StoresData old (value_at (disk view x)) → StoresData new (value_at (disk view x))) inv.image e.sparse tells (inv.sparse tells known);
    }
