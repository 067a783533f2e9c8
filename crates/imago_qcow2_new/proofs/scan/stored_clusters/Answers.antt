-- SPDX-License-Identifier: MIT
use Rattle.std.proofs.Common.{IsTrue, ◌∙◌, subst, sym}
use Rattle.imago_access.specs.declared.access.FormatAccess.{FormatAccess}
use Rattle.imago_access.specs.Chain.{tells_bytes}
use Rattle.imago_access.specs.Disk.{disk, value_at}
use Rattle.imago_qcow2_new.specs.declared.extents.Extents.{Extents}
use Rattle.imago_qcow2_new.specs.Space.{StoresData}
use Rattle.imago_qcow2_new.proofs.StoredSteps.{none_stored}
use Rattle.imago_qcow2_new.proofs.scan.stored_clusters.Goals as goal

pub loop-reader-preserved : goal.loop-reader-preserved
loop-reader-preserved g c =
    let view = g.D.FormatDriverInstance.view in
    let l = c.loop-reader in
    let e = c.in_ok-read_range.ensures in
    let old = l.scan.stored in
    let new = c.read_range.new.self.stored in
    record {
      unit = e.unit ∙ l.invariant.unit;
      keeping = e.keeping;
      read = e.image ∙ l.invariant.read;
      image = c.in_ok-run.ensures.same ∙ l.invariant.image;
      ready = c.in_ok-run.ensures.ready;
      sparse = λ tells. subst (λ (x : FormatAccess _). IsTrue (tells_bytes view x) → StoresData old (value_at (disk view x)) → StoresData new (value_at (disk view x))) l.invariant.read e.sparse tells (l.invariant.sparse tells);
    }

pub returns : goal.returns
returns g c = λ tells.
    subst (λ (e : Extents). StoresData e (value_at (disk g.D.FormatDriverInstance.view c.args.image.now))) (sym c.into_stored.ensures) (c.loop-reader.invariant.sparse tells)

pub loop-reader-init : goal.loop-reader-init
loop-reader-init g c =
    record {
      unit = c.new-scan.ensures.unit;
      keeping = c.new-reader.ensures.keeping;
      read = c.new-reader.ensures.image;
      image = c.in_ok-runs.ensures.image;
      ready = c.in_ok-runs.ensures.ready;
      sparse = λ tells. none_stored c.new-scan.result.stored (value_at (disk g.D.FormatDriverInstance.view c.args.image.now)) c.new-scan.ensures.none;
    }
