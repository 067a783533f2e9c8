-- SPDX-License-Identifier: MIT
use Rattle.std.proofs.Common.{◌≡◌, ℕ, ◌+◌, IsTrue, refl, subst, ◌∙◌, arith}
use Rattle.imago_access.specs.declared.access.FormatAccess.{FormatAccess}
use Rattle.imago_access.specs.Chain.{tells_bytes}
use Rattle.imago_access.specs.Disk.{disk, value_at}
use Rattle.imago_qcow2_new.specs.Space.{Fills}
use Rattle.imago_qcow2_new.proofs.SpaceSteps.{begun}
use Rattle.imago_qcow2_new.proofs.write.put_disk.Goals as goal

pub loop-at-init : goal.loop-at-init
loop-at-init g c = record {
  reads = c.new-reader.ensures.image;
  keeping = c.new-reader.ensures.keeping;
  within = omega arith;
  same = refl;
  put = λ tells. begun c.args.layout.now.clusters c.args.layout.now.data_start (value_at (disk g.D.FormatDriverInstance.view c.args.image.now)) (g.T.Target.contents c.args.target.now);
}

pub loop-at-preserved : goal.loop-at-preserved
loop-at-preserved g c =
    let view = g.D.FormatDriverInstance.view in
    let l = c.args.layout.now in
    let inv = c.loop-at.invariant in
    let e = c.in_ok-at.ensures in
    let first = g.T.Target.contents c.args.target.now in
    let mid = g.T.Target.contents c.loop-at.target in
    let new = g.T.Target.contents c.put_part.new.target in
    let n : ℕ = c.in_ok-at.field-0 in
    record {
      reads = e.image ∙ inv.reads;
      keeping = e.keeping;
      within = omega (arith, e.some.1);
      same = e.same ∙ inv.same;
      put = λ tells. subst (λ (x : FormatAccess _). IsTrue (tells_bytes view x) → Fills l.clusters l.data_start (value_at (disk view x)) first mid c.loop-at.at → Fills l.clusters l.data_start (value_at (disk view x)) first new (c.loop-at.at + n)) inv.reads (e.put first) tells (inv.put tells);
    }

pub returns-clause-put : goal.returns-clause-put
returns-clause-put g c = λ tells.
    let l = c.args.layout.now in
    let all : c.loop-at.at ≡ l.length = omega (arith, c.loop-at-test.false, c.loop-at.invariant.within) in
    subst (λ (n : ℕ). Fills l.clusters l.data_start (value_at (disk g.D.FormatDriverInstance.view c.args.image.now)) (g.T.Target.contents c.args.target.now) (g.T.Target.contents c.loop-at.target) n) all (c.loop-at.invariant.put tells)
