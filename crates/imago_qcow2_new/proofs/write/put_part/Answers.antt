-- SPDX-License-Identifier: MIT
use Rattle.std.proofs.Common.{arith, ◌≤◌}
use Rattle.imago_access.specs.Disk.{disk, value_at}
use Rattle.imago_access.specs.ReaderOf.{image_of}
use Rattle.imago_qcow2_new.proofs.SpaceSteps.{stored_step, gap_step}
use Rattle.imago_qcow2_new.proofs.write.put_part.Goals as goal

pub returns-then-part-clause-put : goal.returns-then-part-clause-put
returns-then-part-clause-put g c = λ first tells h.
    let l = c.args.layout.now in
    let values = value_at (disk g.D.FormatDriverInstance.view (image_of c.args.reader.now)) in
    let r = c.in_ok-count in
    let fits : r.count ≤ c.part_at-part.result.count = omega (arith, r.ensures.some.1, c.min-most.ensures) in
    stored_step l.clusters l.data_start values c.args.at r.count c.part_at-part.result c.part_at-part.ensures.part fits c.if-part.true first (g.T.Target.contents c.args.target.now) (g.T.Target.contents c.put_stored.new.target) h (r.ensures.put tells)

pub returns-clause-put : goal.returns-clause-put
returns-clause-put g c = λ first tells h.
    let l = c.args.layout.now in
    let values = value_at (disk g.D.FormatDriverInstance.view (image_of c.args.reader.now)) in
    let r = c.in_ok-count-2 in
    let fits : r.count ≤ c.part_at-part.result.count = omega (arith, r.ensures.some.1, c.min-most.ensures) in
    gap_step l.clusters l.data_start values c.args.at r.count c.part_at-part.result c.part_at-part.ensures.part fits c.if-part.false first (g.T.Target.contents c.args.target.now) h (r.ensures.zero tells)
