-- SPDX-License-Identifier: MIT
use Rattle.std.proofs.Common.{arith, ◌≡◌, ◌+◌, ◌-◌, ◌≤◌, length, sym, ◌∙◌}
use Rattle.imago_access.specs.Chain.{driver}
use Rattle.imago_access.specs.ReaderOf.{image_of as read_by}
use Rattle.imago_copy.specs.RestOf.{disk_of, end_of}
use Rattle.imago_copy.proofs.Compared.{at_hand, part_read}
use Rattle.imago_copy.proofs.compare.Rest.read.Goals as goal

pub read_run-requires-clause-fits : goal.read_run-requires-clause-fits
read_run-requires-clause-fits g c =
    let s = c.args.self.now in
    let hand = at_hand g.D.FormatDriverInstance.view (disk_of s) c.args.at s.end s.run c.in-Some.run' c.in-Some.is c.requires.part.7 in
    omega (arith, hand.1, c.ranges.at.fits)

pub returns-in-Some-clause-bytes : goal.returns-in-Some-clause-bytes
returns-in-Some-clause-bytes g c = λ tells.
    let view = g.D.FormatDriverInstance.view in
    let s = c.args.self.now in
    let run = c.in-Some.run' in
    let hand = at_hand view (disk_of s) c.args.at s.end s.run run c.in-Some.is c.requires.part.7 in
    let at : run.at + (c.args.at - run.at) ≡ c.args.at = omega (arith, hand.1) in
    let long : length c.read_run.new.buf ≡ length c.args.buf.now = c.read_run.auto.buf in
    let within : c.args.at + length c.args.buf.now ≤ (view (driver (disk_of s))).size = omega (arith, c.requires.inside, hand.3) in
    part_read view (disk_of s) (read_by s.reader) (run.at + (c.args.at - run.at)) c.args.at (length c.args.buf.now) c.read_run.new.buf c.read_run.result c.requires.part.6 at long within c.read_run.ensures.bytes tells
