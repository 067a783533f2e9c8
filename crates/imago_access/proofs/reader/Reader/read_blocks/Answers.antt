-- SPDX-License-Identifier: MIT
use Rattle.std.proofs.Common.{arith, ◌≡◌, ◌+◌, ◌-◌, ◌∙◌, length}
use Rattle.std.proofs.lemmas.Grind.{common_steps}
use Rattle.imago_access.specs.ReaderOf.{image_of}
use Rattle.imago_access.proofs.Kept.{made_further}
use Rattle.imago_access.proofs.reader.Reader.read_blocks.Goals as goal

pub loop-done-preserved : goal.loop-done-preserved
loop-done-preserved g c =
    let v = g.D.FormatDriverInstance.view in
    let l = c.loop-done in
    let e = c.read_piece-count.ensures in
    let n = c.read_piece-count.result in
    let mid : length c.read_piece-count.new.buf ≡ length l.buf - l.done = grind (arith, common_steps) in
    let here : c.in-Some.at ≡ c.args.offset + l.done = grind (arith, common_steps) in
    record {
      image = e.image ∙ l.invariant.image;
      keeping = e.keeping;
      within = grind (arith, common_steps);
      bytes = made_further v (image_of c.args.self.now) (image_of l.self) c.args.layer.now l.invariant.image c.args.offset l.done c.in-Some.at (length l.buf - l.done) n l.buf c.read_piece-count.new.buf here l.invariant.within e.within l.invariant.bytes e.bytes;
    }
