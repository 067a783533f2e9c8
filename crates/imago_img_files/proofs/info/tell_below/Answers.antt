-- SPDX-License-Identifier: MIT
use Rattle.imago_img_files.proofs.PrintedSteps.{any_both}
use Rattle.imago_img_files.proofs.info.tell_below.Goals as goal

pub loop-depth-preserved : goal.loop-depth-preserved
loop-depth-preserved g c =
    any_both (g.W.Write.contents c.args.output.now) (g.W.Write.contents c.loop-depth.output) (g.W.Write.contents c.tell_next.new.output)
    c.loop-depth.invariant c.in_ok-tell_next.ensures
