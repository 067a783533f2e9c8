-- SPDX-License-Identifier: MIT
use Rattle.imago_img_files.proofs.PrintedSteps.{any_both, forgotten}
use Rattle.imago_img_files.proofs.info.tell_next.Goals as goal

pub returns : goal.returns
returns g c =
    let first = g.W.Write.contents c.print_bytes.new.output in
    let last = g.W.Write.contents c.tell.new.output in
    any_both (g.W.Write.contents c.args.output.now) first last c.in_ok-print_bytes.ensures (forgotten _ first last c.in_ok-tell.ensures)
