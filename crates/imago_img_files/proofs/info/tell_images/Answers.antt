-- SPDX-License-Identifier: MIT
use Rattle.imago_img_files.proofs.PrintedSteps.{told_first, on_ok}
use Rattle.imago_img_files.proofs.info.tell_images.Goals as goal

pub returns : goal.returns
returns g c =
    let told = g.W.Write.contents c.tell.new.output in
    on_ok c.print_bytes.result (λ h. told_first c.args.asked.json c.args.report.format c.args.report.size (g.W.Write.contents c.args.output.now) told
    (g.W.Write.contents c.print_bytes.new.output) c.in_ok-tell.ensures h) c.print_bytes.ensures
