-- SPDX-License-Identifier: MIT
use Rattle.imago_img_files.proofs.PrintedSteps.{told_first, told_second, on_ok}
use Rattle.imago_img_files.proofs.info.tell_chain.Goals as goal

pub returns : goal.returns
returns g c =
    let json = c.args.json in
    let format = c.args.report.format in
    let size = c.args.report.size in
    let old = g.W.Write.contents c.args.output.now in
    let begun = g.W.Write.contents c.print_bytes.new.output in
    let told = g.W.Write.contents c.tell.new.output in
    let below = g.W.Write.contents c.tell_below.new.output in
    let last = g.W.Write.contents c.print_bytes-2.new.output in
    on_ok c.print_bytes-2.result (λ h. told_first json format size old below last
    (told_first json format size old told below
    (told_second json format size old begun told c.in_ok-print_bytes.ensures c.in_ok-tell.ensures)
    c.in_ok-tell_below.ensures) h) c.print_bytes-2.ensures
