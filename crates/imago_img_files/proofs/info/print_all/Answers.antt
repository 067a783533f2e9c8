-- SPDX-License-Identifier: MIT
use Rattle.imago_img_files.proofs.PrintedSteps.{any_of, told_of, told_first, told_second, on_ok}
use Rattle.imago_img_files.proofs.info.print_all.Goals as goal

pub returns : goal.returns
returns g c =
    let old = g.W.Write.contents c.args.output.now in
    let named = g.W.Write.contents c.print_name.new.output in
    let told = g.W.Write.contents c.print_format.new.output in
    let last = g.W.Write.contents c.write_all.new.self in
    on_ok c.write_all.result (λ h. told_first c.args.json c.args.format c.args.size old told last
    (told_second c.args.json c.args.format c.args.size old named told c.in_ok-print_name.ensures
    (_, c.in_ok-print_format.ensures, told_of c.args.json c.args.format c.args.size _))
    (any_of told last _ h)) c.write_all.ensures.bytes
