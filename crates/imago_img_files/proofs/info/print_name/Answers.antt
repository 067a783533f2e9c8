-- SPDX-License-Identifier: MIT
use Rattle.imago_img_files.proofs.PrintedSteps.{any_both, any_of, on_ok}
use Rattle.imago_img_files.proofs.info.print_name.Goals as goal

pub returns : goal.returns
returns g c =
    let old = g.W.Write.contents c.args.output.now in
    let first = g.W.Write.contents c.write_all.new.self in
    let second = g.W.Write.contents c.write_all-2.new.self in
    let last = g.W.Write.contents c.write_all-3.new.self in
    on_ok c.write_all-3.result (λ h. any_both old second last
    (any_both old first second (any_of old first _ c.in_ok-write_all.ensures.bytes) (any_of first second _ c.in_ok-write_all-2.ensures.bytes))
    (any_of second last _ h)) c.write_all-3.ensures.bytes
