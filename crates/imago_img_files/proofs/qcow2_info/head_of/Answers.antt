-- SPDX-License-Identifier: MIT
use Rattle.std.proofs.Common.{◌∙◌}
use Rattle.imago_img_files.proofs.DescribedSteps.{size_kept}
use Rattle.imago_img_files.proofs.qcow2_info.head_of.Goals as goal

pub returns-then-taken-gt-LONGEST_L1 : goal.returns-then-taken-gt-LONGEST_L1
returns-then-taken-gt-LONGEST_L1 c =
    let first = c.take_out-length.new.bytes in
    let second = c.take_out-length-2.new.bytes in
    c.in_ok-header.ensures.sound.size ∙ size_kept second c.take_out-length-3.new.bytes c.take_out-length-3.ensures.first
    ∙ size_kept first second c.take_out-length-2.ensures.first ∙ size_kept c.args.bytes first c.take_out-length.ensures.first

pub returns-else-taken-gt-LONGEST_L1 : goal.returns-else-taken-gt-LONGEST_L1
returns-else-taken-gt-LONGEST_L1 c =
    let first = c.take_out-length.new.bytes in
    let second = c.take_out-length-2.new.bytes in
    c.in_ok-header.ensures.sound.size ∙ size_kept second c.take_out-length-3.new.bytes c.take_out-length-3.ensures.first
    ∙ size_kept first second c.take_out-length-2.ensures.first ∙ size_kept c.args.bytes first c.take_out-length.ensures.first
