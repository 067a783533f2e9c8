-- SPDX-License-Identifier: MIT
use Rattle.std.proofs.Common.{rules, ◌≡◌, Ok}
use Rattle.imago_img_files.proofs.DescribedSteps.{below_of}
use Rattle.imago_img_files.proofs.qcow2_info.names_below.Goals as goal

pub returns : goal.returns
returns c = λ none.
    let found : c.or_image.result ≡ Ok c.in_ok-first.first = search rules in
    below_of c.args.cluster.items c.args.others _ _ c.alone_image.result c.or_image.result c.in_ok-first.first
    c.alone_image.ensures.tells c.alone_image.ensures.first c.or_image.ensures.given found
    c.in_ok-refuse_below.ensures.alone none
