-- SPDX-License-Identifier: MIT
use Rattle.std.proofs.Common.{rules, ◌≡◌, take}
use Rattle.imago_formats.proofs.HeadLaws.{padded}
use Rattle.imago_formats.proofs.probe.head_of.Goals as goal

pub returns : goal.returns
returns c =
    let copied : c.copy_from_slice.new.self ≡ take c.min-count.result c.args.block.now = search rules in
    padded c.args.block.now c.copy_from_slice.new.self c.min-count.result c.min-count.ensures copied
