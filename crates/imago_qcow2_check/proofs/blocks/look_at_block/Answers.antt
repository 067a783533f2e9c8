-- SPDX-License-Identifier: MIT
use Rattle.imago_qcow2_check.specs.Tallies.{setting_of}
use Rattle.imago_qcow2_check.proofs.BlockSteps.{block_adds}
use Rattle.imago_qcow2_check.proofs.blocks.look_at_block.Goals as goal

pub returns : goal.returns
returns c = λ counts.
    block_adds (setting_of c.args.shape counts) c.args.tally.now c.tell.new.self c.name.new.self c.args.entry c.rest.result c.length_of-count.result c.rest.ensures c.length_of-count.ensures c.in_ok-tell.ensures.adds (c.in_ok-name.ensures counts)
