-- SPDX-License-Identifier: MIT
use Rattle.imago_qcow2_check.specs.Tallies.{setting_of}
use Rattle.imago_qcow2_check.proofs.BitmapSteps.{bits_adds}
use Rattle.imago_qcow2_check.proofs.bitmaps.look_at_bits.Goals as goal

pub returns : goal.returns
returns c = λ counts.
    bits_adds (setting_of c.args.shape counts) c.args.tally.now c.tell.new.self c.name.new.self c.args.entry c.offset_in-offset.result c.length_of-count.result c.is_valid.result c.is_valid.ensures c.offset_in-offset.ensures.value c.length_of-count.ensures c.in_ok-tell.ensures.adds (c.in_ok-name.ensures counts)
