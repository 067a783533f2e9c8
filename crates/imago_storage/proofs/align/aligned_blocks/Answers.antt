-- SPDX-License-Identifier: MIT
use Rattle.std.proofs.Common.{◌≡◌, ◌+◌, arith, refl}
use Rattle.std.proofs.lemmas.Grind.{common_steps}
use Rattle.imago_storage.specs.Padding.{aligned_start}
use Rattle.imago_storage.proofs.Alignment.{power_positive}
use Rattle.imago_storage.proofs.Padding.{aligned_part_of}
use Rattle.imago_storage.proofs.align.aligned_blocks.Goals as goal

pub returns : goal.returns
returns c =
    let start : c.in_ok-start.start ≡ aligned_start c.args.align c.args.offset = grind (arith, common_steps) in
    let sum : c.in_ok-range_end.range_end ≡ c.args.offset + c.args.count = grind (arith, common_steps) in
    aligned_part_of _ _ _ _ _ (power_positive c.args.align c.requires) start (rw c.remainder.ensures.value (rw sum refl)) (omega arith) (omega arith)
