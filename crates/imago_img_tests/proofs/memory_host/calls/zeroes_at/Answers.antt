-- SPDX-License-Identifier: MIT
use Rattle.imago_img_tests.proofs.Zeroes.{zeroes, zeroes_to_end}
use Rattle.imago_img_tests.proofs.memory_host.calls.zeroes_at.Goals as goal

pub returns-in-Some-clause-zero : goal.returns-in-Some-clause-zero
returns-in-Some-clause-zero c =
    zeroes c.args.bytes.now c.args.offset c.loop-count.count c.loop-count.invariant.zero

pub returns-in-None-clause-zero : goal.returns-in-None-clause-zero
returns-in-None-clause-zero c =
    zeroes_to_end c.args.bytes.now c.args.offset c.loop-count.count c.args.most
    c.loop-count.invariant.zero c.in-None.ensures

pub returns-clause-zero : goal.returns-clause-zero
returns-clause-zero c =
    zeroes c.args.bytes.now c.args.offset c.loop-count.count c.loop-count.invariant.zero
