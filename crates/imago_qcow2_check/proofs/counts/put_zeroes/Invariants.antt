-- SPDX-License-Identifier: MIT
use Rattle.imago_qcow2_check.specs.CountParts.{AppendsCounts}
use Rattle.imago_qcow2_check.proofs.counts.put_zeroes.Given as goal

abbrev pub invariant-loop-index : goal.invariant-loop-index
invariant-loop-index l = AppendsCounts (λ i. 0) l._index l.initial.counts.items l.counts.items
