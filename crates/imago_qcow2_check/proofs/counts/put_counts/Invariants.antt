-- SPDX-License-Identifier: MIT
use Rattle.imago_qcow2_check.specs.Counts.{count_in}
use Rattle.imago_qcow2_check.specs.CountParts.{AppendsCounts}
use Rattle.imago_qcow2_check.proofs.counts.put_counts.Given as goal

abbrev pub invariant-loop-index : goal.invariant-loop-index
invariant-loop-index l = AppendsCounts (count_in l.order l.block 0) l.index l.initial.counts.items l.counts.items
