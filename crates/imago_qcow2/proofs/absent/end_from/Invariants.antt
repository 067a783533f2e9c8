-- SPDX-License-Identifier: MIT
use Rattle.std.proofs.Common.{◌*◌}
use Rattle.imago_qcow2.specs.Absent.{AreAbsentEntries}
use Rattle.imago_qcow2.proofs.absent.end_from.Given as goal

abbrev pub invariant-loop-index : goal.invariant-loop-index
invariant-loop-index l = AreAbsentEntries l.table (16 * l.group) l.index
