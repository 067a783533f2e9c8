-- SPDX-License-Identifier: MIT
use Rattle.std.proofs.Common.{◌≡◌, ℕ, List, length}
use Rattle.imago_qcow2.specs.Limit.{IsAccount, table_offsets}
use Rattle.imago_qcow2.proofs.table.count_all.Given as goal

abbrev pub invariant-loop-i : goal.invariant-loop-i
invariant-loop-i l = record {
  account : (bytes : List ℕ) → l.file ≡ length bytes → IsAccount (table_offsets bytes l.cluster l.entries l.i) l.fn.room l.cluster l.counted;
}
