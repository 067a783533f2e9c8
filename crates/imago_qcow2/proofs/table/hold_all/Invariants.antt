-- SPDX-License-Identifier: MIT
use Rattle.std.proofs.Common.{◌≡◌, length}
use Rattle.imago_qcow2.specs.Limit.{IsAccount, table_offsets}
use Rattle.imago_qcow2.specs.Tables.{AreHeld, AreKnown}
use Rattle.imago_qcow2.proofs.table.hold_all.Given as goal

abbrev pub invariant-loop-i : goal.invariant-loop-i
invariant-loop-i g l = record {
  count : length l.l1.items ≡ l.i;
  held : AreHeld (g.S.Storage.features l.storage) (g.S.Storage.bytes l.storage) l.cluster l.entries l.l1.items l.loaded.tables.items;
  known : AreKnown (g.S.Storage.features l.storage) (g.S.Storage.bytes l.storage) l.cluster l.loaded;
  account : IsAccount (table_offsets (g.S.Storage.bytes l.storage) l.cluster l.entries l.i) l.fn.loaded.room l.cluster l.loaded;
}
