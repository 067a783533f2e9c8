-- SPDX-License-Identifier: MIT
use Rattle.std.proofs.Common.{◌≡◌, ℕ, ◌+◌, ◌*◌, ◌≤◌, ◌&&◌, length, max, Result, Ok}
use Rattle.imago_storage.specs.declared.error.Error.{Error}
use Rattle.imago_storage.specs.Faults.{CountsFaults}
use Rattle.imago_drivers.specs.LayerBelow.{lent}
use Rattle.imago_drivers.specs.Lengths.{padded_to}
use Rattle.imago_cow.specs.Table.{named_count}
use Rattle.imago_cow.specs.TableView.{entries_of, count_of, KeepsRoom, IsReady}
use Rattle.imago_cow.specs.Grown.{ArePushed}
use Rattle.imago_cow.specs.CopyCalls.{ArePushedInTurn}
use Rattle.imago_cow.proofs.guest_blocks.push_blocks.Given as goal

abbrev pub invariant-loop : goal.invariant-loop
invariant-loop g l = record {
  pushed : ArePushed (lent g.B.LowerLayer.as_layer_below l.fn.below).at (g.S.Storage.features l.fn.storage).keeps_data (lent g.B.LowerLayer.as_layer_below l.fn.below).tells_bytes l.fn.missing.block.length l.fn.missing.new_size (entries_of l.fn.table) (entries_of l.table) (g.S.Storage.bytes l.fn.storage) (g.S.Storage.bytes l.storage) (count_of l.fn.table) (count_of l.table) l.counter;
  copies : (more : ℕ) (last : _) (answer : Result (Unit {0}) Error) → ArePushedInTurn g.S.Storage.features g.S.Storage.bytes g.S.Storage.fault_count g.S.Storage.work g.S.Storage.maintenance (lent g.B.LowerLayer.as_layer_below l.fn.below) l.fn.missing.block.length l.fn.missing.new_size more (entries_of l.table) (count_of l.table) l.storage last answer → ArePushedInTurn g.S.Storage.features g.S.Storage.bytes g.S.Storage.fault_count g.S.Storage.work g.S.Storage.maintenance (lent g.B.LowerLayer.as_layer_below l.fn.below) l.fn.missing.block.length l.fn.missing.new_size (l.counter + more) (entries_of l.fn.table) (count_of l.fn.table) l.fn.storage last answer;
  ready : IsReady l.fn.missing.block.length l.table;
  room : KeepsRoom l.fn.table l.table;
  no_shorter : length (g.S.Storage.bytes l.fn.storage) ≤ length (g.S.Storage.bytes l.storage);
  no_longer : (most : ℕ) → count_of l.fn.table ≤ most → named_count (entries_of l.fn.table) + l.counter ≤ most → length (g.S.Storage.bytes l.storage) ≤ max (length (g.S.Storage.bytes l.fn.storage)) (padded_to (g.S.Storage.features l.fn.storage) 0 (most * l.fn.missing.block.length));
  features : g.S.Storage.features l.storage ≡ g.S.Storage.features l.fn.storage;
  faults : CountsFaults {T = Unit {0}} ((g.S.Storage.features l.fn.storage).is_reliable && (lent g.B.LowerLayer.as_layer_below l.fn.below).is_reliable) (g.S.Storage.fault_count l.fn.storage + l.fn.faults) (g.S.Storage.fault_count l.storage + l.faults) (Ok tt);
}
