-- SPDX-License-Identifier: MIT
use Rattle.std.proofs.Common.{◌≡◌}
use Rattle.imago_cow.specs.Table.{without_data}
use Rattle.imago_cow.specs.TableView.{entries_of, held_of, count_of}
use Rattle.imago_cow.specs.Guest.{IsCleared}
use Rattle.imago_cow.proofs.guest.clear_range.Given as goal

abbrev pub invariant-loop-index : goal.invariant-loop-index
invariant-loop-index l = IsCleared l.first l.index (without_data l.kind) (entries_of l.fn.table) (entries_of l.table) × (held_of l.table ≡ held_of l.fn.table) × (count_of l.table ≡ count_of l.fn.table)
