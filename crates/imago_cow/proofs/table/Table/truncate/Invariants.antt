-- SPDX-License-Identifier: MIT
use Rattle.std.proofs.Common.{◌≡◌, ◌+◌, length, take}
use Rattle.imago_cow.specs.TableView.{entries_of, held_of, count_of, KeepsRoom}
use Rattle.imago_cow.proofs.table.Table.truncate.Given as goal

abbrev pub invariant-loop : goal.invariant-loop
invariant-loop l =
    (take l.guest_blocks (entries_of l.self) ≡ take l.guest_blocks (entries_of l.fn.self))
    × (length (entries_of l.self) + l.counter ≡ length (entries_of l.fn.self))
    × (held_of l.self ≡ held_of l.fn.self)
    × (count_of l.self ≡ count_of l.fn.self)
    × KeepsRoom l.fn.self l.self
