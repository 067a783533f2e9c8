-- SPDX-License-Identifier: MIT
use Rattle.std.proofs.Common.{◌≡◌, ℕ, ◌^◌, ◌<◌, Some, arith}
use Rattle.imago_cow.specs.declared.table.Table.{Table}
use Rattle.imago_cow.specs.TableView.{held_of, free_of}
use Rattle.imago_cow.specs.TableLaws.{held_below}

-- The number of the held data block is small: there is room for as many free ones in memory.
pub held_small : (t : Table) (j : ℕ) → held_of t ≡ Some j → j < 2 ^ 63
held_small t j h = let b = held_below t j h in let r = t.has_room in let s = (free_of t).distances.data.small in omega (arith, b, r, s)
