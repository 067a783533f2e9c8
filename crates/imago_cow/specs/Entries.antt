-- what the numbers of a table stand for
-- SPDX-License-Identifier: MIT
use Rattle.std.specs.Prelude.{ℕ, List, map}
use Rattle.std.specs.Vec.{vec_capacity}
use Rattle.imago_cow.specs.declared.entries.Entries.{Entries}
use Rattle.imago_cow.specs.declared.table.GuestBlock.{GuestBlock}
use Rattle.imago_cow.specs.Packed.{unpacked}

-- the entries, one for each guest block
unfoldable pub listed : Entries → List GuestBlock
listed e = map unpacked e.words.items

-- how many entries there is room for
unfoldable pub listed_room : Entries → ℕ
listed_room e = vec_capacity e.words
