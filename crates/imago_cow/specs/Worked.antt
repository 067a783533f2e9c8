-- SPDX-License-Identifier: MIT
use Rattle.std.specs.Prelude.{List, [], ◌∷◌}
use Rattle.imago_cow.specs.declared.table.GuestBlock.{GuestBlock}

-- Five guest blocks, of which the second is in data block 1 and the fourth in data block 0.
abbrev pub two_named : List GuestBlock
two_named = GuestBlock.Absent ∷ GuestBlock.Data 1 ∷ GuestBlock.Absent ∷ GuestBlock.Data 0 ∷
    GuestBlock.Zero ∷ []

-- the same with the fourth one cleared
abbrev pub one_named : List GuestBlock
one_named = GuestBlock.Absent ∷ GuestBlock.Data 1 ∷ GuestBlock.Absent ∷ GuestBlock.Absent ∷
    GuestBlock.Zero ∷ []
