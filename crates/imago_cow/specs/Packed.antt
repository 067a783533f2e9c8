-- how the entry of a guest block is one number
-- SPDX-License-Identifier: MIT
use Rattle.std.specs.Prelude.{ℕ, ◌-◌, nat_eq, if◌then◌else◌}
use Rattle.imago_cow.specs.declared.table.GuestBlock.{GuestBlock}

-- the entry that a number stands for: 0 for an absent guest block, 1 for an explicit zero, and two
-- more than its number for a data block
unfoldable pub unpacked : ℕ → GuestBlock
unpacked word = if nat_eq word 0 then GuestBlock.Absent else (if nat_eq word 1 then GuestBlock.Zero
    else GuestBlock.Data (word - 2))
