-- SPDX-License-Identifier: MIT
use Rattle.std.specs.Prelude.{ℕ, ◌+◌, List, Option}
use Rattle.imago_cow.specs.declared.table.GuestBlock.{GuestBlock}
use Rattle.imago_cow.specs.declared.table.Table.{Table}
use Rattle.imago_cow.specs.declared.cow.Cow.{Cow}
use Rattle.imago_cow.specs.declared.cow.Waiting.{Waiting}
use Rattle.imago_cow.specs.Table.{named_count, held_count}
use Rattle.imago_cow.specs.Cow.{number_of_waiting}
use Rattle.imago_cow.specs.TableView.{entries_of, count_of, free_of}
use Rattle.imago_cow.specs.declared.free.FreeBlocks.{FreeBlocks}

-- the storage of a copy-on-write disk
abbrev pub storage_in : {S : Type 0} {g : _} {h : _} → Cow S g h → S
storage_in d = d.storage

-- its size
abbrev pub size_of : {S : Type 0} {g : _} {h : _} → Cow S g h → ℕ
size_of d = d.size

-- a guest block's length
abbrev pub block_of : {S : Type 0} {g : _} {h : _} → Cow S g h → ℕ
block_of d = d.block.length

-- what its guest blocks are
abbrev pub blocks_of : {S : Type 0} {g : _} {h : _} → Cow S g h → List GuestBlock
blocks_of d = entries_of d.table

-- how many data blocks there are, free ones too
abbrev pub data_blocks_of : {S : Type 0} {g : _} {h : _} → Cow S g h → ℕ
data_blocks_of d = count_of d.table

-- the prepared write that waits
abbrev pub waiting_in : {S : Type 0} {g : _} {h : _} → Cow S g h → Option Waiting
waiting_in d = d.waiting

-- its free data blocks
abbrev pub free_in : {S : Type 0} {g : _} {h : _} → Cow S g h → FreeBlocks
free_in d = free_of d.table

-- its table: what guest blocks are, and which data blocks are free
abbrev pub table_of : {S : Type 0} {g : _} {h : _} → Cow S g h → Table
table_of d = d.table

-- how many data blocks guest blocks are in, or the prepared write that waits
abbrev pub used_in : {S : Type 0} {g : _} {h : _} → Cow S g h → ℕ
used_in d = named_count (blocks_of d) + held_count (number_of_waiting (waiting_in d))

-- the ticket of the mapping that was prepared last; the first one is 1
abbrev pub tickets_of : {S : Type 0} {g : _} {h : _} → Cow S g h → ℕ
tickets_of d = d.tickets

-- how often a changing call failed to read the layer below
abbrev pub lower_faults : {S : Type 0} {g : _} {h : _} → Cow S g h → ℕ
lower_faults d = d.faults
