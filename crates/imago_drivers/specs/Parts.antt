-- SPDX-License-Identifier: MIT
use Rattle.std.specs.Prelude.{ℕ, Option}
use Rattle.imago_drivers.specs.declared.mapping.PreparedDataMapping.{PreparedDataMapping}
use Rattle.imago_drivers.specs.declared.mapping.Ticket.{Ticket}

-- the index of the storage that a prepared mapping names
abbrev pub storage_of : {St : Type 0} → PreparedDataMapping St → ℕ
storage_of m = m.storage

-- where its bytes begin in the storage
abbrev pub offset_of : {St : Type 0} → PreparedDataMapping St → ℕ
offset_of m = m.offset

abbrev pub length_of : {St : Type 0} → PreparedDataMapping St → ℕ
length_of m = m.length

-- what its driver put into it, if it has to be committed
abbrev pub state_of : {St : Type 0} → PreparedDataMapping St → Option St
state_of m = m.state

-- which of the mappings that its driver prepared a ticket is of
abbrev pub number_of : Ticket → ℕ
number_of t = t.number
