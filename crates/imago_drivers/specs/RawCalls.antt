-- SPDX-License-Identifier: MIT
use Rattle.std.specs.Prelude.{◌≡◌, ℕ, ◌+◌, ◌<◌, ◌⊎◌, List, None, Result, Ok, Err}
use Rattle.imago_storage.specs.declared.error.Error.{Error}
use Rattle.imago_storage.specs.declared.error.Error.TheVariants.{ForeignMapping, Unsupported}
use Rattle.imago_drivers.specs.declared.mapping.PreparedDataMapping.{PreparedDataMapping}
use Rattle.imago_drivers.specs.declared.mapping.Ticket.{Ticket}
use Rattle.imago_drivers.specs.CallRelations.{Changing, Preparing}

-- a read of bytes that the driver makes up, by one that makes up none: it is refused, but of no
-- bytes
abbrev pub HasNoSpecial : ℕ → Result Unit Error → Type 0
HasNoSpecial n result = 0 < n → result ≡ Err Unsupported

-- the bytes of the storage at the same offset, all of them, with nothing to commit
abbrev pub NamesTheSame : ℕ → ℕ → Result (PreparedDataMapping Ticket) Error → Type 0
NamesTheSame o n (Ok m) = (m.storage ≡ 0) × (m.offset ≡ o) × (m.length ≡ n) × (m.state ≡ None)
NamesTheSame o n (Err e) = ⊥

-- A preparing over a raw image names the bytes that stand there already. It is never refused, and
-- changes nothing.
abbrev pub IsRawPrepared : {Self : Type 0} → Preparing Self Ticket
IsRawPrepared below o n overwrite old new result = (new ≡ old) × NamesTheSame o n result

-- A write into a prepared mapping is refused as foreign, and nothing changes. Or the mapping has no
-- state, and it is of no bytes, so that nothing changes, or the write is the storage's write of
-- these bytes at that place of the mapping.
abbrev pub IsRawFilled : {Self : Type 0} → (List ℕ → ℕ → Changing Self Unit)
    → PreparedDataMapping Ticket → List ℕ → ℕ → Changing Self Unit
IsRawFilled put m bytes at old new result = ((new ≡ old) × (result ≡ Err ForeignMapping))
    ⊎ ((m.state ≡ None) × (m.length ≡ 0) × (new ≡ old) × (result ≡ Ok tt))
    ⊎ ((m.state ≡ None) × (0 < m.length) × (m.storage ≡ 0)
    × put bytes (m.offset + at) old new result)

-- the size of the disk behind a resize: the new one where it succeeded, else the old one
abbrev pub IsSizeBehind : ℕ → ℕ → ℕ → Result Unit Error → Type 0
IsSizeBehind old_size new_size size (Ok u) = size ≡ new_size
IsSizeBehind old_size new_size size (Err e) = size ≡ old_size
