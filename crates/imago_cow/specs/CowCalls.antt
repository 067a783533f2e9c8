-- SPDX-License-Identifier: MIT
use Rattle.std.specs.Prelude.{◌≡◌, ℕ, ◌+◌, ◌%◌, ◌^◌, ◌<◌, ◌≤◌, ◌*◌, ◌⊎◌, List, length, take, Option}
use Rattle.std.specs.Prelude.{Bool, Some, None, Result, Ok, Err, IfOk, IsOk, IsErrOf, OnOk, OnErr}
use Rattle.imago_storage.specs.declared.error.Error.{Error}
use Rattle.imago_storage.specs.declared.error.Error.TheVariants.{ForeignMapping}
use Rattle.imago_storage.specs.Features.{Features}
use Rattle.imago_storage.specs.Calls.{IsRangeRead}
use Rattle.imago_storage.specs.IoCount.{IoCount}
use Rattle.imago_storage.specs.Maintenance.{Maintenance}
use Rattle.imago_drivers.specs.LayerBelow.{LayerBelow}
use Rattle.imago_drivers.specs.declared.format.PreallocateMode.{PreallocateMode}
use Rattle.imago_drivers.specs.declared.mapping.PreparedDataMapping.{PreparedDataMapping}
use Rattle.imago_drivers.specs.declared.mapping.Ticket.{Ticket}
use Rattle.imago_drivers.specs.Parts.{state_of, number_of}
use Rattle.imago_cow.specs.declared.cow.Cow.{Cow}
use Rattle.imago_cow.specs.declared.table.GuestBlock.{GuestBlock}
use Rattle.imago_cow.specs.Guest.{IsMade}
use Rattle.imago_cow.specs.CopyCalls.{outcome, IsCopiedFor, IsCopiedInGrowth}
use Rattle.imago_cow.specs.Grown.{AreGrown}
use Rattle.imago_cow.specs.TableView.{room_of}
use Rattle.imago_cow.specs.CowImage.{storage_in, size_of, block_of, blocks_of, data_blocks_of}
use Rattle.imago_cow.specs.CowImage.{table_of, waiting_in, tickets_of, lower_faults}

-- What each call of a copy-on-write disk is, beside what its places show.

-- The storage may have changed, and nothing else of the disk.
abbrev pub KeepsDisk : {S : Type 0} {g : _} {h : _} → Cow S g h → Cow S g h → Type 0
KeepsDisk old new = (size_of new ≡ size_of old) × (block_of new ≡ block_of old)
    × (table_of new ≡ table_of old) × (waiting_in new ≡ waiting_in old)
    × (tickets_of new ≡ tickets_of old) × (lower_faults new ≡ lower_faults old)

-- What guest blocks there are may have changed, and what waits: the storage is what it was, no data
-- block came or went, no ticket was given, and no read of the layer below failed.
abbrev pub KeepsStorage : {S : Type 0} {g : _} {h : _} → Cow S g h → Cow S g h → Type 0
KeepsStorage old new = (storage_in new ≡ storage_in old) × (block_of new ≡ block_of old)
    × (data_blocks_of new ≡ data_blocks_of old) × (tickets_of new ≡ tickets_of old)
    × (lower_faults new ≡ lower_faults old)

-- The storage's write of these bytes there was made, and is the answer; nothing else of the disk
-- changed.
abbrev pub IsStored : {S : Type 0} {g : _} {h : _}
    → (ℕ → List ℕ → S → S → Result (Unit {0}) Error → Type 0) → List ℕ → ℕ → Cow S g h → Cow S g h
    → Result (Unit {0}) Error → Type 0
IsStored write source at old new result = write at source (storage_in old) (storage_in new) result
    × KeepsDisk old new

-- A write into a prepared mapping is refused as foreign or of no bytes, and nothing changes; or it
-- is the storage's write of these bytes at that place of the mapping.
abbrev pub IsCowFilled : {S : Type 0} {g : _} {h : _}
    → (ℕ → List ℕ → S → S → Result (Unit {0}) Error → Type 0) → PreparedDataMapping Ticket
    → List ℕ → ℕ → Cow S g h → Cow S g h → Result (Unit {0}) Error → Type 0
IsCowFilled write m source at old new result = ((new ≡ old) × (result ≡ Err ForeignMapping))
    ⊎ ((m.length ≡ 0) × (new ≡ old) × (result ≡ Ok tt))
    ⊎ ((m.storage ≡ 0) × IsStored write source (m.offset + at) old new result)

-- A read of the storage: what a read of that range gives of its bytes, and refuses.
abbrev pub IsStorageRead : Features → List ℕ → ℕ → ℕ → Result (Unit {0}) Error → Type 0
IsStorageRead f bytes o n result = (buffer : List ℕ) × IsRangeRead f bytes o n buffer result

-- No place is special: a read of special bytes isn't offered, but for none of them.
abbrev pub HasNoSpecial : ℕ → Result (Unit {0}) Error → Type 0
HasNoSpecial n result = (n ≡ 0 → IsOk result) × (0 < n → IsErrOf result Error.Unsupported)

-- Guest blocks that lie in the range became explicit zeroes, or absent. It is never refused.
abbrev pub IsClearing : {S : Type 0} {g : _} {h : _} → GuestBlock → ℕ → ℕ → Cow S g h → Cow S g h
    → Result (ℕ × ℕ) Error → Type 0
IsClearing entry o n old new result = KeepsStorage old new × (size_of new ≡ size_of old)
    × (waiting_in new ≡ waiting_in old) × IsMade o n (size_of old) (block_of old) entry
    (blocks_of old) (blocks_of new) result

-- A mapping with a state got the next ticket, and any other none. Past the greatest one they begin
-- again.
abbrev pub has_next_ticket : ℕ → ℕ → Option Ticket → Type 0
has_next_ticket old new None = new ≡ old
has_next_ticket old new (Some t) = (new ≡ (old + 1) % 2 ^ 64) × (number_of t ≡ new)

-- A mapping was prepared, or refused: guest blocks stay what they are, and bytes of one are copied
-- by these calls of the storage and no others.
abbrev pub IsCowPreparing : {S : Type 0} {g : _} {h : _} → (S → Features) → (S → List ℕ) → (S → ℕ)
    → (S → IoCount) → Maintenance S → LayerBelow → ℕ → ℕ → Bool → Cow S g h → Cow S g h
    → Result (PreparedDataMapping Ticket) Error → Type 0
IsCowPreparing features_of bytes_of faults_of work_of calls l o n overwrite old new result =
    IsCopiedFor features_of bytes_of faults_of work_of calls l (blocks_of old) (data_blocks_of old)
    (block_of old) (size_of old) o n overwrite (storage_in old) (storage_in new) (outcome result)
    × (size_of new ≡ size_of old) × (block_of new ≡ block_of old)
    × (blocks_of new ≡ blocks_of old) × OnErr result (tickets_of new ≡ tickets_of old)
    × IfOk result (λ m. has_next_ticket (tickets_of old) (tickets_of new) (state_of m))

-- A mapping was committed, or refused. One without a state changes nothing at all.
abbrev pub IsCowCommit : {S : Type 0} {g : _} {h : _} → PreparedDataMapping Ticket → Cow S g h
    → Cow S g h → Type 0
IsCowCommit m old new = KeepsStorage old new × (size_of new ≡ size_of old)
    × (state_of m ≡ None → new ≡ old)

-- A mapping was cancelled: guest blocks stay what they are.
abbrev pub IsCowCancel : {S : Type 0} {g : _} {h : _} → PreparedDataMapping Ticket → Cow S g h
    → Cow S g h → Type 0
IsCowCancel m old new = IsCowCommit m old new × (blocks_of new ≡ blocks_of old)

-- A growth to that size, in that mode. It changes nothing at all where the disk is as large
-- already. Bytes are copied by these calls of the storage and no others. Refused, the storage is
-- what it was, or the table has room for the guest blocks of that size: for want of that room
-- nothing is written.
abbrev pub IsCowGrowth : {S : Type 0} {g : _} {h : _} → (S → Features) → (S → List ℕ) → (S → ℕ)
    → (S → IoCount) → Maintenance S → LayerBelow → ℕ → PreallocateMode → Cow S g h → Cow S g h
    → Result (Unit {0}) Error → Type 0
IsCowGrowth features_of bytes_of faults_of work_of calls l n mode old new result =
    IsCopiedInGrowth features_of bytes_of faults_of work_of calls l mode (blocks_of old)
    (data_blocks_of old) (block_of old) (size_of old) n (storage_in old) (storage_in new) result
    × (block_of new ≡ block_of old)
    × (waiting_in new ≡ waiting_in old) × (tickets_of new ≡ tickets_of old)
    × (n ≤ size_of old → new ≡ old)
    × (size_of old < n
    → OnOk result (AreGrown mode (block_of old) (size_of old) (blocks_of old) (blocks_of new)))
    × OnErr result ((blocks_of new ≡ blocks_of old) × (size_of new ≡ size_of old)
    × ((storage_in new ≡ storage_in old) ⊎ (n ≤ room_of (table_of new) * block_of old)))

-- A cut to that size: the last guest blocks are dropped. It changes nothing at all where the disk
-- is as small already.
abbrev pub IsCowCut : {S : Type 0} {g : _} {h : _} → ℕ → Cow S g h → Cow S g h
    → Result (Unit {0}) Error → Type 0
IsCowCut n old new result = KeepsStorage old new × (waiting_in new ≡ waiting_in old)
    × (size_of old ≤ n → new ≡ old)
    × (blocks_of new ≡ take (length (blocks_of new)) (blocks_of old)) × (result ≡ Ok tt)
