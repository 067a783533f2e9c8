-- SPDX-License-Identifier: MIT
use Rattle.std.specs.Prelude.{◌≡◌, ℕ, ◌+◌, ◌-◌, ◌*◌, ◌%◌, ◌/◌, ◌<◌, ◌≤◌, ◌⊎◌, ◌||◌, Bool, true}
use Rattle.std.specs.Prelude.{false, List, length, slice_index, slice_get, Option, Some, None}
use Rattle.std.specs.Prelude.{if◌then◌else◌, nat_lt, nat_eq, max, min}
use Rattle.imago_storage.specs.declared.error.Error.TheVariants as E
use Rattle.imago_storage.specs.Features.{Features, MemoryUse, IsAlignedRequest, MayRunOut}
use Rattle.imago_storage.specs.Padding.{Wraps, aligned_start}
use Rattle.imago_drivers.specs.declared.format.Format.TheVariants as Format
use Rattle.imago_drivers.specs.declared.format.PreallocateMode.{PreallocateMode}
use Rattle.imago_drivers.specs.declared.mapping.PreparedDataMapping.{PreparedDataMapping}
use Rattle.imago_drivers.specs.declared.mapping.Ticket.{Ticket}
use Rattle.imago_drivers.specs.declared.format.PreallocateMode.TheVariants as Mode
use Rattle.imago_drivers.specs.Operation.{Operation, Map, Read, Write, Zero, DiscardToZero}
use Rattle.imago_drivers.specs.Operation.{DiscardToAny, DiscardToBacking, Grow, Shrink, Flush}
use Rattle.imago_drivers.specs.Place.{Byte, IsIn}
use Rattle.imago_drivers.specs.Causes.{Causes}
use Rattle.imago_drivers.specs.Parts.{storage_of, offset_of, length_of, state_of}
use Rattle.imago_drivers.specs.Pending.{Pending}
use Rattle.imago_drivers.specs.Ranges.{HasWrappingPart}
use Rattle.imago_drivers.specs.Lengths.{padded_to}
use Rattle.imago_drivers.specs.View.{View}
use Rattle.imago_cow.specs.declared.table.GuestBlock.{GuestBlock}
use Rattle.imago_cow.specs.declared.cow.Waiting.{Waiting}
use Rattle.imago_cow.specs.Guest.{origin_in, cow_place, is_data, number_of, is_touched}
use Rattle.imago_cow.specs.Guest.{IsWholeBlock, IsWholePart}
use Rattle.imago_cow.specs.Table.{IsLowestUnused}
use Rattle.imago_cow.specs.TableView.{entries_of, held_of, count_of}
use Rattle.imago_cow.specs.declared.table.Table.{Table}

-- The places that an operation may make data of, from there on: those of its range, and of a growth
-- the new ones.
abbrev pub touched_from : ℕ → Operation → ℕ → ℕ
touched_from size (Grow mode) o = size
touched_from size Map o = o
touched_from size Read o = o
touched_from size Write o = o
touched_from size Zero o = o
touched_from size DiscardToZero o = o
touched_from size DiscardToAny o = o
touched_from size DiscardToBacking o = o
touched_from size Shrink o = o
touched_from size Flush o = o

-- the end of the guest block that the disk's end cuts
abbrev pub cut_end : ℕ → ℕ → ℕ
cut_end block size = aligned_start block size

-- how far a growth to that size makes data: not at all, in the cut guest block, or everywhere
abbrev pub grown_until : ℕ → ℕ → PreallocateMode → ℕ → ℕ
grown_until block size Mode.None new_size = 0
grown_until block size Mode.Zero new_size = min new_size (cut_end block size)
grown_until block size Mode.FormatAllocate new_size = new_size
grown_until block size Mode.FullAllocate new_size = new_size
grown_until block size Mode.WriteData new_size = new_size

-- the end of these places
abbrev pub touched_until : ℕ → ℕ → Operation → ℕ → ℕ → ℕ
touched_until block size (Grow mode) o n = grown_until block size mode (o + n)
touched_until block size Map o n = o + n
touched_until block size Read o n = o + n
touched_until block size Write o n = o + n
touched_until block size Zero o n = o + n
touched_until block size DiscardToZero o n = o + n
touched_until block size DiscardToAny o n = o + n
touched_until block size DiscardToBacking o n = o + n
touched_until block size Shrink o n = o + n
touched_until block size Flush o n = o + n

-- the guest block has the prepared write that waits
abbrev pub has_waiting : ℕ → Option Waiting → ℕ → Bool
has_waiting block None i = false
has_waiting block (Some w) i = nat_eq (w.start / block) i

-- the guest block has a data block, or its prepared write has one, or the operation may take one
-- for it
abbrev pub needs_data : ℕ → ℕ → List GuestBlock → Option Waiting → Operation → ℕ → ℕ → ℕ → Bool
needs_data block size entries waiting op o n i =
    is_data (slice_get entries i)
    || (has_waiting block waiting i || is_touched block (touched_from size op o)
    (touched_until block size op o n) i)

-- how many guest blocks there may be with the operation
abbrev pub guest_count : ℕ → ℕ → List GuestBlock → Operation → ℕ → ℕ → ℕ
guest_count block size entries op o n = length entries + touched_until block size op o n

-- How many data blocks there may be at most during an operation: those that there are, free ones
-- too, or those that are named and one more for each guest block that it touches and that has none.
abbrev pub data_count : ℕ → ℕ → List GuestBlock → ℕ → Option Waiting → Operation → ℕ → ℕ → ℕ
data_count block size entries blocks waiting op o n =
    max blocks (number_of (needs_data block size entries waiting op o n)
    (guest_count block size entries op o n))

-- A request on a part of these data blocks wraps around at the storage.
abbrev pub DataWraps : Features → ℕ → ℕ → Type 0
DataWraps f block count = HasWrappingPart (Wraps f) 0 (count * block)

-- operations that read or write data blocks; no other is ever refused for a wrap-around
abbrev pub uses_data : Operation → Bool
uses_data Map = false
uses_data Read = true
uses_data Write = true
uses_data Zero = false
uses_data DiscardToZero = false
uses_data DiscardToAny = false
uses_data DiscardToBacking = false
uses_data (Grow Mode.None) = false
uses_data (Grow Mode.Zero) = true
uses_data (Grow Mode.FormatAllocate) = true
uses_data (Grow Mode.FullAllocate) = true
uses_data (Grow Mode.WriteData) = true
uses_data Shrink = false
uses_data Flush = false

abbrev pub cow_cause : Features → ℕ → ℕ → List GuestBlock → ℕ → Option Waiting → Causes
cow_cause f block size entries blocks waiting op o n E.WrapAround = (uses_data op ≡ true)
    × DataWraps f block (data_count block size entries blocks waiting op o n)
cow_cause f block size entries blocks waiting op o n _ = ⊥

-- the place lies in an absent guest block that holds one of `from .. until`
abbrev pub IsInAbsent : ℕ → ℕ → List GuestBlock → ℕ → ℕ → ℕ → Type 0
IsInAbsent block size entries from until p = (p < size)
    × (slice_get entries (p / block) ≡ Some GuestBlock.Absent)
    × (is_touched block from until (p / block) ≡ true)

-- what a growth reads of the layer below: the cut guest block where it is absent, and with three
-- modes what stands at the new places
abbrev pub grow_copies : ℕ → ℕ → List GuestBlock → PreallocateMode → ℕ → ℕ → Type 0
grow_copies block size entries Mode.None new_size p = ⊥
grow_copies block size entries Mode.Zero new_size p = IsInAbsent block size entries size
    (grown_until block size Mode.Zero new_size) p
grow_copies block size entries Mode.FormatAllocate new_size p = IsInAbsent block size entries size
    new_size p ⊎ ((size ≤ p) × (p < new_size))
grow_copies block size entries Mode.FullAllocate new_size p = IsInAbsent block size entries size
    new_size p ⊎ ((size ≤ p) × (p < new_size))
grow_copies block size entries Mode.WriteData new_size p = IsInAbsent block size entries size
    new_size p ⊎ ((size ≤ p) × (p < new_size))

-- a write copies the absent guest blocks that it touches, within the disk
abbrev pub cow_copies : ℕ → ℕ → List GuestBlock → Operation → ℕ → ℕ → ℕ → Type 0
cow_copies block size entries Write o n p = IsInAbsent block size entries o (o + n) p
cow_copies block size entries (Grow mode) o n p = grow_copies block size entries mode (o + n) p
cow_copies block size entries Map o n p = ⊥
cow_copies block size entries Read o n p = ⊥
cow_copies block size entries Zero o n p = ⊥
cow_copies block size entries DiscardToZero o n p = ⊥
cow_copies block size entries DiscardToAny o n p = ⊥
cow_copies block size entries DiscardToBacking o n p = ⊥
cow_copies block size entries Shrink o n p = ⊥
cow_copies block size entries Flush o n p = ⊥

-- The n bytes of the disk from o on lie in one guest block, and stand in its data block as one
-- request that the storage takes as it is, and takes no memory for.
pub record IsDirect (f : Features) (memory : MemoryUse) (len block : ℕ) (entries : List GuestBlock)
    (o n : ℕ) : Type 0 where
  pub number : ℕ
  pub named : slice_get entries (o / block) ≡ Some (GuestBlock.Data number)
  pub whole : o % block + n ≤ block
  pub aligned : IsAlignedRequest f (origin_in block number o) n
  pub free : MayRunOut memory len (origin_in block number o + n) → ⊥

-- Mappings, zero calls, discards and cuts take no memory, nor do reads of a guest block without
-- data, and reads and writes of data that the storage takes none for. A write that takes a data
-- block may take some, and so may a growth.
abbrev pub cow_no_memory : Features → ℕ → ℕ → List GuestBlock → Operation → ℕ → ℕ → Type 0
cow_no_memory f len block entries Map o n = Unit {0}
cow_no_memory f len block entries Zero o n = Unit {0}
cow_no_memory f len block entries DiscardToZero o n = Unit {0}
cow_no_memory f len block entries DiscardToAny o n = Unit {0}
cow_no_memory f len block entries DiscardToBacking o n = Unit {0}
cow_no_memory f len block entries Shrink o n = Unit {0}
cow_no_memory f len block entries Flush o n = MayRunOut f.other_memory 0 0 → ⊥
cow_no_memory f len block entries Read o n = ((o % block + n ≤ block)
    × (is_data (slice_get entries (o / block)) ≡ false))
    ⊎ IsDirect f f.read_memory len block entries o n
cow_no_memory f len block entries Write o n = IsDirect f f.write_memory len block entries o n
cow_no_memory f len block entries (Grow mode) o n = ⊥

-- how far a mapping goes that is asked for: no further than the guest block
abbrev pub in_block : ℕ → ℕ → ℕ → ℕ
in_block block o n = min n (block - o % block)

-- which part of a range an operation does
abbrev pub cow_answers : ℕ → ℕ → Operation → ℕ → ℕ → ℕ → ℕ → Type 0
cow_answers block size Map o n q m = m ≡ min (in_block block o n) (size - o)
cow_answers block size Write o n q m = m ≡ in_block block o n
cow_answers block size Zero o n q m = IsWholePart block size o n q m
cow_answers block size DiscardToZero o n q m = IsWholePart block size o n q m
cow_answers block size DiscardToAny o n q m = IsWholePart block size o n q m
cow_answers block size DiscardToBacking o n q m = IsWholePart block size o n q m
cow_answers block size Read o n q m = Unit {0}
cow_answers block size (Grow mode) o n q m = Unit {0}
cow_answers block size Shrink o n q m = Unit {0}
cow_answers block size Flush o n q m = Unit {0}

-- an operation on that range is done at once: in one guest block inside the disk, or on whole guest
-- blocks
abbrev pub cow_whole : ℕ → ℕ → Operation → ℕ → ℕ → Type 0
cow_whole block size Map o n = (o % block + n ≤ block) × (o + n ≤ size)
cow_whole block size Read o n = (o % block + n ≤ block) × (o + n ≤ size)
cow_whole block size Write o n = o % block + n ≤ block
cow_whole block size Zero o n = (p : ℕ) → IsIn o n p → IsWholeBlock block size o n (p / block)
cow_whole block size DiscardToZero o n = (p : ℕ) → IsIn o n p
    → IsWholeBlock block size o n (p / block)
cow_whole block size DiscardToAny o n = (p : ℕ) → IsIn o n p
    → IsWholeBlock block size o n (p / block)
cow_whole block size DiscardToBacking o n = (p : ℕ) → IsIn o n p
    → IsWholeBlock block size o n (p / block)
cow_whole block size (Grow mode) o n = Unit {0}
cow_whole block size Shrink o n = Unit {0}
cow_whole block size Flush o n = Unit {0}

-- the offset in the disk that the guest block of a write that waits begins at
abbrev pub waiting_from : ℕ → Waiting → ℕ
waiting_from block w = w.start - w.start % block

-- a byte of the guest block that a write waits for, as its data block has it; 0 before it
abbrev pub waiting_byte : ℕ → List ℕ → Waiting → ℕ → ℕ
waiting_byte block bytes w p = if nat_lt p (waiting_from block w) then 0 else slice_index bytes
    (w.offset + p - w.start)

-- A write that waits: its bytes stand in its data block, and so do those round them, up to the
-- guest block's end or the disk's.
abbrev pub cow_pending : ℕ → ℕ → List ℕ → Option Waiting → Option (Pending Ticket)
cow_pending block size bytes None = None
cow_pending block size bytes (Some w) = Some (record {
  start = w.start;
  storage = 0;
  offset = w.offset;
  length = w.length;
  state = w.state;
  from = waiting_from block w;
  until = min size (waiting_from block w + block);
  bytes = waiting_byte block bytes w;
})

-- A disk of that size in guest blocks of that length, with these entries and so many data blocks,
-- free ones too.
abbrev pub cow_view : Features → ℕ → List ℕ → ℕ → ℕ → List GuestBlock → ℕ → Option Waiting
    → View Ticket
cow_view f fault_count bytes size block entries blocks waiting = record {
  abilities = record {
    format = Format.Cow;
    is_writable = true;
    takes_backing = true;
    is_reliable = f.is_reliable;
    keeps_data = f.keeps_data;
    tells_bytes = f.tells_bytes;
    zero_granularity = Some block;
    offers = λ op. true;
    block = block;
  };
  size = size;
  place = cow_place bytes size block entries;
  fault_count = fault_count;
  stores = record { count = 1; bytes = λ index. bytes; features = λ index. f };
  special = λ offset. Byte 0;
  limits = record {
    cause = cow_cause f block size entries blocks waiting;
    copies = cow_copies block size entries;
    no_memory = cow_no_memory f (length bytes) block entries;
    commit_memory = ⊥;
    whole = cow_whole block size;
    answers = cow_answers block size;
    longest = λ op o n index. padded_to f 0
        (data_count block size entries blocks waiting op o n * block);
  };
  pending = cow_pending block size bytes waiting;
}

-- the disk of that table
abbrev pub table_view : Features → ℕ → List ℕ → ℕ → ℕ → Table → Option Waiting → View Ticket
table_view f fault_count bytes size block table waiting =
    cow_view f fault_count bytes size block (entries_of table) (count_of table) waiting

-- What waits lies in one guest block of the disk, and its data block is one that no entry names.
pub record WaitsApart (block size : ℕ) (entries : List GuestBlock) (blocks : ℕ) (w : Waiting) : Type
    0 where
  pub some : 0 < w.length
  pub inside : w.start + w.length ≤ size
  pub in_block : w.start % block + w.length ≤ block
  pub offset : w.offset ≡ w.number * block + w.start % block
  pub known : w.number < blocks
  pub apart : (i : ℕ) → slice_get entries i ≡ Some (GuestBlock.Data w.number) → ⊥
  pub free : is_data (slice_get entries (w.start / block)) ≡ false

-- The write that waits is for n bytes from o on, and stands in the lowest data block that was
-- unused, which is held.
pub record IsWaitingFor (block size o n : ℕ) (own : Ticket) (old new : Table) (w : Waiting)
    : Type 0 where
  pub held : held_of new ≡ Some w.number
  pub lowest : IsLowestUnused (entries_of old) None (count_of old) w.number
  pub apart : WaitsApart block size (entries_of new) (count_of new) w
  pub start : w.start ≡ o
  pub run : w.length ≡ n
  pub state : w.state ≡ own

-- the mapping is that of the write that waits
pub record IsMappingOf (w : Waiting) (m : PreparedDataMapping Ticket) : Type 0 where
  pub storage : storage_of m ≡ 0
  pub offset : offset_of m ≡ w.offset
  pub run : length_of m ≡ w.length
  pub state : state_of m ≡ Some w.state

-- the data block of a write that waits
abbrev pub number_of_waiting : Option Waiting → Option ℕ
number_of_waiting None = None
number_of_waiting (Some w) = Some w.number
