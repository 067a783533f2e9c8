-- SPDX-License-Identifier: MIT
use Rattle.std.specs.Prelude.{◌≡◌, ℕ, ◌+◌, ◌-◌, ◌≤◌, Bool, true, false, List, length, slice_index}
use Rattle.std.specs.Prelude.{if◌then◌else◌, nat_lt, min, None}
use Rattle.imago_storage.specs.declared.error.Error.TheVariants as E
use Rattle.imago_storage.specs.Features.{Features, InPlace, MayRunOut, OthersMayRunOut}
use Rattle.imago_storage.specs.Features.{IsAlignedRequest, IsAlignedTo}
use Rattle.imago_storage.specs.Padding.{Wraps}
use Rattle.imago_storage.specs.Zeroes.{MayWrap}
use Rattle.imago_storage.specs.declared.options.PreallocateMode.{PreallocateMode}
use Rattle.imago_storage.specs.declared.options.PreallocateMode.TheVariants as StorageMode
use Rattle.imago_drivers.specs.declared.format.PreallocateMode.{PreallocateMode as ImageMode}
use Rattle.imago_drivers.specs.declared.format.PreallocateMode.TheVariants as Mode
use Rattle.imago_drivers.specs.declared.format.Format.TheVariants as Format
use Rattle.imago_drivers.specs.declared.mapping.Ticket.{Ticket}
use Rattle.imago_drivers.specs.Operation.{Operation, Map, Read, Write, Zero, DiscardToZero}
use Rattle.imago_drivers.specs.Operation.{DiscardToAny, DiscardToBacking, Grow, Shrink, Flush}
use Rattle.imago_drivers.specs.Place.{Place, Byte, Stored, End}
use Rattle.imago_drivers.specs.Causes.{Causes}
use Rattle.imago_drivers.specs.Ranges.{HasWrappingPart, IsPartAlignedTo}
use Rattle.imago_drivers.specs.Lengths.{padded_to}
use Rattle.imago_drivers.specs.View.{View}

-- a place of a raw image: below the size, the storage's byte at the same offset, writable
abbrev pub raw_place : ℕ → List ℕ → ℕ → Place
raw_place size bytes p = if nat_lt p size then Stored (slice_index bytes p) 0 p true else End

-- an operation on that range wraps around at the storage; a read only inside the disk
abbrev pub RequestWraps : Features → ℕ → Operation → ℕ → ℕ → Type 0
RequestWraps f size Map o n = ⊥
RequestWraps f size Read o n = (o + n ≤ size) × Wraps f o n
RequestWraps f size Write o n = Wraps f o n
RequestWraps f size Zero o n = MayWrap f f.zeroes o n
RequestWraps f size DiscardToZero o n = MayWrap f f.zeroes o n
RequestWraps f size DiscardToAny o n = ⊥
RequestWraps f size DiscardToBacking o n = MayWrap f f.zeroes o n
RequestWraps f size (Grow mode) o n = ⊥
RequestWraps f size Shrink o n = ⊥
RequestWraps f size Flush o n = ⊥

-- what a raw image offers: a resize where its storage does, and everything else
abbrev pub raw_offers : Features → Operation → Bool
raw_offers f (Grow mode) = f.offers_resize
raw_offers f Shrink = f.offers_resize
raw_offers f Map = true
raw_offers f Read = true
raw_offers f Write = true
raw_offers f Zero = true
raw_offers f DiscardToZero = true
raw_offers f DiscardToAny = true
raw_offers f DiscardToBacking = true
raw_offers f Flush = true

abbrev pub raw_cause : Features → ℕ → Causes
raw_cause f size op o n E.WrapAround = HasWrappingPart (RequestWraps f size op) o n
raw_cause f size op o n E.Unsupported = raw_offers f op ≡ false
raw_cause f size op o n _ = ⊥

-- a zero write of that range takes no memory: it is aligned, and done in place
pub record IsZeroedInPlace (f : Features) (size len o n : ℕ) : Type 0 where
  pub inside : o + n ≤ size
  pub aligned : IsAlignedTo f.zero_align o n
  pub in_place : f.zeroes ≡ InPlace
  pub no_growth : MayRunOut f.zero_memory len (o + n) → ⊥

-- an operation on a raw image over a storage of `len` bytes that takes no memory: aligned, inside,
-- and none by the storage
abbrev pub raw_no_memory : Features → ℕ → ℕ → Operation → ℕ → ℕ → Type 0
raw_no_memory f size len Map o n = Unit {0}
raw_no_memory f size len Read o n = (o + n ≤ size) × IsAlignedRequest f o n
    × (MayRunOut f.read_memory len (o + n) → ⊥)
raw_no_memory f size len Write o n = (o + n ≤ size) × IsAlignedRequest f o n
    × (MayRunOut f.write_memory len (o + n) → ⊥)
raw_no_memory f size len Zero o n = IsZeroedInPlace f size len o n
raw_no_memory f size len DiscardToZero o n = IsZeroedInPlace f size len o n
raw_no_memory f size len DiscardToAny o n = (o + n ≤ size) × IsAlignedTo f.discard_align o n
    × (OthersMayRunOut f → ⊥)
raw_no_memory f size len DiscardToBacking o n = IsZeroedInPlace f size len o n
raw_no_memory f size len (Grow mode) o n = MayRunOut f.resize_memory len o → ⊥
raw_no_memory f size len Shrink o n = MayRunOut f.resize_memory len o → ⊥
raw_no_memory f size len Flush o n = OthersMayRunOut f → ⊥

-- an operation on that range of a raw image is done at once: inside the disk, and aligned where it
-- zeroes or discards
abbrev pub raw_whole : Features → ℕ → Operation → ℕ → ℕ → Type 0
raw_whole f size Map o n = o + n ≤ size
raw_whole f size Read o n = o + n ≤ size
raw_whole f size Write o n = o + n ≤ size
raw_whole f size Zero o n = IsAlignedTo f.zero_align o n
raw_whole f size DiscardToZero o n = IsAlignedTo f.zero_align o n
raw_whole f size DiscardToAny o n = IsAlignedTo f.discard_align o n
raw_whole f size DiscardToBacking o n = IsAlignedTo f.zero_align o n
raw_whole f size (Grow mode) o n = Unit {0}
raw_whole f size Shrink o n = Unit {0}
raw_whole f size Flush o n = Unit {0}

-- how long an operation on a raw image may make its storage: written and zeroed ranges are padded,
-- and a growth makes it as long as the new size
abbrev pub raw_longest : Features → Operation → ℕ → ℕ → ℕ
raw_longest f Map o n = 0
raw_longest f Read o n = 0
raw_longest f Write o n = padded_to f o n
raw_longest f Zero o n = padded_to f o n
raw_longest f DiscardToZero o n = padded_to f o n
raw_longest f DiscardToAny o n = 0
raw_longest f DiscardToBacking o n = padded_to f o n
raw_longest f (Grow mode) o n = o
raw_longest f Shrink o n = 0
raw_longest f Flush o n = 0

-- how the storage of a raw image is grown
abbrev pub storage_mode_of : ImageMode → PreallocateMode
storage_mode_of Mode.None = StorageMode.None
storage_mode_of Mode.Zero = StorageMode.Zero
storage_mode_of Mode.FormatAllocate = StorageMode.Zero
storage_mode_of Mode.FullAllocate = StorageMode.Allocate
storage_mode_of Mode.WriteData = StorageMode.WriteData

-- which part of a range an operation on a raw image does: the mapped rest of the disk, or the
-- aligned part
abbrev pub raw_answers : Features → ℕ → Operation → ℕ → ℕ → ℕ → ℕ → Type 0
raw_answers f size Map o n q m = m ≡ min n (size - o)
raw_answers f size Write o n q m = m ≡ n
raw_answers f size Zero o n q m = IsPartAlignedTo f.zero_align o n q m
raw_answers f size DiscardToZero o n q m = IsPartAlignedTo f.zero_align o n q m
raw_answers f size DiscardToBacking o n q m = IsPartAlignedTo f.zero_align o n q m
raw_answers f size DiscardToAny o n q m = IsPartAlignedTo f.discard_align o n q m
raw_answers f size Read o n q m = Unit {0}
raw_answers f size (Grow mode) o n q m = Unit {0}
raw_answers f size Shrink o n q m = Unit {0}
raw_answers f size Flush o n q m = Unit {0}

-- a raw image of that size over a storage
abbrev pub raw_view : Features → ℕ → List ℕ → ℕ → Bool → View Ticket
raw_view f fault_count bytes size writable = record {
  abilities = record {
    format = Format.Raw;
    is_writable = writable;
    takes_backing = false;
    is_reliable = f.is_reliable;
    keeps_data = f.keeps_data;
    tells_bytes = f.tells_bytes;
    zero_granularity = None;
    offers = raw_offers f;
    block = 1;
  };
  size = size;
  place = raw_place size bytes;
  fault_count = fault_count;
  stores = record { count = 1; bytes = λ index. bytes; features = λ index. f };
  special = λ offset. Byte 0;
  limits = record {
    cause = raw_cause f size;
    copies = λ op o n p. ⊥;
    no_memory = raw_no_memory f size (length bytes);
    commit_memory = ⊥;
    whole = raw_whole f size;
    answers = raw_answers f size;
    longest = λ op o n index. raw_longest f op o n;
  };
  pending = None;
}
