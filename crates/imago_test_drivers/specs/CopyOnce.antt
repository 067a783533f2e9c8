-- SPDX-License-Identifier: MIT
use Rattle.std.specs.Prelude.{◌≡◌, ℕ, ◌+◌, ◌<◌, ◌≤◌, Bool, true, false, List, slice_index, max}
use Rattle.std.specs.Prelude.{if◌then◌else◌, nat_lt, Option, Some, None}
use Rattle.imago_storage.specs.declared.error.Error.TheVariants as E
use Rattle.imago_storage.specs.Features.{Features}
use Rattle.imago_drivers.specs.declared.format.Format.TheVariants as Format
use Rattle.imago_test_drivers.specs.declared.copy_once.Waiting.{Waiting}
use Rattle.imago_drivers.specs.Operation.{Operation, Map, Read, Write, Zero, DiscardToZero}
use Rattle.imago_drivers.specs.Operation.{DiscardToAny, DiscardToBacking, Grow, Shrink, Flush}
use Rattle.imago_drivers.specs.Place.{Byte, Place, Lower, End}
use Rattle.imago_drivers.specs.Causes.{Causes}
use Rattle.imago_drivers.specs.Pending.{Pending}
use Rattle.imago_drivers.specs.Lengths.{padded_to}
use Rattle.imago_drivers.specs.View.{View}
use Rattle.imago_drivers.specs.Raw.{raw_place}

-- a place of the disk: the storage's byte once it is copied, what the layer below has there before
abbrev pub copy_place : Bool → ℕ → List ℕ → ℕ → Place
copy_place true size bytes p = raw_place size bytes p
copy_place false size bytes p = if nat_lt p size then Lower p false else End

-- reads and writes are offered, nothing else
abbrev pub copy_offers : Operation → Bool
copy_offers Map = true
copy_offers Read = true
copy_offers Write = true
copy_offers Flush = true
copy_offers Zero = false
copy_offers DiscardToZero = false
copy_offers DiscardToAny = false
copy_offers DiscardToBacking = false
copy_offers (Grow mode) = false
copy_offers Shrink = false

abbrev pub copy_cause : Causes
copy_cause op o n E.WrapAround = Unit {0}
copy_cause op o n E.Unsupported = copy_offers op ≡ false
copy_cause op o n _ = ⊥

-- a write copies the whole layer below, until it is copied
abbrev pub copy_copies : Bool → ℕ → Operation → ℕ → ℕ → ℕ → Type 0
copy_copies copied size Write o n p = (copied ≡ false) × (p < size)
copy_copies copied size Map o n p = ⊥
copy_copies copied size Read o n p = ⊥
copy_copies copied size Zero o n p = ⊥
copy_copies copied size DiscardToZero o n p = ⊥
copy_copies copied size DiscardToAny o n p = ⊥
copy_copies copied size DiscardToBacking o n p = ⊥
copy_copies copied size (Grow mode) o n p = ⊥
copy_copies copied size Shrink o n p = ⊥
copy_copies copied size Flush o n p = ⊥

-- a write copies the whole disk into the storage, whose last block is padded
abbrev pub copy_longest : Features → ℕ → Operation → ℕ
copy_longest f size Write = padded_to f 0 size
copy_longest f size Map = 0
copy_longest f size Read = 0
copy_longest f size Zero = 0
copy_longest f size DiscardToZero = 0
copy_longest f size DiscardToAny = 0
copy_longest f size DiscardToBacking = 0
copy_longest f size (Grow mode) = 0
copy_longest f size Shrink = 0
copy_longest f size Flush = 0

-- a write that waits: its start, its length and its ticket; the bytes of the copy are what it will
-- show
abbrev pub copy_pending : ℕ → List ℕ → Option Waiting → Option (Pending ℕ)
copy_pending size bytes None = None
copy_pending size bytes (Some w) = Some (record {
  start = w.start;
  storage = 0;
  offset = w.start;
  length = w.length;
  state = w.ticket;
  from = 0;
  until = size;
  bytes = λ p. slice_index bytes p;
})

-- the disk of that size; its first commit moves all of it
abbrev pub copy_view : Features → ℕ → List ℕ → ℕ → Bool → Option Waiting → View ℕ
copy_view f fault_count bytes size copied waiting = record {
  abilities = record {
    format = Format.Raw;
    is_writable = true;
    takes_backing = true;
    is_reliable = f.is_reliable;
    keeps_data = f.keeps_data;
    tells_bytes = f.tells_bytes;
    zero_granularity = None;
    offers = copy_offers;
    block = max size 1;
  };
  size = size;
  place = copy_place copied size bytes;
  fault_count = fault_count;
  stores = record { count = 1; bytes = λ index. bytes; features = λ index. f };
  special = λ offset. Byte 0;
  limits = record {
    cause = copy_cause;
    copies = copy_copies copied size;
    no_memory = λ op o n. ⊥;
    commit_memory = ⊥;
    whole = λ op o n. ⊥;
    answers = λ op o n q m. Unit {0};
    longest = λ op o n index. copy_longest f size op;
  };
  pending = copy_pending size bytes waiting;
}

-- what the copy holds is right: what waits lies in the disk, and waits for the copy alone
abbrev pub WaitsInside : ℕ → Bool → Waiting → Type 0
WaitsInside size copied w = (w.start + w.length ≤ size) × (copied ≡ false)
