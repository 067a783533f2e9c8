-- SPDX-License-Identifier: MIT
use Rattle.std.specs.Prelude.{◌≡◌, ℕ, ◌+◌, ◌<◌, Bool, true, false, List, slice_index, if◌then◌else◌}
use Rattle.std.specs.Prelude.{nat_lt, None}
use Rattle.imago.specs.DeclaredError.{Error}
use Rattle.imago.specs.DeclaredError.TheVariants as E
use Rattle.imago.specs.Features.{Features}
use Rattle.imago.specs.Format.TheVariants as Format
use Rattle.imago.specs.Operation.{Operation, Map, Read, Write, Zero, DiscardToZero, DiscardToAny}
use Rattle.imago.specs.Operation.{DiscardToBacking, Grow, Shrink, Flush}
use Rattle.imago.specs.Place.{Place, Byte, Stored, End}
use Rattle.imago.specs.Causes.{Causes}
use Rattle.imago.specs.View.{View}

-- a place of the disk: the storage's byte that many further
abbrev pub behind_place : ℕ → ℕ → List ℕ → ℕ → Place
behind_place skip size bytes p =
    if nat_lt p size then Stored (slice_index bytes (skip + p)) 0 (skip + p) false else End

-- a read may wrap around at the storage
abbrev pub behind_cause : Causes
behind_cause Read o n E.WrapAround = Unit {0}
behind_cause _ o n _ = ⊥

abbrev pub behind_header_view : Features → ℕ → List ℕ → ℕ → ℕ → View Unit
behind_header_view f faults bytes skip size = record {
  abilities = record {
    format = Format.Raw;
    is_writable = false;
    takes_backing = false;
    is_reliable = f.is_reliable;
    keeps_data = f.keeps_data;
    tells_bytes = f.tells_bytes;
    zero_granularity = None;
    offers = λ op. true;
    block = 1;
  };
  size = size;
  place = behind_place skip size bytes;
  fault_count = faults;
  stores = record { count = 1; bytes = λ index. bytes; features = λ index. f };
  special = λ offset. Byte 0;
  limits = record {
    cause = behind_cause;
    copies = λ op o n p. ⊥;
    no_memory = λ op o n. ⊥;
    commit_memory = ⊥;
    whole = λ op o n. ⊥;
    answers = λ op o n q m. Unit {0};
    longest = λ op o n index. 0;
  };
  pending = None;
}
