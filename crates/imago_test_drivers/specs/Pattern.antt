-- SPDX-License-Identifier: MIT
use Rattle.std.specs.Prelude.{◌≡◌, ℕ, ◌+◌, ◌<◌, ◌≤◌, Bool, true, false, [], if◌then◌else◌, nat_lt}
use Rattle.std.specs.Prelude.{None}
use Rattle.imago_storage.specs.declared.error.Error.TheVariants as E
use Rattle.imago_storage.specs.Mem.{null_features}
use Rattle.imago_drivers.specs.declared.format.Format.TheVariants as Format
use Rattle.imago_test_drivers.specs.declared.pattern.Kind.{Kind}
use Rattle.imago_test_drivers.specs.declared.pattern.Pattern.{Pattern}
use Rattle.imago_drivers.specs.Operation.{Operation, Read}
use Rattle.imago_drivers.specs.Place.{Byte, Place, Zeroed, Special, Lower, End, IsIn}
use Rattle.imago_drivers.specs.Causes.{Causes}
use Rattle.imago_drivers.specs.declared.mapping.Ticket.{Ticket}
use Rattle.imago_drivers.specs.View.{View}

-- what each offset of the disk is
abbrev pub kind_of : Pattern → Kind
kind_of d = d.kind

-- the disk's size
abbrev pub size_of : Pattern → ℕ
size_of d = d.size

-- what stands at each offset of a disk of that kind
abbrev pub pattern_at : Kind → ℕ → Place
pattern_at Kind.Zeroes p = Zeroed true
pattern_at (Kind.Special byte readable) p = Special (Byte byte) p
pattern_at (Kind.Below writable) p = Lower p writable

abbrev pub pattern_place : Kind → ℕ → ℕ → Place
pattern_place kind size p = if nat_lt p size then pattern_at kind p else End

abbrev pub pattern_byte : Kind → ℕ
pattern_byte Kind.Zeroes = 0
pattern_byte (Kind.Special byte readable) = byte
pattern_byte (Kind.Below writable) = 0

abbrev pub is_readable : Kind → Bool
is_readable Kind.Zeroes = true
is_readable (Kind.Special byte readable) = readable
is_readable (Kind.Below writable) = true

abbrev pub takes_backing : Kind → Bool
takes_backing Kind.Zeroes = false
takes_backing (Kind.Special byte readable) = false
takes_backing (Kind.Below writable) = true

-- special bytes are read where they are readable
abbrev pub pattern_offers : Kind → Operation → Bool
pattern_offers kind Read = is_readable kind
pattern_offers kind _ = true

-- a special byte in the range that can't be read
abbrev pub pattern_cause : Kind → ℕ → Causes
pattern_cause kind size Read o n E.Unsupported = (is_readable kind ≡ false)
    × ((p : ℕ) × IsIn o n p × (p < size))
pattern_cause kind size _ o n _ = ⊥

abbrev pub pattern_view : Kind → ℕ → View Ticket
pattern_view kind size = record {
  abilities = record {
    format = Format.Raw;
    is_writable = false;
    takes_backing = takes_backing kind;
    is_reliable = true;
    keeps_data = true;
    tells_bytes = true;
    zero_granularity = None;
    offers = pattern_offers kind;
    block = 1;
  };
  size = size;
  place = pattern_place kind size;
  fault_count = 0;
  stores = record { count = 0; bytes = λ index. []; features = λ index. null_features };
  special = λ offset. Byte (pattern_byte kind);
  limits = record {
    cause = pattern_cause kind size;
    copies = λ op o n p. ⊥;
    no_memory = λ op o n. Unit {0};
    commit_memory = ⊥;
    whole = λ op o n. o + n ≤ size;
    answers = λ op o n q m. Unit {0};
    longest = λ op o n index. 0;
  };
  pending = None;
}
