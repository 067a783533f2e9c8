-- SPDX-License-Identifier: MIT
use Rattle.std.specs.Prelude.{ℕ, ◌+◌, ◌≤◌, max, Bool, true, false, List, Option, Some, None}
use Rattle.imago_storage.specs.Features.{Features}
use Rattle.imago_drivers.specs.declared.raw.Raw.{Raw}
use Rattle.imago_drivers.specs.Operation.{Operation, Map, Read, Write, Zero, DiscardToZero}
use Rattle.imago_drivers.specs.Operation.{DiscardToAny, DiscardToBacking, Grow, Shrink, Flush}
use Rattle.imago_drivers.specs.Raw.{raw_view}
use Rattle.imago_drivers.specs.RawImage.{storage_in, size_of, writability_of}
use Rattle.imago_drivers.specs.CallRelations.{OnRange}
use Rattle.imago_drivers.specs.declared.mapping.Ticket.{Ticket}
use Rattle.imago_drivers.specs.View.{View}

-- the granularity that is told: 1 for 0
abbrev pub told : Bool → ℕ → Option ℕ
told true cut = Some (max cut 1)
told false cut = None

-- what takes no memory of a driver takes none of one in blocks, but for writes, zero calls and
-- discards, of which nothing is said
abbrev pub chopped_no_memory : (Operation → ℕ → ℕ → Type 0) → Operation → ℕ → ℕ → Type 0
chopped_no_memory free Map o n = free Map o n
chopped_no_memory free Read o n = free Read o n
chopped_no_memory free Write o n = ⊥
chopped_no_memory free Zero o n = ⊥
chopped_no_memory free DiscardToZero o n = ⊥
chopped_no_memory free DiscardToAny o n = ⊥
chopped_no_memory free DiscardToBacking o n = ⊥
chopped_no_memory free (Grow mode) o n = free (Grow mode) o n
chopped_no_memory free Shrink o n = free Shrink o n
chopped_no_memory free Flush o n = free Flush o n

-- a driver in blocks, which tells that granularity: nothing is said of how much is done at once
abbrev pub chopped : {St : Type 0} → Option ℕ → View St → View St
chopped granularity v = record v {
  abilities = record v.abilities { zero_granularity = granularity };
  limits = record v.limits {
    no_memory = chopped_no_memory v.limits.no_memory;
    whole = λ op o n. ⊥;
    answers = λ op o n q m. Unit {0};
  };
}

-- a discard of a part of the range
abbrev pub of_part : {Self : Type 0} → OnRange Self → OnRange Self
of_part discard o n old new result = (q : ℕ) × (m : ℕ) × (o ≤ q) × (q + m ≤ o + n)
    × discard q m old new result

-- a raw image over storages that show these features, counts of faults and bytes
abbrev pub raw_over : {S : Type 0} {g : _} {h : _} → (S → Features) → (S → ℕ) → (S → List ℕ)
    → Raw S g h → View Ticket
raw_over features fault_count bytes r = raw_view (features (storage_in r))
    (fault_count (storage_in r)) (bytes (storage_in r)) (size_of r) (writability_of r)

-- the same in blocks
abbrev pub choppy_view : {S : Type 0} {g : _} {h : _} → (S → Features) → (S → ℕ) → (S → List ℕ)
    → Option ℕ → Raw S g h → View Ticket
choppy_view features fault_count bytes granularity r = chopped granularity
    (raw_over features fault_count bytes r)
