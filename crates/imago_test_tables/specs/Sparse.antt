-- SPDX-License-Identifier: MIT
use Rattle.std.specs.Prelude.{◌≡◌, ℕ, ◌+◌, ◌<◌, ◌≤◌, ◌⊎◌, ◌&&◌, Bool, true, false, List, length}
use Rattle.std.specs.Prelude.{slice_index, slice_get, Option, Some, None, Result, Ok, Err, is_none}
use Rattle.std.specs.Prelude.{if◌then◌else◌, nat_lt}
use Rattle.imago_storage.specs.declared.error.Error.{Error}
use Rattle.imago_storage.specs.declared.error.Error.TheVariants as E
use Rattle.imago_storage.specs.Features.{Features}
use Rattle.imago_drivers.specs.declared.format.Format.TheVariants as Format
use Rattle.imago_drivers.specs.declared.format.PreallocateMode.{PreallocateMode}
use Rattle.imago_drivers.specs.declared.format.PreallocateMode.TheVariants as Mode
use Rattle.imago_drivers.specs.declared.mapping.ShallowMapping.{ShallowMapping}
use Rattle.imago_test_tables.specs.declared.sparse.Settings.{Settings}
use Rattle.imago_test_tables.specs.declared.sparse.Waiting.{Waiting}
use Rattle.imago_test_tables.specs.declared.table.Origin.{Origin}
use Rattle.imago_test_tables.specs.declared.table.Origin.TheVariants as O
use Rattle.imago_drivers.specs.Operation.{Operation, Map, Read, Write, Zero, DiscardToZero}
use Rattle.imago_drivers.specs.Operation.{DiscardToAny, DiscardToBacking, Grow, Shrink, Flush}
use Rattle.imago_drivers.specs.Place.{Value, Byte, Place, Stored, Zeroed, Lower, Refused, End, IsIn}
use Rattle.imago_drivers.specs.Reasons.{Reasons, none}
use Rattle.imago_drivers.specs.LayerBelow.{LayerBelow}
use Rattle.imago_drivers.specs.Causes.{Causes}
use Rattle.imago_drivers.specs.Pending.{Pending}
use Rattle.imago_drivers.specs.Lengths.{padded_to}
use Rattle.imago_drivers.specs.View.{View}
use Rattle.imago_test_tables.specs.Table.{AllClear, HasBarred, IsFree, IsOneKind}
use Rattle.imago_test_tables.specs.Pair.{at_index, pair_stores}

-- the place of an entry at an offset, over storages of these bytes
abbrev pub entry_place : (ℕ → List ℕ) → ℕ → Option Origin → Place
entry_place bytes p None = End
entry_place bytes p (Some O.First) = Stored (slice_index (bytes 0) p) 0 p true
entry_place bytes p (Some O.Second) = Stored (slice_index (bytes 1) p) 1 p true
entry_place bytes p (Some O.Zero) = Zeroed true
entry_place bytes p (Some O.Lower) = Lower p false
entry_place bytes p (Some O.Barred) = Refused Error.NoAccess

-- a place of the disk is that of its entry
abbrev pub sparse_place : (ℕ → List ℕ) → List Origin → ℕ → Place
sparse_place bytes table p = entry_place bytes p (slice_get table p)

-- Growth is offered in three modes, where the table isn't shorter than the disk.
abbrev pub offers_growth : Bool → PreallocateMode → Bool
offers_growth short Mode.None = if short then false else true
offers_growth short Mode.Zero = if short then false else true
offers_growth short Mode.FormatAllocate = if short then false else true
offers_growth short Mode.FullAllocate = false
offers_growth short Mode.WriteData = false

abbrev pub sparse_offers : Bool → Operation → Bool
sparse_offers short Map = true
sparse_offers short Read = true
sparse_offers short Write = true
sparse_offers short Zero = true
sparse_offers short DiscardToZero = true
sparse_offers short DiscardToAny = true
sparse_offers short DiscardToBacking = true
sparse_offers short (Grow mode) = offers_growth short mode
sparse_offers short Shrink = true
sparse_offers short Flush = true

-- reads and writes may wrap around at a storage; nothing else may
abbrev pub MayWrap : Operation → Type 0
MayWrap Map = ⊥
MayWrap Read = Unit {0}
MayWrap Write = Unit {0}
MayWrap Zero = ⊥
MayWrap DiscardToZero = ⊥
MayWrap DiscardToAny = ⊥
MayWrap DiscardToBacking = ⊥
MayWrap (Grow mode) = ⊥
MayWrap Shrink = ⊥
MayWrap Flush = ⊥

-- a barred entry refuses each operation on a range that has it
abbrev pub sparse_cause : List Origin → Bool → Causes
sparse_cause table short op o n E.WrapAround = MayWrap op
sparse_cause table short op o n E.Unsupported = sparse_offers short op ≡ false
sparse_cause table short op o n E.NoAccess = HasBarred table o n
sparse_cause table short op o n _ = ⊥

-- a write copies the bytes of its range that the layer below has
abbrev pub sparse_copies : List Origin → Operation → ℕ → ℕ → ℕ → Type 0
sparse_copies table Write o n p = IsIn o n p × (slice_get table p ≡ Some Origin.Lower)
sparse_copies table Map o n p = ⊥
sparse_copies table Read o n p = ⊥
sparse_copies table Zero o n p = ⊥
sparse_copies table DiscardToZero o n p = ⊥
sparse_copies table DiscardToAny o n p = ⊥
sparse_copies table DiscardToBacking o n p = ⊥
sparse_copies table (Grow mode) o n p = ⊥
sparse_copies table Shrink o n p = ⊥
sparse_copies table Flush o n p = ⊥

-- Zero calls and discards take no memory, and do the whole of a range with no barred entry inside
-- the table; a cut takes none.
abbrev pub is_plain : List Origin → Operation → ℕ → ℕ → Type 0
is_plain table Map o n = ⊥
is_plain table Read o n = ⊥
is_plain table Write o n = ⊥
is_plain table Zero o n = AllClear table o n
is_plain table DiscardToZero o n = AllClear table o n
is_plain table DiscardToAny o n = AllClear table o n
is_plain table DiscardToBacking o n = AllClear table o n
is_plain table (Grow mode) o n = ⊥
is_plain table Shrink o n = Unit {0}
is_plain table Flush o n = ⊥

-- Zero calls and discards do the whole of such a range; zero calls for granules that fail don't.
abbrev pub is_whole : Bool → List Origin → Operation → ℕ → ℕ → Type 0
is_whole fails table Map o n = is_plain table Map o n
is_whole fails table Read o n = is_plain table Read o n
is_whole fails table Write o n = is_plain table Write o n
is_whole fails table Zero o n = (fails ≡ false) × is_plain table Zero o n
is_whole fails table DiscardToZero o n = is_plain table DiscardToZero o n
is_whole fails table DiscardToAny o n = is_plain table DiscardToAny o n
is_whole fails table DiscardToBacking o n = is_plain table DiscardToBacking o n
is_whole fails table (Grow mode) o n = is_plain table (Grow mode) o n
is_whole fails table Shrink o n = is_plain table Shrink o n
is_whole fails table Flush o n = is_plain table Flush o n

-- a zero call does the whole range, or nothing where granules fail
abbrev pub zero_answer : Bool → ℕ → ℕ → ℕ → ℕ → Type 0
zero_answer true o n q m = (q ≡ o) × (m ≡ 0)
zero_answer false o n q m = (q ≡ o) × (m ≡ n)

-- A mapping is for entries of one kind; a discard does the whole range.
abbrev pub sparse_answers : Bool → List Origin → Operation → ℕ → ℕ → ℕ → ℕ → Type 0
sparse_answers fails table Map o n q m = (m ≤ n) × IsOneKind table o m
sparse_answers fails table Read o n q m = Unit {0}
sparse_answers fails table Write o n q m = (m ≤ n) × IsOneKind table o m
sparse_answers fails table Zero o n q m = zero_answer fails o n q m
sparse_answers fails table DiscardToZero o n q m = (q ≡ o) × (m ≡ n)
sparse_answers fails table DiscardToAny o n q m = (q ≡ o) × (m ≡ n)
sparse_answers fails table DiscardToBacking o n q m = (q ≡ o) × (m ≡ n)
sparse_answers fails table (Grow mode) o n q m = Unit {0}
sparse_answers fails table Shrink o n q m = Unit {0}
sparse_answers fails table Flush o n q m = Unit {0}

-- a write copies bytes into the first storage, whose last block is padded
abbrev pub sparse_longest : Features → Operation → ℕ → ℕ → ℕ → ℕ
sparse_longest f Write o n index = padded_to f o n
sparse_longest f Map o n index = 0
sparse_longest f Read o n index = 0
sparse_longest f Zero o n index = 0
sparse_longest f DiscardToZero o n index = 0
sparse_longest f DiscardToAny o n index = 0
sparse_longest f DiscardToBacking o n index = 0
sparse_longest f (Grow mode) o n index = 0
sparse_longest f Shrink o n index = 0
sparse_longest f Flush o n index = 0

-- a byte of the range that a write waits for, as the first storage has it; 0 outside, and where
-- storages don't keep their data
abbrev pub waiting_byte : Bool → List ℕ → Waiting → ℕ → ℕ
waiting_byte keeps first w p = if keeps then
    (if nat_lt p w.start then 0 else
    (if nat_lt p (w.start + w.length) then slice_index first p else 0)) else 0

-- a write that waits: its bytes stand in the first storage, at their own offsets
abbrev pub sparse_pending : Bool → List ℕ → Option Waiting → Option (Pending ℕ)
sparse_pending keeps first None = None
sparse_pending keeps first (Some w) = Some (record {
  start = w.start;
  storage = 0;
  offset = w.start;
  length = w.length;
  state = w.ticket;
  from = w.start;
  until = w.start + w.length;
  bytes = waiting_byte keeps first w;
})

-- a disk that refuses nothing by itself
abbrev pub never_fails : Settings → Bool
never_fails s = is_none s.fail_commit_after && (if s.fail_granules then false else true)

abbrev pub sparse_view : Features → Features → ℕ → List ℕ → List ℕ → List Origin → ℕ → Settings
    → Bool → Option Waiting → View ℕ
sparse_view f g fault_count first second table size s short waiting = record {
  abilities = record {
    format = Format.Raw;
    is_writable = s.writable;
    takes_backing = true;
    is_reliable = (f.is_reliable && g.is_reliable) && never_fails s;
    keeps_data = f.keeps_data && g.keeps_data;
    tells_bytes = f.tells_bytes && g.tells_bytes;
    zero_granularity = Some s.granularity;
    offers = sparse_offers short;
    block = 1;
  };
  size = size;
  place = sparse_place (at_index first second) table;
  fault_count = fault_count;
  stores = pair_stores f g first second;
  special = λ offset. Byte 0;
  limits = record {
    cause = sparse_cause table short;
    copies = sparse_copies table;
    no_memory = is_plain table;
    commit_memory = ⊥;
    whole = is_whole s.fail_granules table;
    answers = sparse_answers s.fail_granules table;
    longest = sparse_longest f;
  };
  pending = sparse_pending (f.keeps_data && g.keeps_data) first waiting;
}

-- The places of a write that waits stand in no storage.
pub record WaitsApart (table : List Origin) (w : Waiting) : Type 0 where
  pub inside : w.start + w.length ≤ length table
  pub free : (p : ℕ) → IsIn w.start w.length p → IsFree (slice_get table p)

-- what a byte that stands in no storage shows over a layer with these values
abbrev pub old_value : (ℕ → Value) → ℕ → Origin → Value
old_value at p O.Lower = at p
old_value at p O.First = Byte 0
old_value at p O.Second = Byte 0
old_value at p O.Zero = Byte 0
old_value at p O.Barred = Byte 0

abbrev pub HasOldByte : (ℕ → Value) → ℕ → Origin → ℕ → Type 0
HasOldByte at p origin byte = old_value at p origin ≡ Byte byte

-- the bytes of a buffer are those that the disk has from o on, where it has that origin
abbrev pub HasOldBytes : (ℕ → Value) → ℕ → Origin → List ℕ → Type 0
HasOldBytes at o origin items = (k : ℕ) → k < length items
    → HasOldByte at (o + k) origin (slice_index items k)

-- why the bytes of a range of that origin may not be copied into a storage
abbrev pub copy_reasons : LayerBelow → Origin → ℕ → ℕ → Reasons
copy_reasons l origin o n = record none {
  cause = λ e. (e ≡ Error.WrapAround) ⊎ ((origin ≡ Origin.Lower) × l.cause o n e);
  device = Unit {0};
  memory = Unit {0};
}

-- the mapping of an entry at an offset
abbrev pub mapping_of : Origin → ℕ → Result ShallowMapping Error
mapping_of O.First o = Ok (ShallowMapping.Raw 0 o true)
mapping_of O.Second o = Ok (ShallowMapping.Raw 1 o true)
mapping_of O.Zero o = Ok (ShallowMapping.Zero true)
mapping_of O.Lower o = Ok (ShallowMapping.Indirect o false)
mapping_of O.Barred o = Err Error.NoAccess

-- the entries that a growth adds, where the mode is offered
abbrev pub origin_for : PreallocateMode → Option Origin
origin_for Mode.None = Some Origin.Zero
origin_for Mode.Zero = Some Origin.Zero
origin_for Mode.FormatAllocate = Some Origin.Lower
origin_for Mode.FullAllocate = None
origin_for Mode.WriteData = None
