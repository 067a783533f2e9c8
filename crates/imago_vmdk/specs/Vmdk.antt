-- SPDX-License-Identifier: MIT
use Rattle.std.specs.Prelude.{◌≡◌, ℕ, ◌+◌, ◌-◌, ◌*◌, ◌^◌, ◌<◌, ◌≤◌, ◌⊎◌, Bool, true, false, ◌&&◌}
use Rattle.std.specs.Prelude.{List, [], ◌∷◌, length, slice_index, slice_index_or, if◌then◌else◌}
use Rattle.std.specs.Prelude.{nat_lt, min, None}
use Rattle.std.specs.List.{sum_by}
use Rattle.imago_storage.specs.declared.error.Error.{Error}
use Rattle.imago_storage.specs.declared.error.Error.TheVariants as E
use Rattle.imago_storage.specs.Features.{Features, MayRunOut, IsAlignedRequest}
use Rattle.imago_storage.specs.Padding.{Wraps}
use Rattle.imago_storage.specs.Mem.{null_features}
use Rattle.imago_drivers.specs.declared.format.Format.TheVariants as Format
use Rattle.imago_drivers.specs.declared.mapping.Ticket.{Ticket}
use Rattle.imago_drivers.specs.Operation.{Operation, Map, Read, Write, Zero, DiscardToZero}
use Rattle.imago_drivers.specs.Operation.{DiscardToAny, DiscardToBacking, Grow, Shrink, Flush}
use Rattle.imago_drivers.specs.Place.{Value, Place, Byte, Stored, Zeroed, Special, Refused, End}
use Rattle.imago_drivers.specs.Place.{IsIn, PlacesStandAt}
use Rattle.imago_drivers.specs.Causes.{Causes}
use Rattle.imago_drivers.specs.Laws.{IsRefusedIn}
use Rattle.imago_drivers.specs.Ranges.{HasWrappingPart}
use Rattle.imago_drivers.specs.Reasons.{Reasons, none}
use Rattle.imago_drivers.specs.View.{View}
use Rattle.imago_vmdk.specs.declared.line.Extent.{Extent}
use Rattle.imago_vmdk.specs.Reading.{size_of, is_length}

-- the byte at that offset of a storage, unless no mapping can end behind it
abbrev pub flat_place : (ℕ → List ℕ) → ℕ → Bool → ℕ → Place
flat_place bytes index writable at = if nat_lt at (2 ^ 64 - 1) then Stored
    (slice_index (bytes index) at) index at writable else Refused Error.InvalidData

-- what stands at the i-th byte of an extent, whose storage has that index
abbrev pub extent_place : {N : Type 0} → (ℕ → List ℕ) → ℕ → Extent N → ℕ → Place
extent_place bytes index (Extent.Zero sectors) i = Zeroed true
extent_place bytes index (Extent.NoAccess sectors) i = Refused Error.NoAccess
extent_place bytes index (Extent.Flat sectors name offset writable vmfs) i = flat_place bytes index
    writable (offset * 512 + i)

-- how many storages an extent stands in
abbrev pub storages_of : {N : Type 0} → Extent N → ℕ
storages_of (Extent.Zero sectors) = 0
storages_of (Extent.NoAccess sectors) = 0
storages_of (Extent.Flat sectors name offset writable vmfs) = 1

-- how many storages extents stand in
abbrev pub storages_in : {N : Type 0} → List (Extent N) → ℕ
storages_in [] = 0
storages_in (extent ∷ extents) = storages_of extent + storages_in extents

-- what stands at each offset of extents, one after the other; the storages are theirs in order,
-- from that index on
abbrev pub places_from : {N : Type 0} → (ℕ → List ℕ) → ℕ → List (Extent N) → ℕ → Place
places_from bytes index [] p = End
places_from bytes index (extent ∷ extents) p = if nat_lt p (size_of extent) then extent_place bytes
    index extent p else places_from bytes (index + storages_of extent) extents (p - size_of extent)

-- the places of an image: none before its extents are opened. Its own storage is the one of index 0
abbrev pub vmdk_place : {N : Type 0} → (ℕ → List ℕ) → Bool → List (Extent N) → ℕ → Place
vmdk_place bytes false extents p = End
vmdk_place bytes true extents p = places_from bytes 1 extents p

-- how many bytes one mapping names from the i-th byte of an extent on: the rest, as far as it may
-- be read
abbrev pub extent_rest : {N : Type 0} → Extent N → ℕ → ℕ
extent_rest (Extent.Zero sectors) i = sectors * 512 - i
extent_rest (Extent.NoAccess sectors) i = 0
extent_rest (Extent.Flat sectors name offset writable vmfs) i = min (sectors * 512 - i)
    (2 ^ 64 - 1 - (offset * 512 + i))

abbrev pub rest_from : {N : Type 0} → List (Extent N) → ℕ → ℕ
rest_from [] p = 0
rest_from (extent ∷ extents) p = if nat_lt p (size_of extent) then extent_rest extent p else
    rest_from extents (p - size_of extent)

-- how many bytes one mapping names from that offset of an image on
abbrev pub vmdk_rest : {N : Type 0} → Bool → List (Extent N) → ℕ → ℕ
vmdk_rest false extents p = 0
vmdk_rest true extents p = rest_from extents p

-- what the driver has: zero writes, discards and resizes it hasn't; writes it has, and as the image
-- can't be written to, each is refused
abbrev pub vmdk_offers : Operation → Bool
vmdk_offers Map = true
vmdk_offers Read = true
vmdk_offers Write = true
vmdk_offers Flush = true
vmdk_offers Zero = false
vmdk_offers DiscardToZero = false
vmdk_offers DiscardToAny = false
vmdk_offers DiscardToBacking = false
vmdk_offers (Grow mode) = false
vmdk_offers Shrink = false

-- the operations that look at what stands somewhere
abbrev pub looks : Operation → Bool
looks Map = true
looks Read = true
looks _ = false

-- a range of places that stand in a storage one after the other, where a request for them wraps
-- around
abbrev pub ReadWraps : (ℕ → Place) → (ℕ → Features) → ℕ → ℕ → Type 0
ReadWraps place features from count = (index : ℕ) × (offset : ℕ)
    × PlacesStandAt place index offset count from × Wraps (features index) offset count

abbrev pub vmdk_cause : (ℕ → Place) → (ℕ → Features) → Causes
vmdk_cause place features op o n E.WrapAround = (op ≡ Read)
    × HasWrappingPart (ReadWraps place features) o n
vmdk_cause place features op o n E.InvalidData = (looks op ≡ true)
    × IsRefusedIn place o n Error.InvalidData
vmdk_cause place features op o n E.NoAccess = (looks op ≡ true)
    × IsRefusedIn place o n Error.NoAccess
vmdk_cause place features op o n E.Unsupported = vmdk_offers op ≡ false
vmdk_cause place features op o n _ = ⊥

-- a place of the range is made up by the driver
abbrev pub IsSpecialIn : (ℕ → Place) → ℕ → ℕ → Type 0
IsSpecialIn place o n = (p : ℕ) × IsIn o n p × ((v : Value) × (x : ℕ) × (place p ≡ Special v x))

-- a read takes none where no place is made up, and, if the places stand in a storage, the request
-- there is aligned, and the storage takes none for it
abbrev pub ReadTakesNone : (ℕ → Place) → (ℕ → Features) → (ℕ → List ℕ) → ℕ → ℕ → Type 0
ReadTakesNone place features bytes o n = (IsSpecialIn place o n → ⊥)
    × ((index offset : ℕ) → 0 < n
    → PlacesStandAt place index offset n o → IsAlignedRequest (features index) offset n
    × (MayRunOut (features index).read_memory (length (bytes index)) (offset + n) → ⊥))

abbrev pub vmdk_no_memory : (ℕ → Place) → (ℕ → Features) → (ℕ → List ℕ) → Operation → ℕ → ℕ → Type 0
vmdk_no_memory place features bytes Read o n = ReadTakesNone place features bytes o n
vmdk_no_memory place features bytes _ o n = Unit {0}

-- which part a mapping is for
abbrev pub vmdk_answers : {N : Type 0} → Bool → List (Extent N) → Operation → ℕ → ℕ → ℕ → ℕ → Type 0
vmdk_answers opened extents Map o n q m = m ≡ vmdk_rest opened extents o
vmdk_answers opened extents _ o n q m = Unit {0}

-- how many storages an image has: its own, and those of its extents once they are opened
abbrev pub vmdk_count : {N : Type 0} → Bool → List (Extent N) → ℕ
vmdk_count false extents = 1
vmdk_count true extents = 1 + storages_in extents

-- no device of these storages fails
abbrev pub all_reliable : List Features → Bool
all_reliable [] = true
all_reliable (f ∷ fs) = f.is_reliable && all_reliable fs

-- each of these storages tells its bytes
abbrev pub all_tell : List Features → Bool
all_tell [] = true
all_tell (f ∷ fs) = f.tells_bytes && all_tell fs

-- An image of these extents, over its own storage and then, once they are opened, those of the
-- extents. It can't be written to, so its data is kept where it is told.
abbrev pub vmdk_view : {N : Type 0} → List Features → List (List ℕ) → Bool → List (Extent N)
    → View Ticket
vmdk_view features bytes opened extents = record {
  abilities = record {
    format = Format.Vmdk;
    is_writable = false;
    takes_backing = false;
    is_reliable = all_reliable features;
    keeps_data = all_tell features;
    tells_bytes = all_tell features;
    zero_granularity = None;
    offers = vmdk_offers;
    block = 1;
  };
  size = sum_by size_of extents;
  place = vmdk_place (λ i. slice_index_or bytes i []) opened extents;
  fault_count = 0;
  stores = record {
    count = vmdk_count opened extents;
    bytes = λ i. slice_index_or bytes i [];
    features = λ i. slice_index_or features i null_features;
  };
  special = λ offset. Byte 0;
  limits = record {
    cause = vmdk_cause (vmdk_place (λ i. slice_index_or bytes i []) opened extents)
        (λ i. slice_index_or features i null_features);
    copies = λ op o n p. ⊥;
    no_memory = vmdk_no_memory (vmdk_place (λ i. slice_index_or bytes i []) opened extents)
        (λ i. slice_index_or features i null_features) (λ i. slice_index_or bytes i []);
    commit_memory = ⊥;
    whole = λ op o n. n ≤ vmdk_rest opened extents o;
    answers = vmdk_answers opened extents;
    longest = λ op o n index. 0;
  };
  pending = None;
}

-- why the text of a storage of that length may not be read: a wrap-around of that read, where the
-- length may be a descriptor's; a device that isn't reliable; or memory, where that may be so too,
-- or the storage takes some to tell its length
abbrev pub text_reasons : Features → ℕ → Reasons
text_reasons f n = record none {
  cause = λ e. (e ≡ Error.WrapAround) × (is_length n ≡ true) × Wraps f 0 n;
  device = f.is_reliable ≡ false;
  memory = (is_length n ≡ true) ⊎ MayRunOut f.other_memory 0 0;
}
