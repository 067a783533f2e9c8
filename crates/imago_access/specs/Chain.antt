-- SPDX-License-Identifier: MIT
use Rattle.std.specs.Prelude.{◌≡◌, ℕ, ◌+◌, ◌-◌, ◌<◌, ◌≤◌, ◌⊎◌, ◌&&◌, Bool, true, Option, Some, None}
use Rattle.std.specs.Prelude.{min}
use Rattle.std.specs.declared.boxed.Box.{Box}
use Rattle.std.specs.declared.alloc.Global.{Global}
use Rattle.imago_storage.specs.declared.error.Error.{Error}
use Rattle.imago_drivers.specs.Done.{keeps_over}
use Rattle.imago_drivers.specs.Operation.{Operation, Map, Read}
use Rattle.imago_drivers.specs.Place.{Value, Byte, Place, Lower, shown}
use Rattle.imago_drivers.specs.LayerBelow.{LayerBelow, no_layer, below_reasons}
use Rattle.imago_drivers.specs.Reasons.{Reasons}
use Rattle.imago_drivers.specs.View.{View}
use Rattle.imago_access.specs.declared.access.FormatAccess.{FormatAccess, FormatAccess'}
use Rattle.imago_access.specs.declared.access.FormatAccess.{Held-FormatAccess-backing, None', Some'}
use Rattle.imago_access.specs.declared.access.FormatAccess.{out-FormatAccess}

-- An image is a chain of layers: each has a driver, and the next one below it. What a driver is to
-- its callers is its view.

-- the driver of an image
abbrev pub driver : {D : Type 0} → FormatAccess D → D
driver {D} x = (out-FormatAccess D x).inner

abbrev pub unboxed : {D : Type 0} → Option (Box (FormatAccess D) Global) → Option (FormatAccess D)
unboxed None = None
unboxed (Some b) = Some b.value

-- the image below, if there is one
abbrev pub backing : {D : Type 0} → FormatAccess D → Option (FormatAccess D)
backing {D} x = unboxed (out-FormatAccess D x).backing

abbrev mutual
  -- what a read of each offset of an image gives: each place of the top layer, over what the layers
  -- below it show
  pub disk_value : {D St : Type 0} → (D → View St) → FormatAccess D → ℕ → Value
  disk_value view (FormatAccess' below inner) p = shown (value_below view below)
      ((view inner).place p)

  pub value_below : {D St : Type 0} → (D → View St) → Held-FormatAccess-backing D → ℕ → Value
  value_below view None' p = Byte 0
  value_below view (Some' k x) p = disk_value view x p

abbrev mutual
  -- no device of any layer fails
  pub is_reliable : {D St : Type 0} → (D → View St) → FormatAccess D → Bool
  is_reliable view (FormatAccess' below inner) = (view inner).abilities.is_reliable
      && is_reliable_below view below

  pub is_reliable_below : {D St : Type 0} → (D → View St) → Held-FormatAccess-backing D → Bool
  is_reliable_below view None' = true
  is_reliable_below view (Some' k x) = is_reliable view x

abbrev mutual
  -- each layer tells its bytes
  pub tells_bytes : {D St : Type 0} → (D → View St) → FormatAccess D → Bool
  tells_bytes view (FormatAccess' below inner) = (view inner).abilities.tells_bytes
      && tells_bytes_below view below

  pub tells_bytes_below : {D St : Type 0} → (D → View St) → Held-FormatAccess-backing D → Bool
  tells_bytes_below view None' = true
  tells_bytes_below view (Some' k x) = tells_bytes view x

-- the m offsets of the layer below from q on are reached from offsets of the range of n from o on
abbrev pub IsReached : (ℕ → Place) → ℕ → ℕ → ℕ → ℕ → Type 0
IsReached place o n q m = (i : ℕ) → i < m → (k : ℕ) × (k < n) × (w : Bool)
    × (place (o + k) ≡ Lower (q + i) w)

abbrev mutual
  -- a cause of refusal for that range at the top, or, for what is reached there, at a layer below
  pub chain_cause : {D St : Type 0} → (D → View St) → FormatAccess D → Operation → ℕ → ℕ → Error
      → Type 0
  chain_cause view (FormatAccess' below inner) op o n e =
      (view inner).limits.cause op o n e
      ⊎ ((q : ℕ) × (m : ℕ) × (0 < m) × IsReached (view inner).place o n q m
      × cause_below view below op q m e)

  pub cause_below : {D St : Type 0} → (D → View St) → Held-FormatAccess-backing D → Operation → ℕ
      → ℕ → Error → Type 0
  cause_below view None' op q m e = ⊥
  cause_below view (Some' k x) op q m e = chain_cause view x op q m e

abbrev mutual
  -- each driver maps the whole of that range at once, and takes no memory to read it
  pub chain_no_memory : {D St : Type 0} → (D → View St) → FormatAccess D → ℕ → ℕ → Type 0
  chain_no_memory view (FormatAccess' below inner) o n =
      (view inner).limits.whole Read o n × (view inner).limits.no_memory Read o n
      × ((q : ℕ) → IsReached (view inner).place o n q n → no_memory_below view below q n)

  pub no_memory_below : {D St : Type 0} → (D → View St) → Held-FormatAccess-backing D → ℕ → ℕ
      → Type 0
  no_memory_below view None' q n = Unit {0}
  no_memory_below view (Some' k x) q n = chain_no_memory view x q n

abbrev mutual
  -- a driver may take memory to read a part of that range: the one at the top, or, for what is
  -- reached there, one of a layer below
  pub may_take_memory : {D St : Type 0} → (D → View St) → FormatAccess D → ℕ → ℕ → Type 0
  may_take_memory view (FormatAccess' below inner) o n =
      ((q : ℕ) × (m : ℕ) × (0 < m) × (o ≤ q) × (q + m ≤ o + n)
      × ((view inner).limits.no_memory Read q m → ⊥))
      ⊎ ((q : ℕ) × (m : ℕ) × (0 < m) × IsReached (view inner).place o n q m
      × may_take_memory_below view below q m)

  pub may_take_memory_below : {D St : Type 0} → (D → View St) → Held-FormatAccess-backing D → ℕ → ℕ
      → Type 0
  may_take_memory_below view None' q m = ⊥
  may_take_memory_below view (Some' k x) q m = may_take_memory view x q m

-- none takes memory: each driver maps the whole at once and takes none for it, or none does for any
-- part
abbrev pub takes_no_memory : {D St : Type 0} → (D → View St) → FormatAccess D → ℕ → ℕ → Type 0
takes_no_memory view x o n = chain_no_memory view x o n ⊎ (may_take_memory view x o n → ⊥)

-- how much of a range lies inside a disk
abbrev pub inside_part : ℕ → ℕ → ℕ → ℕ
inside_part size o n = min n (size - o)

-- a read of that range takes no memory: none of it lies inside the disk, or no driver takes any for
-- what does
abbrev pub no_memory_to_read : {D St : Type 0} → (D → View St) → FormatAccess D → ℕ → ℕ → Type 0
no_memory_to_read view x o n =
    let m = inside_part (view (driver x)).size o n in (m ≡ 0) ⊎ takes_no_memory view x o m

-- a read may meet the causes of a read and those of the mappings that it asks for
abbrev pub read_cause : {D St : Type 0} → (D → View St) → FormatAccess D → ℕ → ℕ → Error → Type 0
read_cause view x o n e = chain_cause view x Read o n e ⊎ chain_cause view x Map o n e

-- an image as the driver above it sees it
abbrev pub as_layer_below : {D St : Type 0} → (D → View St) → FormatAccess D → LayerBelow
as_layer_below view x = record {
  size = (view (driver x)).size;
  at = disk_value view x;
  is_reliable = is_reliable view x;
  tells_bytes = tells_bytes view x;
  cause = read_cause view x;
  no_memory = no_memory_to_read view x;
}

-- what a driver is lent: the image below it, if there is one
abbrev pub lent_image : {D St : Type 0} → (D → View St) → Option (FormatAccess D) → LayerBelow
lent_image view None = no_layer
lent_image view (Some x) = as_layer_below view x

-- an image keeps what is written, and what its driver copies from below is told
abbrev pub keeps_data : {D St : Type 0} → (D → View St) → FormatAccess D → Bool
keeps_data view x = keeps_over (view (driver x)) (lent_image view (backing x))

-- why a read of an image may be refused
abbrev pub read_reasons : {D St : Type 0} → (D → View St) → FormatAccess D → ℕ → ℕ → Reasons
read_reasons view x o n = below_reasons (as_layer_below view x) o n
