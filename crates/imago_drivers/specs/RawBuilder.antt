-- SPDX-License-Identifier: MIT
use Rattle.std.specs.Prelude.{◌≡◌, ◌≢◌, ℕ, ◌+◌, ◌^◌, ◌<◌, ◌≤◌, ◌⊎◌, Bool, true, false, List, []}
use Rattle.std.specs.Prelude.{length, slice_index, Some, Result, Ok, Err, OnOk}
use Rattle.imago_storage.specs.declared.error.Error.{Error}
use Rattle.imago_storage.specs.declared.error.Error.TheVariants as E
use Rattle.imago_storage.specs.Features.{Features, MayRunOut, OthersMayRunOut}
use Rattle.imago_storage.specs.Maintenance.{Maintenance}
use Rattle.imago_storage.specs.declared.options.PreallocateMode.TheVariants as StorageMode
use Rattle.imago_storage.specs.Openings.{Openings}
use Rattle.imago_storage.specs.Options.{no_open_options}
use Rattle.imago_drivers.specs.declared.format.PreallocateMode.{PreallocateMode}
use Rattle.imago_drivers.specs.declared.format.PreallocateMode.TheVariants as Mode
use Rattle.imago_drivers.specs.declared.raw.Raw.{Raw}
use Rattle.imago_drivers.specs.RawImage.{storage_in, size_of, writability_of}
use Rattle.imago_drivers.specs.LayerBelow.{no_layer}
use Rattle.imago_drivers.specs.View.{View}
use Rattle.imago_drivers.specs.CallRelations.{Calls}
use Rattle.imago_drivers.specs.Calls.{IsGrowth}
use Rattle.imago_drivers.specs.Raw.{storage_mode_of}
use Rattle.imago_drivers.specs.Opening.{Opening}
use Rattle.imago_drivers.specs.Builder.{OpenSettings, CreateSettings, IsImageStorage}

-- The next step is made where the one before succeeded; else its refusal is passed on.
abbrev pub Then : {A B : Type 0} → Result A Error → Result B Error → (A → Type 0) → Type 0
Then (Ok a) result next = next a
Then (Err e) result next = result ≡ Err e

-- why the size of a storage isn't told
abbrev pub MaySizeBeRefused : Features → Error → Type 0
MaySizeBeRefused f E.Device = f.is_reliable ≡ false
MaySizeBeRefused f E.Memory = OthersMayRunOut f
MaySizeBeRefused f _ = ⊥

-- the raw image of a storage, or the refusal of the storage's size
abbrev pub IsRawImage : {S : Type 0} {g : _} {h : _} → (S → List ℕ) → (S → Features) → Bool → S
    → Result (Raw S g h) Error → Type 0
IsRawImage bytes features w s (Ok r) = (storage_in r ≡ s) × (size_of r ≡ length (bytes s))
    × (writability_of r ≡ w)
IsRawImage bytes features w s (Err e) = MaySizeBeRefused (features s) e

-- The opening of a raw image by a lent gate: of the storage that was handed in, and the gate is as
-- it was; or of the one that the gate gives, which is asked once, and whose refusal is passed on.
abbrev pub IsRawOpeningBy : {Gate S : Type 0} {g : _} {h : _} → (S → List ℕ) → (S → Features)
    → Opening Gate S → OpenSettings S → Gate → Gate → Result (Raw S g h) Error → Type 0
IsRawOpeningBy {Gate} {S} bytes features opened settings old new result =
    (storage : Result S Error) × IsImageStorage opened settings old new storage
    × Then storage result (λ s. IsRawImage bytes features settings.writable s result)

-- The opening of a raw image: the same, whatever becomes of the gate.
abbrev pub IsRawOpening : {Gate S : Type 0} {g : _} {h : _} → (S → List ℕ) → (S → Features)
    → Opening Gate S → Gate → OpenSettings S → Result (Raw S g h) Error → Type 0
IsRawOpening {Gate} bytes features opened gate settings result = (after : Gate)
    × IsRawOpeningBy bytes features opened settings gate after result

-- The opening of a raw image by a path: of the storage that was opened by that name, to be written
-- to where the image is.
abbrev pub IsRawOpeningByPath : {S : Type 0} {g : _} {h : _} → Openings S → (S → List ℕ)
    → (S → Features) → List ℕ → Bool → Result (Raw S g h) Error → Type 0
IsRawOpeningByPath {S} openings bytes features path w result =
    (storage : Result S Error)
    × openings.opened (record no_open_options { filename = Some path; writable = w }) storage
    × Then storage result (λ s. IsRawImage bytes features w s result)

-- a device failed: it isn't reliable, or its count of faults says nothing any more
abbrev pub MayFail : Features → ℕ → Type 0
MayFail f fault_count = (f.is_reliable ≡ false) ⊎ (2 ^ 64 ≤ fault_count + 1)

-- why a storage isn't emptied
abbrev pub MayEmptyingBeRefused : Features → ℕ → ℕ → Error → Type 0
MayEmptyingBeRefused f fault_count len E.Unsupported = (f.offers_resize ≡ false) × (0 < len)
MayEmptyingBeRefused f fault_count len E.Device = MayFail f fault_count
MayEmptyingBeRefused f fault_count len E.Memory = OthersMayRunOut f
    ⊎ MayRunOut f.resize_memory len 0
MayEmptyingBeRefused f fault_count len _ = ⊥

-- why no disk of that size is made of a storage of that length: it isn't emptied, or doesn't grow
abbrev pub MayCreationBeRefused : Features → ℕ → ℕ → ℕ → Error → Type 0
MayCreationBeRefused f fault_count len size E.Unsupported = (f.offers_resize ≡ false)
    × ((0 < len) ⊎ (0 < size))
MayCreationBeRefused f fault_count len size E.Device = MayFail f fault_count
MayCreationBeRefused f fault_count len size E.Memory = OthersMayRunOut f
    ⊎ MayRunOut f.resize_memory len 0 ⊎ MayRunOut f.resize_memory 0 size
MayCreationBeRefused f fault_count len size _ = ⊥

-- The bytes of a new disk: as many as its size, and all zero unless the mode leaves them
-- unspecified.
pub record IsNewDisk (size : ℕ) (mode : PreallocateMode) (bytes : List ℕ) : Type 0 where
  pub size_of_disk : length bytes ≡ size
  pub zero : mode ≢ Mode.None → (p : ℕ) → slice_index bytes p ≡ 0

-- A storage is emptied: by one resize, or by no call where it has no bytes, or where its size isn't
-- told.
abbrev pub IsEmptiedBy : {S : Type 0} → (S → List ℕ) → Maintenance S → S → S → Result Unit Error
    → Type 0
IsEmptiedBy bytes calls old new result = calls.resized 0 StorageMode.None old new result
    ⊎ ((new ≡ old) × OnOk result (bytes old ≡ []))

-- What follows: nothing behind a refusal, which is passed on, and nothing for a disk of size 0;
-- else one resize to the size, in the mode.
abbrev pub IsGrownBehind : {S : Type 0} → Maintenance S → ℕ → PreallocateMode → Result Unit Error
    → S → S → Result Unit Error → Type 0
IsGrownBehind calls size mode (Err e) old new result = (new ≡ old) × (result ≡ Err e)
IsGrownBehind calls size mode (Ok u) old new result = ((size ≡ 0) × (new ≡ old) × (result ≡ Ok tt))
    ⊎ ((0 < size) × calls.resized size (storage_mode_of mode) old new result)

-- A disk is made in a storage: it is emptied, and then grows. No other call changes the storage.
pub record IsMadeIn {S : Type 0} (bytes : S → List ℕ) (calls : Maintenance S) (size : ℕ)
    (mode : PreallocateMode) (old new : S) (result : Result Unit Error) : Type 0 where
  pub between : S
  pub answer : Result Unit Error
  pub emptied : IsEmptiedBy bytes calls old between answer
  pub grown : IsGrownBehind calls size mode answer between new result

-- a storage that was emptied, or why it wasn't
abbrev pub IsEmptied : {S : Type 0} → (S → List ℕ) → (S → Features) → (S → ℕ) → Maintenance S → S
    → Result S Error → Type 0
IsEmptied bytes features faults calls old (Ok new) = (bytes new ≡ [])
    × (features new ≡ features old) × (faults old ≤ faults new)
    × IsEmptiedBy bytes calls old new (Ok tt)
IsEmptied {S} bytes features faults calls old (Err e) = MayEmptyingBeRefused (features old)
    (faults old) (length (bytes old)) e × (new : S) × IsEmptiedBy bytes calls old new (Err e)

-- the creation of a raw image: its storage is given back, or why it isn't made
abbrev pub IsRawCreation : {S : Type 0} → (S → List ℕ) → (S → Features) → (S → ℕ) → Maintenance S
    → CreateSettings S → Result S Error → Type 0
IsRawCreation bytes features faults calls settings (Ok s) = IsNewDisk settings.size settings.mode
    (bytes s) × (features s ≡ features settings.image)
    × IsMadeIn bytes calls settings.size settings.mode settings.image s (Ok tt)
IsRawCreation {S} bytes features faults calls settings (Err e) = MayCreationBeRefused
    (features settings.image) (faults settings.image) (length (bytes settings.image)) settings.size
    e
    × (s : S) × IsMadeIn bytes calls settings.size settings.mode settings.image s (Err e)

-- an image that was opened grows to the size: the grown one, or the refusal of the growth
abbrev pub IsGrownTo : {Image St : Type 0} → (Image → View St) → Calls Image St → PreallocateMode
    → ℕ → Image → Result Image Error → Type 0
IsGrownTo {Image} view calls mode size old (Ok new) = IsGrowth mode no_layer size (view old)
    (view new) (Ok tt)
    × ((view old).size < size → length ((view new).stores.bytes 0) ≡ size)
    × calls.grown size mode no_layer old new (Ok tt)
IsGrownTo {Image} view calls mode size old (Err e) = (new : Image)
    × IsGrowth mode no_layer size (view old) (view new) (Err e)
    × calls.grown size mode no_layer old new (Err e)

-- The creation of a raw image that is opened: its storage is emptied, a builder is made of it, the
-- builder opens the image as writable, and the image grows. The first refusal of these is the
-- answer.
abbrev pub IsRawCreatedOpen : {Gate S Builder St : Type 0} {g : _} {h : _} → (S → List ℕ)
    → (S → Features) → (S → ℕ) → Maintenance S → (Raw S g h → View St) → Calls (Raw S g h) St
    → (Builder → OpenSettings S) → Opening Gate S → Gate → (S → Result Builder Error → Type 0)
    → CreateSettings S → Result (Raw S g h) Error → Type 0
IsRawCreatedOpen {Gate} {S} {Builder} {St} {g} {h} bytes features faults maintenance view calls
    settings_of opened gate builds settings result =
    (emptied : Result S Error) × IsEmptied bytes features faults maintenance settings.image emptied
    × Then emptied result (λ s.
    (builder : Result Builder Error) × builds s builder × Then builder result (λ b.
    (image : Result (Raw S g h) Error) × IsRawOpening bytes features opened gate
    (record (settings_of b) { writable = true }) image × Then image result (λ i.
    IsGrownTo view calls settings.mode settings.size i result)))
