-- SPDX-License-Identifier: MIT
use Rattle.std.specs.Prelude.{◌≡◌, ℕ, Bool, false, List, Option, Some, None, Result, Ok}
use Rattle.std.specs.Option.{option_map_or}
use Rattle.imago_storage.specs.declared.error.Error.{Error}
use Rattle.imago_storage.specs.Features.{Features}
use Rattle.imago_storage.specs.Options.{OpenOptions, no_open_options}
use Rattle.imago_drivers.specs.declared.format.PreallocateMode.{PreallocateMode}
use Rattle.imago_drivers.specs.declared.format.PreallocateMode.TheVariants as Mode
use Rattle.imago_drivers.specs.Opening.{Opening}
use Rattle.imago_drivers.specs.View.{View}

-- where the storage of an image comes from: it was handed in, or stands under a path
pub data Source (S : Type 0) : Type 0 where
  HandedIn : S → Source S
  AtPath : List ℕ → Source S

-- What an image is opened by: its storage, whether it can be written to, and the options, if any
-- were set.
pub record OpenSettings (S : Type 0) : Type 0 where
  pub source : Source S
  pub writable : Bool
  pub options : Option OpenOptions

-- What an image is created by: its storage, the disk's size in bytes, and how it is allocated.
pub record CreateSettings (S : Type 0) : Type 0 where
  pub image : S
  pub size : ℕ
  pub mode : PreallocateMode

-- nothing is set but the storage
abbrev pub unset : {S : Type 0} → Source S → OpenSettings S
unset from = record { source = from; writable = false; options = None }

abbrev pub unsized : {S : Type 0} → S → CreateSettings S
unsized storage = record { image = storage; size = 0; mode = Mode.None }

-- the path of an image: the one that was set, or the name of the storage that was handed in
abbrev pub image_path : {S : Type 0} → (S → Features) → Source S → Option (List ℕ)
image_path features (HandedIn storage) = (features storage).filename
image_path features (AtPath path) = Some path

-- the options that storages are opened with: the set ones, or new ones, and writable as the image
-- is
abbrev pub storage_options : {S : Type 0} → OpenSettings S → OpenOptions
storage_options s = record
    (option_map_or (λ o. o) s.options no_open_options) { writable = s.writable }

-- the storage of an image: the one that was handed in, without asking the gate; or the gate's
-- answer for the path
abbrev pub IsFromSource : {Gate S : Type 0} → Opening Gate S → OpenOptions → Source S → Gate → Gate
    → Result S Error → Type 0
IsFromSource opened options (HandedIn storage) old new result = (result ≡ Ok storage) × (new ≡ old)
IsFromSource opened options (AtPath path) old new result = opened
    (record options { filename = Some path }) old new result

abbrev pub IsImageStorage : {Gate S : Type 0} → Opening Gate S → OpenSettings S → Gate → Gate
    → Result S Error → Type 0
IsImageStorage opened s old new result = IsFromSource opened (storage_options s) s.source old new
    result

-- What the opening of an image is: a relation of the gate's openings, the gate, the builder, and
-- the answer.
abbrev pub ImageOpening : Type 0 → Type 0 → Type 0 → Type 1
ImageOpening Builder S Image = (Gate : Type 0) → Opening Gate S → Gate → Builder
    → Result Image Error → Type 0

-- An image that was opened is that of the storage handed in, or of the one that the gate gave for
-- the path.
pub record IsImageOf {Gate S St : Type 0} (opened : Opening Gate S) (gate : Gate)
    (settings : OpenSettings S) (bytes : S → List ℕ) (features : S → Features) (view : View St)
    : Type 0 where
  pub after : Gate
  pub storage : S
  pub given : IsImageStorage opened settings gate after (Ok storage)
  pub bytes_of : view.stores.bytes 0 ≡ bytes storage
  pub features_of : view.stores.features 0 ≡ features storage
  pub writable : view.abilities.is_writable ≡ settings.writable

-- What the creation of an image is: a relation of the builder and the answer, which gives the
-- storage back.
abbrev pub ImageCreation : Type 0 → Type 0 → Type 1
ImageCreation Creator S = Creator → Result S Error → Type 0
