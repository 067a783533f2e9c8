-- What the opening of an image by its builder is.
-- SPDX-License-Identifier: MIT
use Rattle.std.specs.Prelude.{◌≡◌, ◌⊎◌, Bool, true, false, List, ℕ, Result, Ok, Err}
use Rattle.imago_storage.specs.declared.error.Error.{Error}
use Rattle.imago_storage.specs.declared.error.Error.TheVariants.{Unsupported}
use Rattle.imago_storage.specs.Features.{Features}
use Rattle.imago_drivers.specs.Opening.{Opening}
use Rattle.imago_drivers.specs.Builder.{OpenSettings, IsImageStorage}
use Rattle.imago_qcow2.specs.declared.qcow2.Qcow2.{Qcow2}
use Rattle.imago_qcow2.specs.Header.{NamesBacking}
use Rattle.imago_qcow2.specs.Opening.{IsOpened, IsRefusedOpening, IsRefusedOverlay}
use Rattle.imago_qcow2.specs.Opening.{IsRefusedAlone}
use Rattle.imago_qcow2.specs.Qcow2Image.{storage_in, header_in}

-- The image whose file is a storage, or why it isn't opened: its header is at fault, or it couldn't
-- be read; or it names a backing file, which the caller doesn't lay below. Such an image is refused
-- for that, and not for its tables.
abbrev pub IsQcow2Image : {S : Type 0} {g : _} {h : _} → (S → List ℕ) → (S → Features) → Bool → S
    → Result (Qcow2 S g h) Error → Type 0
IsQcow2Image bytes features laid s (Ok d) = (storage_in d ≡ s)
    × IsOpened (features s) (bytes s) (header_in d)
    × (laid ≡ false → NamesBacking (header_in d) → ⊥)
IsQcow2Image bytes features laid s (Err e) = (IsRefusedOpening (features s) (bytes s) e
    ⊎ ((laid ≡ false) × IsRefusedOverlay (features s) (bytes s) e))
    × (laid ≡ false → IsRefusedAlone (features s) (bytes s) e)

-- The image of the storage that was found, or the refusal of that one.
abbrev pub IsQcow2ImageOf : {S : Type 0} {g : _} {h : _} → (S → List ℕ) → (S → Features) → Bool
    → Result S Error → Result (Qcow2 S g h) Error → Type 0
IsQcow2ImageOf bytes features laid (Ok s) result = IsQcow2Image bytes features laid s result
IsQcow2ImageOf bytes features laid (Err e) result = result ≡ Err e

-- The opening of a qcow2 image by a gate that is so afterwards. One that is to be written is
-- unsupported, and the gate isn't asked. Else it is the image of the storage that was handed in,
-- for which the gate isn't asked, or of the one that it gives.
abbrev pub IsQcow2OpeningBy : {Gate S : Type 0} {g : _} {h : _} → (S → List ℕ) → (S → Features)
    → Opening Gate S → Bool → OpenSettings S → Gate → Gate → Result (Qcow2 S g h) Error → Type 0
IsQcow2OpeningBy {Gate} {S} bytes features opened laid settings before after result =
    (settings.writable ≡ true → (result ≡ Err Unsupported) × (after ≡ before))
    × (settings.writable ≡ false → (storage : Result S Error)
    × IsImageStorage opened settings before after storage
    × IsQcow2ImageOf bytes features laid storage result)

-- the same by a gate that is given away
abbrev pub IsQcow2Opening : {Gate S : Type 0} {g : _} {h : _} → (S → List ℕ) → (S → Features)
    → Opening Gate S → Gate → Bool → OpenSettings S → Result (Qcow2 S g h) Error → Type 0
IsQcow2Opening {Gate} bytes features opened gate laid settings result = (after : Gate)
    × IsQcow2OpeningBy bytes features opened laid settings gate after result
