-- SPDX-License-Identifier: MIT
use Rattle.std.specs.Prelude.{◌≡◌, ℕ, ◌⊎◌, Bool, true, false, List, length, Result, Ok, Err}
use Rattle.std.specs.List.{sum_by}
use Rattle.imago_storage.specs.declared.error.Error.{Error}
use Rattle.imago_storage.specs.declared.error.Error.TheVariants.{Unsupported}
use Rattle.imago_storage.specs.Features.{Features}
use Rattle.imago_drivers.specs.Opening.{Opening}
use Rattle.imago_drivers.specs.Builder.{OpenSettings, IsImageStorage, storage_options}
use Rattle.imago_drivers.specs.Reasons.{allowed}
use Rattle.imago_vmdk.specs.declared.line.Accepted.{Accepted}
use Rattle.imago_vmdk.specs.declared.line.Extent.{Extent}
use Rattle.imago_vmdk.specs.declared.vmdk.Vmdk.{Vmdk}
use Rattle.imago_vmdk.specs.Reading.{IsReadingOf, size_of}
use Rattle.imago_vmdk.specs.Opened.{Resolution, AreOpened, AreRefused}
use Rattle.imago_vmdk.specs.Vmdk.{text_reasons}
use Rattle.imago_vmdk.specs.Image.{descriptor_in, extents_in, is_opened, storages_of_extents}
use Rattle.imago_vmdk.specs.Image.{accepted_in}

-- why an image isn't opened whose descriptor has that storage: the descriptor is at fault, or
-- couldn't be read, or its extents aren't opened
abbrev pub IsVmdkRefusal : {Gate S : Type 0} → (S → List ℕ) → (S → Features)
    → (S → Resolution (List ℕ)) → Opening Gate S → Bool → Accepted → Gate → Gate → S → Error
    → Type 0
IsVmdkRefusal bytes features resolved opened direct accepted before after s e =
    ((after ≡ before) × IsReadingOf accepted (features s).tells_bytes (bytes s) (Err e))
    ⊎ ((after ≡ before) × allowed (text_reasons (features s) (length (bytes s))) e)
    ⊎ ((extents : List (Extent (List ℕ))) × (size : ℕ)
    × IsReadingOf accepted (features s).tells_bytes (bytes s) (Ok (extents, size))
    × AreRefused opened (resolved s) direct (features s) extents before after e)

-- The image of the descriptor that the storage has: its extents, all opened; or why it isn't
-- opened.
abbrev pub IsVmdkImage : {Gate S : Type 0} {g : _} {h : _} → (S → List ℕ) → (S → Features)
    → (S → Resolution (List ℕ)) → Opening Gate S → Bool → Accepted → Gate → Gate → S
    → Result (Vmdk S g h) Error → Type 0
IsVmdkImage bytes features resolved opened direct accepted before after s (Ok v) =
    (descriptor_in v ≡ s) × (is_opened v ≡ true) × (accepted_in v ≡ accepted)
    × IsReadingOf accepted (features s).tells_bytes (bytes s)
    (Ok (extents_in v, sum_by size_of (extents_in v)))
    × AreOpened opened (resolved s) direct (extents_in v) before after (storages_of_extents v)
IsVmdkImage bytes features resolved opened direct accepted before after s (Err e) = IsVmdkRefusal
    bytes features resolved opened direct accepted before after s e

-- The image of the storage that was found, or the refusal of that one, behind which the gate isn't
-- asked any more.
abbrev pub IsVmdkImageOf : {Gate S : Type 0} {g : _} {h : _} → (S → List ℕ) → (S → Features)
    → (S → Resolution (List ℕ)) → Opening Gate S → Bool → Accepted → Gate → Gate → Result S Error
    → Result (Vmdk S g h) Error → Type 0
IsVmdkImageOf bytes features resolved opened direct accepted before after (Ok s) result =
    IsVmdkImage bytes features resolved opened direct accepted before after s result
IsVmdkImageOf bytes features resolved opened direct accepted before after (Err e) result =
    (after ≡ before) × (result ≡ Err e)

-- The opening of a VMDK image that isn't to be written, by a gate that is so afterwards: of the
-- storage that was handed in, for which the gate isn't asked, or of the one that it gives, whose
-- refusal is passed on. Then it is asked for the extents, with the options that are set.
abbrev pub IsReadOnlyOpening : {Gate S : Type 0} {g : _} {h : _} → (S → List ℕ) → (S → Features)
    → (S → Resolution (List ℕ)) → Opening Gate S → OpenSettings S → Accepted → Gate → Gate
    → Result (Vmdk S g h) Error → Type 0
IsReadOnlyOpening {Gate} {S} bytes features resolved opened settings accepted before after result =
    (between : Gate) × (storage : Result S Error)
    × IsImageStorage opened settings before between storage
    × IsVmdkImageOf bytes features resolved opened (storage_options settings).direct accepted
    between after storage result

-- One that is to be written is unsupported, and the gate isn't asked.
abbrev pub IsVmdkOpeningBy : {Gate S : Type 0} {g : _} {h : _} → (S → List ℕ) → (S → Features)
    → (S → Resolution (List ℕ)) → Opening Gate S → OpenSettings S → Accepted → Gate → Gate
    → Result (Vmdk S g h) Error → Type 0
IsVmdkOpeningBy bytes features resolved opened settings accepted before after result =
    (settings.writable ≡ true → (result ≡ Err Unsupported) × (after ≡ before))
    × (settings.writable ≡ false → IsReadOnlyOpening bytes features resolved opened settings
    accepted before after result)

-- the same by a gate that is given away
abbrev pub IsVmdkOpening : {Gate S : Type 0} {g : _} {h : _} → (S → List ℕ) → (S → Features)
    → (S → Resolution (List ℕ)) → Opening Gate S → Gate → OpenSettings S → Accepted
    → Result (Vmdk S g h) Error → Type 0
IsVmdkOpening {Gate} bytes features resolved opened gate settings accepted result =
    (after : Gate) × IsVmdkOpeningBy bytes features resolved opened settings accepted gate after
    result
