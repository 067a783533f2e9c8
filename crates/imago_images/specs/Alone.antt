-- What the image of one file by itself is: these clauses mention no other file.
-- SPDX-License-Identifier: MIT
use Rattle.std.specs.Prelude.{◌≡◌, ℕ, List, Option, Some, None}
use Rattle.imago_storage.specs.Error.{IsExtRefusal}
use Rattle.imago_drivers.specs.Place.{Place}
use Rattle.imago_drivers.specs.View.{View}
use Rattle.imago_access.specs.declared.access.FormatAccess.{FormatAccess}
use Rattle.imago_images.specs.declared.format.ImageFormat.{ImageFormat}
use Rattle.imago_images.specs.declared.format.ImageFormat.TheVariants.{Raw}
use Rattle.imago_formats.specs.declared.signature.Signature.{Signature}
use Rattle.imago_images.specs.declared.failure.Reason.{Reason}
use Rattle.imago_images.specs.declared.opening.Opening.{Opening}
use Rattle.imago_images.specs.declared.opening.OtherFiles.{OtherFiles}
use Rattle.imago_images.specs.declared.opening.OtherFiles.TheVariants as Others
use Rattle.imago_images.specs.Layers.{SaysBacking}
use Rattle.imago_formats.specs.Signatures.{signature_of, other_signature_of}
use Rattle.imago_images.specs.Images.{AreLayers, IsImageIn}

-- the same opening, where no other files are opened
abbrev pub opened_alone : Opening → Opening
opened_alone how = record how { other_files = Others.None }

-- the layers of the image of a file with that path, these bytes and that format, which names no
-- other file, the top one first
abbrev pub AreLayersOf : Opening → List ℕ → List ℕ → ImageFormat → List (ℕ → Place) → Type 0
AreLayersOf how bytes path format layers =
    AreLayers (opened_alone how) (λ _. bytes) path format layers

-- an image is that of a file with that path, these bytes and that format, which names no other file
abbrev pub IsImageOf :
    {D St : Type 0} → (D → View St) → Opening → List ℕ → List ℕ → ImageFormat → FormatAccess D
    → Type 0
IsImageOf view how bytes path format x =
    IsImageIn view (opened_alone how) (λ _. bytes) path format x

-- where no other files are opened, a qcow2 file with these bytes names none below it
abbrev pub NamesNoOther : OtherFiles → List ℕ → Type 0
NamesNoOther Others.None bytes = SaysBacking bytes None
NamesNoOther Others.InFolder bytes = Unit {0}
NamesNoOther Others.Any bytes = Unit {0}

-- A file with these bytes is of one format alone, where no other files are opened: if it is said to
-- be raw, it isn't recognised as anything, and if it is recognised as something, then not as
-- something else too.
abbrev pub HasOneFormat : Option ImageFormat → Option Signature → List ℕ → Type 0
HasOneFormat said None bytes = Unit {0}
HasOneFormat (Some Raw) (Some found) bytes = ⊥
HasOneFormat said (Some found) bytes = other_signature_of found bytes ≡ None

abbrev pub IsOfOneFormat : OtherFiles → Option ImageFormat → List ℕ → Type 0
IsOfOneFormat Others.None said bytes = HasOneFormat said (signature_of bytes) bytes
IsOfOneFormat Others.InFolder said bytes = Unit {0}
IsOfOneFormat Others.Any said bytes = Unit {0}

-- it isn't, or it isn't read
abbrev pub IsOfAnother : OtherFiles → Option ImageFormat → List ℕ → Reason → Type 0
IsOfAnother others said bytes (Reason.Another format found) =
    (others ≡ Others.None) × (said ≡ Some format) × (format ≡ Raw)
    × (signature_of bytes ≡ Some found)
IsOfAnother others said bytes (Reason.TwoFormats found other) =
    (others ≡ Others.None) × (signature_of bytes ≡ Some found)
    × (other_signature_of found bytes ≡ Some other)
IsOfAnother others said bytes (Reason.Image error) = IsExtRefusal error
IsOfAnother others said bytes (Reason.System answer) = Unit {0}
IsOfAnother others said bytes reason = ⊥

-- it names one, or its name isn't read
abbrev pub IsNamedBelow : Reason → Type 0
IsNamedBelow (Reason.BackingNotPermitted named) = Unit {0}
IsNamedBelow (Reason.BackingProtocol named) = Unit {0}
IsNamedBelow (Reason.Image error) = Unit {0}
IsNamedBelow reason = ⊥
