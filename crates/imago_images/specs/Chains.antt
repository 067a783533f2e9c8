-- The files on the way down from an image's, and why one of them isn't opened.
-- SPDX-License-Identifier: MIT
use Rattle.std.specs.Prelude.{◌≡◌, ℕ, ◌≤◌, ◌⊎◌, ◌++◌, List, [], ◌∷◌, Option, Some, None, IfSome}
use Rattle.std.specs.Prelude.{Bool, true, false, length}
use Rattle.imago_images.specs.declared.failure.OpenError.{OpenError}
use Rattle.imago_images.specs.declared.files.FileStatus.{FileStatus}
use Rattle.imago_images.specs.declared.format.ImageFormat.{ImageFormat}
use Rattle.imago_images.specs.declared.format.ImageFormat.TheVariants.{Raw, Vmdk, Qcow2}
use Rattle.imago_images.specs.declared.gate.Named.{Named}
use Rattle.imago_images.specs.declared.gate.Named.TheVariants.{Extents, Backing}
use Rattle.imago_images.specs.declared.opening.OtherFiles.{OtherFiles}
use Rattle.imago_images.specs.Formats.{SaysFormat, IsFormatBy, IsFormatBelow}
use Rattle.imago_images.specs.Gate.{IsLetThrough, IsInside, folder_asked}
use Rattle.imago_images.specs.Images.{LeadsTo}
use Rattle.imago_images.specs.Way.{identity, is_among}
use Rattle.imago_images.specs.Refusals.{IsRefused, IsBySystem, IsUnread, IsUnseen, IsUnknown}
use Rattle.imago_images.specs.Refusals.{IsInCircle, IsTooDeep, IsUnopened}
use Rattle.imago_images.specs.Refusals.{HasExtentIn, IsNotHandedOut, IsUndescribed, IsUnwritten}
use Rattle.imago_images.specs.Alone.{IsOfAnother}
use Rattle.imago_images.specs.Longest.{IsTooLarge, IsLimited}
use Rattle.imago_images.specs.declared.opening.Opening.{Opening}

-- a file has that device and number, where the host tells what its files are
abbrev pub HasIdentity : Option (List ℕ → FileStatus) → List ℕ → ℕ × ℕ → Type 0
HasIdentity statuses path file = IfSome statuses (λ status_of. file ≡ identity (status_of path))

-- The way goes down from the file of a path, which has that format, to that of the next one.
abbrev pub GoesDown : (List ℕ → List ℕ) → List ℕ → ImageFormat → List ℕ → Type 0
GoesDown files path format next = (format ≡ Qcow2) × LeadsTo (files path) path (Some next)

-- One of the files that an image names as that isn't handed out: its folder's path without links
-- isn't told, or the file isn't let through, or not looked at.
abbrev pub IsNamedRefused :
    Named → Option (List ℕ → FileStatus) → Option (List ℕ → List ℕ) → OtherFiles → List ℕ
    → List ℕ → OpenError → Type 0
IsNamedRefused named statuses reals others image path e =
    IsRefused (folder_asked image) IsBySystem e
    ⊎ IsNotHandedOut named statuses reals others image path e

-- The file of a path isn't opened as a layer of that format: the fault is its own, or that of an
-- extent's file, where its descriptor has that extent. Before extents are asked for, the path of
-- their folder without links is.
abbrev pub IsLayerRefused :
    (List ℕ → List ℕ) → Option (List ℕ → FileStatus) → Option (List ℕ → List ℕ) → OtherFiles → Opening
    → List ℕ → ImageFormat → OpenError → Type 0
IsLayerRefused files statuses reals others how path Raw e = IsRefused path IsUnread e
IsLayerRefused files statuses reals others how path Qcow2 e =
    IsRefused path (IsUnopened how.tables (files path)) e
IsLayerRefused files statuses reals others how path Vmdk e =
    IsRefused path (IsUndescribed how.accepted (files path) path) e
    ⊎ IsRefused (folder_asked path) IsBySystem e
    ⊎ ((other : List ℕ) × HasExtentIn how.accepted (files path) path other
    × IsNamedRefused Extents statuses reals others path other e)

-- The file of the next path, which is below that of a path, isn't opened: it isn't handed out, it
-- is one of those above, its format isn't told, or it is too large.
abbrev pub IsNextRefused :
    (List ℕ → List ℕ) → Option (List ℕ → FileStatus) → Option (List ℕ → List ℕ) → OtherFiles → Opening
    → List (ℕ × ℕ) → List ℕ → List ℕ → OpenError → Type 0
IsNextRefused files statuses reals others how above path next e =
    IsNamedRefused Backing statuses reals others path next e
    ⊎ ((file : ℕ × ℕ) × HasIdentity statuses next file
    × IsRefused next (IsInCircle above file) e)
    ⊎ ((said : Option ImageFormat) × SaysFormat (files path) said
    × IsRefused next (IsUnknown said next (files next)) e)
    ⊎ ((lower : ImageFormat) × IsFormatBelow (files path) next (files next) lower
    × IsRefused next (IsTooLarge how.longest how.accepted lower (files next)) e)

-- A chain isn't opened from the file of a path on, which has that format and is the last one of
-- those that are given by device and number. The way goes down by these paths to a file, and it
-- isn't opened as a layer, or what is below it isn't opened: it would be one more than 200 files,
-- or that file is refused.
abbrev pub IsChainRefused :
    (List ℕ → List ℕ) → Option (List ℕ → FileStatus) → Option (List ℕ → List ℕ) → OtherFiles → Opening
    → List (ℕ × ℕ) → List ℕ → ImageFormat → List (List ℕ) → OpenError → Type 0
IsChainRefused files statuses reals others how above path format [] e =
    IsLayerRefused files statuses reals others how path format e
    ⊎ ((next : List ℕ) × GoesDown files path format next
    × (((length above ≡ 200) × IsRefused path IsTooDeep e)
    ⊎ IsNextRefused files statuses reals others how above path next e))
IsChainRefused files statuses reals others how above path format (next ∷ down) e =
    GoesDown files path format next × IsLetThrough others path next
    × ((lower : ImageFormat) × IsFormatBelow (files path) next (files next) lower
    × ((file : ℕ × ℕ) × HasIdentity statuses next file
    × IsChainRefused files statuses reals others how (above ++ file ∷ []) next lower down e))

-- The file of a path, which has that format, isn't opened for writing where it is to be; or else
-- the chain isn't that begins with it, the last one of those that are given.
abbrev pub IsOpeningRefused :
    Bool → (List ℕ → List ℕ) → Option (List ℕ → FileStatus) → Option (List ℕ → List ℕ) → OtherFiles → Opening
    → List (ℕ × ℕ) → List ℕ → ImageFormat → OpenError → Type 0
IsOpeningRefused true files statuses reals others how above path format e =
    IsRefused path (IsUnwritten statuses path format) e
IsOpeningRefused false files statuses reals others how above path format e =
    (down : List (List ℕ)) × IsChainRefused files statuses reals others how above path format down e

-- The image of the file of a path isn't opened, for writing or not, whose format is said or isn't:
-- the file isn't looked at, its format isn't told, it isn't opened with what is below it, it is of
-- another format too, or is too large.
abbrev pub IsImageRefused :
    Bool → (List ℕ → List ℕ) → Option (List ℕ → FileStatus) → Option (List ℕ → List ℕ) → OtherFiles → Opening
    → Option ImageFormat → List ℕ → OpenError → Type 0
IsImageRefused writable files statuses reals others how said path e =
    IsRefused path (IsUnseen statuses path) e
    ⊎ IsRefused path (IsUnknown said path (files path)) e
    ⊎ ((format : ImageFormat) × IsFormatBy said path (files path) format
    × ((file : ℕ × ℕ) × HasIdentity statuses path file
    × IsOpeningRefused writable files statuses reals others how (file ∷ []) path format e))
    ⊎ IsRefused path (IsOfAnother others said (files path)) e
    ⊎ ((format : ImageFormat) × IsFormatBy said path (files path) format
    × IsRefused path (IsTooLarge how.longest how.accepted format (files path)) e)

-- The file of the next path is one that the file of a path may have below it: it is let through, no
-- link leads out of the folder, and it is within the limits.
abbrev pub IsKept :
    (List ℕ → List ℕ) → Option (List ℕ → List ℕ) → Opening → List ℕ → List ℕ → ImageFormat → Type 0
IsKept files reals how path next lower =
    IsLetThrough how.other_files path next × IsInside reals how.other_files path next
    × IsLimited how lower (files next)

-- The files below that of a path, which has that format, down to the last one, which leads to none:
-- each is kept to what is allowed, and none of them is one of those that are given, nor of those
-- above it.
abbrev pub IsWayDown :
    (List ℕ → List ℕ) → Option (List ℕ → FileStatus) → Option (List ℕ → List ℕ) → Opening
    → List (ℕ × ℕ) → List ℕ → ImageFormat → List (List ℕ) → Type 0
IsWayDown files statuses reals how above path format [] =
    format ≡ Qcow2 → LeadsTo (files path) path None
IsWayDown files statuses reals how above path format (next ∷ down) =
    GoesDown files path format next
    × ((lower : ImageFormat) × IsFormatBelow (files path) next (files next) lower
    × IsKept files reals how path next lower
    × ((file : ℕ × ℕ) × HasIdentity statuses next file × (is_among above file ≡ false)
    × IsWayDown files statuses reals how (above ++ file ∷ []) next lower down))

-- The way down from the file of a path, which has that format, leads to an end, and over at most
-- that many files: none of them is one of those that are given, nor of those above it.
abbrev pub IsEndingWay :
    (List ℕ → List ℕ) → Option (List ℕ → FileStatus) → Option (List ℕ → List ℕ) → Opening
    → List (ℕ × ℕ) → List ℕ → ImageFormat → ℕ → Type 0
IsEndingWay files statuses reals how above path format most =
    (down : List (List ℕ)) × IsWayDown files statuses reals how above path format down
    × (length down ≤ most)

-- An image's file and those below it are at most 200, each within the limits and, below the first,
-- kept to what is allowed; and none is one of those above it.
abbrev pub HasEnd :
    (List ℕ → List ℕ) → Option (List ℕ → FileStatus) → Option (List ℕ → List ℕ) → Opening
    → List ℕ → ImageFormat → Type 0
HasEnd files statuses reals how path format = IsLimited how format (files path)
    × ((file : ℕ × ℕ) × HasIdentity statuses path file
    × IsEndingWay files statuses reals how (file ∷ []) path format 199)
