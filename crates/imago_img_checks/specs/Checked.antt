-- What a check says of the file of an image.
-- SPDX-License-Identifier: MIT
use Rattle.std.specs.Prelude.{◌≡◌, ℕ, ◌+◌, ◌*◌, ◌≤◌, List, [], ◌∷◌, Option, None, Some}
use Rattle.std.specs.Prelude.{length, Ok, IsOk}
use Rattle.imago_vmdk.specs.declared.line.Extent.{Extent}
use Rattle.imago_vmdk.specs.Reading.{reading_of}
use Rattle.imago_qcow2.specs.Header.{header_of}
use Rattle.imago_qcow2_check.specs.declared.fault.Verdict.{Verdict}
use Rattle.imago_qcow2_check.specs.declared.fault.Verdict.TheVariants.{Faultless, Corrupt, Leaks}
use Rattle.imago_qcow2_check.specs.Clusters.{cluster_count}
use Rattle.imago_qcow2_check.specs.Faults.{verdict_of}
use Rattle.imago_qcow2_check.specs.Known.{IsKnown}
use Rattle.imago_qcow2_check.specs.Uses.{setting}
use Rattle.imago_qcow2_check.specs.Verdicts.{IsVerdict}
use Rattle.imago_file.specs.Names.{path_beside}
use Rattle.imago_images.specs.declared.format.ImageFormat.{ImageFormat}
use Rattle.imago_images.specs.declared.format.ImageFormat.TheVariants.{Raw, Vmdk, Qcow2}
use Rattle.imago_images.specs.declared.opening.Opening.{Opening}
use Rattle.imago_images.specs.declared.opening.OtherFiles.{OtherFiles}
use Rattle.imago_images.specs.Alone.{NamesNoOther}
use Rattle.imago_images.specs.Formats.{IsFormatBy}
use Rattle.imago_images.specs.Gate.{IsLetThrough}
use Rattle.imago_img_files.specs.Openings.{most_memory}
use Rattle.imago_img_checks.specs.declared.check.Found.{Found}

-- The file of an extent may be opened, and holds all of its bytes: a sector has 512 of them. Only a
-- FLAT extent has a file.
abbrev pub IsHeld : OtherFiles → (List ℕ → List ℕ) → List ℕ → Extent (List ℕ) → Type 0
IsHeld others files path (Extent.Zero sectors) = Unit {0}
IsHeld others files path (Extent.NoAccess sectors) = Unit {0}
IsHeld others files path (Extent.Flat sectors name offset writable vmfs) =
    IsLetThrough others path (path_beside path name)
    × ((offset + sectors) * 512 ≤ length (files (path_beside path name)))

-- the same of all extents of the descriptor of that path
abbrev pub AreHeld : OtherFiles → (List ℕ → List ℕ) → List ℕ → List (Extent (List ℕ)) → Type 0
AreHeld others files path [] = Unit {0}
AreHeld others files path (extent ∷ extents) =
    IsHeld others files path extent × AreHeld others files path extents

-- The descriptor of a VMDK image of that path can be read, and its extents are held.
abbrev pub HasSoundExtents : Opening → (List ℕ → List ℕ) → List ℕ → Type 0
HasSoundExtents how files path = (extents : List (Extent (List ℕ))) × (size : ℕ)
    × (reading_of how.accepted (files path) ≡ Ok (extents, size))
    × AreHeld how.other_files files path extents

-- A qcow2 file with these bytes was checked: its header is accepted, nothing in it that isn't known
-- may use clusters, and its verdict is that. Counts and uses have 8 bytes for each cluster, which
-- are within a limit.
pub record IsQcow2Checked (limit : ℕ) (bytes : List ℕ) (verdict : Verdict) : Type 0 where
  pub header : IsOk (header_of bytes (length bytes))
  pub known : IsKnown bytes
  pub within : 8 * cluster_count (setting bytes) ≤ limit
  pub says : IsVerdict bytes verdict

-- the verdict by what was found in a file
abbrev pub verdict_in : Found → Verdict
verdict_in found = verdict_of found.corruptions found.leaks

-- The file of a path was checked as an image of that format. In a raw file there is nothing to
-- check. A VMDK image without a fault has sound extents; which faults it may have isn't said here.
-- What is below a qcow2 file isn't looked at, and where no other files are opened it names none.
abbrev pub IsCheckedAs :
    Opening → (List ℕ → List ℕ) → List ℕ → ImageFormat → Option Verdict → Type 0
IsCheckedAs how files path Raw verdict = verdict ≡ None
IsCheckedAs how files path Vmdk None = ⊥
IsCheckedAs how files path Vmdk (Some Faultless) = HasSoundExtents how files path
IsCheckedAs how files path Vmdk (Some Corrupt) = Unit {0}
IsCheckedAs how files path Vmdk (Some Leaks) = ⊥
IsCheckedAs how files path Qcow2 None = ⊥
IsCheckedAs how files path Qcow2 (Some verdict) =
    IsQcow2Checked (most_memory how.tables) (files path) verdict
    × NamesNoOther how.other_files (files path)

-- The same as an image of the format that was said, or else of the one that its file is taken to
-- have.
abbrev pub IsChecked : Opening → (List ℕ → List ℕ) → List ℕ → Option Verdict → Type 0
IsChecked how files path verdict =
    (format : ImageFormat) × IsFormatBy how.format path (files path) format
    × IsCheckedAs how files path format verdict
