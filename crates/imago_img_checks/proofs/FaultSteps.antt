-- What a check says of the files of an image.
-- SPDX-License-Identifier: MIT
use Rattle.std.proofs.Common.{◌≡◌, zero, suc, false, nat_eq, arith, ℕ, List, ◌∷◌, map, Option, Some, None, Ok, IfSome, String, Global, string_bytes, refl, sym, ap, subst, ◌∙◌}
use Rattle.std.proofs.lemmas.Bool.Decides.{nat_tests}
use Rattle.imago_vmdk.specs.declared.line.Extent.{Extent}
use Rattle.imago_vmdk.specs.Line.{extent_with}
use Rattle.imago_vmdk.specs.Reading.{reading_of}
use Rattle.imago_images.specs.declared.format.ImageFormat.{ImageFormat}
use Rattle.imago_images.specs.declared.format.ImageFormat.TheVariants as Of
use Rattle.imago_images.specs.declared.opening.Opening.{Opening}
use Rattle.imago_images.specs.declared.opening.OtherFiles.{OtherFiles}
use Rattle.imago_images.specs.Alone.{NamesNoOther}
use Rattle.imago_images.specs.Formats.{IsFormatBy}
use Rattle.imago_qcow2_check.specs.declared.fault.Verdict.{Verdict}
use Rattle.imago_qcow2_check.specs.declared.fault.Verdict.TheVariants.{Corrupt}
use Rattle.imago_qcow2_check.specs.Faults.{verdict_of}
use Rattle.imago_img_files.specs.Openings.{most_memory}
use Rattle.imago_img_checks.specs.Checked.{IsHeld, AreHeld, HasSoundExtents, IsQcow2Checked, IsCheckedAs, IsChecked}

-- the extents of a descriptor that was read, and that are held
pub sound_extents : (how : Opening) (known : Option (List ℕ → List ℕ))
    (path text : List ℕ) (extents : List (Extent (List ℕ))) (size : ℕ)
    → reading_of how.accepted text ≡ Ok (extents, size)
    → IfSome known (λ files. text ≡ files path)
    → IfSome known (λ files. AreHeld how.other_files files path extents)
    → IfSome known (λ files. HasSoundExtents how files path)
sound_extents how None path text extents size says same held = tt
sound_extents how (Some files) path text extents size says same held =
    (extents, size, ap (reading_of how.accepted) (sym same) ∙ says, held)

-- one extent more is held
pub extent_step : (others : OtherFiles) (known : Option (List ℕ → List ℕ)) (path : List ℕ)
    (all rest behind : List (Extent (String Global))) (first : Extent (String Global))
    → rest ≡ first ∷ behind
    → IfSome known (λ files. IsHeld others files path (extent_with string_bytes first))
    → IfSome known (λ files. AreHeld others files path (map (extent_with string_bytes) rest)
    → AreHeld others files path (map (extent_with string_bytes) all))
    → IfSome known (λ files. AreHeld others files path (map (extent_with string_bytes) behind)
    → AreHeld others files path (map (extent_with string_bytes) all))
extent_step others None path all rest behind first is held before = tt
extent_step others (Some files) path all rest behind first is held before = λ later.
    before (subst (λ (es : List (Extent (String Global))).
    AreHeld others files path (map (extent_with string_bytes) es)) (sym is) (held, later))

-- a file that was checked as one of the format that it has
pub checked_by : (how : Opening) (known : Option (List ℕ → List ℕ)) (path : List ℕ)
    (format : ImageFormat) (verdict : Option Verdict)
    → IfSome known (λ files. IsFormatBy how.format path (files path) format)
    → IfSome known (λ files. IsCheckedAs how files path format verdict)
    → IfSome known (λ files. IsChecked how files path verdict)
checked_by how None path format verdict by checked = tt
checked_by how (Some files) path format verdict by checked = (format, by, checked)

-- in a raw file there is nothing to check
pub raw_checked : (how : Opening) (known : Option (List ℕ → List ℕ)) (path : List ℕ)
    → IfSome known (λ files. IsCheckedAs how files path Of.Raw None)
raw_checked how None path = tt
raw_checked how (Some files) path = refl

-- a VMDK image with so many faults
vmdk_checked_in : (how : Opening) (files : List ℕ → List ℕ) (path : List ℕ) (faults : ℕ)
    → (faults ≡ 0 → HasSoundExtents how files path)
    → IsCheckedAs how files path Of.Vmdk (Some (verdict_of faults 0))
vmdk_checked_in how files path zero sound = sound refl
vmdk_checked_in how files path (suc faults) sound =
    let some : nat_eq (suc faults) 0 ≡ false = grind (arith, nat_tests) in
    let corrupt : verdict_of (suc faults) 0 ≡ Corrupt = rw some refl in
    subst (λ (v : Verdict). IsCheckedAs how files path Of.Vmdk (Some v)) (sym corrupt) tt

pub vmdk_checked : (how : Opening) (known : Option (List ℕ → List ℕ)) (path : List ℕ) (faults : ℕ)
    → (faults ≡ 0 → IfSome known (λ files. HasSoundExtents how files path))
    → IfSome known (λ files. IsCheckedAs how files path Of.Vmdk (Some (verdict_of faults 0)))
vmdk_checked how None path faults sound = tt
vmdk_checked how (Some files) path faults sound = vmdk_checked_in how files path faults sound

-- a qcow2 file with that verdict, which names no other file where none is opened
pub qcow2_checked : (how : Opening) (known : Option (List ℕ → List ℕ)) (path : List ℕ)
    (verdict : Verdict)
    → IfSome known (λ files. IsQcow2Checked (most_memory how.tables) (files path) verdict)
    → IfSome known (λ files. NamesNoOther how.other_files (files path))
    → IfSome known (λ files. IsCheckedAs how files path Of.Qcow2 (Some verdict))
qcow2_checked how None path verdict checked names = tt
qcow2_checked how (Some files) path verdict checked names = (checked, names)
