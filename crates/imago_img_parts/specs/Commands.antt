-- What the commands of `imago-img` do, by the status that each gives.
-- SPDX-License-Identifier: MIT
use Rattle.std.specs.Prelude.{◌≡◌, ◌≤◌, ◌⊎◌, ◌||◌, ℕ, Bool, true, false, not, List, Option, None}
use Rattle.std.specs.Prelude.{Some, Decides, IfSome, option_map}
use Rattle.imago_words.specs.declared.command.Command.{Command}
use Rattle.imago_words.specs.declared.command.Command.TheVariants as Asked
use Rattle.imago_words.specs.declared.command.Convert.{Convert}
use Rattle.imago_words.specs.declared.command.Create.{Create}
use Rattle.imago_words.specs.declared.command.Resize.{Resize}
use Rattle.imago_words.specs.declared.settings.NewFormat.{NewFormat}
use Rattle.imago_words.specs.declared.settings.NewFormat.TheVariants as New
use Rattle.imago_words.specs.Line.{Asks, kind_typed, line_is_meant, status_for}
use Rattle.imago_qcow2_check.specs.declared.fault.Verdict.{Verdict}
use Rattle.imago_qcow2_check.specs.Verdicts.{status_of}
use Rattle.imago_images.specs.declared.files.FileStatus.{FileStatus}
use Rattle.imago_images.specs.declared.format.ImageFormat.{ImageFormat}
use Rattle.imago_images.specs.declared.opening.Opening.{Opening}
use Rattle.imago_img_parts.specs.declared.question.Question.{Question}
use Rattle.imago_img_parts.specs.declared.question.Question.TheVariants as Q
use Rattle.imago_img_parts.specs.declared.run.Outcome.{Outcome}
use Rattle.imago_img_parts.specs.declared.run.Outcome.TheVariants.{Fine, Unlike, Checked, Vetted}
use Rattle.imago_img_files.specs.Files.{Around, IfHeld, IsSoOnceCleared, IsUnheld}
use Rattle.imago_img_disks.specs.Disks.{IsConverted, IsConvertedOver, IsPartlyConvertedOver}
use Rattle.imago_img_disks.specs.Disks.{AreAlike, AreUnlike}
use Rattle.imago_img_disks.specs.Measures.{IsMeasured}
use Rattle.imago_img_disks.specs.Rows.{TellsMap}
use Rattle.imago_img_disks.specs.NewFiles.{IsNewImage, IsNewlyMade, IsQcow2Copy, format_by}
use Rattle.imago_img_checks.specs.Checked.{IsChecked}
use Rattle.imago_img_files.specs.Described.{IsDescribed}
use Rattle.imago_img_disks.specs.LeftOvers.{IsApart, IsApartBelow, IsNoSourceAt, IsNoSourceAtBelow}
use Rattle.imago_img_files.specs.Openings.{how_by, image_format}
use Rattle.imago_img_files.specs.Printed.{HasPrinted, is_json}
use Rattle.imago_img_disks.specs.Resized.{IsImageResized, IsRegular}
use Rattle.imago_img_checks.specs.Vetted.{IsVetted}

-- fine or not
abbrev pub outcome_when : Bool → Outcome
outcome_when true = Fine
outcome_when false = Unlike

-- The status of a check: that of the verdict, or 63 where there is nothing to check.
abbrev pub check_status : Option Verdict → ℕ
check_status None = 63
check_status (Some verdict) = status_of verdict

-- the status of `vet`: 0 where the file is safe to hand on, or else 2
abbrev pub vet_status : Bool → ℕ
vet_status true = 0
vet_status false = 2

-- the status of what a question comes to
abbrev pub outcome_status : Outcome → ℕ
outcome_status Fine = 0
outcome_status Unlike = 1
outcome_status (Checked verdict) = check_status verdict
outcome_status (Vetted safe) = vet_status safe

-- the statuses that there are
abbrev pub IsStatus : ℕ → Type 0
IsStatus status = (status ≤ 3) ⊎ (status ≡ 63)

-- the disks of two images are alike or not, by how the first is opened, the format that was said of
-- the second, and whether they have to have the same size
abbrev pub AreToldApart :
    Opening → Option ImageFormat → Bool → (List ℕ → List ℕ) → List ℕ → List ℕ → Bool → Type 0
AreToldApart how other same_size files first second true =
    AreAlike how other same_size files first second
AreToldApart how other same_size files first second false =
    AreUnlike how other same_size files first second

-- What the answer to a question says of files, where it is told what they have, and what it prints,
-- where the output tells what it was given before and after.
abbrev pub IsAnswered :
    Question → Option (List ℕ → List ℕ) → Option (List ℕ) → Option (List ℕ) → Outcome → Type 0
IsAnswered (Q.Help kind) contents had has outcome = outcome ≡ Fine
IsAnswered Q.Version contents had has outcome = outcome ≡ Fine
IsAnswered (Q.Settings format) contents had has outcome = outcome ≡ Fine
IsAnswered (Q.Info c) contents had has outcome = (outcome ≡ Fine) × HasPrinted
    (λ text. IfSome contents (λ files. IsDescribed (how_by c.format c.opening) (is_json c.output)
    c.file.now (files c.file.now) text)) had has
IsAnswered (Q.Map c) contents had has outcome = (outcome ≡ Fine) × HasPrinted
    (λ text. IfSome contents (λ files. TellsMap (how_by c.format c.opening) (is_json c.output) files
    c.file.now text)) had has
IsAnswered (Q.Check c) contents had has outcome =
    (verdict : Option Verdict) × (outcome ≡ Checked verdict) × IfSome contents
    (λ files. IsChecked (how_by c.format c.opening) files c.file.now verdict)
IsAnswered (Q.Vet c) contents had has outcome =
    (safe : Bool) × (outcome ≡ Vetted safe) × IfSome contents
    (λ files. Decides safe (IsVetted (how_by c.format c.opening) c.file.now (files c.file.now)))
IsAnswered (Q.Measure c) contents had has outcome = (outcome ≡ Fine)
    × HasPrinted (λ text. IfSome contents (λ files. IsMeasured c files text)) had has
IsAnswered (Q.Compare c) contents had has outcome =
    (alike : Bool) × (outcome ≡ outcome_when alike) × IfSome contents
    (λ files. AreToldApart (how_by c.first_format c.opening)
    (option_map image_format c.second_format) c.same_size files c.first.now c.second.now alike)

-- The status where a question isn't answered: for help, the version and the settings that of a
-- refused line, and else one that no answer has.
abbrev pub untold : ℕ → Question → ℕ
untold refused (Q.Help kind) = refused
untold refused Q.Version = refused
untold refused (Q.Settings format) = refused
untold refused (Q.Info c) = 1
untold refused (Q.Map c) = 1
untold refused (Q.Check c) = 1
untold refused (Q.Vet c) = 1
untold refused (Q.Compare c) = 2
untold refused (Q.Measure c) = 1

-- the status says what was answered, or that nothing was
abbrev pub IsConcluded :
    ℕ → Question → Option (List ℕ → List ℕ) → Option (List ℕ) → Option (List ℕ) → ℕ → Type 0
IsConcluded refused question contents had has status =
    ((outcome : Outcome) × (status ≡ outcome_status outcome)
    × IsAnswered question contents had has outcome)
    ⊎ (status ≡ untold refused question)

-- the same, and the files of a host are as they were
abbrev pub IsAsked :
    ℕ → Question → Option (List ℕ → List ℕ) → Option (List ℕ → List ℕ)
    → Option Around → Option Around → Option (List ℕ) → Option (List ℕ) → ℕ → Type 0
IsAsked refused question old new before after had has status =
    (new ≡ old) × (after ≡ before) × IsConcluded refused question old had has status

-- With status 0 a file was made for a path; else the status is 1, and the files are as they were.
-- If a file may be replaced, the unfinished file of an earlier command to the same path may be gone
-- before, where it might be removed. What the path led to might be replaced; if QEMU holds that,
-- nothing was made or removed.
abbrev pub IsMadeOrNot :
    Bool → List ℕ → Type 0 → Type 0 → (Option (List ℕ → List ℕ) → Option Around → Type 0)
    → Option (List ℕ → List ℕ) → Option (List ℕ → List ℕ) → Option Around → Option Around → ℕ
    → Type 0
IsMadeOrNot force target Might MightReplace Made old new before after status =
    ((status ≡ 0) × IsSoOnceCleared force old before target Might Made × IsUnheld before target
    × MightReplace)
    ⊎ ((status ≡ 1) × IsSoOnceCleared force old before target Might
    (λ files around. (new ≡ files) × (after ≡ around))
    × IfHeld before target ((new ≡ old) × (after ≡ before)))

-- an image was converted to a new file of that format, by how it is opened
abbrev pub IsConvertedTo :
    NewFormat → Opening → Convert → Option (List ℕ → List ℕ) → Option (List ℕ → List ℕ)
    → Option Around → Option Around → Type 0
IsConvertedTo New.Raw how c files new around after =
    IsConverted how c.force files new around after c.source.now c.target.now
IsConvertedTo (New.Qcow2 settings) how c files new around after =
    IsNewlyMade (IsQcow2Copy how c.source.now (format_by settings)
    (settings.preallocated || not c.sparse)) c.force files new around after c.target.now

-- The same, where the unfinished file of an earlier command might be removed, and what the path led
-- to replaced, if it is none of the files of the image.
abbrev pub IsNewlyConverted :
    Opening → Convert → Option (List ℕ → FileStatus) → Option (List ℕ → FileStatus)
    → Option (List ℕ → List ℕ) → Option (List ℕ → List ℕ) → Option Around → Option Around → ℕ
    → Type 0
IsNewlyConverted how c statuses left_overs old new before after status =
    IsMadeOrNot c.force c.target.now
    (IsApart how old statuses left_overs c.source.now c.target.now)
    (IsNoSourceAt how old statuses before c.source.now c.target.now)
    (λ files around. IsConvertedTo c.target_format how c files new around after)
    old new before after status

-- a new image was made, where the unfinished file of an earlier command might be removed, and what
-- the path led to replaced, if it is none of the files of the layer below
abbrev pub IsCreated :
    Create → Option (List ℕ → FileStatus) → Option (List ℕ → FileStatus)
    → Option (List ℕ → List ℕ) → Option (List ℕ → List ℕ) → Option Around → Option Around → ℕ
    → Type 0
IsCreated c statuses left_overs old new before after status =
    IsMadeOrNot c.force c.target.now (IsApartBelow c c.backing old statuses left_overs)
    (IsNoSourceAtBelow c c.backing old statuses before)
    (λ files around. IsNewlyMade (IsNewImage c) c.force files new around after c.target.now)
    old new before after status

-- With status 0 it was converted to a file that is there, and is none of the image's; else the status is 1, and the first bytes
-- of the disk may have been put over those of that file, unless QEMU holds it.
abbrev pub IsConvertedInto :
    Opening → Convert → Option (List ℕ → FileStatus) → Option (List ℕ → List ℕ)
    → Option (List ℕ → List ℕ) → Option Around → ℕ → Type 0
IsConvertedInto how c statuses old new before status =
    ((status ≡ 0) × IsConvertedOver how old new c.source.now c.target.now
    × IsUnheld before c.target.now
    × IsNoSourceAt how old statuses before c.source.now c.target.now)
    ⊎ ((status ≡ 1) × IsPartlyConvertedOver how old new c.source.now c.target.now
    × IfHeld before c.target.now (new ≡ old))

-- the one or the other, by whether the file has to be there
abbrev pub IsConvertedBy :
    Opening → Convert → Option (List ℕ → FileStatus) → Option (List ℕ → FileStatus)
    → Option (List ℕ → List ℕ) → Option (List ℕ → List ℕ) → Option Around → Option Around → ℕ
    → Type 0
IsConvertedBy how c statuses left_overs old new before after status =
    (c.existing ≡ false
    → IsNewlyConverted how c statuses left_overs old new before after status)
    × (c.existing ≡ true → (after ≡ before) × IsConvertedInto how c statuses old new before status)

-- With status 0 a raw image got another size, whose file is a regular one that QEMU doesn't hold; else
-- the status is 1, and the files are as they were. No file was made.
abbrev pub IsResizedOrNot :
    Resize → Option (List ℕ → FileStatus) → Option (List ℕ → List ℕ) → Option (List ℕ → List ℕ)
    → Option Around → Option Around → ℕ → Type 0
IsResizedOrNot r statuses old new before after status =
    (after ≡ before) × (((status ≡ 0) × IsImageResized r old new × IsUnheld before r.file.now
    × IsRegular statuses r.file.now)
    ⊎ ((status ≡ 1) × (new ≡ old)))

-- What a command did to the files of a host, and what its status says of them and of what was
-- printed, where that is told. The first number is the status of a refused line.
abbrev pub IsPerformed :
    ℕ → Command → Option (List ℕ → FileStatus) → Option (List ℕ → FileStatus)
    → Option (List ℕ → List ℕ) → Option (List ℕ → List ℕ) → Option Around → Option Around
    → Option (List ℕ) → Option (List ℕ) → ℕ → Type 0
IsPerformed refused (Asked.Convert c) statuses left_overs old new before after had has status =
    IsConvertedBy (how_by c.source_format c.opening) c statuses left_overs old new before after
    status
IsPerformed refused (Asked.Create c) statuses left_overs old new before after had has status =
    IsCreated c statuses left_overs old new before after status
IsPerformed refused (Asked.Measure c) statuses left_overs old new before after had has status =
    IsAsked refused (Q.Measure c) old new before after had has status
IsPerformed refused (Asked.Resize c) statuses left_overs old new before after had has status =
    IsResizedOrNot c statuses old new before after status
IsPerformed refused (Asked.Help kind) statuses left_overs old new before after had has status =
    IsAsked refused (Q.Help kind) old new before after had has status
IsPerformed refused Asked.Version statuses left_overs old new before after had has status =
    IsAsked refused Q.Version old new before after had has status
IsPerformed refused (Asked.Settings format) statuses left_overs old new before after had has status =
    IsAsked refused (Q.Settings format) old new before after had has status
IsPerformed refused (Asked.Info c) statuses left_overs old new before after had has status =
    IsAsked refused (Q.Info c) old new before after had has status
IsPerformed refused (Asked.Map c) statuses left_overs old new before after had has status =
    IsAsked refused (Q.Map c) old new before after had has status
IsPerformed refused (Asked.Check c) statuses left_overs old new before after had has status =
    IsAsked refused (Q.Check c) old new before after had has status
IsPerformed refused (Asked.Vet c) statuses left_overs old new before after had has status =
    IsAsked refused (Q.Vet c) old new before after had has status
IsPerformed refused (Asked.Compare c) statuses left_overs old new before after had has status =
    IsAsked refused (Q.Compare c) old new before after had has status

-- the status of a refused line: 2 for `compare`, and else 1
abbrev pub refused_status : List (List ℕ) → ℕ
refused_status words = status_for (kind_typed words)

-- What a command line did to the files of a host: it is meant, and what its words ask for was done;
-- or it was refused, which changes nothing.
abbrev pub IsRun :
    List (List ℕ) → Option (List ℕ → FileStatus) → Option (List ℕ → FileStatus)
    → Option (List ℕ → List ℕ) → Option (List ℕ → List ℕ) → Option Around → Option Around
    → Option (List ℕ) → Option (List ℕ) → ℕ → Type 0
IsRun words statuses left_overs old new before after had has status =
    ((command : Command) × (line_is_meant words ≡ true) × Asks words command
    × IsPerformed (refused_status words) command statuses left_overs old new before after had has
    status)
    ⊎ ((status ≡ refused_status words) × (new ≡ old) × (after ≡ before))
