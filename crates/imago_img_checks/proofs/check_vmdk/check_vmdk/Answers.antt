-- SPDX-License-Identifier: MIT
use Rattle.std.proofs.Common.{◌≡◌, List, ℕ, Ok, IfSome, map, subst}
use Rattle.std.specs.String.{string_bytes}
use Rattle.std.proofs.lemmas.Result.{IfOk-weaker}
use Rattle.imago_vmdk.specs.Line.{extent_with}
use Rattle.imago_vmdk.specs.Reading.{reading_of}
use Rattle.imago_images.proofs.PathSteps.{features_of, bytes_of}
use Rattle.imago_img_checks.specs.Checked.{AreHeld, HasSoundExtents}
use Rattle.imago_img_files.proofs.FileSteps.{of_file}
use Rattle.imago_img_checks.proofs.FaultSteps.{sound_extents}
use Rattle.imago_img_checks.proofs.check_vmdk.check_vmdk.Goals as goal

pub returns-in-Ok : goal.returns-in-Ok
returns-in-Ok g c =
    let contents = g.H.Files.contents in
    let opened = g.H.File.HostFile.contents in
    let known = contents c.args.host.now in
    let extents = map (extent_with string_bytes) c.in-Ok.described.extents.items in
    let same : IfSome known (λ files. c.in_ok-text.text.items ≡ files c.args.path.now) =
    of_file (features_of contents opened) (bytes_of contents opened) known c.args.path.now c.args.file.now
    (λ bytes. c.in_ok-text.text.items ≡ bytes) c.in_ok-text.ensures.told c.requires in
    let says : reading_of c.args.how.accepted c.in_ok-text.text.items
    ≡ Ok (extents, c.in-Ok.described.size) =
    subst (λ (text : List ℕ). reading_of c.args.how.accepted text
    ≡ Ok (extents, c.in-Ok.described.size)) c.deref-2.ensures.value c.in-Ok.ensures.reading in
    IfOk-weaker c.check_extents.result
    (λ n. n ≡ 0 → IfSome known
    (λ files. AreHeld c.args.how.other_files files c.args.path.now extents))
    (λ n. n ≡ 0 → IfSome known (λ files. HasSoundExtents c.args.how files c.args.path.now))
    (λ n held zero. sound_extents c.args.how known c.args.path.now c.in_ok-text.text.items extents
    c.in-Ok.described.size says same (held zero))
    c.check_extents.ensures
