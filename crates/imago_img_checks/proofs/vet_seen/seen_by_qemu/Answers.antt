-- SPDX-License-Identifier: MIT
use Rattle.std.proofs.Common.{rules, ◌≡◌, length, min}
use Rattle.std.specs.Prelude.{is_some}
use Rattle.imago_storage.specs.Bytes.{IsReadAt}
use Rattle.imago_file.specs.Contents.{told_bytes}
use Rattle.imago_images.proofs.SignatureSteps.{was_done}
use Rattle.imago_img_checks.proofs.SeenSteps.{seen_read}
use Rattle.imago_img_checks.proofs.vet_seen.seen_by_qemu.Goals as goal

pub returns-in-Ok : goal.returns-in-Ok
returns-in-Ok g c = λ bytes has.
    let held = g.F.HostFile.contents c.args.file.now.file in
    let own = told_bytes held c.args.file.now.length in
    let block = c.read.new.buf in
    let whole : length block ≡ min c.in_ok-length.length 512 = search rules in
    seen_read c.args.path.now bytes own block (is_some held) c.in_ok-length.length c.qemu_takes_for.result has
    (λ t. was_done c.read.result _ (IsReadAt own 0 block) c.in-Ok.is (c.read.ensures.bytes t))
    (c.in_ok-length.ensures.told bytes has) whole c.qemu_takes_for.ensures
