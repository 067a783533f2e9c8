-- SPDX-License-Identifier: MIT
use Rattle.std.proofs.Common.{rules, ◌≡◌, length}
use Rattle.std.specs.Prelude.{is_some}
use Rattle.imago_storage.specs.Bytes.{IsReadAt}
use Rattle.imago_file.specs.Contents.{told_bytes}
use Rattle.imago_images.proofs.SignatureSteps.{block_read, was_done}
use Rattle.imago_images.proofs.RefusalSteps.{unread_by}
use Rattle.imago_images.proofs.recognised.read_block.Goals as goal

pub returns-in-Ok-clause-told : goal.returns-in-Ok-clause-told
returns-in-Ok-clause-told g c = λ bytes told.
    let held = g.F.HostFile.contents c.args.file.now.file in
    let own = told_bytes held c.args.file.now.length in
    let block = c.read.new.buf in
    let long : length block ≡ length c.args.buf.now = search rules in
    block_read bytes own block (is_some held) c.args.offset (length c.args.buf.now) told
    (λ t. was_done c.read.result _ (IsReadAt own c.args.offset block) c.in-Ok.is (c.read.ensures.bytes t)) long

pub returns-in-Err-clause-refused : goal.returns-in-Err-clause-refused
returns-in-Err-clause-refused g c =
    unread_by c.args.path.now c.in-Err.cause c.in-Err.ensures.only c.unread.result c.unread.ensures
