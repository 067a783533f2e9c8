-- SPDX-License-Identifier: MIT
use Rattle.std.proofs.Common.{rules, ◌≡◌, ◌≤◌, ◌∙◌, ℕ, List, length, subst}
use Rattle.imago_storage.specs.Bytes.{IsReadAt}
use Rattle.imago_img_files.proofs.DescribedSteps.{size_in_read}
use Rattle.imago_img_files.proofs.qcow2_info.read_head.Goals as goal

pub returns-in-Ok : goal.returns-in-Ok
returns-in-Ok g c = λ bytes has.
    let head = c.read.new.buf in
    let r : IsReadAt (g.S.Storage.bytes c.args.file.now) 0 head = search rules in
    let long : 112 ≤ length head = search rules in
    c.in-Ok.ensures ∙ size_in_read bytes head (subst (λ (b : List ℕ). IsReadAt b 0 head) has.1 r) long
