-- SPDX-License-Identifier: MIT
use Rattle.std.proofs.Common.{◌≡◌, ◌∙◌, ℕ, List, true, sym, ap}
use Rattle.imago_images.specs.declared.files.FileStatus.{FileStatus}
use Rattle.imago_images.specs.PathFile.{file_path, file_status}
use Rattle.imago_images.specs.Refusals.{IsInCircle}
use Rattle.imago_images.specs.Way.{entered, identity, is_among}
use Rattle.imago_images.proofs.RefusalSteps.{same_path}
use Rattle.imago_images.proofs.way.Way.enter.Goals as goal

pub returns-then-contains-clause-refused : goal.returns-then-contains-clause-refused
returns-then-contains-clause-refused g c =
    let above = entered c.args.self.now in
    let file = identity (file_status c.args.file.now) in
    let among : is_among above file ≡ true =
    ap (λ (fs : List (ℕ × ℕ)). is_among fs file) (sym (c.deref.ensures.value ∙ c.tell.ensures))
    ∙ ap (λ (s : FileStatus). is_among c.deref.result.now (identity s)) (sym c.status-status.ensures)
    ∙ sym c.contains.ensures.value ∙ c.if-contains.true in
    same_path c.path-then-contains.result.now (file_path c.args.file.now) (IsInCircle above file)
    c.path-then-contains.ensures c.in_circle.result (c.in_circle.ensures above file among)
