-- SPDX-License-Identifier: MIT
use Rattle.std.proofs.Common.{rules, ◌≤◌, ◌∙◌, length}
use Rattle.std.specs.Prelude.{IsTrue}
use Rattle.imago_storage.specs.Bytes.{IsReadAt}
use Rattle.imago_qcow2.proofs.ReadSteps.{probe_same}
use Rattle.imago_qcow2.proofs.qcow2.Qcow2FormatDriverInstance.probe.Goals as goal

pub returns-clause-found : goal.returns-clause-found
returns-clause-found g c = λ (told : IsTrue (g.S.Storage.features c.args.storage.now).tells_bytes).
    let B = g.S.Storage.bytes c.args.storage.now in
    let r : IsReadAt B 0 c.read.new.buf = search rules in
    let l : 8 ≤ length c.read.new.buf = search rules in
    c.is_recognized.ensures ∙ probe_same B c.read.new.buf r l
