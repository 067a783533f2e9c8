-- SPDX-License-Identifier: MIT
use Rattle.std.proofs.Common.{rules, ◌≡◌, ◌+◌, ◌≤◌, arith, ap, ◌∙◌, length}
use Rattle.std.specs.Prelude.{IsTrue}
use Rattle.imago_storage.specs.Bytes.{IsReadAt}
use Rattle.imago_qcow2.specs.Numbers.{be32}
use Rattle.imago_qcow2.proofs.NumberSteps.{read32}
use Rattle.imago_qcow2.proofs.backing.extension_at.Goals as goal

pub returns-clause-kind : goal.returns-clause-kind
returns-clause-kind g c = λ (told : IsTrue (g.S.Storage.features c.args.storage.now).tells_bytes).
    let B = g.S.Storage.bytes c.args.storage.now in
    let r : IsReadAt B c.args.at c.read.new.buf = search rules in
    let l : 0 + 4 ≤ length c.read.new.buf = search rules in
    let e : c.args.at + 0 ≡ c.args.at = omega arith in
    c.number32.ensures ∙ read32 B c.read.new.buf c.args.at r 0 l ∙ ap (be32 B) e

pub returns-clause-count : goal.returns-clause-count
returns-clause-count g c = λ (told : IsTrue (g.S.Storage.features c.args.storage.now).tells_bytes).
    let B = g.S.Storage.bytes c.args.storage.now in
    let r : IsReadAt B c.args.at c.read.new.buf = search rules in
    let l : 4 + 4 ≤ length c.read.new.buf = search rules in
    c.number32-2.ensures ∙ read32 B c.read.new.buf c.args.at r 4 l
