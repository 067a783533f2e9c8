-- SPDX-License-Identifier: MIT
use Rattle.std.proofs.Common.{rules, ◌≤◌, length, ◌∙◌, arith}
use Rattle.std.specs.Prelude.{IsTrue}
use Rattle.imago_storage.specs.Bytes.{IsReadAt}
use Rattle.imago_qcow2.proofs.NumberSteps.{read32, read64}
use Rattle.imago_qcow2_check.proofs.bitmaps.read_directory.Goals as goal

pub returns-clause-says : goal.returns-clause-says
returns-clause-says g c = λ (told : IsTrue (g.S.Storage.features c.args.storage.now).tells_bytes).
    let B = g.S.Storage.bytes c.args.storage.now in
    let at = c.args.at in
    let buf = c.read.new.buf in
    let r : IsReadAt B at buf = search rules in
    let l : 32 ≤ length buf = search rules in
    record {
      start = c.number64.ensures ∙ read64 B buf at r 24 (omega (arith, l));
      size = c.number64-2.ensures ∙ read64 B buf at r 16 (omega (arith, l));
      count = c.number32.ensures ∙ read32 B buf at r 8 (omega (arith, l));
    }
