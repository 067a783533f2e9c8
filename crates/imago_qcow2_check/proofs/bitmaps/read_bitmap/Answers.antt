-- SPDX-License-Identifier: MIT
use Rattle.std.proofs.Common.{rules, ◌≡◌, ◌+◌, ◌≤◌, length, refl, ap, ◌∙◌, arith}
use Rattle.std.specs.Prelude.{IsTrue}
use Rattle.imago_storage.specs.Bytes.{IsReadAt}
use Rattle.imago_qcow2.specs.Numbers.{be64}
use Rattle.imago_qcow2.proofs.NumberSteps.{read32, read64}
use Rattle.imago_qcow2_check.proofs.CountSteps.{number_read}
use Rattle.imago_qcow2_check.proofs.bitmaps.read_bitmap.Goals as goal

pub returns-clause-says : goal.returns-clause-says
returns-clause-says g c = λ (told : IsTrue (g.S.Storage.features c.args.storage.now).tells_bytes).
    let B = g.S.Storage.bytes c.args.storage.now in
    let at = c.args.at in
    let buf = c.read.new.buf in
    let r : IsReadAt B at buf = search rules in
    let l : 24 ≤ length buf = search rules in
    let e : at + 0 ≡ at = omega arith in
    let extra = c.number32.ensures ∙ read32 B buf at r 20 (omega (arith, l)) in
    let name = c.number16.ensures.value ∙ number_read B buf at r 18 2 (omega (arith, l)) in
    record {
      table = c.number64.ensures ∙ read64 B buf at r 0 (omega (arith, l)) ∙ ap (be64 B) e;
      count = c.number32-2.ensures ∙ read32 B buf at r 8 (omega (arith, l));
      ends = ap (λ y. at + y) (c.next_multiple_of.ensures.value ∙ rw (extra, name) refl);
    }
