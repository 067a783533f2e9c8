-- SPDX-License-Identifier: MIT
use Rattle.std.proofs.Common.{rules, ◌≡◌, ◌+◌, ◌≤◌, length, refl, ap, ◌∙◌, arith}
use Rattle.std.specs.Prelude.{IsTrue}
use Rattle.imago_storage.specs.Bytes.{IsReadAt}
use Rattle.imago_qcow2.specs.Numbers.{be64}
use Rattle.imago_qcow2.proofs.NumberSteps.{read32, read64}
use Rattle.imago_qcow2_check.proofs.CountSteps.{number_read}
use Rattle.imago_qcow2_check.proofs.snapshots.read_snapshot.Goals as goal

pub returns : goal.returns
returns g c = λ (told : IsTrue (g.S.Storage.features c.args.storage.now).tells_bytes).
    let B = g.S.Storage.bytes c.args.storage.now in
    let at = c.args.at in
    let buf = c.read.new.buf in
    let r : IsReadAt B at buf = search rules in
    let l : 40 ≤ length buf = search rules in
    let e : at + 0 ≡ at = omega arith in
    let extra = c.number32-extra.ensures ∙ read32 B buf at r 36 (omega (arith, l)) in
    let id = c.number16.ensures.value ∙ number_read B buf at r 12 2 (omega (arith, l)) in
    let name = c.number16-2.ensures.value ∙ number_read B buf at r 14 2 (omega (arith, l)) in
    record {
      start = c.number64.ensures ∙ read64 B buf at r 0 (omega (arith, l)) ∙ ap (be64 B) e;
      count = c.number32.ensures ∙ read32 B buf at r 8 (omega (arith, l));
      extra = extra;
      ends = rw (extra, id, name) refl;
    }
