-- SPDX-License-Identifier: MIT
use Rattle.std.proofs.Common.{◌≡◌, ◌≤◌, length, arith}
use Rattle.std.specs.Prelude.{Decides, IsTrue, None}
use Rattle.std.proofs.lemmas.Result.{IfOk-weaker}
use Rattle.imago_storage.specs.Bytes.{IsReadAt}
use Rattle.imago_images.specs.Layers.{SaysBacking}
use Rattle.imago_img_checks.specs.Vetted.{AreSafeTables, IsSafeQcow2}
use Rattle.imago_img_checks.proofs.VetSteps.{header_moved, header_faulty, decides_as, decides_no}
use Rattle.imago_img_checks.proofs.vet_qcow2.is_safe.Goals as goal

pub returns-in-Ok : goal.returns-in-Ok
returns-in-Ok g c = λ (told : IsTrue (g.S.Storage.features c.args.storage.now).tells_bytes).
    let B = g.S.Storage.bytes c.args.storage.now in
    let most = c.args.limits.tables in
    let head = c.deref.result.now in
    let whole : length c.in_ok-head.head.items ≡ 112 = c.in_ok-head.ensures.whole in
    let r : IsReadAt B 0 head = rw c.deref.ensures.value (c.in_ok-head.ensures.read told) in
    let len : 112 ≤ length head = rw c.deref.ensures.value (omega (arith, whole)) in
    let again : IsReadAt B 0 c.deref-in-Ok.result.now = rw c.deref-in-Ok.ensures.value (c.in_ok-head.ensures.read told) in
    let file = c.in_ok-file.ensures.value in
    IfOk-weaker c.vet_header.result
    (λ safe. Decides safe (SaysBacking B None × AreSafeTables most B))
    (λ safe. Decides safe (IsSafeQcow2 most B))
    (λ safe both. decides_as safe
    (λ y. record {
      header = header_moved B head r len c.in_ok-file.file c.in-Ok.header file c.in-Ok.ensures.header;
      alone = y.0;
      tables = y.1;
    })
    (λ all. (all.alone, all.tables)) both)
    (c.vet_header.ensures told file again)

pub returns : goal.returns
returns g c = λ (told : IsTrue (g.S.Storage.features c.args.storage.now).tells_bytes).
    let B = g.S.Storage.bytes c.args.storage.now in
    let head = c.deref.result.now in
    let whole : length c.in_ok-head.head.items ≡ 112 = c.in_ok-head.ensures.whole in
    let r : IsReadAt B 0 head = rw c.deref.ensures.value (c.in_ok-head.ensures.read told) in
    let len : 112 ≤ length head = rw c.deref.ensures.value (omega (arith, whole)) in
    decides_no (λ all. header_faulty B head r len c.in_ok-file.file _ c.in_ok-file.ensures.value c.in-Err.ensures.header all.header)
