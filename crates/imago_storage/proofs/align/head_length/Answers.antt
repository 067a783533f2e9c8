-- SPDX-License-Identifier: MIT
use Rattle.std.proofs.Common.{◌≡◌, ◌≢◌, ◌-◌, ◌%◌, min}
use Rattle.imago_storage.proofs.ZeroWraps.{is_head}
use Rattle.imago_storage.proofs.align.head_length.Goals as goal

pub returns-clause-some : goal.returns-clause-some
returns-clause-some g c = λ some.
    let f = g.S.Storage.features c.args.storage.now in
    let request = c.request_align-request.ensures.value in
    let past = c.remainder-past.ensures.value in
    let off : c.args.offset % f.req_align ≢ 0 = rw (← request, ← past) c.if-past-eq0.false in
    let is : c.min.result ≡ min (f.req_align - c.args.offset % f.req_align) c.args.count = rw (← request, ← past) c.min.ensures in
    is_head f c.args.offset c.args.count c.min.result (g.met.S.Storage.lawful c.args.storage.now) off c.requires is
