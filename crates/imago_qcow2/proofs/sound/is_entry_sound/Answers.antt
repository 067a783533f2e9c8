-- SPDX-License-Identifier: MIT
use Rattle.std.proofs.Common.{◌≡◌, ◌/◌, ◌%◌, ◌^◌, ◌∙◌, refl, sym}
use Rattle.imago_qcow2.proofs.ClusterSteps.{halved}
use Rattle.imago_qcow2.proofs.EntrySteps.{plain_sound}
use Rattle.imago_qcow2.proofs.sound.is_entry_sound.Goals as goal

pub returns-then-rest-eq0 : goal.returns-then-rest-eq0
returns-then-rest-eq0 c =
    let h = c.args.header.now in
    let s = c.args.cluster in
    let at = c.args.entry % 2 ^ 63 in
    let is : c.args.entry % 2 ^ 63 ≡ at = refl in
    let aligned : at % s.length ≡ 0 = sym c.rest.ensures.value ∙ c.if-rest-eq0.true in
    let sound = plain_sound h.compression c.args.file h.version s.length c.args.entry (s.length / 2) at (halved s.bits s.length s.least s.power) is c.if-at-lt-OFFSETS.true aligned c.if-at-file.true in
    (λ yes. sound, λ yes. refl)
