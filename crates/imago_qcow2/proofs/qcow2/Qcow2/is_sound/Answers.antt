-- SPDX-License-Identifier: MIT
use Rattle.std.proofs.Common.{◌≡◌, ◌+◌, ◌-◌, ◌*◌, ◌/◌, ◌<◌, ◌≤◌, length, ℕ, ⊎_elim, subst, arith}
use Rattle.std.specs.Int.{div_ceil}
use Rattle.std.proofs.lemmas.Bool.{cases_lt}
use Rattle.imago_qcow2.specs.Sound.{IsSoundAt}
use Rattle.imago_qcow2.specs.Tables.{loaded_of}
use Rattle.imago_qcow2.proofs.HeldSteps.{enough}
use Rattle.imago_qcow2.proofs.SoundSteps.{offset_within, begin_within, begin_is}
use Rattle.imago_qcow2.proofs.qcow2.Qcow2.is_sound.Goals as goal

pub sound_from-count-requires-clause-total : goal.sound_from-count-requires-clause-total
sound_from-count-requires-clause-total g c =
    let s = c.args.self.now in
    let positive : 0 < s.cluster.length = omega (arith, s.cluster.shortest) in
    let covers : s.header.size ≤ length s.tables.l1.items * (s.cluster.length / 8) * s.cluster.length = omega (arith, s.covers) in
    let is : c.div_ceil-total.result ≡ div_ceil s.header.size s.cluster.length = c.div_ceil-total.ensures in
    rw is (enough s.header.size (length s.tables.l1.items * (s.cluster.length / 8)) s.cluster.length positive covers)

pub returns-then-count-eq0-clause-unsound : goal.returns-then-count-eq0-clause-unsound
returns-then-count-eq0-clause-unsound g c = λ no.
    let s = c.args.self.now in
    let loaded = loaded_of s.header s.cluster.length s.tables in
    let positive : 0 < s.cluster.length = omega (arith, s.cluster.shortest) in
    let is : c.div_ceil-total.result ≡ div_ceil s.header.size s.cluster.length = c.div_ceil-total.ensures in
    let found = c.sound_from-count.ensures.unsound c.if-count-eq0.true in
    let k = found.0 in
    let inside : k < div_ceil s.header.size s.cluster.length = rw is at found.1 in (
      k * s.cluster.length,
      begin_within s.header.size s.cluster.length k positive inside,
      λ sound. found.2 (subst (IsSoundAt loaded c.args.file) (begin_is s.cluster.length k positive) sound),
    )

pub loop-guest-preserved : goal.loop-guest-preserved
loop-guest-preserved g c = λ k h.
    let s = c.args.self.now in
    let loaded = loaded_of s.header s.cluster.length s.tables in
    let guest : ℕ = c.loop-guest.guest in
    ⊎_elim {C = IsSoundAt loaded c.args.file k}
    (λ (below : k < guest). c.loop-guest.invariant k below)
    (λ (above : guest ≤ k).
    let there : guest + (k - guest) ≡ k = omega (arith, above) in
    let near : k - guest < c.sound_from-count.result = omega (arith, h, above, c.saturating_add-guest.ensures) in
    subst (IsSoundAt loaded c.args.file) there (c.sound_from-count.ensures.sound (k - guest) near))
    (cases_lt k guest)

pub returns-clause-sound : goal.returns-clause-sound
returns-clause-sound g c = λ all offset inside.
    let s = c.args.self.now in
    let positive : 0 < s.cluster.length = omega (arith, s.cluster.shortest) in
    let is : c.div_ceil-total.result ≡ div_ceil s.header.size s.cluster.length = c.div_ceil-total.ensures in
    let within : offset / s.cluster.length < div_ceil s.header.size s.cluster.length = offset_within s.header.size s.cluster.length offset positive inside in
    c.loop-guest.invariant (offset / s.cluster.length) (omega (arith, within, is, c.loop-guest-test.false))
