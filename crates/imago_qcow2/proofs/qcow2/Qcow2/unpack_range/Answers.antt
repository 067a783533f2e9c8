-- SPDX-License-Identifier: MIT
use Rattle.std.proofs.Common.{◌≡◌, ◌-◌, length, refl, arith}
use Rattle.std.proofs.lemmas.Grind.{common_steps}
use Rattle.imago_drivers.specs.Place.{own_values}
use Rattle.imago_qcow2.specs.Tables.{loaded_of, loaded_disk, loaded_place}
use Rattle.imago_qcow2.proofs.CompressedSteps.{has_more, read_more}
use Rattle.imago_qcow2.proofs.qcow2.Qcow2.unpack_range.Goals as goal

pub loop-done-init : goal.loop-done-init
loop-done-init g c = record {
  within = omega arith;
  len = refl;
  values = λ told k lt. absurd (omega (arith, lt));
  asked = λ p inside. absurd (omega (arith, inside.0, inside.1));
}

pub loop-done-preserved : goal.loop-done-preserved
loop-done-preserved g c =
    let s = c.args.self.now in
    let F = g.S.Storage.features s.storage in
    let B = g.S.Storage.bytes s.storage in
    let loaded = loaded_of s.header s.cluster.length s.tables in
    let l = c.loop-done in
    let more = c.in_ok-done.ensures in
    let mid : length c.unpack_next.new.out ≡ length l.out - l.done = grind (arith, common_steps) in
    record {
      within = grind (arith, common_steps);
      len = grind (arith, common_steps);
      values = λ told. has_more (own_values (loaded_place F loaded B)) c.args.offset l.done (length l.out - l.done) c.in_ok-done.field-0 l.out c.unpack_next.new.out l.invariant.within more.some.1 (l.invariant.values told) (more.bytes told);
      asked = read_more F B (loaded_disk loaded) c.args.offset l.done c.in_ok-done.field-0 l.invariant.asked more.answered;
    }

pub returns-clause-answered : goal.returns-clause-answered
returns-clause-answered g c = λ p inside.
    let l = c.loop-done in
    l.invariant.asked p (inside.0, omega (arith, inside.1, l.invariant.len, c.loop-done-test.false))
