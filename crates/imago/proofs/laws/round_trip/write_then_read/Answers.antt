-- SPDX-License-Identifier: MIT
use Rattle.std.proofs.Common.{◌∙◌}
use Rattle.std.specs.Prelude.{IsTrue}
use Rattle.imago_access.specs.Chain.{driver, keeps_data, tells_bytes}
use Rattle.imago_access.proofs.Chains.{told_out}
use Rattle.imago_access.proofs.Weaker.{and_left, and_right, and_both}
use Rattle.imago.proofs.RoundTrips.{written_is_read}
use Rattle.imago.proofs.laws.round_trip.write_then_read.Goals as goal

pub returns : goal.returns
returns g c =
    let v = g.D.FormatDriverInstance.view in
    let new = c.write.new.self in
    let s = c.in_ok-write.ensures.written.kept in
    let keeps : IsTrue (keeps_data v new) = rw (s.kind.abilities, s.below) c.requires.keeps_data in
    let told : IsTrue (tells_bytes v new) = told_out v new ∙ and_both _ _ ((g.met.D.FormatDriverInstance.lawful (driver new)).told (and_left _ _ keeps)) (and_right _ _ keeps) in
    written_is_read _ _ _ _ _ _ (c.read.auto.buf ∙ c.requires.same_length) ((c.in_ok-write.ensures.written.done c.requires.keeps_data).0) (c.read.ensures.bytes told)
