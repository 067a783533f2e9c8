-- SPDX-License-Identifier: MIT
use Rattle.std.proofs.Common.{◌∙◌}
use Rattle.std.specs.Prelude.{IsTrue}
use Rattle.imago.specs.Chain.{driver, keeps_data, tells_bytes}
use Rattle.imago_access.proofs.Chains.{told_out}
use Rattle.imago_access.proofs.Weaker.{and_left, and_right, and_both}
use Rattle.imago.proofs.RoundTrips.{written_is_read}
use Rattle.imago_examples.proofs.files.write_and_read.Goals as goal

pub returns-clause-bytes : goal.returns-clause-bytes
returns-clause-bytes g c = λ keeps.
    let v = g.D.FormatDriverInstance.view in
    let new = c.write.new.self in
    let s = c.in_ok-write.ensures.written.kept in
    let kept : IsTrue (keeps_data v new) = rw (s.kind.abilities, s.below) keeps in
    let told : IsTrue (tells_bytes v new) = told_out v new ∙ and_both _ _ ((g.met.D.FormatDriverInstance.lawful (driver new)).told (and_left _ _ kept)) (and_right _ _ kept) in
    written_is_read _ _ _ _ _ _ (c.read.auto.buf ∙ c.requires.same_length) ((c.in_ok-write.ensures.written.done keeps).0) (c.read.ensures.bytes told)
