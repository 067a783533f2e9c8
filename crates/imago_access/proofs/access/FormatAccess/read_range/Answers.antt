-- SPDX-License-Identifier: MIT
use Rattle.std.proofs.Common.{arith, refl, ap, ◌∙◌, ◌≡◌, ◌-◌, length, Ok, Err}
use Rattle.std.proofs.lemmas.Grind.{common_steps}
use Rattle.std.proofs.lemmas.Result.{err_from_is_err_and}
use Rattle.imago_access.specs.Chain.{driver, disk_value, inside_part}
use Rattle.imago_access.specs.ChainLaws.{image_is_layer}
use Rattle.imago_access.proofs.ReadSteps.{chunk_refused, once_more}
use Rattle.imago_access.specs.Answered.{rest_read}
use Rattle.imago_access.proofs.AnswerSteps.{part_read, read_by}
use Rattle.imago_access.proofs.MadeSteps.{made_more, made_refused, made_all}
use Rattle.imago_access.proofs.Values.{has_more, has_end}
use Rattle.imago_access.proofs.access.FormatAccess.read_range.Goals as goal

pub returns-in_err-done-clause-refusals : goal.returns-in_err-done-clause-refusals
returns-in_err-done-clause-refusals g c =
    let p = err_from_is_err_and c.from_residual.result c.from_residual.ensures.1 in
    let v = g.D.FormatDriverInstance.view in
    let l = c.loop-done in
    let n = length c.args.buf.now in
    let inside : c.part_inside-inside.result ≡ inside_part (v (driver c.args.self.now)).size c.args.offset n = c.part_inside-inside.ensures ∙ ap (λ s. inside_part s c.args.offset n) c.size-size.ensures in
    rw (p.1, p.2) (chunk_refused v g.met.D.FormatDriverInstance.causes_lawful c.args.self.now c.args.offset n l.done c.part_inside-inside.result _ inside c.loop-done-test.true l.invariant.once c.in_err-done.field-0.0 c.in_err-done.ensures.refusals (grind (arith, common_steps)))

pub loop-done-preserved : goal.loop-done-preserved
loop-done-preserved g c =
    let its = g.D.FormatDriverInstance.calls in
    let more = c.in_ok-done.ensures in
    let l = c.loop-done in
    let m = c.part_inside-inside.result in
    let mid : length c.read_chunk.new.buf ≡ m - l.done = grind (arith, common_steps) in
    record {
      within = omega (arith, more.some.1, mid);
      bounded = grind (arith, common_steps);
      values = λ tells. has_more (disk_value g.D.FormatDriverInstance.view c.args.self.now) c.args.offset l.done (m - l.done) c.in_ok-done.field-0 l.buf c.read_chunk.new.buf (omega arith) more.some.1 (l.invariant.values tells) (more.bytes tells);
      asked = made_more (rest_read its c.args.self.now c.args.offset m) m tt tt tt l.done l.invariant.asked c.in_ok-done.field-0 c.loop-done-test.true more.some.0 (part_read its c.args.self.now c.args.offset m l.done _ (Ok c.in_ok-done.field-0) (grind (arith, common_steps)) more.answered);
      once = once_more g.D.FormatDriverInstance.view c.args.self.now c.args.offset m l.done c.in_ok-done.field-0 _ more.whole l.invariant.once c.loop-done-test.true (grind (arith, common_steps));
    }

pub returns-clause-bytes : goal.returns-clause-bytes
returns-clause-bytes g c tells =
    let v = g.D.FormatDriverInstance.view in
    let s = c.args.self.now in
    let l = c.loop-done in
    let m = c.part_inside-inside.result in
    let same : l.done ≡ m = omega arith in
    let size = c.size-size.ensures in
    let law = image_is_layer v g.met.D.FormatDriverInstance.causes_lawful g.met.D.FormatDriverInstance.lawful s in
    has_end (disk_value v s) c.args.offset m (length l.buf - m) l.buf c.clear.new.buf l.invariant.bounded c.clear.auto.buf refl (rw same at (l.invariant.values tells)) c.clear.ensures
    (λ p h j. law.past p (omega (arith, c.part_inside-inside.ensures, size)))

pub returns-in_err-done-clause-answered : goal.returns-in_err-done-clause-answered
returns-in_err-done-clause-answered g c =
    let p = err_from_is_err_and c.from_residual.result c.from_residual.ensures.1 in
    let its = g.D.FormatDriverInstance.calls in
    let v = g.D.FormatDriverInstance.view in
    let x = c.args.self.now in
    let l = c.loop-done in
    let n = length c.args.buf.now in
    let m = c.part_inside-inside.result in
    let e = c.in_err-done.field-0.0 in
    let inside : m ≡ inside_part (v (driver x)).size c.args.offset n = c.part_inside-inside.ensures ∙ ap (λ s. inside_part s c.args.offset n) c.size-size.ensures in
    rw (p.1, p.2) (read_by its v x c.args.offset n m (Err e) inside (made_refused (rest_read its x c.args.offset m) m tt tt tt l.done l.invariant.asked e c.loop-done-test.true (part_read its x c.args.offset m l.done _ (Err e) (grind (arith, common_steps)) c.in_err-done.ensures.answered)))

pub returns-clause-answered : goal.returns-clause-answered
returns-clause-answered g c =
    let its = g.D.FormatDriverInstance.calls in
    let v = g.D.FormatDriverInstance.view in
    let x = c.args.self.now in
    let l = c.loop-done in
    let n = length c.args.buf.now in
    let m = c.part_inside-inside.result in
    let inside : m ≡ inside_part (v (driver x)).size c.args.offset n = c.part_inside-inside.ensures ∙ ap (λ s. inside_part s c.args.offset n) c.size-size.ensures in
    read_by its v x c.args.offset n m (Ok tt) inside (made_all (rest_read its x c.args.offset m) m tt tt l.done l.invariant.asked (omega (arith, c.loop-done-test.false)))
