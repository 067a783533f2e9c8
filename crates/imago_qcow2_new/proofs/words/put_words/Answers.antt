-- SPDX-License-Identifier: MIT
use Rattle.std.proofs.Common.{◌≡◌, ℕ, ◌+◌, ◌*◌, List, length, subst, ◌∙◌, arith}
use Rattle.std.proofs.lemmas.List.{length-take-le}
use Rattle.imago_copy.specs.Appended.{IsAppended}
use Rattle.imago_qcow2_new.specs.Words.{byte_of, words_from}
use Rattle.imago_qcow2_new.proofs.Appends.{appended_both, listed}
use Rattle.imago_qcow2_new.proofs.WordSteps.{words_both}
use Rattle.imago_qcow2_new.proofs.words.put_words.Goals as goal

pub loop-done-preserved : goal.loop-done-preserved
loop-done-preserved g c =
    let f : ℕ → ℕ = g.W.Words.word c.args.words.now in
    let chunk : List ℕ = c.fill.new.buf in
    let done : ℕ = c.loop-done.done in
    let next : ℕ = c.min-next.result in
    let mid = g.T.Target.contents c.loop-done.target in
    let new = g.T.Target.contents c.append.new.self in
    let len : length chunk ≡ 8 * next = c.fill.auto.buf ∙ length-take-le (8 * next) c.loop-done.buf (omega (arith, c.min-next.ensures, c.loop-done.auto.buf)) in
    let is : chunk ≡ words_from f (c.args.from + done) next = listed (byte_of f) chunk (8 * (c.args.from + done)) (8 * next) len (λ k lt. c.fill.ensures k (omega (arith, lt, len))) in
    record {
      within = omega (arith, c.min-next.ensures, c.loop-done-test.true);
      same = c.append.ensures.same ∙ c.loop-done.invariant.same;
      put = appended_both (g.T.Target.contents c.args.target.now) mid new (words_from f c.args.from done) (words_from f (c.args.from + done) next) (words_from f c.args.from (done + next))
          (words_both f c.args.from done next) c.loop-done.invariant.put
          (subst (λ (x : List ℕ). IsAppended mid new x) is c.in_ok-append.ensures.appended);
    }
