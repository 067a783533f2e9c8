-- SPDX-License-Identifier: MIT
use Rattle.std.proofs.Common.{◌≡◌, ◌+◌, ◌≤◌, ◌∙◌, ℕ, refl, subst, arith}
use Rattle.imago_access.specs.Chain.{disk_value}
use Rattle.imago_access.specs.ReaderOf.{image_of}
use Rattle.imago_copy.specs.Copies.{IsGathered}
use Rattle.imago_copy.proofs.Copies.{on_error, gathered_as, partly_as, partly_within}
use Rattle.imago_copy.proofs.copy.copy_data.Goals as goal

pub loop-done-init : goal.loop-done-init
loop-done-init g c =
    let view = g.D.FormatDriverInstance.view in
    let value = disk_value view (image_of c.args.reader.now) in
    let here : c.args.run.at ≡ c.args.run.at + 0 = omega arith in
    record {
      image = refl;
      keeping = c.requires.keeping;
      same = refl;
      within = omega arith;
      fits = c.requires.held;
      put = λ tells s held. subst (λ (p : ℕ). IsGathered value p s (g.T.Target.contents c.args.target.now) c.args.buf.now c.args.held) here held;
    }

pub loop-done-preserved : goal.loop-done-preserved
loop-done-preserved g c =
    let view = g.D.FormatDriverInstance.view in
    let l = c.loop-done in
    let e = c.in_ok-more.ensures in
    let x = image_of c.args.reader.now in
    let run = c.args.run in
    let next : run.at + l.done + c.in_ok-more.more ≡ run.at + (l.done + c.in_ok-more.more) = omega arith in
    record {
      image = e.image ∙ l.invariant.image;
      keeping = e.keeping;
      same = e.same ∙ l.invariant.same;
      within = omega (arith, e.some.1, l.invariant.within);
      fits = e.held;
      put = λ tells s held. subst (λ (p : ℕ). IsGathered (disk_value view x) p s (g.T.Target.contents c.copy_first.new.target) c.copy_first.new.buf c.in_ok-more.now) next
          (gathered_as view (image_of l.reader) x (run.at + l.done) (run.at + l.done + c.in_ok-more.more) l.held _ _ l.buf l.invariant.image c.in_ok-more.now c.copy_first.new.buf e.put tells s (l.invariant.put tells s held));
    }

pub returns-in_err-more-clause-refused : goal.returns-in_err-more-clause-refused
returns-in_err-more-clause-refused g c = λ tells s held.
    let view = g.D.FormatDriverInstance.view in
    let l = c.loop-done in
    let x = image_of c.args.reader.now in
    let run = c.args.run in
    let within : run.at + l.done ≤ run.at + run.count = omega (arith, l.invariant.within) in
    on_error _ _ (partly_within (disk_value view x) (run.at + l.done) (run.at + run.count) s _ within
    (partly_as view (image_of l.reader) x (run.at + l.done) (run.at + l.done) l.held _ _ l.buf l.invariant.image c.in_err-more.ensures.refused tells s (l.invariant.put tells s held)))
