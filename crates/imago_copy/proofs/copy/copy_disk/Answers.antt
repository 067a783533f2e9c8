-- SPDX-License-Identifier: MIT
use Rattle.std.proofs.Common.{arith, ◌≡◌, ◌+◌, ◌≤◌, ◌∙◌, ℕ, sym, subst}
use Rattle.imago_access.specs.declared.access.FormatAccess.{FormatAccess}
use Rattle.imago_access.specs.Chain.{driver, disk_value}
use Rattle.imago_access.specs.ReaderOf.{image_of as read_by}
use Rattle.imago_copy.specs.RunsOf.{image_of, at_of}
use Rattle.imago_copy.specs.Copies.{IsGathered}
use Rattle.imago_copy.proofs.Copies.{on_error, gathered_as, next_is, next_ends, partly_as, partly_disk, partly_held, rest_partly_put, rest_put}
use Rattle.imago_copy.proofs.copy.copy_disk.Goals as goal

pub loop-reader-preserved : goal.loop-reader-preserved
loop-reader-preserved g c =
    let view = g.D.FormatDriverInstance.view in
    let l = c.loop-reader in
    let new = c.next_run.new.self in
    let run = c.in-Some.run' in
    let x = c.args.image.now in
    let old = g.T.Target.contents c.args.target.now in
    let next = next_is view (image_of l.runs) x (at_of l.runs) (at_of new) c.in_ok-run.field-0 run l.invariant.image c.in-Some.is c.in_ok-run.ensures.run in
    let e = c.in_ok-held.ensures in
    let after : run.at + run.count ≡ at_of new = omega (arith, next.0.0, next.1) in
    record {
      image = c.in_ok-run.ensures.same ∙ l.invariant.image;
      reads = e.image ∙ l.invariant.reads;
      keeping = e.keeping;
      same = e.same ∙ l.invariant.same;
      ready = c.in_ok-run.ensures.ready;
      fits = e.held;
      put = λ tells. subst (λ (p : ℕ). IsGathered (disk_value view x) p old (g.T.Target.contents c.copy_run.new.target) c.copy_run.new.buf c.in_ok-held.held) after
          (gathered_as view (read_by l.reader) x run.at (run.at + run.count) l.held _ _ l.buf l.invariant.reads c.in_ok-held.held c.copy_run.new.buf e.put tells old
          (subst (λ (p : ℕ). IsGathered (disk_value view x) p old (g.T.Target.contents l.target) l.buf l.held) (sym next.0.0) (l.invariant.put tells)));
    }

pub returns-clause-put : goal.returns-clause-put
returns-clause-put g c = λ tells.
    let view = g.D.FormatDriverInstance.view in
    let l = c.loop-reader in
    let x = c.args.image.now in
    let ended : (view (driver x)).size ≤ at_of l.runs = next_ends view (image_of l.runs) x (at_of l.runs) _ c.in_ok-run.field-0 l.invariant.image c.in_default.is c.in_ok-run.ensures.run in
    let within : at_of l.runs ≤ (view (driver x)).size = subst (λ (z : FormatAccess _). at_of l.runs ≤ (view (driver z)).size) l.invariant.image l.invariant.ready.1 in
    let ends : at_of l.runs ≡ (view (driver x)).size = omega (arith, ended, within) in
    rest_put view x c.put_held.result (at_of l.runs) l.held (g.T.Target.contents c.args.target.now) (g.T.Target.contents l.target) (g.T.Target.contents c.put_held.new.target) l.buf (l.invariant.put tells) ends c.put_held.ensures.appended

pub returns-clause-refused : goal.returns-clause-refused
returns-clause-refused g c = λ tells.
    let view = g.D.FormatDriverInstance.view in
    let l = c.loop-reader in
    let x = c.args.image.now in
    let within : at_of l.runs ≤ (view (driver x)).size = subst (λ (z : FormatAccess _). at_of l.runs ≤ (view (driver z)).size) l.invariant.image l.invariant.ready.1 in
    rest_partly_put view x c.put_held.result (at_of l.runs) l.held (g.T.Target.contents c.args.target.now) (g.T.Target.contents l.target) (g.T.Target.contents c.put_held.new.target) l.buf (l.invariant.put tells) within c.put_held.ensures.refused

pub returns-in_err-run-clause-refused : goal.returns-in_err-run-clause-refused
returns-in_err-run-clause-refused g c = λ tells.
    let view = g.D.FormatDriverInstance.view in
    let l = c.loop-reader in
    let x = c.args.image.now in
    let within : at_of l.runs ≤ (view (driver x)).size = subst (λ (z : FormatAccess _). at_of l.runs ≤ (view (driver z)).size) l.invariant.image l.invariant.ready.1 in
    let all : at_of l.runs ≤ at_of l.runs = omega arith in
    on_error _ _ (partly_disk view x (at_of l.runs) _ _ within (partly_held (disk_value view x) (at_of l.runs) (at_of l.runs) l.held _ _ l.buf all (l.invariant.put tells)))

pub returns-in_err-held-clause-refused : goal.returns-in_err-held-clause-refused
returns-in_err-held-clause-refused g c = λ tells.
    let view = g.D.FormatDriverInstance.view in
    let l = c.loop-reader in
    let x = c.args.image.now in
    let new = c.next_run.new.self in
    let run = c.in-Some.run' in
    let old = g.T.Target.contents c.args.target.now in
    let next = next_is view (image_of l.runs) x (at_of l.runs) (at_of new) c.in_ok-run.field-0 run l.invariant.image c.in-Some.is c.in_ok-run.ensures.run in
    let within : run.at + run.count ≤ (view (driver x)).size = omega (arith, next.0.0, next.1, next.2) in
    on_error _ _ (partly_disk view x (run.at + run.count) _ _ within
    (partly_as view (read_by l.reader) x run.at (run.at + run.count) l.held _ _ l.buf l.invariant.reads c.in_err-held.ensures.refused tells old
    (subst (λ (p : ℕ). IsGathered (disk_value view x) p old (g.T.Target.contents l.target) l.buf l.held) (sym next.0.0) (l.invariant.put tells))))
