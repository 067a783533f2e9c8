-- SPDX-License-Identifier: MIT
use Rattle.std.proofs.Common.{ℕ, ◌+◌, ◌%◌, ◌<◌, ◌≤◌, length, sym, subst, arith}
use Rattle.imago_qcow2_new.proofs.StoredSteps.{was_not, looked}
use Rattle.imago_qcow2_new.proofs.scan.Scan.look_in.Goals as goal

pub returns-in_ok-cover-clause-sparse : goal.returns-in_ok-cover-clause-sparse
returns-in_ok-cover-clause-sparse c = λ values shows known.
    let s = c.args.self.now in
    let positive : 0 < s.stored.unit = omega (arith, s.positive, s.unit_is) in
    let inside : c.args.at % s.stored.unit + length c.args.source.now ≤ s.stored.unit = subst (λ (u : ℕ). c.args.at % u + length c.args.source.now ≤ u) (sym s.unit_is) c.requires.inside in
    looked values s.stored c.cover.new.self c.args.at c.args.source.now positive inside c.in_ok-cover.ensures.same c.in_ok-cover.ensures.more
    (c.is_zero.ensures.some (was_not c.is_zero.result c.if-self.true)) shows known
