-- SPDX-License-Identifier: MIT
use Rattle.std.proofs.Common.{◌≡◌, ℕ, ◌+◌, ◌*◌, ◌/◌, ◌<◌, ◌≤◌, false, sym, ap, subst, ◌∙◌, arith}
use Rattle.std.proofs.lemmas.Bool.Decides.{nat_tests}
use Rattle.imago_qcow2_new.specs.Extents.{Spot}
use Rattle.imago_qcow2_new.specs.Space.{stores}
use Rattle.imago_qcow2_new.proofs.Whole.{table_fits, entry_place, entry_near}
use Rattle.imago_qcow2_new.proofs.NeedSteps.{first_cluster, later_cluster}
use Rattle.imago_qcow2_new.proofs.l2.has_cluster.Goals as goal

pub overflow_mul-table : goal.overflow_mul-table
overflow_mul-table c =
    let f = table_fits c.args.table 4194304 c.args.cluster c.requires.few (omega arith) c.requires.most in
    omega (arith, f)

pub returns-then-part-clause-some : goal.returns-then-part-clause-some
returns-then-part-clause-some c = λ e.
    first_cluster c.args.clusters.now c.args.cluster c.args.table c.requires.least
    (ap (λ (s : Spot). s.stored) c.part_at-part.ensures.spot ∙ c.if-part.true)

pub returns-clause-some : goal.returns-clause-some
returns-clause-some c = λ e.
    let near : c.part_at-part.result.count < c.args.cluster / 8 * c.args.cluster = grind (arith, nat_tests, e) in
    let f = table_fits c.args.table 4194304 c.args.cluster c.requires.few (omega arith) c.requires.most in
    let span : 1 * (c.args.cluster / 8 * c.args.cluster) < 2305843009213693953 = table_fits 1 4194304 c.args.cluster (omega arith) (omega arith) c.requires.most in
    let next = c.part_at-part.ensures.next c.if-part.false (omega (arith, near, f, span)) in
    later_cluster c.args.clusters.now c.args.cluster c.args.table c.requires.least c.part_at-part.result.count c.requires.unit near next.0 next.1

pub returns-clause-none : goal.returns-clause-none
returns-clause-none c = λ e k lt.
    let long : c.args.cluster / 8 * c.args.cluster ≤ c.part_at-part.result.count = grind (arith, nat_tests, e) in
    let near : k * c.args.cluster < c.args.cluster / 8 * c.args.cluster = entry_near k c.args.cluster lt in
    let place : (c.args.table * (c.args.cluster / 8) + k) * c.args.cluster ≡ c.args.table * (c.args.cluster / 8 * c.args.cluster) + k * c.args.cluster = entry_place c.args.table k (c.args.cluster / 8) c.args.cluster in
    subst (λ (x : ℕ). stores c.args.clusters.now x ≡ false) (sym place)
    (c.part_at-part.ensures.part.kind (k * c.args.cluster) (omega (arith, near, long)) ∙ c.if-part.false)
