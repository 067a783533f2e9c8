-- SPDX-License-Identifier: MIT
use Rattle.std.proofs.Common.{◌≡◌, ◌<◌, true, false, ⊎_elim, inr, sym, ◌∙◌, arith}
use Rattle.imago_qcow2_new.specs.Layout.{HasCluster}
use Rattle.imago_qcow2_new.proofs.StoredSteps.{either_way}
use Rattle.imago_qcow2_new.proofs.l2.is_needed.Goals as goal

pub returns-clause-yes : goal.returns-clause-yes
returns-clause-yes c = λ e. inr (c.has_cluster.ensures.some e)

pub returns-clause-no : goal.returns-clause-no
returns-clause-no c = λ need. ⊎_elim
    (λ (gap : 0 < c.args.gap). absurd (omega (arith, gap, c.if-gap-gt0.false)))
    (λ (has : HasCluster c.args.cluster c.args.clusters.now c.args.table).
    either_way c.has_cluster.result (λ none. let z : false ≡ true = sym (c.has_cluster.ensures.none none has.0 has.1) ∙ has.2 in let y : ⊥ = cc z in y))
    need
