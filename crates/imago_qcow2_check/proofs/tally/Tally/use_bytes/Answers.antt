-- SPDX-License-Identifier: MIT
use Rattle.std.proofs.Common.{refl, sym, ◌∙◌, arith, []}
use Rattle.imago_qcow2_check.specs.Clusters.{use_of}
use Rattle.imago_qcow2_check.specs.Tallies.{setting_of}
use Rattle.imago_qcow2_check.proofs.TallySteps.{adds_none}
use Rattle.imago_qcow2_check.proofs.RangeSteps.{use_zero, use_past, not_past}
use Rattle.imago_qcow2_check.proofs.tally.Tally.use_bytes.Goals as goal

pub returns-then-count-eq0 : goal.returns-then-count-eq0
returns-then-count-eq0 c = λ counts.
    let s = setting_of c.args.shape counts in
    adds_none c.args.self.now (use_of s c.args.at c.args.count) 0 (λ n. use_zero s c.args.at c.args.count n c.if-count-eq0.true) refl

pub returns-then-passes : goal.returns-then-passes
returns-then-passes c = λ counts.
    let s = setting_of c.args.shape counts in
    adds_none c.args.self.now (use_of s c.args.at c.args.count) 0 (λ n. use_past s c.args.at c.args.count n (sym (c.passes.ensures counts) ∙ c.if-passes.true)) refl

pub count_range-requires-clause-inside : goal.count_range-requires-clause-inside
count_range-requires-clause-inside c =
    not_past (setting_of c.args.shape []) c.args.shape.clusters c.args.at c.args.count c.args.shape.all (sym (c.passes.ensures []) ∙ c.if-passes.false) (omega (arith, c.if-count-eq0.false))
