-- SPDX-License-Identifier: MIT
use Rattle.std.proofs.Common.{ap, arith}
use Rattle.imago_qcow2_check.specs.Sums.{one_if}
use Rattle.imago_qcow2_check.specs.Clusters.{use_of, past_fault}
use Rattle.imago_qcow2_check.specs.Tallies.{setting_of}
use Rattle.imago_qcow2_check.proofs.TallySteps.{adds_told}
use Rattle.imago_qcow2_check.proofs.tally.Tally.name.Goals as goal

pub returns : goal.returns
returns c = λ counts.
    let s = setting_of c.args.shape counts in
    adds_told c.args.self.now c.use_bytes.new.self c.tell.new.self (use_of s c.args.at c.args.count) 0 (one_if c.passes-past.result) (past_fault s c.args.at c.args.count)
    (c.in_ok-use_bytes.ensures counts) c.in_ok-tell.ensures.adds (let e = ap one_if (c.passes-past.ensures counts) in omega (arith, e))
