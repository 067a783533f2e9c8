-- SPDX-License-Identifier: MIT
use Rattle.imago_access.proofs.Weaker.{and_both}
use Rattle.imago.proofs.laws.runs_of_cow.Goals as goal

pub returns-clause-flat : goal.returns-clause-flat
returns-clause-flat g c = λ calls replies keeps told run. c.flat_histories.ensures c.args.before.now c.args.after.now calls replies (and_both _ _ keeps told) run

pub returns-clause-below : goal.returns-clause-below
returns-clause-below g c = λ calls replies run. c.runs_keep_layers_below.ensures c.args.before.now c.args.after.now calls replies run
