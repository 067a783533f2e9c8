-- SPDX-License-Identifier: MIT
use Rattle.std.proofs.Common.{◌≡◌, ℕ, ◌∙◌, subst}
use Rattle.imago_access.specs.Target.{target}
use Rattle.imago_copy.specs.LayerRuns.{IsLayerRunAt}
use Rattle.imago_copy.proofs.way.Way.first_run.Goals as goal

pub returns-clause-run : goal.returns-clause-run
returns-clause-run g c =
    let leads = target g.D.FormatDriverInstance.view c.args.image.now in
    let at : c.in_ok-way.way.at ≡ c.args.at = c.in_ok-way.ensures.at ∙ c.of_range.ensures.at in
    subst (λ (p : ℕ). IsLayerRunAt leads p c.in_ok-run.run') at (c.in_ok-run.ensures.run c.args.image.now c.in_ok-way.ensures.way)
