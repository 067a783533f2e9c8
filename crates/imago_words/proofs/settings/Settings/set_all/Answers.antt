-- SPDX-License-Identifier: MIT
use Rattle.std.proofs.Common.{◌∙◌, ap, sym, is_some, rules}
use Rattle.std.proofs.lemmas.Result.{IfOk-weaker}
use Rattle.imago_words.proofs.SettingSteps.{not_ok, set_first, set_last, set_none}
use Rattle.imago_words.proofs.settings.Settings.set_all.Goals as goal

pub returns-in_err-settings-clause-exact : goal.returns-in_err-settings-clause-exact
returns-in_err-settings-clause-exact c =
    let none = set_none c.loop-first.rest.now c.in-Some.first.now c.in-Some.behind.now
    c.loop-first.settings c.in-Some.ensures.texts c.in_err-settings.ensures.exact in
    not_ok c.from_residual.result c.from_residual.ensures.0 ∙ none
    ∙ ap is_some c.loop-first.invariant.1

pub loop-first-preserved : goal.loop-first-preserved
loop-first-preserved c = (
  search rules,
  sym (set_first c.loop-first.rest.now c.in-Some.first.now c.in-Some.behind.now c.loop-first.settings
      c.in_ok-settings.settings c.in-Some.ensures.texts c.in_ok-settings.ensures.ok)
      ∙ c.loop-first.invariant.1,
)

pub returns-clause-ok : goal.returns-clause-ok
returns-clause-ok c =
    let all = set_last c.loop-first.rest.now c.loop-first.settings c.in_default.ensures.texts
    ∙ c.loop-first.invariant.1 in
    IfOk-weaker c.set_one-2.result _ _ (λ s e. sym all ∙ e) c.set_one-2.ensures.ok

pub returns-clause-exact : goal.returns-clause-exact
returns-clause-exact c =
    let all = set_last c.loop-first.rest.now c.loop-first.settings c.in_default.ensures.texts
    ∙ c.loop-first.invariant.1 in
    c.set_one-2.ensures.exact ∙ ap is_some all
