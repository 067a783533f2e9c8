-- SPDX-License-Identifier: MIT
use Rattle.std.proofs.Common.{◌∙◌, ap, map, string_bytes}
use Rattle.std.proofs.lemmas.Result.{IfErr-weaker, IfOk-weaker}
use Rattle.imago_words.specs.Line.{kind_typed, status_for}
use Rattle.imago_words.proofs.LineLaws.{is_err, refused_of, status_of_line}
use Rattle.imago_words.proofs.laws.compare_is_refused.Goals as goal

pub returns-clause-refused : goal.returns-clause-refused
returns-clause-refused c =
    let refused = refused_of (map string_bytes c.args.words.now) c.requires in
    is_err c.read.result (IfOk-weaker c.read.result _ _ (λ _. refused) c.read.ensures.meant)

pub returns-clause-status : goal.returns-clause-status
returns-clause-status c =
    let status = ap (λ w. status_for (kind_typed w)) c.requires ∙ status_of_line in
    IfErr-weaker c.read.result _ _ (λ r e. e ∙ status) c.read.ensures.status
