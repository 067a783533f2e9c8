-- SPDX-License-Identifier: MIT
use Rattle.std.proofs.Common.{rules}
use Rattle.std.proofs.lemmas.Str.Pattern.{split_parts}
use Rattle.imago_words.proofs.SettingSteps.{cut_texts}
use Rattle.imago_words.proofs.settings.cut_at_comma.Goals as goal

pub returns-clause-texts : goal.returns-clause-texts
returns-clause-texts c = cut_texts c.args.text.now c.split_once.result
    (split_parts 44 c.args.text.now c.split_once.result c.split_once.ensures.cases (search rules))
