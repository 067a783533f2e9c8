-- SPDX-License-Identifier: MIT
use Rattle.imago_words.proofs.ReadingSteps.{cut_is}
use Rattle.imago_words.proofs.cut.cut_letter.Goals as goal
use Rattle.std.proofs.Common.{rules}

pub returns-clause-parts : goal.returns-clause-parts
returns-clause-parts c =
    let cut = c.split_at_checked in
    cut_is c.args.text.now cut.result (search rules) (search rules) (search rules)
    cut.ensures.variant cut.ensures.front cut.ensures.back
