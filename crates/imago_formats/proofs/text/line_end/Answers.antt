-- SPDX-License-Identifier: MIT
use Rattle.std.proofs.Common.{rules, tests}
use Rattle.std.proofs.lemmas.Iterator.{YieldsList-from_slice}
use Rattle.std.proofs.lemmas.Iterator.Search.{position_from_yields_List}
use Rattle.imago_formats.proofs.TextSteps.{newline, line_end}
use Rattle.imago_formats.proofs.text.line_end.Goals as goal

pub returns : goal.returns
returns c = line_end c.args.text.now c.position.result
    (position_from_yields_List newline _ _ c.position.result c.position.ensures.ran
    (YieldsList-from_slice c.args.text.now cc) (λ x b q k. search (rules, tests)))
