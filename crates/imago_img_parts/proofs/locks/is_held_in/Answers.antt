-- SPDX-License-Identifier: MIT
use Rattle.std.proofs.Common.{arith, rules, tests}
use Rattle.std.proofs.lemmas.Iterator.Search.{any_from_yields_List}
use Rattle.std.proofs.lemmas.Iterator.Splits.{YieldsList-from_str_split}
use Rattle.imago_img_parts.specs.Locks.{is_holding}
use Rattle.imago_img_parts.proofs.locks.is_held_in.Goals as goal

pub returns : goal.returns
returns c =
    let split = c.split.ensures in
    any_from_yields_List (is_holding c.args.device c.args.inode) _ _ c.any.result c.any.ensures.ran
    (YieldsList-from_str_split 10 c.args.text.now (omega arith) split.text split.has_more split.pattern)
    (λ x b q k. search (rules, tests))
