-- SPDX-License-Identifier: MIT
use Rattle.std.proofs.Common.{◌∙◌, ◌+◌, ap, sym, drop, map, option_map}
use Rattle.std.proofs.lemmas.List.{at_drop_more}
use Rattle.imago_words.specs.Reading.{last_of, shown}
use Rattle.imago_words.proofs.words.last_of.Goals as goal

pub loop-first-preserved : goal.loop-first-preserved
loop-first-preserved c =
    let key = c.args.key.now in
    let given = c.args.given.now in
    let before = option_map shown c.loop-first.found in
    let place = c.loop-first.first-index in
    let more = at_drop_more (λ xs. last_of key before (map shown xs)) in
    let next = more given place _ c.loop-first-test.true in
    let later = map shown (drop (place + 1) given) in
    ap (λ found. last_of key found later) c.later-found.ensures
    ∙ (sym next ∙ c.loop-first.invariant)
