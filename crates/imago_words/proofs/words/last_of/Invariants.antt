-- SPDX-License-Identifier: MIT
use Rattle.std.proofs.Common.{◌≡◌, None, drop, map, option_map}
use Rattle.imago_words.specs.Reading.{last_of, shown}
use Rattle.imago_words.proofs.words.last_of.Given as goal

abbrev pub invariant-loop-first : goal.invariant-loop-first
invariant-loop-first l =
    last_of l.fn.key (option_map shown l.found) (map shown (drop l.first-index l.fn.given))
    ≡ last_of l.fn.key None (map shown l.fn.given)
