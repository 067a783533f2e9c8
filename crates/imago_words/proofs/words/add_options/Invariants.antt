-- SPDX-License-Identifier: MIT
use Rattle.std.proofs.Common.{◌≡◌, drop, map}
use Rattle.imago_words.specs.Reading.{shown}
use Rattle.imago_words.specs.Settings.{with_options}
use Rattle.imago_words.proofs.words.add_options.Given as goal

abbrev pub invariant-loop-first : goal.invariant-loop-first
invariant-loop-first l =
    with_options (map shown (drop l.first-index l.fn.given)) l.added
    ≡ with_options (map shown l.fn.given) l.fn.settings
