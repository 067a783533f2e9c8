-- SPDX-License-Identifier: MIT
use Rattle.std.proofs.Common.{◌≡◌, length, map}
use Rattle.imago_words.specs.Reading.{known, option_of_letter}
use Rattle.imago_words.proofs.row.find_letter.Given as goal

abbrev pub invariant-loop-row : goal.invariant-loop-row
invariant-loop-row l =
    option_of_letter (map known l.rest) l.fn.letter
    ≡ option_of_letter (map known l.fn.rows) l.fn.letter

abbrev pub decreases-loop-row : goal.decreases-loop-row
decreases-loop-row l = length l.rest
