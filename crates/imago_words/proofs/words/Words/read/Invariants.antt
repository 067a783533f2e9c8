-- SPDX-License-Identifier: MIT
use Rattle.std.proofs.Common.{◌≡◌, length, map}
use Rattle.std.specs.String.{string_bytes}
use Rattle.imago_words.specs.Reading.{known, nothing_read, state_of, steps}
use Rattle.imago_words.proofs.words.Words.read.Given as goal

abbrev pub invariant-loop-word : goal.invariant-loop-word
invariant-loop-word l = steps (map known l.fn.rows) (map string_bytes l.rest) (state_of l.read)
    ≡ steps (map known l.fn.rows) (map string_bytes l.fn.words) nothing_read

abbrev pub decreases-loop-word : goal.decreases-loop-word
decreases-loop-word l = length l.rest
