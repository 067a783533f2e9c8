-- SPDX-License-Identifier: MIT
use Rattle.std.proofs.Common.{◌≡◌, length, map}
use denote.Text.{Utf8}
use denote.Shadow.{shadow}
use Rattle.imago_words.specs.Reading.{known, letters, state_of}
use Rattle.imago_words.proofs.words.Words.take_letters.Given as goal

abbrev pub invariant-loop-rest : goal.invariant-loop-rest
invariant-loop-rest l = shadow (Utf8 l.rest)
    × (letters (map known l.fn.rows) l.rest (state_of l.self)
    ≡ letters (map known l.fn.rows) l.fn.text (state_of l.fn.self))

abbrev pub decreases-loop-rest : goal.decreases-loop-rest
decreases-loop-rest l = length l.rest
