-- SPDX-License-Identifier: MIT
use Rattle.std.proofs.Common.{◌≡◌, length, map}
use Rattle.imago_words.specs.Reading.{known, same_name}
use Rattle.imago_words.proofs.row.first_named.Given as goal

abbrev pub invariant-loop-row : goal.invariant-loop-row
invariant-loop-row l =
    same_name (map known l.rest) l.fn.name ≡ same_name (map known l.fn.rows) l.fn.name

abbrev pub decreases-loop-row : goal.decreases-loop-row
decreases-loop-row l = length l.rest
