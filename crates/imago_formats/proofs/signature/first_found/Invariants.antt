-- SPDX-License-Identifier: MIT
use Rattle.std.proofs.Common.{◌≡◌, length, map}
use Rattle.imago_formats.specs.Signatures.{known, found_first}
use Rattle.imago_formats.proofs.signature.first_found.Given as goal

abbrev pub invariant-loop-mark : goal.invariant-loop-mark
invariant-loop-mark l =
    found_first l.fn.besides (map known l.rest) l.fn.block ≡ found_first l.fn.besides (map known l.fn.marks) l.fn.block

abbrev pub decreases-loop-mark : goal.decreases-loop-mark
decreases-loop-mark l = length l.rest
