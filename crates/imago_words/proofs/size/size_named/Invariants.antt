-- SPDX-License-Identifier: MIT
use Rattle.std.proofs.Common.{◌≡◌, length}
use Rattle.imago_words.specs.Sizes.{size_from}
use Rattle.imago_words.proofs.size.size_named.Given as goal

abbrev pub invariant-loop-byte : goal.invariant-loop-byte
invariant-loop-byte l = size_from l.number l.rest ≡ size_from 0 l.fn.text

abbrev pub decreases-loop-byte : goal.decreases-loop-byte
decreases-loop-byte l = length l.rest
