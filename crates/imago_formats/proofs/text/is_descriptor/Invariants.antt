-- SPDX-License-Identifier: MIT
use Rattle.std.proofs.Common.{◌≡◌, length}
use Rattle.imago_formats.specs.Text.{sees_descriptor}
use Rattle.imago_formats.proofs.text.is_descriptor.Given as goal

abbrev pub invariant-loop-line : goal.invariant-loop-line
invariant-loop-line l = sees_descriptor l.rest ≡ sees_descriptor l.fn.text

abbrev pub decreases-loop-line : goal.decreases-loop-line
decreases-loop-line l = length l.rest
