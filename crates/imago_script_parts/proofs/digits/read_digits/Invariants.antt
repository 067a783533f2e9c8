-- SPDX-License-Identifier: MIT
use Rattle.std.proofs.Common.{length, ◌-◌}
use Rattle.imago_script_parts.specs.Digits.{AreRead}
use Rattle.imago_script_parts.proofs.digits.read_digits.Given as goal

abbrev pub decreases-pieces : goal.decreases-pieces
decreases-pieces l = length l.bytes - l.start

abbrev pub invariant-pieces : goal.invariant-pieces
invariant-pieces l = AreRead l.digits l.bytes l.start
