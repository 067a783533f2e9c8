-- SPDX-License-Identifier: MIT
use Rattle.std.proofs.Common.{◌<◌, ◌≤◌}
use Rattle.imago_script_parts.specs.Digits.{AreRead, HasOther}
use Rattle.imago_script_parts.proofs.digits.read_piece.Given as goal

abbrev pub invariant-bytes : goal.invariant-bytes
invariant-bytes l = record {
  read : l.worst < 16 → AreRead l.digits l.bytes l.place;
  other : 16 ≤ l.worst → HasOther l.digits;
}
