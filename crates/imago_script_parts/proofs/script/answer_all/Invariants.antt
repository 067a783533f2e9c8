-- SPDX-License-Identifier: MIT
use Rattle.std.proofs.Common.{length}
use Rattle.imago_script_parts.proofs.script.answer_all.Given as goal

abbrev pub decreases-lines : goal.decreases-lines
decreases-lines g l = length l.rest
