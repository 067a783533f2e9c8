-- SPDX-License-Identifier: MIT
use Rattle.std.proofs.Common.{arith}
use Rattle.std.proofs.lemmas.Grind.{common_steps}
use Rattle.imago_drivers.proofs.raw.RawFormatDriverInstance.discard_to_any.Goals as goal

pub returns-clause-call : goal.returns-clause-call
returns-clause-call g c = record {
  done = grind (arith, common_steps);
  causes = grind (arith, common_steps);
  nothing_pending = grind (arith, common_steps);
  lengths = grind (arith, common_steps);
  framed = grind (arith, common_steps);
  faults = grind (arith, common_steps);
  refusals = grind (arith, common_steps);
  outside = grind (arith, common_steps);
}
