-- SPDX-License-Identifier: MIT
use Rattle.std.proofs.Common.{arith, refl, rules}
use Rattle.std.proofs.lemmas.Grind.{common_steps}
use Rattle.imago_drivers.proofs.raw.RawFormatDriverInstance.resize_grow.Goals as goal

pub returns-clause-call : goal.returns-clause-call
returns-clause-call g c = record {
  grown = record { size = grind (arith, common_steps); kept = grind (arith, common_steps); added = search rules; ends = grind (arith, common_steps); listed = grind (arith, common_steps) };
  idle = λ h. refl;
  unchanged = tt;
  nothing_pending = refl;
  no_longer = grind (arith, common_steps);
  kind = grind (arith, common_steps);
  faults = grind (arith, common_steps);
  refusals = tt;
}
