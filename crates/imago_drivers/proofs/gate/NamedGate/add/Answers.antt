-- SPDX-License-Identifier: MIT
use Rattle.std.proofs.Common.{arith}
use Rattle.std.proofs.lemmas.Map.Text.{text_keys}
use Rattle.imago_drivers.proofs.gate.NamedGate.add.Goals as goal

pub returns-in-Ok-push_back-clause-added : goal.returns-in-Ok-push_back-clause-added
returns-in-Ok-push_back-clause-added g c = grind (arith, text_keys)

pub returns-in-Ok-push_back-clause-others : goal.returns-in-Ok-push_back-clause-others
returns-in-Ok-push_back-clause-others g c = λ other differs. grind (arith, text_keys)

pub returns-in-Err-clause-refused : goal.returns-in-Err-clause-refused
returns-in-Err-clause-refused g c = grind (arith, text_keys)

pub returns-in-Err-clause-others : goal.returns-in-Err-clause-others
returns-in-Err-clause-others g c = λ other differs. grind (arith, text_keys)
