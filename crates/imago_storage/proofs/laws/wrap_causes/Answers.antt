-- SPDX-License-Identifier: MIT
use Rattle.imago_storage.proofs.Padding.{wrap_causes}
use Rattle.imago_storage.proofs.laws.wrap_causes.Goals as goal

pub returns : goal.returns
returns c = wrap_causes
