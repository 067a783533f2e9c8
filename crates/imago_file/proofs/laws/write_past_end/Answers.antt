-- SPDX-License-Identifier: MIT
use Rattle.std.proofs.Common.{refl, inr}
use Rattle.imago_storage.specs.declared.error.Error.{Error}
use Rattle.imago_file.proofs.laws.write_past_end.Goals as goal

pub returns-clause-refused : goal.returns-clause-refused
returns-clause-refused g c = (c.write.ensures.written.tested Error.BeyondDisk (inr (inr (refl, c.requires.writable, (λ z. z), c.requires.past)))).0

pub returns-clause-same : goal.returns-clause-same
returns-clause-same g c = (c.write.ensures.written.tested Error.BeyondDisk (inr (inr (refl, c.requires.writable, (λ z. z), c.requires.past)))).1
