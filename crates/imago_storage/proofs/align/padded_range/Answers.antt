-- SPDX-License-Identifier: MIT
use Rattle.std.proofs.Common.{rules}
use Rattle.imago_storage.proofs.align.padded_range.Goals as goal

pub returns : goal.returns
returns c = search rules
