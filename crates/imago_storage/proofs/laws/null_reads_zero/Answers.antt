-- SPDX-License-Identifier: MIT
use Rattle.imago_storage.proofs.Splices.{zeroes_read_zero}
use Rattle.imago_storage.proofs.laws.null_reads_zero.Goals as goal

pub returns : goal.returns
returns c = λ offset. zeroes_read_zero _ offset
