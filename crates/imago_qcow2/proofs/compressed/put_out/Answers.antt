-- SPDX-License-Identifier: MIT
use Rattle.std.proofs.Common.{refl, ap, sym}
use Rattle.std.specs.Result.{is_err}
use Rattle.imago_qcow2.proofs.compressed.put_out.Goals as goal

pub returns-in-Err : goal.returns-in-Err
returns-in-Err c = (refl, ap is_err (sym c.in-Err.ensures))
