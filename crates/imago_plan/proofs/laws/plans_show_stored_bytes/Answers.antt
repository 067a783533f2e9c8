-- SPDX-License-Identifier: MIT
use Rattle.std.proofs.Common.{arith}
use Rattle.imago_access.specs.Chain.{driver}
use Rattle.imago_access.specs.Target.{target}
use Rattle.imago_plan.proofs.Disks.{covered_values}
use Rattle.imago_plan.proofs.laws.plans_show_stored_bytes.Goals as goal

pub returns : goal.returns
returns g c = λ image pieces bytes covers.
    let view = g.D.FormatDriverInstance.view in
    covered_values bytes (target view image) 0 (view (driver image)).size (view (driver image)).size pieces (omega arith) covers
