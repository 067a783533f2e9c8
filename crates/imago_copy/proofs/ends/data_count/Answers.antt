-- SPDX-License-Identifier: MIT
use Rattle.std.proofs.Common.{arith, ◌-◌, ◌≤◌, min}
use Rattle.imago_access.specs.Chain.{disk_value}
use Rattle.imago_copy.proofs.EndSteps.{zero_kind, zero_stored, behind_more}
use Rattle.imago_copy.proofs.ends.data_count.Goals as goal

pub returns-in-Zero-clause-zero : goal.returns-in-Zero-clause-zero
returns-in-Zero-clause-zero g c = zero_kind g.D.FormatDriverInstance.view c.args.image.now c.args.run c.in-Zero.is c.requires

pub returns-in-Some-clause-zero : goal.returns-in-Some-clause-zero
returns-in-Some-clause-zero g c =
    let view = g.D.FormatDriverInstance.view in
    let run = c.args.run in
    let s = c.in-Stored in
    let told : min run.count (c.in-Some.end - s.offset) ≤ c.min.result = omega (arith, c.min.ensures, c.saturating_sub.ensures) in
    behind_more (disk_value view c.args.image.now) run.at (c.in-Some.end - s.offset) c.min.result run.count told
    (zero_stored view c.args.image.now run s.layer s.storage s.offset c.in-Some.end s.is c.if-layer-lt18446744073709551615.true c.requires c.in-Some.ensures)
