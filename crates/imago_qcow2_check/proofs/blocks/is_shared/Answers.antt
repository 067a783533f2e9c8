-- SPDX-License-Identifier: MIT
use Rattle.std.proofs.Common.{◌<◌, ◌*◌, sym, ◌∙◌, arith, []}
use Rattle.std.proofs.lemmas.Nat.{div_below}
use Rattle.imago_qcow2_check.specs.Tallies.{setting_of}
use Rattle.imago_qcow2_check.proofs.RangeSteps.{not_past}
use Rattle.imago_qcow2_check.proofs.blocks.is_shared.Goals as goal

pub bounds-uses-cluster_at : goal.bounds-uses-cluster_at
bounds-uses-cluster_at c =
    let s = c.args.shape in
    let some : 0 < s.cluster = omega (arith, s.shortest) in
    let inside = not_past (setting_of s []) s.clusters c.args.entry s.cluster s.all (sym (c.passes.ensures []) ∙ c.if-passes.false) some in
    let small : c.args.entry < s.clusters * s.cluster = omega (arith, inside, some) in
    let q = div_below c.args.entry s.cluster s.clusters some small in
    omega (arith, q, c.cluster_at.ensures, c.requires)
