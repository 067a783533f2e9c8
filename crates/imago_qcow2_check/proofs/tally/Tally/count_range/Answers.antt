-- SPDX-License-Identifier: MIT
use Rattle.std.proofs.Common.{◌≡◌, ◌+◌, refl, arith}
use Rattle.std.specs.Vec.{with_items}
use Rattle.std.proofs.lemmas.List.{with_items_is}
use Rattle.imago_qcow2_check.specs.Clusters.{use_of}
use Rattle.imago_qcow2_check.specs.Tallies.{setting_of, AddsUses}
use Rattle.imago_qcow2_check.specs.TallyParts.{between}
use Rattle.imago_qcow2_check.proofs.TallySteps.{uses_same}
use Rattle.imago_qcow2_check.proofs.RangeSteps.{range_use}
use Rattle.imago_qcow2_check.proofs.tally.Tally.count_range.Goals as goal

pub returns : goal.returns
returns c = λ counts.
    let s = setting_of c.args.shape counts in
    let first = c.cluster_at-first.result in
    let last = c.cluster_at-last.result in
    let x : AddsUses c.args.self.now.uses.items c.count_uses.new.uses (between first (last + 1)) = rw c.deref_mut.ensures.value at c.in_ok-count_uses.ensures in
    let items : (with_items c.args.self.now.uses c.count_uses.new.uses).items ≡ c.count_uses.new.uses = with_items_is c.args.self.now.uses c.count_uses.new.uses (omega (arith, x.len, c.args.self.now.uses.ok)) in
    record {
      uses = rw items (uses_same c.args.self.now.uses.items c.count_uses.new.uses (between first (last + 1)) (use_of s c.args.at c.args.count)
          (λ n. range_use s c.args.shape.clusters c.args.at c.args.count first last n c.args.shape.all c.requires.inside c.requires.some c.cluster_at-first.ensures c.cluster_at-last.ensures) x);
      faults = omega arith;
      leaks = refl;
    }
