-- SPDX-License-Identifier: MIT
use Rattle.std.proofs.Common.{◌≡◌, ◌+◌, ◌≤◌, ◌&&◌, Some, sym, ap, ◌∙◌, arith}
use Rattle.std.specs.Option.{option_copied}
use Rattle.imago_access.specs.Chain.{backing}
use Rattle.imago_copy.proofs.WaySteps.{along_down, down_some}
use Rattle.imago_copy.proofs.way.Way.descend.Goals as goal

pub loop-mapping-preserved : goal.loop-mapping-preserved
loop-mapping-preserved g c =
    let view = g.D.FormatDriverInstance.view in
    let l = c.loop-mapping in
    let i = l.invariant in
    let r = c.in_ok-mapping in
    let s = c.args.self in
    let below : backing l.layer.now ≡ Some c.in-Some.below.now = sym c.backing.ensures ∙ ap option_copied c.in-Some.is in
    record {
      hops = i.hops + 1;
      writable = i.writable && c.in-Indirect.writable;
      depth = let a = i.depth in let b = c.saturating_add-depth.ensures in omega arith;
      along = along_down view g.met.D.FormatDriverInstance.lawful c.args.image.now s.at l.layer.now i.hops l.offset l.count i.writable i.along i.some r.mapping r.mapped r.ensures.right r.ensures.within
          c.in-Some.below.now c.in-Indirect.below_at c.in-Indirect.writable below c.in-Indirect.is;
      some = down_some view g.met.D.FormatDriverInstance.lawful c.args.image.now s.at l.layer.now i.hops l.offset l.count i.writable i.along i.some r.mapping r.mapped r.ensures.right r.ensures.within
          c.in-Indirect.below_at c.in-Indirect.writable c.in-Indirect.is;
      within = omega (arith, r.ensures.within, i.within);
    }
