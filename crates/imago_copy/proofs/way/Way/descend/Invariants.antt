-- SPDX-License-Identifier: MIT
use Rattle.std.proofs.Common.{◌≡◌, ◌<◌, ◌≤◌, ℕ, Bool}
use Rattle.imago_access.specs.Target.{told_depth}
use Rattle.imago_copy.specs.Ways.{LeadAlong}
use Rattle.imago_copy.proofs.way.Way.descend.Given as goal

abbrev pub invariant-loop-mapping : goal.invariant-loop-mapping
invariant-loop-mapping g l = record {
  hops : ℕ;
  writable : Bool;
  depth : l.depth ≡ told_depth hops;
  along : LeadAlong g.D.FormatDriverInstance.view l.image l.at l.layer hops l.offset l.count writable;
  some : 0 < l.count;
  within : l.count ≤ l.fn.self.count;
}
