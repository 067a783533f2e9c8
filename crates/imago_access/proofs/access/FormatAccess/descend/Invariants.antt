-- SPDX-License-Identifier: MIT
use Rattle.std.proofs.Common.{◌≡◌, ℕ}
use Rattle.imago_access.specs.Target.{told_depth}
use Rattle.imago_access.specs.Ways.{LeadsDown}
use Rattle.imago_access.specs.Lengths.{IsResolvedLength}
use Rattle.imago_access.proofs.AnswerSteps.{ReachesOn}
use Rattle.imago_access.proofs.access.FormatAccess.descend.Given as goal

abbrev pub invariant-loop-mapping : goal.invariant-loop-mapping
invariant-loop-mapping g l =
    record {
      hops : ℕ;
      depth : l.way.depth ≡ told_depth hops;
      length : (n : ℕ) → IsResolvedLength g.D.FormatDriverInstance.view l.layer l.way.offset l.way.length n → IsResolvedLength g.D.FormatDriverInstance.view l.fn.self l.fn.offset l.fn.max_length n;
      reached : ReachesOn g.D.FormatDriverInstance.calls l.layer l.way.offset l.way.length l.fn.self l.fn.offset l.fn.max_length;
      leads : LeadsDown g.D.FormatDriverInstance.view l.fn.self l.fn.offset l.fn.max_length l.layer hops l.way.offset l.way.length l.way.writable;
    }
