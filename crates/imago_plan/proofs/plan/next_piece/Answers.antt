-- SPDX-License-Identifier: MIT
use Rattle.std.proofs.Common.{refl}
use Rattle.imago_plan.proofs.Mapped.{mapped_piece}
use Rattle.imago_plan.proofs.plan.next_piece.Goals as goal

pub returns-clause-piece : goal.returns-clause-piece
returns-clause-piece g c =
    mapped_piece g.D.FormatDriverInstance.view c.args.image.now c.args.at c.args.most c.in_ok-mapping.count c.in_ok-mapping.mapping _ refl refl c.in_ok-source.ensures.source c.requires c.in_ok-mapping.ensures.right
