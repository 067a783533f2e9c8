-- SPDX-License-Identifier: MIT
use Rattle.std.proofs.Common.{◌∙◌}
use Rattle.imago_access.specs.Chain.{driver}
use Rattle.imago_access.proofs.Descent.{right_part, part_whole}
use Rattle.imago_access.proofs.Lengths.{own_length}
use Rattle.imago_access.proofs.access.FormatAccess.map_part.Goals as goal

pub returns-clause-part : goal.returns-clause-part
returns-clause-part g c =
    let d = driver c.args.self.now in
    let r = c.in_ok-mapping in
    rw c.part_of.ensures (right_part (g.D.FormatDriverInstance.view d).place (g.met.D.FormatDriverInstance.lawful d).ends c.args.offset c.args.max_length r.count r.mapping r.ensures.right r.ensures.within)

pub returns-clause-whole : goal.returns-clause-whole
returns-clause-whole g c h = c.part_of.ensures ∙ part_whole c.in_ok-mapping.mapping c.in_ok-mapping.count c.args.max_length (c.in_ok-mapping.ensures.whole h)

pub returns-clause-length : goal.returns-clause-length
returns-clause-length g c =
    let d = driver c.args.self.now in
    let r = c.in_ok-mapping in
    rw c.part_of.ensures (own_length (g.D.FormatDriverInstance.view d) c.args.offset c.args.max_length r.count r.mapping r.ensures.right.eof r.ensures.part)
