-- SPDX-License-Identifier: MIT
use Rattle.imago_access.specs.Disk.{disk}
use Rattle.imago_copy.specs.RestOf.{disk_of}
use Rattle.imago_copy.proofs.Compared.{alike, unlike}
use Rattle.imago_copy.proofs.compare.unequal.Goals as goal

pub returns-in-Some-clause-found : goal.returns-in-Some-clause-found
returns-in-Some-clause-found g c = λ left right.
    unlike (disk g.D.FormatDriverInstance.view (disk_of c.args.left.now)) (disk g.E.FormatDriverInstance.view (disk_of c.args.right.now)) c.args.at _ _ _ _ c.in-Some.index
    (c.in_ok-read.ensures.bytes left) (c.in_ok-read-2.ensures.bytes right) c.requires.lengths c.in-Some.ensures.inside c.in-Some.ensures.first

pub returns-in-None-clause-found : goal.returns-in-None-clause-found
returns-in-None-clause-found g c = λ left right.
    alike (disk g.D.FormatDriverInstance.view (disk_of c.args.left.now)) (disk g.E.FormatDriverInstance.view (disk_of c.args.right.now)) c.args.at _ _ _ _
    (c.in_ok-read.ensures.bytes left) (c.in_ok-read-2.ensures.bytes right) c.requires.lengths c.in-None.ensures.first
