-- SPDX-License-Identifier: MIT
use Rattle.std.proofs.Common.{length}
use Rattle.imago_access.specs.Chain.{driver}
use Rattle.imago_access.proofs.Weaker.{refused_more}
use Rattle.imago_access.proofs.ReadSteps.{special_refused}
use Rattle.imago_access.proofs.reader.Reader.read_mapped.Goals as goal

pub returns-in-Special-clause-refusals : goal.returns-in-Special-clause-refusals
returns-in-Special-clause-refusals g c = rw c.in-Special.is (refused_more _ _ c.read_special.result (special_refused (g.D.FormatDriverInstance.view (driver c.args.layer.now)) c.in-Special.offset (length c.args.buf.now)) c.read_special.ensures.refusals)
