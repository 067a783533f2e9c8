-- SPDX-License-Identifier: MIT
use Rattle.std.proofs.Common.{length}
use Rattle.imago_access.proofs.Weaker.{refused_more}
use Rattle.imago_access.proofs.ReadSteps.{stored_refused, special_refused}
use Rattle.imago_access.proofs.read.read_named.Goals as goal

pub returns-in-Raw-clause-refusals : goal.returns-in-Raw-clause-refusals
returns-in-Raw-clause-refusals g c = rw c.in-Raw.is (refused_more _ _ c.read_mapped.result (stored_refused (g.D.FormatDriverInstance.view c.args.inner.now) c.in-Raw.storage c.in-Raw.offset c.in-Raw.writable (length c.args.buf.now)) c.read_mapped.ensures.refusals)

pub returns-in-Special-clause-refusals : goal.returns-in-Special-clause-refusals
returns-in-Special-clause-refusals g c = rw c.in-Special.is (refused_more _ _ c.readv_special.result (special_refused (g.D.FormatDriverInstance.view c.args.inner.now) c.in-Special.offset (length c.args.buf.now)) c.readv_special.ensures.refusals)
