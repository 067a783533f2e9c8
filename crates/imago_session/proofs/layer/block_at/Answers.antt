-- SPDX-License-Identifier: MIT
use Rattle.imago_session.proofs.ReadSteps.{read_is}
use Rattle.imago_session.proofs.layer.block_at.Goals as goal

pub returns-clause-ready : goal.returns-clause-ready
returns-clause-ready c = λ bytes part.
    let f = c.args.file.now in
    read_is bytes f c.args.at c.args.count c.in_ok-block.block.items part.0 part.1 f.positive
    (c.first_missing.ensures.there c.in_default.is) c.in_ok-block.ensures.whole c.in_ok-block.ensures.bytes
