-- SPDX-License-Identifier: MIT
use Rattle.std.proofs.Common.{length}
use Rattle.imago_drivers.proofs.RawSteps.{read_refused}
use Rattle.imago_drivers.proofs.raw.RawFormatDriverInstance.read_mapped.Goals as goal

pub returns-clause-refusals : goal.returns-clause-refusals
returns-clause-refusals g c =
    let s = c.args.self.now in
    let f = g.S.Storage.features s.storage in
    let B = g.S.Storage.bytes s.storage in
    let n = length c.args.buf.now in
    read_refused f s.size B c.args._storage c.args.offset n c.read.result
    c.read.ensures.empty c.read.ensures.only c.read.ensures.device (c.read.ensures.wraps).0 c.read.ensures.memory
