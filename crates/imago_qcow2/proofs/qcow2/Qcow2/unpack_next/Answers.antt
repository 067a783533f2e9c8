-- SPDX-License-Identifier: MIT
use Rattle.std.proofs.Common.{◌<◌, arith}
use Rattle.imago_qcow2.specs.Tables.{loaded_of}
use Rattle.imago_qcow2.proofs.CompressedSteps.{part_read}
use Rattle.imago_qcow2.proofs.qcow2.Qcow2.unpack_next.Goals as goal

pub returns-clause-answered : goal.returns-clause-answered
returns-clause-answered g c = λ i lt.
    let s = c.args.self.now in
    let some : 0 < s.cluster.length = omega (arith, s.cluster.shortest) in
    part_read (g.S.Storage.features s.storage) (g.S.Storage.bytes s.storage) (loaded_of s.header s.cluster.length s.tables) c.args.offset c.min-count.result i some c.requires.deflated (omega (arith, c.requires.inside, c.min-count.ensures)) (omega (arith, c.rest.ensures.value, c.min-count.ensures)) c.in_ok-unpack_part.ensures.answered lt
