-- SPDX-License-Identifier: MIT
use Rattle.std.proofs.Common.{length}
use Rattle.imago_qcow2.specs.Tables.{loaded_of, loaded_disk, loaded_place}
use Rattle.imago_qcow2.proofs.ReadSteps.{read_refused}
use Rattle.imago_qcow2.proofs.qcow2.Qcow2FormatDriverInstance.read_mapped.Goals as goal

pub returns-clause-refusals : goal.returns-clause-refusals
returns-clause-refusals g c =
    let s = c.args.self.now in
    let B = g.S.Storage.bytes s.storage in
    read_refused (g.S.Storage.features s.storage) B (loaded_disk (loaded_of s.header s.cluster.length s.tables)) (loaded_place (g.S.Storage.features s.storage) (loaded_of s.header s.cluster.length s.tables) B) c.args._storage c.args.offset (length c.args.buf.now) c.read.result c.requires c.read.ensures.only c.read.ensures.device c.read.ensures.wraps.0 c.read.ensures.memory
