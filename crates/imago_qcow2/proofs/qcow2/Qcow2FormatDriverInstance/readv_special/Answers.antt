-- SPDX-License-Identifier: MIT
use Rattle.std.proofs.Common.{rules, ◌<◌, length, Err}
use Rattle.imago_storage.specs.declared.error.Error.{Error}
use Rattle.imago_qcow2.specs.Tables.{loaded_of, loaded_disk}
use Rattle.imago_qcow2.proofs.CompressedSteps.{none_read, special_refused}
use Rattle.imago_qcow2.proofs.qcow2.Qcow2FormatDriverInstance.readv_special.Goals as goal

pub returns-then-not-may_unpack-clause-answered : goal.returns-then-not-may_unpack-clause-answered
returns-then-not-may_unpack-clause-answered g c =
    let s = c.args.self.now in
    let some : 0 < length c.args.buf.now = search rules in
    none_read (g.S.Storage.features s.storage) (g.S.Storage.bytes s.storage) (loaded_disk (loaded_of s.header s.cluster.length s.tables)) c.args.offset (length c.args.buf.now) some (c.may_unpack.ensures.no c.if-not-may_unpack.true)

pub returns-then-not-may_unpack-clause-refusals : goal.returns-then-not-may_unpack-clause-refusals
returns-then-not-may_unpack-clause-refusals g c =
    let s = c.args.self.now in
    special_refused (g.S.Storage.features s.storage) (g.S.Storage.bytes s.storage) (loaded_disk (loaded_of s.header s.cluster.length s.tables)) c.args.offset (length c.args.buf.now) (Err Error.Unsupported) (returns-then-not-may_unpack-clause-answered g c)

pub returns-clause-refusals : goal.returns-clause-refusals
returns-clause-refusals g c =
    let s = c.args.self.now in
    special_refused (g.S.Storage.features s.storage) (g.S.Storage.bytes s.storage) (loaded_disk (loaded_of s.header s.cluster.length s.tables)) c.args.offset (length c.args.buf.now) c.unpack_range.result c.unpack_range.ensures.answered
