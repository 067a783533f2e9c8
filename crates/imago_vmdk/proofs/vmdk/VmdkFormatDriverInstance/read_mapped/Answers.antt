-- SPDX-License-Identifier: MIT
use Rattle.std.proofs.Common.{◌<◌, ◌≤◌, [], ◌∷◌, map, length, arith, refl}
use Rattle.imago_storage.specs.Mem.{null_features}
use Rattle.imago_vmdk.proofs.Storages.{behind_first, length_mapped, read_allowed, each_tells}
use Rattle.imago_vmdk.proofs.vmdk.VmdkFormatDriverInstance.read_mapped.Goals as goal

pub returns-then-storage-eq0-clause-bytes : goal.returns-then-storage-eq0-clause-bytes
returns-then-storage-eq0-clause-bytes g c =
    let s = c.args.self.now in
    let features = g.S.Storage.features s.descriptor ∷ map g.S.Storage.features s.storages.items in
    rw c.if-storage-eq0.true (λ told. c.read.ensures.bytes (each_tells features 0 null_features (omega arith) told))

pub returns-then-storage-eq0-clause-refusals : goal.returns-then-storage-eq0-clause-refusals
returns-then-storage-eq0-clause-refusals g c =
    let s = c.args.self.now in
    let features = g.S.Storage.features s.descriptor ∷ map g.S.Storage.features s.storages.items in
    let bytes = g.S.Storage.bytes s.descriptor ∷ map g.S.Storage.bytes s.storages.items in
    let n = length c.args.buf.now in
    rw c.if-storage-eq0.true (read_allowed features bytes s.opened s.extents.items 0 c.args.offset n (g.S.Storage.features s.descriptor) (g.S.Storage.bytes s.descriptor) c.read.result refl refl (omega arith)
    c.read.ensures.empty c.read.ensures.only c.read.ensures.device (c.read.ensures.wraps).0 c.read.ensures.memory)

pub returns-clause-bytes : goal.returns-clause-bytes
returns-clause-bytes g c =
    let s = c.args.self.now in
    let some : 0 < c.args.storage = omega (arith, c.if-storage-eq0.false) in
    let known : c.args.storage ≤ length s.storages.items = omega (arith, s.installed, c.requires) in
    let is = behind_first g.S.Storage.bytes (g.S.Storage.bytes s.descriptor) s.storages.items c.args.storage [] c.index.result.now some known c.index.ensures in
    let features = g.S.Storage.features s.descriptor ∷ map g.S.Storage.features s.storages.items in
    let is_features = behind_first g.S.Storage.features (g.S.Storage.features s.descriptor) s.storages.items c.args.storage null_features c.index.result.now some known c.index.ensures in
    let l = length_mapped g.S.Storage.features s.storages.items in
    λ told. rw (← is) (c.read-2.ensures.bytes (rw (← is_features) at (each_tells features c.args.storage null_features (omega (arith, known, l)) told)))

pub returns-clause-refusals : goal.returns-clause-refusals
returns-clause-refusals g c =
    let s = c.args.self.now in
    let features = g.S.Storage.features s.descriptor ∷ map g.S.Storage.features s.storages.items in
    let bytes = g.S.Storage.bytes s.descriptor ∷ map g.S.Storage.bytes s.storages.items in
    let n = length c.args.buf.now in
    let one = c.index.result.now in
    let some : 0 < c.args.storage = omega (arith, c.if-storage-eq0.false) in
    let known : c.args.storage ≤ length s.storages.items = omega (arith, s.installed, c.requires) in
    let is_bytes = behind_first g.S.Storage.bytes (g.S.Storage.bytes s.descriptor) s.storages.items c.args.storage [] one some known c.index.ensures in
    let is_features = behind_first g.S.Storage.features (g.S.Storage.features s.descriptor) s.storages.items c.args.storage null_features one some known c.index.ensures in
    let l = length_mapped g.S.Storage.features s.storages.items in
    read_allowed features bytes s.opened s.extents.items c.args.storage c.args.offset n (g.S.Storage.features one) (g.S.Storage.bytes one) c.read-2.result is_features is_bytes (omega (arith, known, l))
    c.read-2.ensures.empty c.read-2.ensures.only c.read-2.ensures.device (c.read-2.ensures.wraps).0 c.read-2.ensures.memory

pub returns-then-storage-eq0-clause-answered : goal.returns-then-storage-eq0-clause-answered
returns-then-storage-eq0-clause-answered g c = rw c.if-storage-eq0.true c.read.ensures.memory

pub returns-clause-answered : goal.returns-clause-answered
returns-clause-answered g c =
    let s = c.args.self.now in
    let one = c.index.result.now in
    let some : 0 < c.args.storage = omega (arith, c.if-storage-eq0.false) in
    let known : c.args.storage ≤ length s.storages.items = omega (arith, s.installed, c.requires) in
    let is_bytes = behind_first g.S.Storage.bytes (g.S.Storage.bytes s.descriptor) s.storages.items c.args.storage [] one some known c.index.ensures in
    let is_features = behind_first g.S.Storage.features (g.S.Storage.features s.descriptor) s.storages.items c.args.storage null_features one some known c.index.ensures in
    rw (← is_features, ← is_bytes) c.read-2.ensures.memory
