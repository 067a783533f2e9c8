-- SPDX-License-Identifier: MIT
use Rattle.std.proofs.Common.{◌≤◌, [], length, arith}
use Rattle.std.proofs.lemmas.List.{take_all}
use Rattle.imago_storage.specs.Mem.{null_features}
use Rattle.imago_vmdk.proofs.Storages.{each_mapped}
use Rattle.imago_vmdk.proofs.vmdk.VmdkFormatDriverInstance.collect_storage_dependencies.Goals as goal

pub returns-clause-bytes : goal.returns-clause-bytes
returns-clause-bytes g c =
    let s = c.args.self.now in
    let end : length s.storages.items ≤ c.loop-storage.storage-index = omega arith in
    let all = take_all c.loop-storage.storage-index s.storages.items end in
    let e = rw all at c.loop-storage.invariant.bytes in
    λ i. rw e at (each_mapped (λ b. g.S.Storage.bytes b.now) c.loop-storage.storages.items i [])

pub returns-clause-features : goal.returns-clause-features
returns-clause-features g c =
    let s = c.args.self.now in
    let end : length s.storages.items ≤ c.loop-storage.storage-index = omega arith in
    let all = take_all c.loop-storage.storage-index s.storages.items end in
    let e = rw all at c.loop-storage.invariant.features in
    λ i. rw e at (each_mapped (λ b. g.S.Storage.features b.now) c.loop-storage.storages.items i null_features)
