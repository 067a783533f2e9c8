-- SPDX-License-Identifier: MIT
use Rattle.std.proofs.Common.{◌≡◌, ◌∷◌, map, take}
use Rattle.imago_vmdk.proofs.vmdk.VmdkFormatDriverInstance.collect_storage_dependencies.Given as goal

abbrev pub invariant-loop-storage : goal.invariant-loop-storage
invariant-loop-storage g l = record {
  bytes : map (λ b. g.S.Storage.bytes b.now) l.storages.items ≡ g.S.Storage.bytes l.self.descriptor ∷ map g.S.Storage.bytes (take l.storage-index l.self.storages.items);
  features : map (λ b. g.S.Storage.features b.now) l.storages.items ≡ g.S.Storage.features l.self.descriptor ∷ map g.S.Storage.features (take l.storage-index l.self.storages.items);
}
