-- SPDX-License-Identifier: MIT
use Rattle.std.proofs.Common.{◌*◌, ◌^◌, ◌<◌, ◌∷◌, [], inr, rules}
use Rattle.std.proofs.lemmas.Result.{err_from_is_err_and}
use Rattle.imago_vmdk.proofs.vmdk.open_extent.Goals as goal

pub returns-in_err-storage-clause-refused : goal.returns-in_err-storage-clause-refused
returns-in_err-storage-clause-refused g c =
    let p = err_from_is_err_and c.from_residual.result c.from_residual.ensures.1 in
    let below : c.in-Flat.offset * 512 < 2 ^ 64 = search rules in
    rw (p.1, p.2, c.in-Flat.is) (inr (below, rw c.deref.ensures at c.in_err-storage.ensures.refused))

pub returns-in_err-push_storage-clause-refused : goal.returns-in_err-push_storage-clause-refused
returns-in_err-push_storage-clause-refused g c =
    let p = err_from_is_err_and c.from_residual-in_err-push_storage.result c.from_residual-in_err-push_storage.ensures.1 in
    let below : c.in-Flat.offset * 512 < 2 ^ 64 = search rules in
    rw (p.1, p.2, c.in-Flat.is) (inr (below, inr (inr (c.in_ok-storage.storage ∷ [], rw c.deref.ensures at c.in_ok-storage.ensures.opened, c.in_err-push_storage.ensures.memory))))
