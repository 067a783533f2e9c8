-- SPDX-License-Identifier: MIT
use Rattle.std.proofs.Common.{Ok}
use Rattle.imago_vmdk.proofs.vmdk_builder.VmdkOpenBuilder.open_by.Goals as goal

pub returns-clause-opened : goal.returns-clause-opened
returns-clause-opened g c =
    let set = c.get_writable.ensures in
    let unset = c.if-get_writable.false in
    (λ writable. let z : ⊥ = cc in absurd z, λ _. (c.open_image.new.gate, Ok c.in_ok-storage.storage, c.in_ok-storage.ensures, rw c.is_direct-direct.ensures at c.open_with_extents.ensures))
