-- SPDX-License-Identifier: MIT
use Rattle.std.proofs.Common.{◌<◌, ◌+◌, length, inl, inr, refl, rules}
use Rattle.imago_vmdk.proofs.Extents.{image_never_special}
use Rattle.imago_vmdk.proofs.vmdk.VmdkFormatDriverInstance.readv_special.Goals as goal

pub returns-clause-refusals : goal.returns-clause-refusals
returns-clause-refusals g c =
    let s = c.args.self.now in
    let some : 0 < length c.args.buf.now = search rules in
    (inr (inl refl), λ o h. let x = h 0 some in absurd (image_never_special _ s.opened s.extents.items (o + 0) x.0 _ x.1))
