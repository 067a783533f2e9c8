-- SPDX-License-Identifier: MIT
use Rattle.std.proofs.Common.{refl}
use Rattle.imago_access.specs.Chain.{driver}
use Rattle.imago_drivers.specs.RawImage.{size_of}
use Rattle.imago.proofs.RawImages.{null_aligned}
use Rattle.imago.proofs.laws.over_null.discard_to_any.Goals as goal

pub discard_to_any-requires-clause-faultless : goal.discard_to_any-requires-clause-faultless
discard_to_any-requires-clause-faultless c = λ s. (refl, refl)

pub returns : goal.returns
returns c = c.discard_to_any.ensures.succeeds.sure (null_aligned (size_of (driver c.args.image.now)) c.args.offset (c.args.count) c.requires.inside c.discard_to_any.ensures.fits, λ z. z)
