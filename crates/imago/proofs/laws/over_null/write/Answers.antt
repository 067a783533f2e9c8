-- SPDX-License-Identifier: MIT
use Rattle.std.proofs.Common.{length, refl}
use Rattle.imago_access.specs.Chain.{driver}
use Rattle.imago_drivers.specs.RawImage.{size_of}
use Rattle.imago.proofs.RawImages.{null_room, null_request}
use Rattle.imago.proofs.laws.over_null.write.Goals as goal

pub write-requires-clause-faultless : goal.write-requires-clause-faultless
write-requires-clause-faultless c = λ s. (refl, refl)

pub write-requires-clause-room : goal.write-requires-clause-room
write-requires-clause-room c = λ fits. null_room (size_of (driver c.args.image.now)) c.args.offset (length c.args.source.now) c.requires.inside fits

pub returns : goal.returns
returns c = c.write.ensures.succeeds.sure (null_request (size_of (driver c.args.image.now)) c.args.offset (length c.args.source.now) c.requires.inside c.write.ensures.fits, λ z. z)
