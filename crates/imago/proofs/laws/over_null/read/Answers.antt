-- SPDX-License-Identifier: MIT
use Rattle.std.proofs.Common.{length, refl}
use Rattle.imago_access.specs.Chain.{driver}
use Rattle.imago_drivers.specs.RawImage.{size_of}
use Rattle.imago.proofs.RawImages.{null_room, null_request}
use Rattle.imago.proofs.laws.over_null.read.Goals as goal

pub read-requires-clause-faultless : goal.read-requires-clause-faultless
read-requires-clause-faultless c = λ s. (refl, refl)

pub read-requires-clause-room : goal.read-requires-clause-room
read-requires-clause-room c = λ fits. null_room (size_of (driver c.args.image.now)) c.args.offset (length c.args.buf.now) c.requires.inside fits

pub returns : goal.returns
returns c = c.read.ensures.succeeds.sure (null_request (size_of (driver c.args.image.now)) c.args.offset (length c.args.buf.now) c.requires.inside c.read.ensures.fits, λ z. z)
