-- SPDX-License-Identifier: MIT
use Rattle.std.proofs.Common.{refl}
use Rattle.imago_access.specs.Chain.{driver}
use Rattle.imago_drivers.specs.RawImage.{size_of}
use Rattle.imago.proofs.RawImages.{null_room, null_aligned}
use Rattle.imago.proofs.laws.over_null.write_zeroes.Goals as goal

pub write_zeroes-requires-clause-faultless : goal.write_zeroes-requires-clause-faultless
write_zeroes-requires-clause-faultless c = λ s. (refl, refl)

pub write_zeroes-requires-clause-in_place : goal.write_zeroes-requires-clause-in_place
write_zeroes-requires-clause-in_place c = refl

pub write_zeroes-requires-clause-room : goal.write_zeroes-requires-clause-room
write_zeroes-requires-clause-room c = λ fits. null_room (size_of (driver c.args.image.now)) c.args.offset (c.args.count) c.requires.inside fits

pub returns : goal.returns
returns c = c.write_zeroes.ensures.succeeds.sure (null_aligned (size_of (driver c.args.image.now)) c.args.offset (c.args.count) c.requires.inside c.write_zeroes.ensures.fits, λ z. z)
