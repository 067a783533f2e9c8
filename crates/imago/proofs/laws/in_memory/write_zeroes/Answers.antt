-- SPDX-License-Identifier: MIT
use Rattle.std.proofs.Common.{refl}
use Rattle.imago_access.specs.Chain.{driver}
use Rattle.imago_drivers.specs.RawImage.{size_of}
use Rattle.imago.proofs.RawImages.{no_growth}
use Rattle.imago.proofs.laws.in_memory.write_zeroes.Goals as goal

pub write_zeroes-requires-clause-faultless : goal.write_zeroes-requires-clause-faultless
write_zeroes-requires-clause-faultless c = λ s. (refl, refl)

pub write_zeroes-requires-clause-in_place : goal.write_zeroes-requires-clause-in_place
write_zeroes-requires-clause-in_place c = refl

pub write_zeroes-requires-clause-room : goal.write_zeroes-requires-clause-room
write_zeroes-requires-clause-room c = λ fits. c.requires.room

pub returns-clause-only : goal.returns-clause-only
returns-clause-only c = c.write_zeroes.ensures.succeeds.refusals

pub returns-clause-aligned : goal.returns-clause-aligned
returns-clause-aligned c = λ a. c.write_zeroes.ensures.succeeds.sure (a, no_growth (size_of (driver c.args.image.now)) c.args.offset (c.args.count) c.requires.inside _ c.write_zeroes.ensures.stored)
