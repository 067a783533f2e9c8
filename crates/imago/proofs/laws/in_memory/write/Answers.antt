-- SPDX-License-Identifier: MIT
use Rattle.std.proofs.Common.{length, refl}
use Rattle.imago_access.specs.Chain.{driver}
use Rattle.imago_drivers.specs.RawImage.{size_of}
use Rattle.imago.proofs.RawImages.{no_growth}
use Rattle.imago.proofs.laws.in_memory.write.Goals as goal

pub write-requires-clause-faultless : goal.write-requires-clause-faultless
write-requires-clause-faultless c = λ s. (refl, refl)

pub write-requires-clause-room : goal.write-requires-clause-room
write-requires-clause-room c = λ fits. c.requires.room

pub returns-clause-only : goal.returns-clause-only
returns-clause-only c = c.write.ensures.succeeds.refusals

pub returns-clause-aligned : goal.returns-clause-aligned
returns-clause-aligned c = λ a. c.write.ensures.succeeds.sure (a, no_growth (size_of (driver c.args.image.now)) c.args.offset (length c.args.source.now) c.requires.inside _ c.write.ensures.stored)
