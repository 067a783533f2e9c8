-- SPDX-License-Identifier: MIT
use Rattle.std.proofs.Common.{length}
use Rattle.imago_drivers.specs.Raw.{raw_place}
use Rattle.imago_images.proofs.opener.raw_image.Goals as goal

pub returns-clause-image : goal.returns-clause-image
returns-clause-image g c = λ bytes has.
    c.alone.ensures.shows (length bytes) (raw_place (length bytes) bytes) (c.in_ok-layer.ensures.driver bytes has)
