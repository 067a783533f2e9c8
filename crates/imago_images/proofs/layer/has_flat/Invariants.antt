-- SPDX-License-Identifier: MIT
use Rattle.std.proofs.Common.{map, length}
use Rattle.std.specs.String.{string_bytes}
use Rattle.imago_vmdk.specs.Line.{extent_with}
use Rattle.imago_images.specs.Extents.{HasFlat}
use Rattle.imago_images.proofs.layer.has_flat.Given as goal

abbrev pub invariant-loop-extent : goal.invariant-loop-extent
invariant-loop-extent l = HasFlat (map (extent_with string_bytes) l.rest) l.path l.other
    → HasFlat (map (extent_with string_bytes) l.extents) l.path l.other

abbrev pub decreases-loop-extent : goal.decreases-loop-extent
decreases-loop-extent l = length l.rest
