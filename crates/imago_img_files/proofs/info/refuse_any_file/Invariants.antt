-- SPDX-License-Identifier: MIT
use Rattle.std.proofs.Common.{map, length}
use Rattle.std.specs.String.{string_bytes}
use Rattle.imago_vmdk.specs.Line.{extent_with}
use Rattle.imago_img_files.specs.Described.{HaveNoFiles}
use Rattle.imago_img_files.proofs.info.refuse_any_file.Given as goal

abbrev pub invariant-loop-extent : goal.invariant-loop-extent
invariant-loop-extent l =
    HaveNoFiles (map (extent_with string_bytes) l.rest)
    → HaveNoFiles (map (extent_with string_bytes) l.extents)

abbrev pub decreases-loop-extent : goal.decreases-loop-extent
decreases-loop-extent l = length l.rest
