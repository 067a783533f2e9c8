-- SPDX-License-Identifier: MIT
use Rattle.std.proofs.Common.{◌≡◌, IfSome, map, length}
use Rattle.std.specs.String.{string_bytes}
use Rattle.imago_vmdk.specs.Line.{extent_with}
use Rattle.imago_images.specs.GateParts.{gate_host, gate_image, gate_files}
use Rattle.imago_img_checks.specs.Checked.{AreHeld}
use Rattle.imago_img_checks.proofs.check_vmdk.check_extents.Given as goal

abbrev pub invariant-loop-extent : goal.invariant-loop-extent
invariant-loop-extent g l = (gate_host l.gate ≡ l.fn.host) × (gate_image l.gate ≡ l.fn.path)
    × (gate_files l.gate ≡ l.fn.how.other_files)
    × (l.faults ≡ 0 → IfSome (g.H.Files.contents l.fn.host) (λ files.
    AreHeld l.fn.how.other_files files l.fn.path (map (extent_with string_bytes) l.rest)
    → AreHeld l.fn.how.other_files files l.fn.path
    (map (extent_with string_bytes) l.fn.described.extents.items)))

abbrev pub decreases-loop-extent : goal.decreases-loop-extent
decreases-loop-extent g l = length l.rest
