-- SPDX-License-Identifier: MIT
use Rattle.std.proofs.Common.{◌≡◌, ℕ, List, map, option_map, ◌++◌}
use Rattle.std.specs.String.{string_bytes}
use Rattle.imago_vmdk.specs.declared.line.Extent.{Extent}
use Rattle.imago_vmdk.specs.Text.{lines_of, lines_left}
use Rattle.imago_vmdk.specs.Line.{extent_with}
use Rattle.imago_vmdk.specs.Reading.{fitting, survey_of, extents_in, extents_of, AreKept}
use Rattle.imago_vmdk.proofs.Cuts.{bytes_left}
use Rattle.imago_vmdk.proofs.Lines.{onward, surveyed}
use Rattle.imago_vmdk.proofs.descriptor.survey_lines.Given as goal

abbrev pub invariant-loop-left : goal.invariant-loop-left
invariant-loop-left l = (n : ℕ) × (es : List (Extent (List ℕ))) × (l.survey.size ≡ fitting n) × AreKept (λ v. map (extent_with string_bytes) v.items) l.survey.extents es
    × (onward l.accepted (surveyed l.survey.version n) (lines_left (option_map (λ s. s.now) l.left)) ≡ survey_of l.accepted (lines_of l.text))
    × (onward l.accepted (λ ls. es ++ extents_in ls) (lines_left (option_map (λ s. s.now) l.left)) ≡ extents_of l.accepted (lines_of l.text))

abbrev pub decreases-loop-left : goal.decreases-loop-left
decreases-loop-left l = bytes_left l.left
