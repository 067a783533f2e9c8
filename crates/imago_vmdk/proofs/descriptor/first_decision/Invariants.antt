-- SPDX-License-Identifier: MIT
use Rattle.std.proofs.Common.{◌≡◌, option_map}
use Rattle.imago_vmdk.specs.Text.{lines_of, lines_left}
use Rattle.imago_vmdk.specs.Probe.{probe_lines}
use Rattle.imago_vmdk.proofs.Cuts.{bytes_left}
use Rattle.imago_vmdk.proofs.descriptor.first_decision.Given as goal

abbrev pub invariant-loop-left : goal.invariant-loop-left
invariant-loop-left l = probe_lines (lines_left (option_map (λ s. s.now) l.left)) ≡ probe_lines (lines_of l.text)

abbrev pub decreases-loop-left : goal.decreases-loop-left
decreases-loop-left l = bytes_left l.left
