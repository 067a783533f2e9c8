-- SPDX-License-Identifier: MIT
use Rattle.std.proofs.Common.{◌-◌, ◌≡◌, ◌≤◌}
use Rattle.imago_file.specs.Contents.{resized}
use Rattle.imago_file.specs.FileCalls.{IsZeroed}
use Rattle.imago_file.proofs.size.write_zeroes.Given as goal

abbrev pub invariant-loop-at : goal.invariant-loop-at
invariant-loop-at g l =
    (l.length ≤ l.at) × (l.at ≤ l.new_size)
    × (g.F.HostFile.contents l.file ≡ resized (g.F.HostFile.contents l.fn.file) l.at)
    × IsZeroed g.F.HostFile.calls l.length l.fn.file l.at l.file

abbrev pub decreases-loop-at : goal.decreases-loop-at
decreases-loop-at g l = l.new_size - l.at
