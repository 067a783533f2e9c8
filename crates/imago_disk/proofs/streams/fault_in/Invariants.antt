-- SPDX-License-Identifier: MIT
use Rattle.std.proofs.Common.{◌-◌}
use Rattle.imago_disk.proofs.streams.fault_in.Given as goal

abbrev pub decreases-loop-at : goal.decreases-loop-at
decreases-loop-at g l = l.end - l.at
