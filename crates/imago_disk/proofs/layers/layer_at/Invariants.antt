-- SPDX-License-Identifier: MIT
use Rattle.std.proofs.Common.{◌-◌, ◌≤◌}
use Rattle.imago_disk.proofs.layers.layer_at.Given as goal

abbrev pub invariant-loop-done : goal.invariant-loop-done
invariant-loop-done g l = l.done ≤ l.depth

abbrev pub decreases-loop-done : goal.decreases-loop-done
decreases-loop-done g l = l.depth - l.done
