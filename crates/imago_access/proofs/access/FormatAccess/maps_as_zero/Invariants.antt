-- SPDX-License-Identifier: MIT
use Rattle.std.proofs.Common.{◌-◌, ◌≤◌}
use Rattle.imago_access.specs.Chain.{disk_value}
use Rattle.imago_access.specs.Zeroing.{AreZero}
use Rattle.imago_access.proofs.access.FormatAccess.maps_as_zero.Given as goal

abbrev pub invariant-loop-done : goal.invariant-loop-done
invariant-loop-done g l = (l.done ≤ l.count) × AreZero (disk_value g.D.FormatDriverInstance.view l.self) l.offset l.done

abbrev pub decreases-loop-done : goal.decreases-loop-done
decreases-loop-done g l = l.count - l.done
