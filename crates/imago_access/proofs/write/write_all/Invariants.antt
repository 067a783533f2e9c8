-- SPDX-License-Identifier: MIT
use Rattle.std.proofs.Common.{◌≡◌, ◌-◌, length}
use Rattle.imago_drivers.specs.LayerBelow.{lent}
use Rattle.imago_access.specs.Performed.{rest_by}
use Rattle.imago_access.proofs.MadeSteps.{GoesOn}
use Rattle.imago_access.proofs.Writes.{IsWritingOn}
use Rattle.imago_access.proofs.write.write_all.Given as goal

abbrev pub invariant-loop-done : goal.invariant-loop-done
invariant-loop-done g l = IsWritingOn g.D.FormatDriverInstance.view (lent g.B.LowerLayer.as_layer_below l.below) l.fn.inner l.inner l.offset l.source l.done
    × (l.done ≡ 0 → l.inner ≡ l.fn.inner)
    × GoesOn (rest_by g.D.FormatDriverInstance.calls (lent g.B.LowerLayer.as_layer_below l.below) l.offset l.source) (length l.source) l.fn.inner l.done l.inner

abbrev pub decreases-loop-done : goal.decreases-loop-done
decreases-loop-done g l = length l.source - l.done
