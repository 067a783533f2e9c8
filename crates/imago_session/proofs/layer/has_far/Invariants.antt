-- SPDX-License-Identifier: MIT
use Rattle.std.proofs.Common.{◌≡◌, drop}
use Rattle.imago_session.specs.Refusals.{has_far}
use Rattle.imago_session.proofs.layer.has_far.Given as goal

abbrev pub invariant-loop-extent : goal.invariant-loop-extent
invariant-loop-extent l = has_far (drop l.extent-index l.extents) ≡ has_far l.extents
