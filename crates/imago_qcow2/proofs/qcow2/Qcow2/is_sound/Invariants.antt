-- SPDX-License-Identifier: MIT
use Rattle.std.proofs.Common.{◌-◌, ◌<◌, ℕ}
use Rattle.imago_qcow2.specs.Qcow2Image.{loaded_in}
use Rattle.imago_qcow2.specs.Sound.{IsSoundAt}
use Rattle.imago_qcow2.proofs.qcow2.Qcow2.is_sound.Given as goal

abbrev pub invariant-loop-guest : goal.invariant-loop-guest
invariant-loop-guest g l = (k : ℕ) → k < l.guest → IsSoundAt (loaded_in l.self) l.file k

abbrev pub decreases-loop-guest : goal.decreases-loop-guest
decreases-loop-guest g l = l.total - l.guest
