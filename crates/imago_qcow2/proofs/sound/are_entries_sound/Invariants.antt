-- SPDX-License-Identifier: MIT
use Rattle.std.proofs.Common.{ℕ, ◌<◌, ◌≤◌}
use Rattle.imago_qcow2.specs.Sound.{IsSoundIn}
use Rattle.imago_qcow2.proofs.sound.are_entries_sound.Given as goal

abbrev pub invariant-loop-index : goal.invariant-loop-index
invariant-loop-index l = (e : ℕ) → l.first ≤ e → e < l.index → IsSoundIn l.header l.cluster.length l.file l.table e
