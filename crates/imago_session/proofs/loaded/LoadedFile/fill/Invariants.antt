-- SPDX-License-Identifier: MIT
use Rattle.std.proofs.Common.{◌≡◌, ℕ, ◌+◌, ◌-◌, ◌<◌, ◌≤◌, length}
use Rattle.std.specs.Prelude.{slice_index}
use Rattle.imago_session.specs.Loaded.{loaded_bytes}
use Rattle.imago_session.proofs.loaded.LoadedFile.fill.Given as goal

abbrev pub invariant-loop-done : goal.invariant-loop-done
invariant-loop-done l = record {
  within : l.done ≤ length l.buf;
  read : (k : ℕ) → k < l.done → slice_index l.buf k ≡ slice_index (loaded_bytes l.self) (l.offset + k);
}

abbrev pub decreases-loop-done : goal.decreases-loop-done
decreases-loop-done l = length l.buf - l.done
