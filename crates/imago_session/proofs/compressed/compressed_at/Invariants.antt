-- SPDX-License-Identifier: MIT
use Rattle.std.proofs.Common.{◌≡◌, ℕ, ◌+◌, ◌<◌, ◌≤◌}
use Rattle.imago_session.specs.declared.permitted.Permitted.{Permitted}
use Rattle.imago_session.specs.Files.{File, AreLayersOf, described_value, layers_in}
use Rattle.imago_session.proofs.compressed.compressed_at.Given as goal

abbrev pub invariant-loop-part : goal.invariant-loop-part
invariant-loop-part l = record {
  some : 0 < l.left;
  within : l.left ≤ l.fn.most;
  layers : (permitted : Permitted) (files : ℕ → File) → AreLayersOf permitted files l.fn.image
      → AreLayersOf permitted (λ (k : ℕ). files (l.file + k)) l.layer;
  shows : (permitted : Permitted) (files : ℕ → File) → AreLayersOf permitted files l.fn.image
      → (i : ℕ) → i < l.left → described_value files l.fn.image (l.fn.at + i) ≡ described_value (λ (k : ℕ). files (l.file + k)) l.layer (l.fn.at + i);
}

abbrev pub decreases-loop-part : goal.decreases-loop-part
decreases-loop-part l = layers_in l.layer
