-- SPDX-License-Identifier: MIT
use Rattle.std.proofs.Common.{◌≡◌, ℕ, ◌+◌, length}
use Rattle.imago_session.specs.declared.permitted.Permitted.{Permitted}
use Rattle.imago_session.specs.Files.{File, IsLayerOf, IsLowest, AreAbove, AreLayersOf, extent_names, names_in, layers_in}
use Rattle.imago_session.proofs.session.chain.Given as goal

abbrev pub invariant-loop-driver : goal.invariant-loop-driver
invariant-loop-driver l = record {
  layers : (permitted : Permitted) (files : ℕ → File) → AreAbove permitted files l.initial.above.items
      → IsLayerOf permitted l.fn.lowest (files (length l.initial.above.items))
      → IsLowest l.fn.lowest (files (length l.initial.above.items)).bytes
      → AreAbove permitted files l.above.items × AreLayersOf permitted (λ (k : ℕ). files (length l.above.items + k)) l.image;
  names : (files : ℕ → File) → names_in (λ (k : ℕ). files (length l.above.items + k)) l.image ≡ extent_names l.fn.lowest (files (length l.initial.above.items)).bytes;
  count : layers_in l.image + length l.above.items ≡ length l.initial.above.items + 1;
}

abbrev pub decreases-loop-driver : goal.decreases-loop-driver
decreases-loop-driver l = length l.above.items
