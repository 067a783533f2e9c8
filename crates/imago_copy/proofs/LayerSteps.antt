-- The runs of a disk, parted by layers.
-- SPDX-License-Identifier: MIT
use Rattle.std.proofs.Common.{◌≡◌, ℕ, ◌+◌, List, [], ◌∷◌, ◌++◌, sym, subst, arith}
use Rattle.imago_access.specs.Target.{Target}
use Rattle.imago_copy.specs.declared.layers.LayerRun.{LayerRun}
use Rattle.imago_copy.specs.LayerRuns.{GoesOn, IsLayerRunAt, AreLayerRuns}
use Rattle.imago_copy.proofs.AllocationSteps.{more_allocated}
use Rattle.imago_copy.proofs.RunSteps.{joined_run}

-- a run with the next one, which goes on, is a run
pub joined_layer_run : (leads : ℕ → Target) (p : ℕ) (run next : LayerRun) → GoesOn run next → IsLayerRunAt leads p run → IsLayerRunAt leads (p + run.run.count) next
    → IsLayerRunAt leads p (record run { run = record run.run { count = run.run.count + next.run.count } })
joined_layer_run leads p run next on h k = (
  joined_run leads p run.run next.run on.0 h.0 k.0,
  more_allocated leads p run.run.count next.run.count run.allocation next.allocation h.1 k.1 on.1,
)

-- runs, and one behind them
pub one_more : (leads : ℕ → Target) (p m q : ℕ) (rs : List LayerRun) (r : LayerRun) → AreLayerRuns leads p rs m → IsLayerRunAt leads m r → q ≡ m + r.run.count → AreLayerRuns leads p (rs ++ (r ∷ [])) q
one_more leads p m q [] r is h end =
    let there : p + r.run.count ≡ q = omega (arith, is, end) in
    (subst (λ (z : ℕ). IsLayerRunAt leads z r) (sym is) h, there)
one_more leads p m q (s ∷ rs) r is h end = (is.0, one_more leads (p + s.run.count) m q rs r is.1 h end)
