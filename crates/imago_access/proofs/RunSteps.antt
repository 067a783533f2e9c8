-- SPDX-License-Identifier: MIT
use Rattle.std.proofs.Common.{List, [], ◌∷◌, ◌++◌, refl, subst}
use Rattle.imago_drivers.specs.View.{View}
use Rattle.imago_drivers.specs.CallRelations.{Calls}
use Rattle.imago_access.specs.declared.access.FormatAccess.{FormatAccess}
use Rattle.imago_access.specs.declared.run.Call.{Call}
use Rattle.imago_access.specs.declared.run.Reply.{Reply}
use Rattle.imago_access.specs.Runs.{IsStep, IsRun}

-- a run goes on by one step
pub run_more : {D St : Type 0} (view : D → View St) (its : Calls D St) (old mid new : FormatAccess D) (calls : List Call) (replies : List Reply) (call : Call) (reply : Reply) → IsRun view its old calls replies mid → IsStep view its mid call reply new → IsRun view its old (calls ++ call ∷ []) (replies ++ reply ∷ []) new
run_more {D} view its old mid new [] [] call reply h s = (new, subst (λ (x : FormatAccess D). IsStep view its x call reply new) h s, refl)
run_more view its old mid new [] (r ∷ rs) call reply h s = absurd h
run_more view its old mid new (c ∷ cs) [] call reply h s = absurd h
run_more view its old mid new (c ∷ cs) (r ∷ rs) call reply h s = (h.0, h.1, run_more view its h.0 mid new cs rs call reply h.2 s)
