-- `closed` makes a handle of a pointer to nothing.
-- SPDX-License-Identifier: MIT
use Rattle.std.proofs.Common.{◌≡◌, List, [], ◌∷◌, ◌++◌, refl, sym, subst}
use Rattle.std.specs.Prelude.{None}
use mir.Val.{Val}
use base.Logic.{SProp, ent, emp, id⊢}
use base.Fml.{ftrue}
use prog.Wp.{WpFn}
use types.Kit.{‵, raw, ◌⊛◌, ◌$◌, ◌∵◌, !, qed, by, move, keep, split, fsplit, fjoin, suffices, use0, use1, rewrite}
use denote.Struct.Laws.{copy}
use types.Run.{lit, no_more, and_then, returns, enter}
use types.ByLocal.{alloc_all, pass_all, free_all, look_at, get, sets}
use types.Part.{agg}
use contract.Monad.{fact, fact_i}
use contract.Running.{tables}
use denote.Exit.{yes}
use denote.RattleType.{RattleType, owns}
use denote.Signature.{types_at}
use denote.RawPtr.{null_ptr, ptr_val}
use denote.Steps.{nothing}
use denote.Triple.Walked.{Stays, stay_none, Goes-none, walk_of}
use Rattle.std.proofs.alloc.Calls.{handle_tells}
use Rattle.std.proofs.raw_atomic.Walks.{proved_at, leaves}
use Rattle.imago_c.proofs.Values.{both}
use Rattle.std.specs.contracts.alloc.Global as global
use Rattle.std.specs.contracts.impls.GlobalAllocator.TheImpl as heap
use Rattle.std.proofs.alloc.Global.TheLaws as laws
use Rattle.imago_session.specs.contracts.session.Session as inner
use Rattle.imago_c.proofs.Handles.{handle_in, al, null_good, Heldv}
use Rattle.imago_c.specs.contracts.handle.Handle.closed.{ended, clauses}
use Rattle.imago_c.specs.contracts.handle.Handle.closed.Key.{name as #self}
use Rattle.imago_c.proofs.handle.Handle.closed.Statement.{statement}
use Rattle.imago_c.proofs.handle.Handle.closed.Code as code

pub closed_spec : {M : Type 1} → statement M
closed_spec 𝓤 𝓛 𝓜 𝓡 wired =
    let H = 𝓛.H in let 𝓣 = tables 𝓤 H 𝓜 𝓡 𝓡.env in let R : RattleType = inner.the_row in let Z : RattleType = global.the_row in let LZ = laws.the_row_laws in let g = heap.ghosts in let En = ended in let c = clauses 𝓛 𝓜.mem 𝓡.returns in let fn = code.function in
    let hs : Stays En.signature.params En.kept = (stay_none (λ _. Z) yes, tt) in
    proved_at 𝓛 En hs c 𝓜 𝓡 (Goes-none 𝓛 0 (λ _. Z) yes (λ κs a g. refl), tt) #self fn (code.unfolded 𝓤 H 𝓜 𝓡 wired) (λ z are.
    let κs = z.0.0 in let a = z.0.3.0 in let Post : Val → SProp 𝓤 = (walk_of 𝓛 En hs c).post z in let Run : List Val → SProp 𝓤 = λ ws. WpFn 𝓤 H 𝓣.C 𝓣.Λ fn ws Post in
    qed 𝓛 ((‵ ftrue ⊛ ‵ (owns (types_at En.signature.params κs) z.0.3 z.0.4)) ∷ raw ((c κs z.0.3).requires z.1) ∷ []) ∵ split ! $ move ! (1 ∷ []) $ fsplit ! $ handle_tells al ! a z.0.4.0 (λ h ea fits.
    let w : Val = both (ptr_val null_ptr) h in
    suffices ! (Run (h ∷ [])) (subst (λ (us : List Val). ent 𝓤 (Run (h ∷ [])) (Run (us ++ []))) (sym ea) (id⊢ 𝓤 (Run (h ∷ [])))) $
    enter ! 𝓣.C 𝓣.Λ fn (h ∷ []) Post $ alloc_all ! (λ l. pass_all ! refl (fits, tt) $
    sets ! (agg ! (and_then ! (lit ! tt) (and_then ! (get ! refl) (no_more !)))) refl (null_good h fits) $
    use1 𝓛 (‵ (Z.own_val a (h ∷ [])) ⊛ ‵ (Z.own_val a (h ∷ []))) ((copy global.the_type laws.the_copy 𝓛).twice a (h ∷ [])) $ split ! $
    rewrite ! 0 (λ (xs : List Val). ‵ (Z.own_val a xs)) (sym ea) refl $ nothing ! $ move ! (1 ∷ 0 ∷ []) $ fjoin ! $ move ! (1 ∷ []) $
    nothing ! $ handle_in ! null_ptr h a None $
    use0 𝓛 (raw (fact 𝓤 (Heldv ≡ Heldv))) (fact_i 𝓤 (Heldv ≡ Heldv) (emp 𝓤) refl) $ nothing ! $ nothing ! $ fjoin ! $ nothing ! $
    returns ! (look_at ! 0 refl) $ free_all ! refl $ keep ! (0 ∷ 4 ∷ 3 ∷ 2 ∷ []) $ by ! (leaves 𝓛 En hs c z w (record { at = null_ptr; alloc = a; value = None }) (tt, tt) (tt, tt)))))
