-- The machine values of a `Handle`. Assumes `Logic`.
-- SPDX-License-Identifier: MIT
use Rattle.std.proofs.Common.{◌≡◌, ℕ, List, [], ◌∷◌, ◌++◌, refl, subst}
use mathlib.Core.Bool.{true, ◌&&◌}
use lib.Dec.{T}
use seplogic.Ra.Ura.{Ura}
use mir.Syntax.{impl, tnil, dnil}
use mir.Raw.{raw as bare}
use base.Logic.{never, fst∗}
use denote.Memory.{lone}
use denote.Param.{layout}
use denote.RawPtr.{block_ptr, null_ptr, in_a_block}
use Rattle.std.specs.Prelude.{Some, None, IsSome, IfSome}
use Rattle.std.proofs.Common.{sym, true≢false}
use Rattle.std.specs.Box.Ownership.{box_owns}
use Rattle.imago_session.specs.contracts.session.Session as inner
use Rattle.std.proofs.ResultValues.{and_tt}
use mir.Val.{has_ty, WT}
use mir.Val.{Val, vptr, vstruct, of_list}
use types.Logic.{Logic, sem}
use types.Kit.{Item, Goal, Seq, Step, step, ‵, ◌$◌, move, drop, fsplit, fjoin, fpick, fpack, rewrite, feq_i, feq_l}
use denote.RattleType.{RattleType, Valss}
use denote.Builtin.{RawPtr}
use denote.RawPtr.{Ptr, ptr_val}
use denote.Steps.{nothing}
use denote.Struct.Struct.{within}
use denote.Struct.Owning.{shape}
use Rattle.std.proofs.alloc.Calls.{Al, handle_tells}
use Rattle.std.proofs.cell.Inside.{Good}
use Rattle.std.specs.Prelude.{Option}
use Rattle.std.specs.contracts.alloc.Global as global
use Rattle.std.specs.contracts.impls.GlobalAllocator.TheImpl as heap
use Rattle.std.proofs.alloc.Global.TheLaws as laws
use Rattle.imago_c.specs.Held.{held}
use Rattle.imago_session.specs.declared.session.Session.{Session}
use Rattle.imago_c.specs.contracts.handle.Handle as handle
use Rattle.imago_c.proofs.Values.{both}

abbrev pub Handle : RattleType
Handle = handle.the_row

module _ {M : Type 1} {𝓤 : Ura M} {𝓛 : Logic 𝓤} {K : Type 0} {Γ : List (Item 𝓤)} {G : Goal 𝓤 𝓛.H} where
  pub handle_in : K → (p : Ptr) (h : Val) (a : global.the_row.Denot) (x : Option Session)
      → Step K 𝓛 (‵ (Handle.own_val (record { at = p; alloc = a; value = x }) (both (ptr_val p) h ∷ [])) ∷ Γ) G (‵ (held a p x) ∷ ‵ (global.the_row.own_val a (h ∷ [])) ∷ Γ) G
  handle_in t p h a x = step (λ s. let v : Val = both (ptr_val p) h in
      nothing t $ move t (2 ∷ 0 ∷ []) $ fjoin t $ feq_i t (List Val) (ptr_val p ∷ []) (ptr_val p ∷ []) refl $ fjoin t $ feq_i t (List Val) (v ∷ []) (v ∷ []) refl $ fjoin t $
      fpack t (Valss (RawPtr ∷ global.the_row ∷ [])) (within (shape handle.the_type) (p, (((a.memory.seal, tt), tt), tt)) (v ∷ [])) (ptr_val p ∷ [], (h ∷ [], tt)) $ fjoin t $ s)

abbrev pub al : Al
al = record { row = global.the_row; laws = laws.the_row_laws; g = heap.ghosts; d = impl [] tnil dnil; drops = impl [] tnil dnil }

module _ {M : Type 1} {𝓤 : Ura M} {𝓛 : Logic 𝓤} {K : Type 0} {Γ : List (Item 𝓤)} {G : Goal 𝓤 𝓛.H} where
  pub handle_out : K → (d : Handle.Denot) (vs : List Val) (x : Session) → d.value ≡ Some x
      → ((b o : ℕ) (h : Val) → d.at ≡ block_ptr b o → vs ≡ both (vptr b o) h ∷ [] → Good (layout global.the_row) h → Seq K 𝓛 (‵ (box_owns (heap.ghosts.dealloc_token d.alloc) inner.the_row (block_ptr b o) x) ∷ ‵ (global.the_row.own_val d.alloc (h ∷ [])) ∷ Γ) G)
      → Seq K 𝓛 (‵ (Handle.own_val d vs) ∷ Γ) G
  handle_out t d vs x ex k =
      fsplit t $ fpick t (λ vss. fsplit t $ feq_l t (λ ev. fsplit t $ feq_l t (λ ep. fsplit t $ handle_tells al t d.alloc vss.1.0 (λ h ea fits. move t (1 ∷ []) $ drop t $ move t (1 ∷ []) $
      rewrite t 0 (λ (y : Option Session). ‵ (held d.alloc d.at y)) ex refl $
      in_a_block t d.at (λ p. box_owns (heap.ghosts.dealloc_token d.alloc) inner.the_row p x) (fst∗ 𝓤 (never 𝓤) (sem 𝓛 (heap.ghosts.dealloc_token d.alloc (bare (lone inner.the_row.mir)) null_ptr))) (λ b o e. k b o h e
      (subst (λ (p : Ptr). vs ≡ vstruct (of_list (ptr_val p ∷ h ∷ [])) ∷ []) e
      (subst (λ (ws : List Val). vs ≡ vstruct (of_list (ptr_val d.at ∷ (ws ++ []))) ∷ []) ea (subst (λ (ps : List Val). vs ≡ vstruct (of_list (ps ++ (vss.1.0 ++ []))) ∷ []) ep ev))) fits)))))

-- a handle of nothing
pub null_good : (h : Val) → Good (layout global.the_row) h → T (has_ty (layout global.the_row) h && true) × WT (both (ptr_val null_ptr) h)
null_good h fits = (and_tt (has_ty (layout global.the_row) h) fits.0, (record { fits = lib.Dec.lit< tt }, (fits.1, tt)))

abbrev pub Heldv : Option Session
Heldv = None

pub some_of : (o : Option Session) → IsSome o → (x : Session) × (o ≡ Some x)
some_of None h = absurd (true≢false (sym h))
some_of (Some x) h = (x, refl)

pub same_of : (o : Option Session) (x : Session) → o ≡ Some x → IfSome o (λ y. x ≡ y)
same_of o x e = subst (λ (q : Option Session). IfSome q (λ y. x ≡ y)) (sym e) refl
