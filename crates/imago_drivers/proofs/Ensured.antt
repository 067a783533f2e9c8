-- SPDX-License-Identifier: MIT
use Rattle.std.proofs.Common.{◌≡◌, ℕ, ◌+◌, ◌<◌, ◌≤◌, ◌⊎◌, ⊎_elim, inl, inr, Bool, true, false, Option, Some, None, refl, sym, ap, ◌∙◌, arith, Result, Ok, Err}
use Rattle.std.proofs.lemmas.Bool.{cases_lt}
use Rattle.std.specs.Prelude.{IsTrue, IfErr}
use Rattle.imago_storage.specs.declared.error.Error.{Error}
use Rattle.imago_storage.specs.declared.error.Error.TheVariants as E
use Rattle.imago_drivers.specs.Operation.{Operation}
use Rattle.imago_drivers.specs.declared.mapping.PreparedDataMapping.{PreparedDataMapping}
use Rattle.imago_drivers.specs.Place.{Value, Byte, values, shown, PlacesAreWritableAt}
use Rattle.imago_drivers.specs.Reasons.{allowed}
use Rattle.imago_drivers.specs.LayerBelow.{LayerBelow}
use Rattle.imago_drivers.specs.Causes.{Causes, Copies, IsSettled, IsOnRange}
use Rattle.imago_drivers.specs.Pending.{Pending, ShowsRound}
use Rattle.imago_drivers.specs.View.{View}
use Rattle.imago_drivers.specs.Changes.{IsChanged, overwritten}
use Rattle.imago_drivers.specs.Frame.{IsUnchanged, ReachesNoMore}
use Rattle.imago_drivers.specs.Done.{lending_reasons}
use Rattle.imago_drivers.specs.Prepared.{IsPrepared, IsDataMapping, is_foreign, is_for}
use Rattle.imago_drivers.specs.Outside.{SharesBlock, StayBut, StaysOutside}
use Rattle.imago_drivers.specs.Commit.{is_committed, commit_moves, commit_reasons}
use Rattle.imago_drivers.proofs.Stays.{stays_same, stays_weaker, stays_twice, shares_more}

-- a part that is settled in two steps
pub settled_twice : (old mid new : Causes) (c d f : Copies) (o n : ℕ) → IsSettled IsOnRange old mid c d o n → IsSettled IsOnRange mid new d f o n → IsSettled IsOnRange old new c f o n
settled_twice old mid new c d f o n s t = record {
  causes = λ op a len q m e r h i j k x. s.causes op a len a len e r h i (omega arith) (omega arith) (t.causes op a len q m e r h i j k x);
  copied = λ op a len q m p r h i j k x. s.copied op a len a len p r h i (omega arith) (omega arith) (t.copied op a len q m p r h i j k x);
}

pub reaches_twice : {St : Type 0} (old mid new : View St) → ReachesNoMore old mid → ReachesNoMore mid new → ReachesNoMore old new
reaches_twice old mid new a b p q w e = let x = b p q w e in a p q (x.0) (x.1)

pub if_refused : {T E : Type 0} (r : Result T E) {P : E → Type 0} → ((e : E) → r ≡ Err e → P e) → IfErr r P
if_refused (Ok x) h = tt
if_refused (Err e) h = h e refl

zero_more : (a : ℕ) → a + 0 ≡ a
zero_more a = omega arith

-- a mapping that is prepared and then committed
module _ {St : Type 0} (old mid new : View St) (below : ℕ → Value) (o n : ℕ) (w t : Bool) (m : PreparedDataMapping St)
    (P : IsPrepared o n w t (values below old.place) old mid m) (U : IsUnchanged old mid) where
  origins : (st : Option St) → m.state ≡ st → is_committed mid.pending st false mid new → PlacesAreWritableAt new.place m.storage m.offset m.length o
  origins None e C i h = let x = (P.direct e).1 i h in C.stored (o + i) (x.0) m.storage (m.offset + i) true (x.1)
  origins (Some s) e C i h =
      let a = P.apart s e in
      let q = a.0 in
      let D = rw (a.1) at C in
      let own = a.2 in
      let l : i < q.length = omega (arith, own.2) in
      let x = D.0 refl i l in
      (x.0, rw (own.0, own.1, ← a.3) (x.1))

  pub ensured : is_committed mid.pending m.state false mid new → (s f c : ℕ) → s ≡ m.storage → f ≡ m.offset → c ≡ m.length → IsDataMapping o n s f c old new
  ensured C s f c es ef ec = record {
    within = rw ec P.within;
    some = λ h. rw ec (P.some h);
    part = rw ec P.part;
    whole = λ h. ec ∙ P.whole h;
    origins = rw (es, ef, ec) (origins m.state refl C);
  }

  near_places : (pending : Option (Pending St)) (st : Option St) (p : ℕ) → mid.pending ≡ pending
      → commit_moves pending st p → SharesBlock old.abilities.block o m.length p
  near_places pending None p e c = absurd c
  near_places None (Some s) p e c = absurd c
  near_places (Some q) (Some s) p e c = P.near q e p (c.0) (c.1)

  -- what shares no block with the range stays where it stands
  pub ensured_outside : StayBut mid.abilities.keeps_data (commit_moves mid.pending m.state) mid.place
      new.place → StaysOutside old.abilities.keeps_data old.abilities.block o n old.place new.place
  ensured_outside C =
      let keeps = old.abilities.keeps_data in
      let block = old.abilities.block in
      let moves = commit_moves mid.pending m.state in
      let moved : StayBut keeps moves mid.place new.place = rw (← U.framed.kind.abilities) C in
      let shares : (p : ℕ) → moves p → SharesBlock block o n p
      = λ p c. shares_more block o n o m.length p (omega arith) (omega (arith, P.within))
      (near_places mid.pending m.state p refl c) in
      stays_twice keeps (SharesBlock block o n) old.place mid.place new.place
      (stays_same keeps (SharesBlock block o n) old.place mid.place U.places)
      (stays_weaker keeps moves (SharesBlock block o n) mid.place new.place shares moved)

  module _ (keeps : IsTrue old.abilities.keeps_data) (tells : IsTrue t) where
    mid_keeps : IsTrue mid.abilities.keeps_data
    mid_keeps = rw U.framed.kind.abilities keeps

    same_value : (p : ℕ) → values below mid.place p ≡ values below old.place p
    same_value p = ap (shown below) (U.places.same keeps p)

    part : (torn v : Bool) (q : Pending St) (k : ℕ) → (v ≡ false → values below old.place (o + k) ≡ Byte (q.bytes (o + k)))
        → (values below new.place (o + k) ≡ Byte (q.bytes (o + k))) ⊎ ((torn ≡ true) × (values below new.place (o + k) ≡ values below mid.place (o + k)))
        → overwritten v k (values below old.place (o + k)) (values below new.place (o + k))
    part torn true q k f x = inl refl
    part torn false q k f x = inr (⊎_elim (λ a. a ∙ sym (f refl)) (λ b. (b.1) ∙ same_value (o + k)) x)

    change : (torn : Bool) (st : Option St) → m.state ≡ st → is_committed mid.pending st torn mid new → IsChanged o m.length (overwritten w) (values below old.place) (values below new.place)
    change torn None e C =
        let same : (p : ℕ) → values below new.place p ≡ values below old.place p = λ p. ap (shown below) (C.same mid_keeps p) ∙ same_value p in
        record { inside = λ k h. inr (same (o + k)); before = λ p h. same p; behind = λ p h. same p }
    change torn (Some s) e C =
        let a = P.apart s e in
        let q = a.0 in
        let D = rw (a.1) at C in
        let own = a.2 in
        let start : q.start ≡ o = a.3 in
        let round : ShowsRound (values below old.place) (Some q) = rw (a.1) at (P.round keeps tells) in
        let changed = D.1 mid_keeps below (λ p h i j. same_value p ∙ round p h i j) in
        let changed_here : (k : ℕ) → k < m.length → (values below new.place (o + k) ≡ Byte (q.bytes (o + k))) ⊎ ((torn ≡ true) × (values below new.place (o + k) ≡ values below mid.place (o + k)))
        = λ k h. let l : k < q.length = omega (arith, own.2) in rw start at (changed.inside k l) in
        record {
          inside = λ k h. part torn w q k (λ f. a.4 keeps tells f (o + k) (omega arith, omega arith)) (changed_here k h);
          before = λ p h. changed.before p (rw start h) ∙ same_value p;
          behind = λ p h. let l : q.start + q.length ≤ p = omega (arith, own.2, start) in changed.behind p l ∙ same_value p;
        }

    pub ensured_change : (torn : Bool) → is_committed mid.pending m.state torn mid new → IsChanged o m.length (overwritten w) (values below old.place) (values below new.place)
    ensured_change torn C = change torn m.state refl C

    -- what a part may change into, the range may
    pub ensured_refused : is_committed mid.pending m.state true mid new → IsChanged o n (overwritten w) (values below old.place) (values below new.place)
    ensured_refused C =
        let c = ensured_change true C in
        record {
          inside = λ k h. ⊎_elim (λ below_end. c.inside k below_end) (λ past. inr (c.behind (o + k) (omega arith))) (cases_lt k m.length);
          before = c.before;
          behind = λ p h. c.behind p (omega (arith, P.within));
        }

  at_start : (st : Option St) → m.state ≡ st → is_for mid m st 0 m.length o
  at_start None e = λ i h. let x = (P.direct e).1 i h in (x.0, true, rw (zero_more m.offset) (x.1))
  at_start (Some s) e = let a = P.apart s e in (a.0, a.1, omega (arith, a.3))

  pub is_at_start : is_for mid m m.state 0 m.length o
  is_at_start = at_start m.state refl

  own_mapping : (st : Option St) → m.state ≡ st → is_foreign mid.pending m st → ⊥
  own_mapping None e f = f
  own_mapping (Some s) e f = let a = P.apart s e in (rw (a.1) at f) (a.2)

  pub never_foreign : is_foreign mid.pending m m.state → ⊥
  never_foreign f = own_mapping m.state refl f

  -- what the commit may be refused for, the whole may
  pub commit_refused : (l : LayerBelow) → IsSettled IsOnRange old.limits.cause mid.limits.cause old.limits.copies mid.limits.copies o m.length → (e : Error) → (e ≡ Error.ForeignMapping → ⊥) → allowed (commit_reasons mid m) e
      → allowed (lending_reasons old l Operation.Write o n) e
  commit_refused l S e own a = reasons e own a
    where
      earlier : (x : Error) → ((p : ℕ) → is_for mid m m.state 0 m.length p → mid.limits.cause Operation.Write p m.length x) → old.limits.cause Operation.Write o n x
      earlier x c = S.causes Operation.Write o n o m.length x tt (omega arith) (omega (arith, P.within)) (omega arith) (omega (arith, P.within)) (c o is_at_start)

      reasons : (x : Error) → (x ≡ Error.ForeignMapping → ⊥) → allowed (commit_reasons mid m) x → allowed (lending_reasons old l Operation.Write o n) x
      reasons E.WrapAround own a = inl (earlier Error.WrapAround (a.1))
      reasons E.InvalidData own a = inl (earlier Error.InvalidData (a.1))
      reasons E.Unsupported own a = inl (earlier Error.Unsupported (a.1))
      reasons E.NoAccess own a = inl (earlier Error.NoAccess (a.1))
      reasons E.Device own a = tt
      reasons E.Memory own a = λ free. (P.no_memory free).2 a
      reasons E.ForeignMapping own a = own refl
      reasons E.ReadOnly own a = a
      reasons E.BeyondDisk own a = absurd a
      reasons E.RangeOverflow own a = a
      reasons E.Denied own a = a
      reasons E.NotFound own a = a
