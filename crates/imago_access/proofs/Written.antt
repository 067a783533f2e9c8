-- SPDX-License-Identifier: MIT
use Rattle.std.proofs.Common.{◌≡◌, ℕ, ◌+◌, ◌<◌, ◌≤◌, ◌⊎◌, ⊎_elim, inl, inr, Bool, true, false, List, length, take, Option, Some, None, refl, sym, ap, ◌∙◌, arith, length-take, get_or-take, subst, min}
use Rattle.std.proofs.lemmas.Bool.{cases_lt}
use Rattle.std.specs.Prelude.{IsTrue, slice_index}
use Rattle.imago_storage.specs.declared.error.Error.{Error}
use Rattle.imago_storage.specs.declared.error.Error.TheVariants as E
use Rattle.imago_drivers.specs.Done.{keeps_over}
use Rattle.imago_drivers.specs.Operation.{Operation}
use Rattle.imago_drivers.specs.declared.mapping.PreparedDataMapping.{PreparedDataMapping}
use Rattle.imago_drivers.specs.Place.{Value, Byte, Stored, IsIn, values, shown, PlacesAreWritableAt, SamePlaces}
use Rattle.imago_drivers.specs.Reasons.{allowed}
use Rattle.imago_drivers.specs.LayerBelow.{LayerBelow}
use Rattle.imago_drivers.specs.Causes.{Causes, Copies, IsSettled, IsOnRange}
use Rattle.imago_drivers.specs.Pending.{Pending, IsOwn, ShowsRound, StaysPending}
use Rattle.imago_drivers.specs.View.{View}
use Rattle.imago_drivers.specs.Laws.{IsLawful}
use Rattle.imago_drivers.specs.Changes.{Change, IsChanged, or_torn, into, partly}
use Rattle.imago_drivers.specs.Frame.{IsFramed, IsKind, IsUnchanged}
use Rattle.imago_drivers.specs.Lengths.{AreNoShorter}
use Rattle.imago_drivers.specs.Done.{lending_reasons, mapping_write_reasons}
use Rattle.imago_drivers.specs.Prepared.{IsPrepared, IsPut, is_written, is_foreign_write, is_for}
use Rattle.imago_access.specs.Framed.{StaysFramed}
use Rattle.imago_access.specs.Writing.{filled, is_filled, filling_reasons}
use Rattle.imago_access.proofs.Weaker.{IsWeaker, and_left, and_right}
use Rattle.imago_drivers.specs.Outside.{SharesBlock}
use Rattle.imago_drivers.specs.Commit.{commit_moves}
use Rattle.imago_access.specs.Moves.{MovesWithin}
use Rattle.imago_access.proofs.Moved.{moved_put, moved_same, moved_twice}

pub settled_twice : (old mid new : Causes) (c d f : Copies) (o n : ℕ) → IsSettled IsOnRange old mid c d o n → IsSettled IsOnRange mid new d f o n → IsSettled IsOnRange old new c f o n
settled_twice old mid new c d f o n s t = record {
  causes = λ op a len q m e r h i j k x. s.causes op a len a len e r h i (omega arith) (omega arith) (t.causes op a len q m e r h i j k x);
  copied = λ op a len q m p r h i j k x. s.copied op a len a len p r h i (omega arith) (omega arith) (t.copied op a len q m p r h i j k x);
}

pub kind_twice : {St : Type 0} (a b c : View St) → IsKind a b → IsKind b c → IsKind a c
kind_twice a b c f g = record { abilities = g.abilities ∙ f.abilities; store_count = g.store_count ∙ f.store_count; store_features = λ i. g.store_features i ∙ f.store_features i }

pub framed_twice : {St : Type 0} (a b c : View St) → StaysFramed a b → StaysFramed b c → StaysFramed a c
framed_twice a b c f g = record {
  kind = kind_twice a b c f.kind g.kind;
  size = g.size ∙ f.size;
  ends = λ p h. f.ends p (g.ends p h);
  no_shorter = λ i. omega (arith, f.no_shorter i, g.no_shorter i);
}

-- a call of the driver that shortens no storage
pub stays : {St : Type 0} (a b : View St) → IsFramed a b → AreNoShorter a.stores b.stores → StaysFramed a b
stays a b f n = record { kind = f.kind; size = f.size; ends = f.ends; no_shorter = n }

pub same_frame : {St : Type 0} (a : View St) → StaysFramed a a
same_frame a = record { kind = record { abilities = refl; store_count = refl; store_features = λ i. refl }; size = refl; ends = λ p h. h; no_shorter = λ i. omega arith }

-- each place may have the new bytes for a while: torn over a part is so over the whole
pub changed_wider : (o c n : ℕ) (how : Change) (old new : ℕ → Value) → c ≤ n → IsChanged o c (or_torn true how) old new → IsChanged o n (partly how) old new
changed_wider o c n how old new le h = record {
  inside = λ k lt. ⊎_elim
      (λ below. ⊎_elim (λ a. inr a) (λ b. inl b.1) (h.inside k below))
      (λ above. inl (h.behind (o + k) (omega arith)))
      (cases_lt k c);
  before = h.before;
  behind = λ p lt. h.behind p (omega arith);
}

pub not_torn : (v w : Value) (P : Type 0) → P ⊎ ((false ≡ true) × (w ≡ v)) → P
not_torn v w P h = ⊎_elim (λ p. p) (λ x. let e = x.0 in let z : ⊥ = cc in absurd z) h

pub changed_whole : (o n : ℕ) (how : Change) (old new : ℕ → Value) → IsChanged o n (or_torn false how) old new → IsChanged o n how old new
changed_whole o n how old new h = record {
  inside = λ k lt. not_torn (old (o + k)) (new (o + k)) (how k (old (o + k)) (new (o + k))) (h.inside k lt);
  before = h.before;
  behind = h.behind;
}

-- what a driver's own reasons are to a lender's, with what is written counted in
pub filling_weaker : {St : Type 0} (v : View St) (l : LayerBelow) (o n : ℕ) (bytes : List ℕ) → IsWeaker (lending_reasons v l Operation.Write o n) (filling_reasons v l o n bytes)
filling_weaker v l o n bytes = record {
  read_only = λ h. h;
  beyond_disk = λ h. h;
  range_overflow = λ h. h;
  cause = λ e h. h;
  device = λ h. h;
  memory = λ h free. h free.0;
  foreign_mapping = λ h. h;
}

-- a mapping that is prepared, and the first k bytes written to it, as many as fit
module _ {St : Type 0} (old mid wrote : View St) (l : LayerBelow) (o n : ℕ) (overwrite : Bool) (bytes : List ℕ) (k : ℕ) (m : PreparedDataMapping St)
    (P : IsPrepared o n overwrite l.tells_bytes (values l.at old.place) old mid m) (U : IsUnchanged old mid) (law : IsLawful mid) (fit : k ≡ min (length bytes) m.length) where
  pub written_length : length (take k bytes) ≡ k
  written_length = simp length-take (omega (arith, fit))

  written_at : (i : ℕ) → i < k → slice_index (take k bytes) i ≡ slice_index bytes i
  written_at i h = get_or-take k bytes i 0 h

  at_start : (st : Option St) → m.state ≡ st → is_for mid m st 0 m.length o
  at_start None e = λ i h. let x = (P.direct e).1 i h in let z : m.offset + 0 ≡ m.offset = omega arith in (x.0, true, rw z (x.1))
  at_start (Some s) e = let a = P.apart s e in (a.0, a.1, omega (arith, a.3))

  fewer : (st : Option St) → is_for mid m st 0 m.length o → is_for mid m st 0 k o
  fewer None h = λ i lt. h i (omega arith)
  fewer (Some s) h = h

  -- the bytes that are written are for the places from o on
  pub is_at_start : is_for mid m m.state 0 k o
  is_at_start = fewer m.state (at_start m.state refl)

  at_start_after : (torn : Bool) (st : Option St) → m.state ≡ st → is_written st torn mid wrote m 0 (take k bytes) → is_for wrote m st 0 m.length o
  at_start_after torn None e W = λ i h.
      let x = (P.direct e).1 i h in
      let z : m.offset + 0 ≡ m.offset = omega arith in
      let y = W.0.stored (o + i) x.0 m.storage (m.offset + i) true x.1 in
      (y.0, true, rw z (y.1))
  at_start_after torn (Some s) e W =
      let a = P.apart s e in
      let r = W.1 a.0 a.1 in
      let start : r.0.start ≡ a.0.start = ap (λ (q : Pending St). q.start) r.2 in
      (r.0, r.1, omega (arith, a.3, start))

  pub is_at_start_after : (torn : Bool) → is_written m.state torn mid wrote m 0 (take k bytes) → is_for wrote m m.state 0 m.length o
  is_at_start_after torn W = at_start_after torn m.state refl W

  own_write : (st : Option St) → m.state ≡ st → mid.abilities.is_writable ≡ true → is_foreign_write mid m st → ⊥
  own_write None e w f = ⊎_elim
      (λ z. let z : ⊥ = cc in absurd z)
      (λ x. let y = (P.direct e).1 (x.0) (x.1) in x.2 (o + x.0) (y.0) (y.1))
      f
  own_write (Some s) e w f = let a = P.apart s e in (rw (a.1) at f) (a.2)

  pub never_foreign_write : mid.abilities.is_writable ≡ true → is_foreign_write mid m m.state → ⊥
  never_foreign_write w f = own_write m.state refl w f

  own_after : (torn : Bool) (st : Option St) → m.state ≡ st → is_written st torn mid wrote m 0 (take k bytes) → (s : St) → st ≡ Some s → IsOwn wrote.pending m
  own_after torn None e W s h = let z : ⊥ = cc in absurd z
  own_after torn (Some t) e W s h =
      let a = P.apart t e in
      let r = W.1 a.0 a.1 in
      let own = a.2 in
      let k : IsOwn (Some r.0) m = (
        own.0 ∙ sym (ap (λ (q : Pending St). q.storage) r.2),
        own.1 ∙ sym (ap (λ (q : Pending St). q.offset) r.2),
        own.2 ∙ sym (ap (λ (q : Pending St). q.length) r.2),
        own.3 ∙ ap (λ (x : St). Some x) (sym (ap (λ (q : Pending St). q.state) r.2)),
      ) in
      subst (λ (p : Option (Pending St)). IsOwn p m) (sym r.1) k

  still_own : (torn : Bool) → is_written m.state torn mid wrote m 0 (take k bytes) → (s : St) → m.state ≡ Some s → IsOwn wrote.pending m
  still_own torn W s h = own_after torn m.state refl W s h

  none_pending : (torn : Bool) (st : Option St) → m.state ≡ st → is_written st torn mid wrote m 0 (take k bytes) → st ≡ None → wrote.pending ≡ None
  none_pending torn None e W h = subst (λ (p : Option (Pending St)). StaysPending mid.abilities.keeps_data p wrote.pending) (P.direct e).0 W.1
  none_pending torn (Some s) e W h = let z : ⊥ = cc in absurd z

  spent_at : (torn : Bool) (new : Option (Pending St)) (st : Option St) → m.state ≡ st → is_written m.state torn mid wrote m 0 (take k bytes) → (IsOwn wrote.pending m → new ≡ None) → (m.state ≡ None → new ≡ wrote.pending) → new ≡ None
  spent_at torn new None e W own other = other e ∙ none_pending torn m.state refl W e
  spent_at torn new (Some s) e W own other = own (still_own torn W s e)

  -- once the mapping is spent, nothing is prepared
  pub is_spent : (torn : Bool) (new : Option (Pending St)) → is_written m.state torn mid wrote m 0 (take k bytes) → (IsOwn wrote.pending m → new ≡ None) → (m.state ≡ None → new ≡ wrote.pending) → new ≡ None
  is_spent torn new W own other = spent_at torn new m.state refl W own other

  -- what the write may be refused for, the whole may
  pub write_refused : IsSettled IsOnRange old.limits.cause mid.limits.cause old.limits.copies mid.limits.copies o m.length
      → (e : Error) → (e ≡ Error.ForeignMapping → ⊥) → allowed (mapping_write_reasons mid m 0 (length (take k bytes))) e → allowed (filling_reasons old l o n bytes) e
  write_refused S e own a = reasons e own (rw written_length at a)
    where
      earlier : (x : Error) → ((p : ℕ) → is_for mid m m.state 0 k p → mid.limits.cause Operation.Write p k x) → old.limits.cause Operation.Write o n x
      earlier x c = S.causes Operation.Write o n o k x tt (omega arith) (omega (arith, P.within)) (omega arith) (omega (arith, P.within, fit)) (c o is_at_start)

      whole : n ≤ length bytes → m.length ≡ k
      whole h = omega (arith, P.within, fit)

      reasons : (x : Error) → (x ≡ Error.ForeignMapping → ⊥) → allowed (mapping_write_reasons mid m 0 k) x → allowed (filling_reasons old l o n bytes) x
      reasons E.WrapAround own a = inl (earlier Error.WrapAround a.1)
      reasons E.InvalidData own a = inl (earlier Error.InvalidData a.1)
      reasons E.Unsupported own a = inl (earlier Error.Unsupported a.1)
      reasons E.NoAccess own a = inl (earlier Error.NoAccess a.1)
      reasons E.Device own a = tt
      reasons E.Memory own a = λ free. a o is_at_start (subst (λ (c : ℕ). mid.limits.no_memory Operation.Write o c) (whole free.1) (P.no_memory free.0).1)
      reasons E.ForeignMapping own a = own refl
      reasons E.ReadOnly own a = a
      reasons E.BeyondDisk own a = absurd a
      reasons E.RangeOverflow own a = a
      reasons E.Denied own a = a
      reasons E.NotFound own a = a

  same_value : IsTrue (keeps_over old l) → (p : ℕ) → values l.at mid.place p ≡ values l.at old.place p
  same_value keeps p = ap (shown l.at) (U.places.same (and_left _ _ keeps) p)

  -- what the disk shows afterwards
  module _ (wrote_framed : StaysFramed mid wrote) (keeps : IsTrue (keeps_over old l)) where
    mid_keeps : IsTrue mid.abilities.keeps_data
    mid_keeps = rw U.framed.kind.abilities (and_left _ _ keeps)

    wrote_keeps : IsTrue wrote.abilities.keeps_data
    wrote_keeps = rw wrote_framed.kind.abilities mid_keeps

    -- a place that no written byte is for isn't written
    outside : (named : PlacesAreWritableAt mid.place m.storage m.offset m.length o) (p : ℕ) → (p < o) ⊎ (o + k ≤ p) → (b j : ℕ) (w : Bool) → j < length (take k bytes) → mid.place p ≡ Stored b m.storage (m.offset + 0 + j) w → ⊥
    outside named p out b j w lt e =
        let i : j < k = omega (arith, written_length) in
        let z : m.offset + 0 + j ≡ m.offset + j = omega arith in
        let x = named j (omega (arith, fit)) in
        let same : o + j ≡ p = law.own (o + j) p (x.0) b m.storage (m.offset + j) w (x.1) (rw z at e) in
        ⊎_elim (λ a. omega arith) (λ a. omega arith) out

    missed : (torn : Bool) (named : PlacesAreWritableAt mid.place m.storage m.offset m.length o) → IsPut m.storage (m.offset + 0) (take k bytes) torn mid.abilities.keeps_data mid.place wrote.place
        → (p : ℕ) → (p < o) ⊎ (o + k ≤ p) → values l.at wrote.place p ≡ values l.at old.place p
    missed torn named W p out = ap (shown l.at) (W.miss mid_keeps p (outside named p out)) ∙ same_value keeps p

    hit : (torn : Bool) (named : PlacesAreWritableAt mid.place m.storage m.offset m.length o) → IsPut m.storage (m.offset + 0) (take k bytes) torn mid.abilities.keeps_data mid.place wrote.place
        → (i : ℕ) → i < k → or_torn torn (into bytes) i (values l.at old.place (o + i)) (values l.at wrote.place (o + i))
    hit torn named W i h =
        let x = named i (omega (arith, fit)) in
        let z : m.offset + i ≡ m.offset + 0 + i = omega arith in
        let lt : i < length (take k bytes) = omega (arith, written_length) in
        ⊎_elim
        (λ a. inl (ap (shown l.at) a ∙ ap Byte (written_at i h)))
        (λ a. inr (a.0, ap (shown l.at) a.1 ∙ same_value keeps (o + i)))
        (W.hit mid_keeps (o + i) (x.0) i true lt (rw z at (x.1)))

    put : (named : PlacesAreWritableAt mid.place m.storage m.offset m.length o) → IsPut m.storage (m.offset + 0) (take k bytes) false mid.abilities.keeps_data mid.place wrote.place
        → IsChanged o m.length (filled false bytes) (values l.at old.place) (values l.at wrote.place)
    put named W = record {
      inside = λ i h. ⊎_elim
          (λ (under : i < k). (λ lt. not_torn _ _ _ (hit false named W i under), λ ge. absurd (omega (arith, fit))))
          (λ (above : k ≤ i). (λ lt. absurd (omega (arith, fit)), λ ge. inr (missed false named W (o + i) (inr (omega arith)))))
          (cases_lt i k);
      before = λ p h. missed false named W p (inl h);
      behind = λ p h. missed false named W p (inr (omega (arith, fit)));
    }

    -- a write that was torn, or waits in vain, cancelled
    torn_by : (new : ℕ → Value) → ((p : ℕ) → (p < o) ⊎ (o + k ≤ p) → new p ≡ values l.at old.place p) → ((i : ℕ) → i < k → or_torn true (into bytes) i (values l.at old.place (o + i)) (new (o + i)))
        → IsChanged o n (partly (filled false bytes)) (values l.at old.place) new
    torn_by new miss hits = record {
      inside = λ i h. ⊎_elim
          (λ (under : i < k). ⊎_elim
          (λ a. inr ((λ lt. a), λ ge. absurd (omega (arith, fit))))
          (λ a. inl a.1)
          (hits i under))
          (λ (above : k ≤ i). inl (miss (o + i) (inr (omega arith))))
          (cases_lt i k);
      before = λ p h. miss p (inl h);
      behind = λ p h. miss p (inr (omega (arith, fit, P.within)));
    }

    cancelled_at : (st : Option St) → m.state ≡ st → is_written st true mid wrote m 0 (take k bytes) → (new : View St) → SamePlaces wrote.abilities.keeps_data wrote.place new.place
        → IsChanged o n (partly (filled false bytes)) (values l.at old.place) (values l.at new.place)
    cancelled_at None e W new s =
        let same : (p : ℕ) → values l.at new.place p ≡ values l.at wrote.place p = λ p. ap (shown l.at) (s.same wrote_keeps p) in
        torn_by (values l.at new.place)
        (λ p out. same p ∙ missed true (P.direct e).1 W.0 p out)
        (λ i h. subst (λ (v : Value). or_torn true (into bytes) i (values l.at old.place (o + i)) v) (sym (same (o + i))) (hit true (P.direct e).1 W.0 i h))
    cancelled_at (Some t) e W new s =
        let same : (p : ℕ) → values l.at new.place p ≡ values l.at old.place p = λ p. ap (shown l.at) (s.same wrote_keeps p ∙ W.0.same mid_keeps p) ∙ same_value keeps p in
        torn_by (values l.at new.place) (λ p out. same p) (λ i h. inr (refl, same (o + i)))

    pub cancelled : is_written m.state true mid wrote m 0 (take k bytes) → (new : View St) → SamePlaces wrote.abilities.keeps_data wrote.place new.place
        → IsChanged o n (partly (filled false bytes)) (values l.at old.place) (values l.at new.place)
    cancelled W new s = cancelled_at m.state refl W new s

    shows_same : (pending : Option (Pending St)) → ShowsRound (values l.at old.place) pending → ShowsRound (values l.at mid.place) pending
    shows_same None h = tt
    shows_same (Some q) h = λ p i j x. same_value keeps p ∙ h p i j x

    -- the list apart, once it is written
    listed : (q r : Pending St) → q.start ≡ o → IsChanged (q.start + 0) (length (take k bytes)) (or_torn false (into (take k bytes))) (λ p. Byte (q.bytes p)) (λ p. Byte (r.bytes p))
        → (overwrite ≡ false → (p : ℕ) → IsIn o m.length p → values l.at old.place p ≡ Byte (q.bytes p))
        → (i : ℕ) → i < m.length → filled overwrite bytes i (values l.at old.place (o + i)) (Byte (r.bytes (o + i)))
    listed q r start list begun i h = ⊎_elim
        (λ (under : i < k).
        let lt : i < length (take k bytes) = omega (arith, written_length) in
        let z : q.start + 0 + i ≡ o + i = omega arith in
        let byte = rw z at (not_torn _ _ _ (list.inside i lt)) in
        ((λ a. byte ∙ ap Byte (written_at i under)), λ ge. absurd (omega (arith, fit))))
        (λ (above : k ≤ i).
        let same : Byte (r.bytes (o + i)) ≡ Byte (q.bytes (o + i)) = list.behind (o + i) (omega (arith, written_length)) in
        ((λ lt. absurd (omega (arith, fit))), λ ge. kept overwrite (λ f. same ∙ sym (begun f (o + i) (omega arith, omega arith)))))
        (cases_lt i k)
      where
        kept : {A : Type 0} (b : Bool) → (b ≡ false → A) → (b ≡ true) ⊎ A
        kept true f = inl refl
        kept false f = inr (f refl)

  waits : (wrote_framed : StaysFramed mid wrote) (s : St) → m.state ≡ Some s → is_written (Some s) false mid wrote m 0 (take k bytes)
      → (IsTrue mid.abilities.keeps_data → ShowsRound (values l.at mid.place) mid.pending → ShowsRound (values l.at wrote.place) wrote.pending) → is_filled (Some s) l old wrote o overwrite bytes m
  waits F s e W round =
      let a = P.apart s e in
      let q = a.0 in
      let x = W.1 q a.1 in
      let r = x.0 in
      let own : IsOwn (Some r) m = subst (λ (p : Option (Pending St)). IsOwn p m) x.1 (own_after false (Some s) e W s refl) in
      let start : r.start ≡ o = ap (λ (p : Pending St). p.start) x.2 ∙ a.3 in (
        r,
        x.1,
        record {
          own = own;
          start = start;
          same = λ keeps p. ap (shown l.at) (W.0.same (mid_keeps F keeps) p) ∙ same_value keeps p;
          round = λ keeps. subst (λ (p : Option (Pending St)). ShowsRound (values l.at wrote.place) p) x.1 (round (mid_keeps F keeps) (shows_same F keeps mid.pending (P.round (and_left _ _ keeps) (and_right _ _ keeps))));
          listed = λ keeps. listed F keeps q r a.3 (x.3 (mid_keeps F keeps)).changed (a.4 (and_left _ _ keeps) (and_right _ _ keeps));
        },
      )

  filled_at : (wrote_framed : StaysFramed mid wrote) (st : Option St) → m.state ≡ st → is_written st false mid wrote m 0 (take k bytes)
      → (IsTrue mid.abilities.keeps_data → ShowsRound (values l.at mid.place) mid.pending → ShowsRound (values l.at wrote.place) wrote.pending) → is_filled st l old wrote o overwrite bytes m
  filled_at F None e W round = (none_pending false None e W refl, λ keeps. put F keeps (P.direct e).1 W.0)
  filled_at F (Some s) e W round = waits F s e W round

  -- the mapping, once it is written
  pub filled_so : (wrote_framed : StaysFramed mid wrote) → is_written m.state false mid wrote m 0 (take k bytes)
      → (IsTrue mid.abilities.keeps_data → ShowsRound (values l.at mid.place) mid.pending → ShowsRound (values l.at wrote.place) wrote.pending) → is_filled m.state l old wrote o overwrite bytes m
  filled_so F W round = filled_at F m.state refl W round

  wrote_moves_at : (torn : Bool) (st : Option St) → m.state ≡ st
      → is_written st torn mid wrote m 0 (take k bytes) → MovesWithin Operation.Write o n mid wrote
  wrote_moves_at torn None e W =
      let at = (P.direct e).1 in
      moved_put mid wrote torn o n m.storage (m.offset + 0) k (take k bytes) law
      (λ i lt.
      let x = at i (omega (arith, fit)) in
      let z : m.offset + 0 + i ≡ m.offset + i = omega arith in
      (x.0, rw z x.1))
      (omega (arith, written_length)) (omega (arith, P.within, fit)) W.0
  wrote_moves_at torn (Some s) e W = moved_same Operation.Write o n mid wrote W.0

  -- the preparing and the write move no place outside the blocks of the range
  pub wrote_moves : (torn : Bool) → is_written m.state torn mid wrote m 0 (take k bytes)
      → MovesWithin Operation.Write o n old wrote
  wrote_moves torn W =
      moved_twice Operation.Write o n old mid wrote U.framed.kind
      (moved_same Operation.Write o n old mid U.places) (wrote_moves_at torn m.state refl W)

  near_at : (torn : Bool) (st : Option St) → m.state ≡ st
      → is_written st torn mid wrote m 0 (take k bytes) → (p : ℕ) → commit_moves wrote.pending st p
      → SharesBlock old.abilities.block o m.length p
  near_at torn None e W p c = absurd c
  near_at torn (Some s) e W p c =
      let a = P.apart s e in
      let r = W.1 a.0 a.1 in
      let d : commit_moves (Some r.0) (Some s) p
      = subst (λ (x : Option (Pending St)). commit_moves x (Some s) p) r.1 c in
      let from : r.0.from ≡ a.0.from = ap (λ (q : Pending St). q.from) r.2 in
      let until : r.0.until ≡ a.0.until = ap (λ (q : Pending St). q.until) r.2 in
      P.near a.0 a.1 p (omega (arith, d.0, from)) (omega (arith, d.1, until))

  -- nor will the commit
  pub still_near : (torn : Bool) → is_written m.state torn mid wrote m 0 (take k bytes) → (p : ℕ)
      → commit_moves wrote.pending m.state p → SharesBlock old.abilities.block o m.length p
  still_near torn W p c = near_at torn m.state refl W p c
