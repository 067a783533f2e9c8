-- SPDX-License-Identifier: MIT
use Rattle.std.proofs.Common.{◌≡◌, ℕ, ◌+◌, ◌-◌, ◌<◌, ◌≤◌, ◌&&◌, inl, inr, ⊎_elim, Bool, true, false, List, length, take, Option, Some, None, refl, sym, ap, ◌∙◌, arith, Ok, Err, subst, min}
use Rattle.std.specs.Prelude.{IsTrue, IsErrOf, is_none, not}
use Rattle.imago_storage.specs.declared.error.Error.{Error}
use Rattle.imago_storage.specs.declared.error.Error.TheVariants as E
use Rattle.imago_storage.specs.Faults.{RoseOrSaturated}
use Rattle.imago_drivers.specs.Done.{keeps_over}
use Rattle.imago_drivers.specs.declared.mapping.PreparedDataMapping.{PreparedDataMapping}
use Rattle.imago_drivers.specs.Operation.{Operation}
use Rattle.imago_drivers.specs.Place.{Value, Stored, Lower, values, shown, SamePlaces}
use Rattle.imago_drivers.specs.Reasons.{allowed}
use Rattle.imago_drivers.specs.LayerBelow.{LayerBelow}
use Rattle.imago_drivers.specs.Causes.{Causes, Copies, IsSettled, IsOnRange}
use Rattle.imago_drivers.specs.Pending.{Pending, IsOwn, ShowsRound}
use Rattle.imago_drivers.specs.View.{View}
use Rattle.imago_drivers.specs.Laws.{IsLawful}
use Rattle.imago_drivers.specs.Changes.{IsChanged, or_torn, partly}
use Rattle.imago_drivers.specs.Lengths.{AreNoShorter}
use Rattle.imago_drivers.specs.Frame.{IsUnchanged, ReachesNoMore}
use Rattle.imago_drivers.specs.Done.{lending_reasons, mapping_write_reasons}
use Rattle.imago_drivers.specs.Prepared.{IsPrepared, IsWritten, IsForeignWrite, is_for, is_foreign}
use Rattle.imago_drivers.specs.Commit.{IsCommit, IsCancel, commit_reasons, is_committed, commit_moves, prepared_bytes}
use Rattle.imago_drivers.specs.Outside.{SharesBlock, StayBut}
use Rattle.imago_drivers.proofs.Stays.{shares_more, stays_weaker}
use Rattle.imago_access.specs.Moves.{MayMove, MovesWithin}
use Rattle.imago_access.specs.Framed.{StaysFramed}
use Rattle.imago_access.specs.Writing.{CommitMayTakeMemory, StandsAlone, HasWritten, HasFilled, HasMapped, IsWaiting, is_filled, filled, shown_length, shown_change, settles_by, first_reasons, filling_reasons, mapping_reasons}
use Rattle.imago_access.proofs.Weaker.{IsWeaker, allowed_more, and_left}
use Rattle.imago_access.proofs.Moved.{moves_block, moved_same, moved_twice}
use Rattle.imago_access.proofs.Written.{settled_twice, framed_twice, stays, changed_wider, changed_whole, written_length, is_at_start, is_at_start_after, never_foreign_write, is_spent, write_refused, cancelled, filled_so, filling_weaker, wrote_moves, still_near}
use Rattle.imago_access.proofs.Writes.{of_err, GoesOn, goes_on, goes_on_twice, goes_on_with, reaches_twice, rose_more, counted, refused_first, wrote_first, unchanged_values}

-- settled by a part, so by what holds it
settled_wider : (of : Operation → Type 0) (old new : Causes) (c d : Copies) (o a b : ℕ) → a ≤ b → IsSettled of old new c d o a → IsSettled of old new c d o b
settled_wider of old new c d o a b le s = record {
  causes = λ op x n q m e r h i j k y. s.causes op x n q m e r h (omega arith) j k y;
  copied = λ op x n q m p r h i j k y. s.copied op x n q m p r h (omega arith) j k y;
}

-- a mapping that is prepared (old to mid), and written (mid to wrote)
module _ {D St : Type 0} (view : D → View St) (l : LayerBelow) (old mid wrote : D) (o n : ℕ) (overwrite : Bool) (bytes : List ℕ) (k : ℕ) (m : PreparedDataMapping St)
    (P : IsPrepared o n overwrite l.tells_bytes (values l.at (view old).place) (view old) (view mid) m) (U : IsUnchanged (view old) (view mid)) (N : AreNoShorter (view old).stores (view mid).stores) (law : IsLawful (view mid)) (fit : k ≡ min (length bytes) m.length)
    (S : IsSettled IsOnRange (view old).limits.cause (view mid).limits.cause (view old).limits.copies (view mid).limits.copies o m.length)
    (G : GoesOn ((view old).abilities.is_reliable && l.is_reliable) (view old).fault_count (view mid).fault_count)
    (F : StaysFramed (view mid) (view wrote)) (R : ReachesNoMore (view mid) (view wrote)) (H : GoesOn (view mid).abilities.is_reliable (view mid).fault_count (view wrote).fault_count) where
  wrote_goes : GoesOn ((view old).abilities.is_reliable && l.is_reliable) (view old).fault_count (view wrote).fault_count
  wrote_goes = goes_on_twice _ _ _ _ G (goes_on_with (view old).abilities.is_reliable (view mid).abilities.is_reliable l.is_reliable _ _ (ap (λ a. a.is_reliable) U.framed.kind.abilities) H)

  wrote_framed : StaysFramed (view old) (view wrote)
  wrote_framed = framed_twice (view old) (view mid) (view wrote) (stays (view old) (view mid) U.framed N) F

  wrote_reaches : ReachesNoMore (view old) (view wrote)
  wrote_reaches = reaches_twice (view old) (view mid) (view wrote) U.reaches R

  -- a refused write that is cancelled
  pub fill_cancelled : (new : D) (e : Error) → IsWritten true (view mid) (view wrote) m 0 (take k bytes) → (view old).abilities.is_writable ≡ true
      → (IsErrOf {T = Unit} (Err e) Error.ForeignMapping → IsForeignWrite (view mid) m) → allowed (mapping_write_reasons (view mid) m 0 (length (take k bytes))) e
      → (e ≡ Error.Device → RoseOrSaturated (view mid).fault_count (view wrote).fault_count) → IsCancel view wrote new m → HasFilled l (view old) (view new) o n overwrite bytes (Err e)
  fill_cancelled new e w writable foreign reasons device c =
      let mid_writable : (view mid).abilities.is_writable ≡ true = ap (λ a. a.is_writable) U.framed.kind.abilities ∙ writable in
      let same : (view wrote).abilities.is_reliable ≡ (view old).abilities.is_reliable = ap (λ a. a.is_reliable) wrote_framed.kind.abilities in
      record {
        mapping = tt;
        written = tt;
        for = tt;
        torn = λ keeps. cancelled (view old) (view mid) (view wrote) l o n overwrite bytes k m P U law fit F keeps w (view new) c.places;
        nothing_pending = is_spent (view old) (view mid) (view wrote) l o n overwrite bytes k m P U law fit true (view new).pending w c.own_spent c.others_stay;
        settled = tt;
        reaches = reaches_twice (view old) (view wrote) (view new) wrote_reaches c.reaches;
        framed = framed_twice (view old) (view wrote) (view new) wrote_framed (stays (view wrote) (view new) c.framed c.lengths.no_shorter);
        faults = counted _ _ _ _ (goes_on_twice _ _ _ _ wrote_goes (goes_on_with (view old).abilities.is_reliable (view wrote).abilities.is_reliable l.is_reliable _ _ same (record { later = c.later; reliable = c.reliable })))
            (λ h. rose_more (view old).fault_count (view mid).fault_count (view wrote).fault_count (view new).fault_count G.later c.later (device (of_err e Error.Device h)));
        refusals = write_refused (view old) (view mid) (view wrote) l o n overwrite bytes k m P U law fit S e
            (λ h. never_foreign_write (view old) (view mid) (view wrote) l o n overwrite bytes k m P U law fit mid_writable (foreign (ap (λ x. Err x) h))) reasons;
        outside = moved_twice Operation.Write o n (view old) (view wrote) (view new)
            wrote_framed.kind
            (wrote_moves (view old) (view mid) (view wrote) l o n overwrite bytes k m P U law fit
            true w)
            (moved_same Operation.Write o n (view wrote) (view new) c.places);
        near = tt;
      }

  pub fill_done : IsWritten false (view mid) (view wrote) m 0 (take k bytes)
      → (IsTrue (view mid).abilities.keeps_data → (below : ℕ → Value) → ShowsRound (values below (view mid).place) (view mid).pending → ShowsRound (values below (view wrote).place) (view wrote).pending)
      → ((p : ℕ) → is_for (view mid) m m.state 0 (length (take k bytes)) p → IsSettled IsOnRange (view mid).limits.cause (view wrote).limits.cause (view mid).limits.copies (view wrote).limits.copies p (length (take k bytes)))
      → HasFilled l (view old) (view wrote) o n overwrite bytes (Ok m)
  fill_done w round causes =
      let len : length (take k bytes) ≡ k = written_length (view old) (view mid) (view wrote) l o n overwrite bytes k m P U law fit in
      let part = subst (λ (i : ℕ). (p : ℕ) → is_for (view mid) m m.state 0 i p → IsSettled IsOnRange (view mid).limits.cause (view wrote).limits.cause (view mid).limits.copies (view wrote).limits.copies p i) len causes o
      (is_at_start (view old) (view mid) (view wrote) l o n overwrite bytes k m P U law fit) in
      record {
        mapping = record { within = P.within; some = P.some; part = P.part; whole = P.whole };
        written = filled_so (view old) (view mid) (view wrote) l o n overwrite bytes k m P U law fit F w (λ keeps. round keeps l.at);
        for = is_at_start_after (view old) (view mid) (view wrote) l o n overwrite bytes k m P U law fit false w;
        torn = λ keeps. tt;
        nothing_pending = tt;
        settled = settled_twice _ _ _ _ _ _ o m.length S (settled_wider IsOnRange _ _ _ _ o k m.length (omega (arith, fit)) part);
        reaches = wrote_reaches;
        framed = wrote_framed;
        faults = counted _ _ _ _ wrote_goes (λ h. let z : ⊥ = cc in absurd z);
        refusals = tt;
        outside = wrote_moves (view old) (view mid) (view wrote) l o n overwrite bytes k m P U law
            fit false w;
        near = still_near (view old) (view mid) (view wrote) l o n overwrite bytes k m P U law fit
            false w;
      }

-- a preparing that is refused
pub fill_refused : {D St : Type 0} (view : D → View St) (l : LayerBelow) (old new : D) (o n : ℕ) (overwrite : Bool) (bytes : List ℕ) (e : Error) → IsUnchanged (view old) (view new) → AreNoShorter (view old).stores (view new).stores → (view new).pending ≡ None
    → GoesOn ((view old).abilities.is_reliable && l.is_reliable) (view old).fault_count (view new).fault_count → (e ≡ Error.Device → RoseOrSaturated (view old).fault_count (view new).fault_count)
    → allowed (lending_reasons (view old) l Operation.Write o n) e → HasFilled l (view old) (view new) o n overwrite bytes (Err e)
fill_refused view l old new o n overwrite bytes e U N spent G device reasons = record {
  mapping = tt;
  written = tt;
  for = tt;
  torn = λ keeps. unchanged_values (view old) (view new) l.at o n (filled false bytes) U (and_left _ _ keeps);
  nothing_pending = spent;
  settled = tt;
  reaches = U.reaches;
  framed = stays (view old) (view new) U.framed N;
  faults = counted _ _ _ _ G (λ h. device (of_err e Error.Device h));
  refusals = allowed_more _ _ (filling_weaker (view old) l o n bytes) e reasons;
  outside = moved_same Operation.Write o n (view old) (view new) U.places;
  near = tt;
}

-- a mapping that is written (old to wrote), and committed or cancelled (wrote to new)
module _ {D St : Type 0} (view : D → View St) (l : LayerBelow) (old wrote new : D) (o n : ℕ) (overwrite : Bool) (bytes : List ℕ) (m : PreparedDataMapping St) (H : HasFilled l (view old) (view wrote) o n overwrite bytes (Ok m)) where
  own_at : (st : Option St) → m.state ≡ st → is_filled st l (view old) (view wrote) o overwrite bytes m → is_foreign (view wrote).pending m st → ⊥
  own_at None e w f = f
  own_at (Some s) e w f = f (subst (λ (p : Option (Pending St)). IsOwn p m) (sym w.1) w.2.own)

  never_foreign : is_foreign (view wrote).pending m m.state → ⊥
  never_foreign f = own_at m.state refl H.written f

  spent_at : (st : Option St) → m.state ≡ st → is_filled st l (view old) (view wrote) o overwrite bytes m → (IsOwn (view wrote).pending m → (view new).pending ≡ None) → (m.state ≡ None → (view new).pending ≡ (view wrote).pending) → (view new).pending ≡ None
  spent_at None e w own other = other e ∙ w.0
  spent_at (Some s) e w own other = own (subst (λ (p : Option (Pending St)). IsOwn p m) (sym w.1) w.2.own)

  pub spent : (IsOwn (view wrote).pending m → (view new).pending ≡ None) → (m.state ≡ None → (view new).pending ≡ (view wrote).pending) → (view new).pending ≡ None
  spent own other = spent_at m.state refl H.written own other

  wrote_keeps : IsTrue (keeps_over (view old) l) → IsTrue (view wrote).abilities.keeps_data
  wrote_keeps keeps = rw H.framed.kind.abilities (and_left _ _ keeps)

  same_after : (how : _) (c : ℕ) → ((p : ℕ) → values l.at (view new).place p ≡ values l.at (view wrote).place p) → IsChanged o c how (values l.at (view old).place) (values l.at (view wrote).place) → IsChanged o c how (values l.at (view old).place) (values l.at (view new).place)
  same_after how c same h = record {
    inside = λ k lt. subst (λ (v : Value). how k (values l.at (view old).place (o + k)) v) (sym (same (o + k))) (h.inside k lt);
    before = λ p lt. same p ∙ h.before p lt;
    behind = λ p le. same p ∙ h.behind p le;
  }

  looser : (torn : Bool) (c : ℕ) (old new : ℕ → Value) (how : _) → IsChanged o c how old new → IsChanged o c (or_torn torn how) old new
  looser torn c old new how h = record { inside = λ k lt. inl (h.inside k lt); before = h.before; behind = h.behind }

  apart_shown : (torn : Bool) (q : Pending St) → IsTrue (keeps_over (view old) l) → IsWaiting l (view old) (view wrote) o overwrite bytes m q
      → IsChanged q.start q.length (or_torn torn (prepared_bytes q)) (values l.at (view wrote).place) (values l.at (view new).place)
      → IsChanged o m.length (or_torn torn (filled overwrite bytes)) (values l.at (view old).place) (values l.at (view new).place)
  apart_shown torn q keeps w c =
      let len : m.length ≡ q.length = w.own.2 in
      let start : q.start ≡ o = w.start in
      record {
        inside = λ k lt.
            let j : k < q.length = omega (arith, len) in
            let z : q.start + k ≡ o + k = omega (arith, start) in
            let x = rw z at (c.inside k j) in
            ⊎_elim
            (λ a. inl (subst (λ (v : Value). filled overwrite bytes k (values l.at (view old).place (o + k)) v) (sym a) (w.listed keeps k lt)))
            (λ a. inr (a.0, a.1 ∙ w.same keeps (o + k)))
            x;
        before = λ p h. c.before p (omega (arith, start)) ∙ w.same keeps p;
        behind = λ p h. c.behind p (omega (arith, start, len)) ∙ w.same keeps p;
      }

  overwritten_apart : (b : Bool) → (b && true) ≡ b
  overwritten_apart true = refl
  overwritten_apart false = refl

  never_apart : (b : Bool) → (b && false) ≡ false
  never_apart true = refl
  never_apart false = refl

  shown_at : (torn : Bool) (st : Option St) → is_filled st l (view old) (view wrote) o overwrite bytes m → is_committed (view wrote).pending st torn (view wrote) (view new) → IsTrue (keeps_over (view old) l)
      → IsChanged o m.length (or_torn torn (filled (overwrite && not (is_none st)) bytes)) (values l.at (view old).place) (values l.at (view new).place)
  shown_at torn None w c keeps = rw (never_apart overwrite) (looser torn m.length _ _ (filled false bytes) (same_after (filled false bytes) m.length (λ p. ap (shown l.at) (c.same (wrote_keeps keeps) p)) (w.1 keeps)))
  shown_at torn (Some s) w c keeps =
      let q = w.0 in
      let d : is_committed (Some q) (Some s) torn (view wrote) (view new) = subst (λ (p : Option (Pending St)). is_committed p (Some s) torn (view wrote) (view new)) w.1 c in
      rw (overwritten_apart overwrite) (apart_shown torn q keeps w.2 (d.1 (wrote_keeps keeps) l.at (w.2.round keeps)))

  pub shown_by_commit : (torn : Bool) → is_committed (view wrote).pending m.state torn (view wrote) (view new) → IsTrue (keeps_over (view old) l)
      → IsChanged o m.length (or_torn torn (filled (overwrite && not (is_none m.state)) bytes)) (values l.at (view old).place) (values l.at (view new).place)
  shown_by_commit torn c keeps = shown_at torn m.state H.written c keeps

  -- what a cancelled mapping shows: what is written already, where it has no state, else nothing
  unshown_at : (st : Option St) → is_filled st l (view old) (view wrote) o overwrite bytes m → SamePlaces (view wrote).abilities.keeps_data (view wrote).place (view new).place → IsTrue (keeps_over (view old) l)
      → IsChanged o (shown_length false (m.length, is_none st)) (shown_change overwrite bytes (m.length, is_none st)) (values l.at (view old).place) (values l.at (view new).place)
  unshown_at None w s keeps = rw (never_apart overwrite) (same_after (filled false bytes) m.length (λ p. ap (shown l.at) (s.same (wrote_keeps keeps) p)) (w.1 keeps))
  unshown_at (Some t) w s keeps =
      let same : (p : ℕ) → values l.at (view new).place p ≡ values l.at (view old).place p = λ p. ap (shown l.at) (s.same (wrote_keeps keeps) p) ∙ w.2.same keeps p in
      record { inside = λ k lt. absurd (omega arith); before = λ p lt. same p; behind = λ p le. same p }

  new_framed : StaysFramed (view wrote) (view new) → StaysFramed (view old) (view new)
  new_framed h = framed_twice (view old) (view wrote) (view new) H.framed h

  new_goes : GoesOn (view wrote).abilities.is_reliable (view wrote).fault_count (view new).fault_count → GoesOn ((view old).abilities.is_reliable && l.is_reliable) (view old).fault_count (view new).fault_count
  new_goes h = goes_on_twice _ _ _ _ (goes_on _ _ _ _ H.faults) (goes_on_with (view old).abilities.is_reliable (view wrote).abilities.is_reliable l.is_reliable _ _ (ap (λ a. a.is_reliable) H.framed.kind.abilities) h)

  -- what the commit may be refused for, the whole may
  commit_refused : (e : Error) → (e ≡ Error.ForeignMapping → ⊥) → allowed (commit_reasons (view wrote) m) e → allowed (mapping_reasons (view old) l (CommitMayTakeMemory view old) o n bytes true) e
  commit_refused = reasons
    where
      earlier : (x : Error) → ((p : ℕ) → is_for (view wrote) m m.state 0 m.length p → (view wrote).limits.cause Operation.Write p m.length x) → (view old).limits.cause Operation.Write o n x
      earlier x c = H.settled.causes Operation.Write o n o m.length x tt (omega arith) (omega (arith, H.mapping.within)) (omega arith) (omega (arith, H.mapping.within)) (c o H.for)

      reasons : (x : Error) → (x ≡ Error.ForeignMapping → ⊥) → allowed (commit_reasons (view wrote) m) x → allowed (mapping_reasons (view old) l (CommitMayTakeMemory view old) o n bytes true) x
      reasons E.WrapAround own a = inl (earlier Error.WrapAround a.1)
      reasons E.InvalidData own a = inl (earlier Error.InvalidData a.1)
      reasons E.Unsupported own a = inl (earlier Error.Unsupported a.1)
      reasons E.NoAccess own a = inl (earlier Error.NoAccess a.1)
      reasons E.Device own a = tt
      reasons E.Memory own a = inr (refl, (wrote, H.framed.kind, a.1))
      reasons E.ForeignMapping own a = own refl
      reasons E.ReadOnly own a = a
      reasons E.BeyondDisk own a = absurd a
      reasons E.RangeOverflow own a = a
      reasons E.Denied own a = a
      reasons E.NotFound own a = a

  -- what is written without a state stands in the layer itself
  direct_stands : is_for (view wrote) m None 0 m.length o → SamePlaces (view wrote).abilities.keeps_data (view wrote).place (view new).place → StandsAlone (view new).place o m.length
  direct_stands f c p i q v h =
      let e : o + (p - o) ≡ p = omega (arith, i.0) in
      let x = f (p - o) (omega (arith, i.0, i.1)) in
      let y = c.stored (o + (p - o)) x.0 m.storage (m.offset + 0 + (p - o)) x.1 x.2 in
      let k : Lower q v ≡ Stored y.0 m.storage (m.offset + 0 + (p - o)) x.1 = sym h ∙ sym (ap (view new).place e) ∙ y.1 in
      cc

  -- what is cancelled without a state does so, and nothing shows of one with a state
  cancelled_at : (st : Option St) → is_for (view wrote) m st 0 m.length o → SamePlaces (view wrote).abilities.keeps_data (view wrote).place (view new).place → StandsAlone (view new).place o (shown_length false (m.length, is_none st))
  cancelled_at None f c = direct_stands f c
  cancelled_at (Some s) f c = λ p i q v h. absurd (omega (arith, i.0, i.1))

  -- what is committed stands in the layer itself
  stands_at : (st : Option St) → is_for (view wrote) m st 0 m.length o → is_filled st l (view old) (view wrote) o overwrite bytes m → is_committed (view wrote).pending st false (view wrote) (view new) → StandsAlone (view new).place o m.length
  stands_at None f w c = direct_stands f c
  stands_at (Some s) f w c =
      let d : is_committed (Some w.0) (Some s) false (view wrote) (view new) = subst (λ (r : Option (Pending St)). is_committed r (Some s) false (view wrote) (view new)) w.1 c in
      let r = w.0 in
      let start : r.start ≡ o = w.2.start in
      let len : m.length ≡ r.length = w.2.own.2 in
      λ p i q v h.
      let e : r.start + (p - o) ≡ p = omega (arith, i.0, start) in
      let y = d.0 refl (p - o) (omega (arith, i.0, i.1, len)) in
      let k : Lower q v ≡ Stored y.0 r.storage (r.offset + (p - o)) true = sym h ∙ sym (ap (view new).place e) ∙ y.1 in
      cc

  -- a commit moves no place outside the blocks of the range
  committed_moves : StayBut (view wrote).abilities.keeps_data
      (commit_moves (view wrote).pending m.state) (view wrote).place (view new).place
      → MovesWithin Operation.Write o n (view old) (view new)
  committed_moves s =
      let a = (view wrote).abilities in
      let moves = commit_moves (view wrote).pending m.state in
      let shares : (p : ℕ) → moves p → SharesBlock a.block o m.length p
      = λ p c. rw H.framed.kind.abilities (H.near p c) in
      let near : (p : ℕ) → moves p → MayMove a Operation.Write o n p
      = λ p c. moves_block a Operation.Write o n p
      (shares_more a.block o n o m.length p (omega arith) (omega (arith, H.mapping.within))
      (shares p c)) in
      moved_twice Operation.Write o n (view old) (view wrote) (view new) H.framed.kind H.outside
      (stays_weaker a.keeps_data moves (MayMove a Operation.Write o n) (view wrote).place
      (view new).place near s)

  pub mapping_committed : IsCommit view wrote new m (Ok tt) → HasMapped l (CommitMayTakeMemory view old) (view old) (view new) o n overwrite bytes true (Ok (m.length, is_none m.state))
  mapping_committed c = record {
    mapping = H.mapping;
    done = λ keeps. changed_whole o m.length (filled (overwrite && not (is_none m.state)) bytes) _ _ (shown_by_commit false c.done keeps);
    torn = λ keeps. tt;
    alone = stands_at m.state H.for H.written c.done;
    settled = settled_for (settled_twice _ _ _ _ _ _ o m.length H.settled (c.settled o H.for));
    reaches = reaches_twice (view old) (view wrote) (view new) H.reaches c.reaches;
    framed = new_framed (stays (view wrote) (view new) c.framed c.lengths.no_shorter);
    spent = spent c.own_spent c.others_stay;
    faults = counted _ _ _ _ (new_goes (goes_on _ _ _ _ c.faults)) (λ h. let z : ⊥ = cc in absurd z);
    refusals = tt;
    outside = committed_moves c.outside;
  }
    where
      settled_for : IsSettled IsOnRange (view old).limits.cause (view new).limits.cause (view old).limits.copies (view new).limits.copies o m.length → IsSettled (settles_by true) (view old).limits.cause (view new).limits.cause (view old).limits.copies (view new).limits.copies o m.length
      settled_for s = record { causes = λ op a z q i e t. s.causes op a z q i e t.0; copied = λ op a z q i p t. s.copied op a z q i p t.0 }

  looser_part : (b : Bool) → IsChanged o n (partly (filled (overwrite && b) bytes)) (values l.at (view old).place) (values l.at (view new).place) → IsChanged o n (partly (filled overwrite bytes)) (values l.at (view old).place) (values l.at (view new).place)
  looser_part b c = record {
    inside = λ k lt. ⊎_elim (λ a. inl a) (λ a. inr (a.0, λ ge. ⊎_elim (λ f. inl (and_left overwrite b f)) (λ s. inr s) (a.1 ge))) (c.inside k lt);
    before = c.before;
    behind = c.behind;
  }

  pub mapping_torn : (e : Error) → IsCommit view wrote new m (Err e) → HasMapped l (CommitMayTakeMemory view old) (view old) (view new) o n overwrite bytes true (Err e)
  mapping_torn e c =
      let own : e ≡ Error.ForeignMapping → ⊥ = λ h. never_foreign (c.foreign.0 (ap (λ x. Err x) h)) in
      record {
        mapping = tt;
        done = λ keeps. tt;
        alone = tt;
        torn = λ keeps. looser_part (not (is_none m.state)) (changed_wider o m.length n (filled (overwrite && not (is_none m.state)) bytes) _ _ H.mapping.within (shown_by_commit true (c.torn (λ h. own (of_err e Error.ForeignMapping h))) keeps));
        settled = tt;
        reaches = reaches_twice (view old) (view wrote) (view new) H.reaches c.reaches;
        framed = new_framed (stays (view wrote) (view new) c.framed c.lengths.no_shorter);
        spent = spent c.own_spent c.others_stay;
        faults = counted _ _ _ _ (new_goes (goes_on _ _ _ _ c.faults)) (λ h. rose_more (view old).fault_count (view wrote).fault_count (view new).fault_count (view new).fault_count H.faults.later (omega arith) (c.faults.device (ap (λ x. Err x) (of_err e Error.Device h))));
        refusals = commit_refused e own c.refusals;
        outside = committed_moves c.outside;
      }

  pub mapping_cancelled : IsCancel view wrote new m → HasMapped l (CommitMayTakeMemory view old) (view old) (view new) o n overwrite bytes false (Ok (m.length, is_none m.state))
  mapping_cancelled c = record {
    mapping = H.mapping;
    done = λ keeps. unshown_at m.state H.written c.places keeps;
    torn = λ keeps. tt;
    alone = cancelled_at m.state H.for c.places;
    settled = record { causes = λ op a z q i e t. let y = t.1 in let x : ⊥ = cc in absurd x; copied = λ op a z q i p t. let y = t.1 in let x : ⊥ = cc in absurd x };
    reaches = reaches_twice (view old) (view wrote) (view new) H.reaches c.reaches;
    framed = new_framed (stays (view wrote) (view new) c.framed c.lengths.no_shorter);
    spent = spent c.own_spent c.others_stay;
    faults = counted _ _ _ _ (new_goes (record { later = c.later; reliable = c.reliable })) (λ h. let z : ⊥ = cc in absurd z);
    refusals = tt;
    outside = moved_twice Operation.Write o n (view old) (view wrote) (view new) H.framed.kind
        H.outside (moved_same Operation.Write o n (view wrote) (view new) c.places);
  }

-- a refused preparing or writing is one of the whole
pub mapping_refused : {St : Type 0} (l : LayerBelow) (commit_memory : Type 0) (old new : View St) (o n : ℕ) (overwrite : Bool) (bytes : List ℕ) (commit : Bool) (e : Error) → HasFilled l old new o n overwrite bytes (Err e) → HasMapped l commit_memory old new o n overwrite bytes commit (Err e)
mapping_refused l commit_memory old new o n overwrite bytes commit e h = record {
  mapping = tt;
  done = λ keeps. tt;
  torn = λ keeps. more (h.torn keeps);
  alone = tt;
  settled = tt;
  reaches = h.reaches;
  framed = h.framed;
  spent = h.nothing_pending;
  faults = counted _ _ _ _ (goes_on _ _ _ _ h.faults) (λ x. h.faults.device (ap (λ y. Err y) (of_err e Error.Device x)));
  refusals = allowed_more _ _ weaker e h.refusals;
  outside = h.outside;
}
  where
    weaker : IsWeaker (filling_reasons old l o n bytes) (mapping_reasons old l commit_memory o n bytes commit)
    weaker = record { read_only = λ a. a; beyond_disk = λ a. a; range_overflow = λ a. a; cause = λ x a. a; device = λ a. a; memory = λ a. inl a; foreign_mapping = λ a. a }

    more : IsChanged o n (partly (filled false bytes)) (values l.at old.place) (values l.at new.place) → IsChanged o n (partly (filled overwrite bytes)) (values l.at old.place) (values l.at new.place)
    more c = record {
      inside = λ k lt. ⊎_elim (λ a. inl a) (λ a. inr (a.0, λ ge. ⊎_elim (λ f. let x : ⊥ = cc in absurd x) (λ s. inr s) (a.1 ge))) (c.inside k lt);
      before = c.before;
      behind = c.behind;
    }

-- all bytes of the source fit: the writing of the first bytes of a range
module _ {St : Type 0} (l : LayerBelow) (commit_memory : Type 0) (old new : View St) (o : ℕ) (bytes : List ℕ) where
  first_weaker : IsWeaker (mapping_reasons old l commit_memory o (length bytes) bytes true) (first_reasons old l commit_memory o (length bytes))
  first_weaker = record {
    read_only = λ a. a;
    beyond_disk = λ a. a;
    range_overflow = λ a. a;
    cause = λ x a. a;
    device = λ a. a;
    memory = λ a. ⊎_elim (λ f. inl (λ free. f (free, omega arith))) (λ may. inr may.1) a;
    foreign_mapping = λ a. a;
  }

  pub first_written : (c : ℕ) (b : Bool) → 0 < length bytes → HasMapped l commit_memory old new o (length bytes) true bytes true (Ok (c, b)) → HasWritten l commit_memory old new o bytes (Ok c)
  first_written c b some h = wrote_first l commit_memory old new o bytes c (h.mapping.some some) h.mapping.within
      (λ keeps. let d = h.done keeps in record { inside = λ k lt. (d.inside k lt).0 (omega (arith, h.mapping.within)); before = d.before; behind = d.behind })
      h.mapping.whole h.alone
      (record { causes = λ op a z q i e t. h.settled.causes op a z q i e (t, refl); copied = λ op a z q i p t. h.settled.copied op a z q i p (t, refl) })
      h.reaches h.framed h.outside h.spent (goes_on _ _ _ _ h.faults)

  pub first_refused : (e : Error) → HasMapped l commit_memory old new o (length bytes) true bytes true (Err e) → HasWritten l commit_memory old new o bytes (Err e)
  first_refused e h = refused_first l commit_memory old new o bytes e
      (λ keeps. let d = h.torn keeps in record { inside = λ k lt. ⊎_elim (λ a. inl a) (λ a. inr (a.0 lt)) (d.inside k lt); before = d.before; behind = d.behind })
      h.reaches h.framed h.outside h.spent (goes_on _ _ _ _ h.faults) (λ x. h.faults.device (ap (λ y. Err y) x)) (allowed_more _ _ first_weaker e h.refusals)
