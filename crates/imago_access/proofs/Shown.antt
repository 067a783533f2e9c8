-- SPDX-License-Identifier: MIT
use Rattle.std.proofs.Common.{◌≡◌, ℕ, ◌+◌, ◌<◌, ◌≤◌, ◌⊎◌, inl, inr, ⊎_elim, Bool, true, false, Option, Some, None, List, length, ap, arith, Result, Ok, Err}
use Rattle.std.specs.Prelude.{IsTrue, OnOk, OnErr}
use Rattle.imago_storage.specs.declared.error.Error.{Error}
use Rattle.imago_drivers.specs.declared.mapping.PreparedDataMapping.{PreparedDataMapping}
use Rattle.imago_drivers.specs.Place.{Value, Place, Stored, PlacesAreWritableAt, SamePlaces, values, shown}
use Rattle.imago_drivers.specs.Pending.{Pending, ShowsRound}
use Rattle.imago_drivers.specs.View.{View}
use Rattle.imago_drivers.specs.Laws.{IsLawful}
use Rattle.imago_drivers.specs.Changes.{IsChanged, or_torn}
use Rattle.imago_drivers.specs.Prepared.{IsPut, IsWritten, is_written}
use Rattle.imago_drivers.specs.Commit.{IsCommit, is_committed, prepared_bytes}
use Rattle.imago_access.specs.declared.access.FormatAccess.{FormatAccess}
use Rattle.imago_access.specs.Chain.{driver, backing, disk_value, lent_image}
use Rattle.imago_access.specs.Lending.{with_driver}
use Rattle.imago_access.specs.PreparedOnDisk.{ShowsSame, ShowsPut, shows_written, ShowsPreparedWrite, shows_committed, ShowsCommit}
use Rattle.imago_access.proofs.Images.{changed_image}

-- storage bytes that are put where places stand, as values over a layer below
put_values : {St : Type 0} (old : View St) (law : IsLawful old) (below : ℕ → Value) (storage offset : ℕ) (bytes : List ℕ) (torn keeps : Bool) (new : ℕ → Place) → IsTrue keeps
    → IsPut storage offset bytes torn keeps old.place new → ShowsPut old.place storage offset bytes torn (values below old.place) (values below new)
put_values old law below storage offset bytes torn keeps new k W = record {
  hit = λ p b i w lt e. ⊎_elim (λ a. inl (ap (shown below) a)) (λ a. inr (a.0, ap (shown below) a.1)) (W.hit k p b i w lt e);
  miss = λ p none. ap (shown below) (W.miss k p none);
  range = λ o named. record {
    inside = λ i lt.
        let s = named i lt in
        ⊎_elim (λ a. inl (ap (shown below) a)) (λ a. inr (a.0, ap (shown below) a.1)) (W.hit k (o + i) s.0 i true lt s.1);
    before = λ p h. ap (shown below) (W.miss k p (outside o named p (inl h)));
    behind = λ p h. ap (shown below) (W.miss k p (outside o named p (inr h)));
  };
}
  where
    -- an offset outside of a range of writable ones stands at none of its bytes
    outside : (o : ℕ) (named : PlacesAreWritableAt old.place storage offset (length bytes) o) (p : ℕ) → (p < o) ⊎ (o + length bytes ≤ p) → (b i : ℕ) (w : Bool) → i < length bytes → old.place p ≡ Stored b storage (offset + i) w → ⊥
    outside o named p out b i w lt e =
        let s = named i lt in
        let same : o + i ≡ p = law.own (o + i) p s.0 b storage (offset + i) w s.1 e in
        ⊎_elim (λ a. omega arith) (λ a. omega arith) out

ok_then : {P Q : Type 0} (r : Result Unit Error) → (P → Q) → OnOk r P → OnOk r Q
ok_then (Ok t) f h = f h
ok_then (Err e) f h = tt

err_then : {P Q : Type 0} (r : Result Unit Error) → (P → Q) → OnErr r P → OnErr r Q
err_then (Ok t) f h = tt
err_then (Err e) f h = f h

module _ {D St : Type 0} (view : D → View St) (x : FormatAccess D) (d : D) (keeps : IsTrue (view (driver x)).abilities.keeps_data) where
  -- places that stay show what they did
  pub shows_same : SamePlaces (view (driver x)).abilities.keeps_data (view (driver x)).place (view d).place → ShowsSame (disk_value view x) (disk_value view (with_driver x d))
  shows_same h = changed_image view x d (λ a b. ShowsSame a b) (λ p. ap (shown (lent_image view (backing x)).at) (h.same keeps p))

  module _ (law : IsLawful (view (driver x))) (m : PreparedDataMapping St) (at : ℕ) (bytes : List ℕ) where
    written_at : (st : Option St) (torn : Bool) → is_written st torn (view (driver x)) (view d) m at bytes → shows_written view st torn x (with_driver x d) m at bytes
    written_at None torn h =
        changed_image view x d (λ a b. ShowsPut (view (driver x)).place m.storage (m.offset + at) bytes torn a b)
        (put_values (view (driver x)) law (lent_image view (backing x)).at m.storage (m.offset + at) bytes torn (view (driver x)).abilities.keeps_data (view d).place keeps h.0)
    written_at (Some s) torn h = shows_same h.0

    -- what a write into a prepared mapping shows
    pub write_shown : (result : Result Unit Error) → OnOk result (IsWritten false (view (driver x)) (view d) m at bytes) → OnErr result (IsWritten true (view (driver x)) (view d) m at bytes)
        → ShowsPreparedWrite view x (with_driver x d) m at bytes result
    write_shown result done torn = record { done = ok_then result (λ h. written_at m.state false h) done; torn = err_then result (λ h. written_at m.state true h) torn }

  committed_at : (pending : Option (Pending St)) (st : Option St) (torn : Bool) → is_committed pending st torn (view (driver x)) (view d) → shows_committed view pending st torn x (with_driver x d)
  committed_at pending None torn h = shows_same h
  committed_at None (Some s) torn h = h
  committed_at (Some q) (Some s) torn h =
      changed_image view x d (λ a b. ShowsRound a (Some q) → IsChanged q.start q.length (or_torn torn (prepared_bytes q)) a b)
      (λ round. h.1 keeps (lent_image view (backing x)).at round)

  -- what a commit shows
  pub commit_shown : (m : PreparedDataMapping St) (result : Result Unit Error) → IsCommit view (driver x) d m result → ShowsCommit view x (with_driver x d) m result
  commit_shown m result h = record {
    done = ok_then result (λ c. committed_at (view (driver x)).pending m.state false c) h.done;
    torn = λ own. err_then result (λ c. committed_at (view (driver x)).pending m.state true c) (h.torn own);
    foreign = λ e.
        let same = h.untouched e in
        changed_image view x d (λ a b. ShowsSame a b) (λ p. ap (λ (y : D). values (lent_image view (backing x)).at (view y).place p) same);
  }
