-- SPDX-License-Identifier: MIT
use Rattle.std.proofs.Common.{◌≡◌, ◌↔◌, ℕ, ap}
use Rattle.std.proofs.Math.Path.{subst⁻¹}
use Rattle.std.specs.Prelude.{Result, OnOk, IfErr}
use Rattle.imago_storage.specs.declared.error.Error.{Error}
use Rattle.imago_drivers.specs.Causes.{IsSettled, IsOnRange}
use Rattle.imago_drivers.specs.Calls.{IsFlush}
use Rattle.imago_drivers.specs.Commit.{IsCommit, IsCancel}
use Rattle.imago_drivers.specs.Done.{mapping_write_reasons}
use Rattle.imago_drivers.specs.Prepared.{IsFor, IsForeignWrite}
use Rattle.imago_drivers.specs.Reasons.{allowed}
use Rattle.imago_drivers.specs.View.{View}
use Rattle.imago_drivers.specs.declared.mapping.PreparedDataMapping.{PreparedDataMapping}

-- What a driver promises of a commit and of a cancel, one that holds it promises too.
module _ {A Self St : Type 0} (holding : A → Self) (view : Self → View St) (old new : A) (m : PreparedDataMapping St) where
  pub commit_of : (result : Result Unit Error) → IsCommit (λ a. view (holding a)) old new m result → IsCommit view (holding old) (holding new) m result
  commit_of result x = record {
    foreign = x.foreign;
    untouched = λ e. ap holding (x.untouched e);
    done = x.done;
    torn = x.torn;
    own_spent = x.own_spent;
    others_stay = x.others_stay;
    reaches = x.reaches;
    settled = x.settled;
    lengths = x.lengths;
    framed = x.framed;
    faults = x.faults;
    refusals = x.refusals;
    outside = x.outside;
  }

  pub cancel_of : IsCancel (λ a. view (holding a)) old new m → IsCancel view (holding old) (holding new) m
  cancel_of x = record {
    own_spent = x.own_spent;
    others_stay = x.others_stay;
    untouched = λ f. ap holding (x.untouched f);
    places = x.places;
    reaches = x.reaches;
    lengths = x.lengths;
    framed = x.framed;
    later = x.later;
    reliable = x.reliable;
  }

-- the same of a flush
pub flush_of : {A Self St : Type 0} (holding : A → Self) (view : Self → View St) (old new : A) (result : Result Unit Error) (inner : A → A → Result Unit Error → Type 0) (outer : Self → Self → Result Unit Error → Type 0)
    → (inner old new result → outer (holding old) (holding new) result) → IsFlush (λ a. view (holding a)) inner old new result → IsFlush view outer (holding old) (holding new) result
flush_of holding view old new result inner outer h x = record {
  performed = h x.performed;
  unchanged = x.unchanged;
  pending = x.pending;
  causes = x.causes;
  lengths = x.lengths;
  faults = x.faults;
  refusals = x.refusals;
}

-- What is said of a write into a mapping is said of a driver that is known to be another one.
module _ {D St : Type 0} (view : D → View St) {d e : D} (is : d ≡ e) (m : PreparedDataMapping St) where
  pub foreign_at : (X : Type 0) → X ↔ IsForeignWrite (view e) m → X ↔ IsForeignWrite (view d) m
  foreign_at X h = subst⁻¹ (λ (x : D). X ↔ IsForeignWrite (view x) m) is h

  abbrev pub SettlesAt : (x : D) (new : View St) (at n : ℕ) → Type 0
  SettlesAt x new at n = (o : ℕ) → IsFor (view x) m at n o → IsSettled IsOnRange (view x).limits.cause new.limits.cause (view x).limits.copies new.limits.copies o n

  pub causes_at : (new : View St) (at n : ℕ) (result : Result Unit Error) → OnOk result (SettlesAt e new at n) → OnOk result (SettlesAt d new at n)
  causes_at new at n result h = subst⁻¹ (λ (x : D). OnOk result (SettlesAt x new at n)) is h

  pub refusals_at : (at n : ℕ) (result : Result Unit Error) → IfErr result (allowed (mapping_write_reasons (view e) m at n)) → IfErr result (allowed (mapping_write_reasons (view d) m at n))
  refusals_at at n result h = subst⁻¹ (λ (x : D). IfErr result (allowed (mapping_write_reasons (view x) m at n))) is h
