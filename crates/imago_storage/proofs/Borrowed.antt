-- What was called of a storage behind a borrow, as calls of the borrow.
-- SPDX-License-Identifier: MIT

use Rattle.std.proofs.Common.{ℕ, List, [], ◌∷◌, replicate, ap, inl, inr, Result, MutBor}
use Rattle.imago_storage.specs.declared.error.Error.{Error}
use Rattle.imago_storage.specs.Features.{Features, zero_piece}
use Rattle.imago_storage.specs.IoCount.{IoCount}
use Rattle.imago_storage.specs.Maintenance.{Maintenance}
use Rattle.imago_storage.specs.Steps.{IsPureWrite, AreMadeInOrder, one_piece_or_more}
use Rattle.imago_storage.specs.Zeroes.{IsZeroedAsData}

module _ {S : Type 0} (features_of : S → Features) (bytes_of : S → List ℕ) (calls : Maintenance S) (lent : Maintenance (MutBor S))
    (work_of : S → IoCount) (written : (at : ℕ) (source : List ℕ) (a b : MutBor S) (r : Result (Unit {0}) Error) → calls.written at source a.now b.now r → lent.written at source a b r) (self : MutBor S) where
  abbrev behind : S → MutBor S
  behind s = record self { now = s }

  pieces_behind : (ranges : List (ℕ × ℕ)) (old new : S) (result : Result (Unit {0}) Error) → AreMadeInOrder (λ at n. IsPureWrite features_of bytes_of calls at (replicate {A = ℕ} n 0)) ranges old new result
      → AreMadeInOrder (λ at n. IsPureWrite (λ s. features_of s.now) (λ s. bytes_of s.now) lent at (replicate {A = ℕ} n 0)) ranges (behind old) (behind new) result
  pieces_behind [] old new result made = (ap behind made.0, made.1)
  pieces_behind ((at, n) ∷ more) old new result made = record {
    answer = made.answer;
    between = behind made.between;
    made = record { made = written at (replicate {A = ℕ} n 0) (behind old) (behind made.between) made.answer made.made.made; bytes = made.made.bytes; features = made.made.features };
    refused = λ e is. let r = made.refused e is in (ap behind r.0, r.1);
    behind = λ is. pieces_behind more made.between new result (made.behind is);
  }

  pub zeroed_behind : (f : Features) (at n : ℕ) (old new : S) (result : Result (Unit {0}) Error) → IsZeroedAsData features_of bytes_of calls work_of f at n old new result
      → IsZeroedAsData (λ s. features_of s.now) (λ s. bytes_of s.now) lent (λ s. work_of s.now) f at n (behind old) (behind new) result
  zeroed_behind f at n old new result made = record {
    work = made.work;
    performed = elim made.performed [
      | inl none ↦ inl (ap behind none.0, none.1)
      | inr each ↦ inr (pieces_behind (one_piece_or_more (zero_piece f) at n) old new result each)
    ];
  }
