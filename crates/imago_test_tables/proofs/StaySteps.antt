-- SPDX-License-Identifier: MIT
use Rattle.std.proofs.Common.{◌≡◌, ℕ, ◌+◌, ◌<◌, ◌≤◌, ◌&&◌, ⊎_elim, Bool, List, Option, Some, None}
use Rattle.std.proofs.Common.{ap, ◌∙◌, arith}
use Rattle.std.proofs.lemmas.Bool.{cases_lt}
use Rattle.std.specs.Prelude.{slice_get}
use Rattle.imago_drivers.specs.Commit.{commit_moves}
use Rattle.imago_drivers.specs.Outside.{SharesBlock, StayBut, StaysOutside}
use Rattle.imago_drivers.specs.Pending.{Pending, IsOwn}
use Rattle.imago_drivers.specs.Place.{IsIn}
use Rattle.imago_drivers.specs.declared.mapping.PreparedDataMapping.{PreparedDataMapping}
use Rattle.imago_drivers.proofs.Stays.{outside_range, shares_own}
use Rattle.imago_test_tables.specs.declared.sparse.Waiting.{Waiting}
use Rattle.imago_test_tables.specs.declared.table.Origin.{Origin}
use Rattle.imago_test_tables.specs.Sparse.{entry_place, sparse_place, sparse_pending}
use Rattle.imago_test_tables.specs.Table.{IsFilled, IsPartlyFilled}

-- What stays where it stands, over storages of these bytes.
module _ (bytes : ℕ → List ℕ) (keeps : Bool) (table now : List Origin) where
  -- a place stays as its entry does
  pub entries_stay : (moves : ℕ → Type 0)
      → ((p : ℕ) → (moves p → ⊥) → slice_get now p ≡ slice_get table p)
      → StayBut keeps moves (sparse_place bytes table) (sparse_place bytes now)
  entries_stay moves kept = record {
    stored = λ p b s f w out e. (b, ap (entry_place bytes p) (kept p out) ∙ e);
    same = λ k p out. ap (entry_place bytes p) (kept p out);
  }

  -- entries that are filled in a range move nothing outside of it
  pub filled_stays : (o n : ℕ) (origin : Origin) → IsPartlyFilled o n origin table now
      → StaysOutside keeps 1 o n (sparse_place bytes table) (sparse_place bytes now)
  filled_stays o n origin fill =
      outside_range keeps 1 o n (sparse_place bytes table) (sparse_place bytes now)
      (entries_stay (IsIn o n) (λ p out. ⊎_elim
      (λ same. same)
      (λ given. absurd (out (given.0)))
      (fill.each p)))

  -- nor does the commit of the first n bytes of the write that waits
  pub commit_stays : (first : List ℕ) (n : ℕ) (waiting : Option Waiting)
      (m : PreparedDataMapping ℕ) (st : Option ℕ) → m.state ≡ st
      → IsOwn (sparse_pending keeps first waiting) m → IsFilled m.offset n Origin.First table now
      → n ≤ m.length
      → StayBut keeps (commit_moves (sparse_pending keeps first waiting) st)
      (sparse_place bytes table) (sparse_place bytes now)
  commit_stays first n None m st e own fill most = absurd own
  commit_stays first n (Some w) m None e own fill most =
      let x = own.3 in let z : ⊥ = cc in absurd z
  commit_stays first n (Some w) m (Some t) e own fill most =
      let begins : m.offset ≡ w.start = own.1 in
      let long : m.length ≡ w.length = own.2 in
      let filled : IsFilled w.start n Origin.First table now = rw begins at fill in
      entries_stay (commit_moves (sparse_pending keeps first (Some w)) (Some t)) (λ p out. ⊎_elim
      (λ under. filled.before p under)
      (λ above. ⊎_elim
      (λ inside. absurd (out (above, omega (arith, inside, most, long))))
      (λ over. filled.behind p over)
      (cases_lt p (w.start + n)))
      (cases_lt p w.start))

-- what waits from an offset on shares its blocks with the bytes from there on
pub waits_near : (o m from until : ℕ) → from ≡ o → until ≡ o + m → (p : ℕ) → from ≤ p → p < until
    → SharesBlock 1 o m p
waits_near o m from until a b p low high =
    shares_own 1 o m p (omega (arith, a, low), omega (arith, b, high))
