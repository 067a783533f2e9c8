-- SPDX-License-Identifier: MIT
use Rattle.std.proofs.Common.{◌≡◌, ℕ, ◌+◌, ◌-◌, ◌*◌, ◌/◌, ◌%◌, ◌<◌, ◌≤◌, ⊎_elim, Bool, true, false, List, length, Option, Some, None, refl, sym, ap, ◌∙◌, arith, nat_lt}
use Rattle.std.specs.Prelude.{slice_get, slice_index, IsTrue}
use Rattle.std.proofs.lemmas.Bool.{cases_lt}
use Rattle.std.proofs.lemmas.Bool.Decides.{nat_tests}
use Rattle.std.proofs.lemmas.Nat.{div-add-mod'}
use Rattle.imago_drivers.specs.Place.{Value, Byte, Place, shown, values, BytesAreWritable, HasStranger}
use Rattle.imago_drivers.specs.Ranges.{HasBytes}
use Rattle.imago_drivers.specs.Pending.{IsOwn, ShowsRound, StaysPending}
use Rattle.imago_drivers.specs.Prepared.{is_foreign_write}
use Rattle.imago_drivers.specs.View.{View}
use Rattle.imago_drivers.specs.declared.mapping.PreparedDataMapping.{PreparedDataMapping}
use Rattle.imago_cow.specs.declared.table.GuestBlock.{GuestBlock}
use Rattle.imago_cow.specs.declared.cow.Waiting.{Waiting}
use Rattle.imago_cow.specs.Guest.{cow_place, is_data}
use Rattle.imago_cow.specs.GuestLaws.{rest_small, one_number, lies_in}
use Rattle.imago_cow.specs.Cow.{cow_pending, WaitsApart, waiting_byte, waiting_from}
use Rattle.imago_cow.specs.CowLaws.{stored_place}
use Rattle.imago_cow.proofs.StoredSteps.{same_stored}
use Rattle.imago_cow.proofs.PrepareSteps.{pending_of}

-- the mapping that waits may be written
pub own_is_written : {St : Type 0} (v : View St) (m : PreparedDataMapping St) (st : Option St) (s : St) → st ≡ Some s → IsOwn v.pending m → is_foreign_write v m st → ⊥
own_is_written v m None s e own f = let z : ⊥ = cc in z
own_is_written v m (Some t) s e own f = f own

-- bytes of writable places have no stranger
pub no_stranger : (place : ℕ → Place) (offset n : ℕ) → BytesAreWritable place 0 offset n → HasStranger place 0 offset n → ⊥
no_stranger place offset n all (i, h, none) = let x = all i h in none (x.0) (x.1) (x.2)

-- A write of bytes of writable places, where a write may wait elsewhere.
module _ (old new : List ℕ) (size block : ℕ) (entries : List GuestBlock) (blocks : ℕ) (positive : 0 < block) (start count at : ℕ) (xs : List ℕ) (torn : Bool) (fits : at + length xs ≤ count) (all : BytesAreWritable (cow_place old size block entries) 0 start count) where
  abbrev Put : Type 0
  Put = HasBytes torn (start + at) (length xs) (λ k. slice_index xs k) old new

  module _ (w : Waiting) (apart : WaitsApart block size entries blocks w) (put : Put) where
    -- a byte of the data block that waits stays
    waiting_stays : (x r : ℕ) → r < block → x ≡ w.number * block + r → slice_index new x ≡ slice_index old x
    waiting_stays x r small e = ⊎_elim
        (λ before. put.before x before)
        (λ from. ⊎_elim
        (λ inside.
        let k : ℕ = x - start in
        let h : k < count = omega (arith, from, inside, fits) in
        let p = all k h in
        let y = (stored_place old size block entries (p.0) (p.1) 0 (start + k) true (p.2)).1 in
        let q : w.number * block + r ≡ y.number * block + p.0 % block = omega (arith, e, from, y.offset) in
        let same = one_number block positive w.number y.number r (p.0 % block) small (rest_small block positive (p.0)) q in
        absurd (apart.apart (p.0 / block) (y.named ∙ ap (λ j. Some (GuestBlock.Data j)) (sym same))))
        (λ behind. put.behind x behind)
        (cases_lt x (start + at + length xs)))
        (cases_lt x (start + at))

    waiting_byte_stays : (p : ℕ) → p < waiting_from block w + block → waiting_byte block new w p ≡ waiting_byte block old w p
    waiting_byte_stays p h = ⊎_elim
        (λ early. let t : nat_lt p (waiting_from block w) ≡ true = grind (arith, nat_tests) in rw t refl)
        (λ from.
        let t : nat_lt p (waiting_from block w) ≡ false = grind (arith, nat_tests) in
        let r : p - waiting_from block w < block = omega (arith, h, from) in
        let e : w.offset + p - w.start ≡ w.number * block + (p - waiting_from block w) = omega (arith, apart.offset, from, div-add-mod' w.start block) in
        rw t (waiting_stays (w.offset + p - w.start) (p - waiting_from block w) r e))
        (cases_lt p (waiting_from block w))

    -- a place of the guest block that waits stands in no data block, and stays
    round_place : (p : ℕ) → waiting_from block w ≤ p → p < waiting_from block w + block → cow_place new size block entries p ≡ cow_place old size block entries p
    round_place p h k = same_stored size block entries old new p (λ b s o v e.
        let y = (stored_place old size block entries p b s o v e).1 in
        let a = div-add-mod' w.start block in
        let same : p / block ≡ w.start / block = lies_in block positive (w.start / block) p (omega (arith, a, h)) (omega (arith, a, k)) in
        let x : true ≡ false = sym (ap is_data (ap (slice_get entries) (sym same) ∙ y.named)) ∙ apart.free in
        let z : ⊥ = cc in absurd z)

  pub pending_stays : (keeps : Bool) (v : Option Waiting) → ((w : Waiting) → v ≡ Some w → WaitsApart block size entries blocks w) → (IsTrue keeps → Put) → StaysPending keeps (cow_pending block size old v) (cow_pending block size new v)
  pending_stays keeps None apart put = refl
  pending_stays keeps (Some w) apart put = (pending_of block size new w, refl, record { same = refl; shown = λ k p x y. waiting_byte_stays w (apart w refl) (put k) p (omega (arith, y)) })

  pub round_other : (v : Option Waiting) → ((w : Waiting) → v ≡ Some w → WaitsApart block size entries blocks w) → Put → (below : ℕ → Value) → ShowsRound (values below (cow_place old size block entries)) (cow_pending block size old v) → ShowsRound (values below (cow_place new size block entries)) (cow_pending block size new v)
  round_other None apart put below round = tt
  round_other (Some w) apart put below round = λ p x y out.
      ap (shown below) (round_place w (apart w refl) put p x (omega (arith, y))) ∙ round p x y out ∙ ap (λ b. Byte b) (sym (waiting_byte_stays w (apart w refl) put p (omega (arith, y))))
