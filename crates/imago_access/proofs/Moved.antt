-- SPDX-License-Identifier: MIT
use Rattle.std.proofs.Common.{◌≡◌, ℕ, ◌+◌, ◌-◌, ◌*◌, ◌/◌, ◌%◌, ◌<◌, ◌≤◌, ⊎_elim, inl, inr, List, length, Option, Some, None, Bool, arith, refl, sym, ◌∙◌}
use Rattle.std.proofs.lemmas.Bool.{cases_lt}
use Rattle.std.proofs.lemmas.Nat.{div-add-mod', div-mul-add, mod_below}
use Rattle.imago_drivers.specs.Operation.{Operation, Write, Zero}
use Rattle.imago_drivers.specs.Place.{IsIn, PlacesAreWritableAt, SamePlaces}
use Rattle.imago_drivers.specs.Outside.{SharesBlock, StayBut, StaysOutside}
use Rattle.imago_drivers.specs.View.{Abilities, View}
use Rattle.imago_drivers.specs.Laws.{IsLawful}
use Rattle.imago_drivers.specs.Frame.{IsKind}
use Rattle.imago_drivers.specs.Prepared.{IsPut}
use Rattle.imago_drivers.proofs.Stays.{shares_more, stays_same, stays_itself, stays_weaker, stays_twice}
use Rattle.imago_access.specs.Moves.{MakesZeroes, SharesGranule, IsTouched, MayMove, MovesWithin}

-- the granule or block that an offset lies in
pub lies_in : (block number p : ℕ) → number * block ≤ p → p < number * block + block
    → p / block ≡ number
lies_in block number p h k =
    let rest : p - number * block < block = omega arith in
    let e : number * block + (p - number * block) ≡ p = omega arith in
    rw e at (div-mul-add number block (p - number * block) rest)

module _ (a : Abilities) (op : Operation) where
  shares_more_of : (g : Option ℕ) (o n q m p : ℕ) → o ≤ q → q + m ≤ o + n → SharesGranule g q m p
      → SharesGranule g o n p
  shares_more_of None o n q m p h k s = s
  shares_more_of (Some g) o n q m p h k s = shares_more g o n q m p h k s

  touched_more : (o n q m p : ℕ) → o ≤ q → q + m ≤ o + n → IsTouched a op q m p
      → IsTouched a op o n p
  touched_more o n q m p h k t = ⊎_elim
      (λ i. inl (omega (arith, h, i.0), omega (arith, k, i.1)))
      (λ g. inr (g.0, shares_more_of a.zero_granularity o n q m p h k g.1))
      t

  -- what a part of a range may move, the range may
  moves_more : (o n q m p : ℕ) → o ≤ q → q + m ≤ o + n → MayMove a op q m p → MayMove a op o n p
  moves_more o n q m p h k t = (t.0, touched_more o n q m t.0 h k t.1, t.2)

  pub moves_block : (o n p : ℕ) → SharesBlock a.block o n p → MayMove a op o n p
  moves_block o n p s = (s.0, inl s.1, s.2)

module _ {St : Type 0} (op : Operation) (o n : ℕ) where
  pub moved_none : (v : View St) → MovesWithin op o n v v
  moved_none v = stays_itself v.abilities.keeps_data (MayMove v.abilities op o n) v.place

  module _ (old new : View St) where
    pub moved_same : SamePlaces old.abilities.keeps_data old.place new.place
        → MovesWithin op o n old new
    moved_same s =
        stays_same old.abilities.keeps_data (MayMove old.abilities op o n) old.place new.place s

    -- what moves no place but those in the range's blocks
    pub moved_outside : StaysOutside old.abilities.keeps_data old.abilities.block o n old.place
        new.place → MovesWithin op o n old new
    moved_outside s =
        stays_weaker old.abilities.keeps_data (SharesBlock old.abilities.block o n)
        (MayMove old.abilities op o n) old.place new.place
        (λ p x. moves_block old.abilities op o n p x) s

    pub moved_wider : (q m : ℕ) → o ≤ q → q + m ≤ o + n → MovesWithin op q m old new
        → MovesWithin op o n old new
    moved_wider q m h k s =
        stays_weaker old.abilities.keeps_data (MayMove old.abilities op q m)
        (MayMove old.abilities op o n) old.place new.place
        (λ p x. moves_more old.abilities op o n q m p h k x) s

    -- a write moves no more than any other operation on that range
    pub moved_writing : MovesWithin Write o n old new → MovesWithin op o n old new
    moved_writing s =
        stays_weaker old.abilities.keeps_data (MayMove old.abilities Write o n)
        (MayMove old.abilities op o n) old.place new.place
        (λ p x. (x.0, ⊎_elim (λ i. inl i) (λ g. absurd g.0) x.1, x.2)) s

    -- zeroes move no more than any other operation that makes them
    pub moved_zeroing : MakesZeroes op → MovesWithin Zero o n old new → MovesWithin op o n old new
    moved_zeroing zeroes s =
        stays_weaker old.abilities.keeps_data (MayMove old.abilities Zero o n)
        (MayMove old.abilities op o n) old.place new.place
        (λ p x. (x.0, ⊎_elim (λ i. inl i) (λ g. inr (zeroes, g.1)) x.1, x.2)) s

  pub moved_twice : (old mid new : View St) → IsKind old mid → MovesWithin op o n old mid
      → MovesWithin op o n mid new → MovesWithin op o n old new
  moved_twice old mid new kind a b =
      let c : StayBut old.abilities.keeps_data (MayMove old.abilities op o n) mid.place new.place
      = rw (← kind.abilities) b in
      stays_twice old.abilities.keeps_data (MayMove old.abilities op o n) old.place mid.place
      new.place a c

  -- a range, and then a part of it
  pub moved_then : (old mid new : View St) (q m : ℕ) → IsKind old mid → o ≤ q → q + m ≤ o + n
      → MovesWithin op o n old mid → MovesWithin op q m mid new → MovesWithin op o n old new
  moved_then old mid new q m kind h k a b =
      moved_twice old mid new kind a (moved_wider mid new q m h k b)

-- bytes that are put where places from o on stand move no others
pub moved_put : {St : Type 0} (old new : View St) (torn : Bool) (o n s f k : ℕ) (bytes : List ℕ)
    → IsLawful old → PlacesAreWritableAt old.place s f k o → length bytes ≤ k → k ≤ n
    → IsPut s f bytes torn old.abilities.keeps_data old.place new.place
    → MovesWithin Write o n old new
moved_put old new torn o n s f k bytes law at fit within put = record {
  stored = λ p b t g w out e. put.stored p b t g w e;
  same = λ keeps p out. put.miss keeps p (λ b i w lt e.
      let x = at i (omega (arith, lt, fit)) in
      let here : o + i ≡ p = law.own (o + i) p x.0 b s (f + i) w x.1 e in
      let inside : IsIn o n p = (omega (arith, here), omega (arith, here, lt, fit, within)) in
      out (p, inl inside, refl));
}

-- Whole granules from s to e, round the n bytes from o on.
pub record AreGranulesRound (g o n s e : ℕ) : Type 0 where
  pub some : 0 < n
  pub head : (p : ℕ) → s ≤ p → p < o → p / g ≡ o / g
  pub tail : (p : ℕ) → o + n ≤ p → p < e → p / g ≡ (o + n - 1) / g

module _ (g o n s e : ℕ) (round : AreGranulesRound g o n s e) where
  -- each offset from s to e shares a granule with one of the range
  in_granule : (p : ℕ) → IsIn s (e - s) p → SharesBlock g o n p
  in_granule p i = ⊎_elim
      (λ before. (o, (omega arith, omega (arith, round.some)), round.head p i.0 before))
      (λ from. ⊎_elim
      (λ inside. (p, (from, inside), refl))
      (λ behind. (
        o + n - 1,
        (omega (arith, round.some), omega (arith, round.some)),
        round.tail p behind (omega (arith, i.0, i.1)),
      ))
      (cases_lt p (o + n)))
      (cases_lt p o)

  granule_touched : (a : Abilities) (p : ℕ) → a.zero_granularity ≡ Some g
      → IsTouched a Zero s (e - s) p → IsTouched a Zero o n p
  granule_touched a p is t = ⊎_elim
      (λ i. inr (tt, rw is (in_granule p i)))
      (λ r.
      let x : SharesBlock g s (e - s) p = rw is at r.1 in
      let y = in_granule x.0 x.1 in
      let z : SharesBlock g o n p = (y.0, y.1, x.2 ∙ y.2) in
      inr (tt, rw is z))
      t

  -- what zeroing whole granules moves, zeroing the range may
  pub moved_granules : {St : Type 0} (old new : View St) → old.abilities.zero_granularity ≡ Some g
      → MovesWithin Zero s (e - s) old new → MovesWithin Zero o n old new
  moved_granules old new is h =
      stays_weaker old.abilities.keeps_data (MayMove old.abilities Zero s (e - s))
      (MayMove old.abilities Zero o n) old.place new.place
      (λ p x. (x.0, granule_touched old.abilities x.0 is x.1, x.2)) h

-- what stands before an offset in its granule
pub granule_before : (g o p : ℕ) → 0 < g → o - o % g ≤ p → p < o → p / g ≡ o / g
granule_before g o p some from before =
    let e : o / g * g + o % g ≡ o = div-add-mod' o g in
    lies_in g (o / g) p (omega (arith, e, from)) (omega (arith, e, mod_below o g some, before))

-- what stands behind a range in its last granule, where it ends inside one
pub granule_behind : (g e p : ℕ) → 0 < g → 0 < e % g → e ≤ p → p < e - e % g + g
    → p / g ≡ (e - 1) / g
granule_behind g e p some tail from before =
    let x : e / g * g + e % g ≡ e = div-add-mod' e g in
    let a : p / g ≡ e / g
    = lies_in g (e / g) p (omega (arith, x, from)) (omega (arith, x, before)) in
    let b : (e - 1) / g ≡ e / g
    = lies_in g (e / g) (e - 1) (omega (arith, x, tail)) (omega (arith, x, from, before)) in
    a ∙ sym b
