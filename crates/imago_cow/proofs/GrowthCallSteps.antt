-- The calls that a growth makes of the storage.
-- SPDX-License-Identifier: MIT
use Rattle.std.proofs.Common.{suc, ◌≡◌, ℕ, ◌+◌, ◌-◌, ◌*◌, ◌/◌, ◌%◌, ◌<◌, ◌≤◌, ◌++◌, ◌∷◌, [], Bool, true, false, List, length, min, max, refl, sym, subst, arith, inl, inr, ⊎_elim, Result, Ok, Err, Option, None, Some}
use Rattle.std.specs.Prelude.{IsOk, slice_get, slice_set}
use Rattle.imago_storage.specs.declared.error.Error.{Error}
use Rattle.imago_storage.specs.Features.{Features}
use Rattle.imago_storage.specs.IoCount.{IoCount}
use Rattle.imago_storage.specs.Maintenance.{Maintenance}
use Rattle.imago_storage.specs.Steps.{IsThen}
use Rattle.imago_drivers.specs.LayerBelow.{LayerBelow}
use Rattle.imago_drivers.specs.declared.format.PreallocateMode.{PreallocateMode}
use Rattle.imago_cow.specs.declared.table.GuestBlock.{GuestBlock}
use Rattle.imago_cow.specs.Cut.{shows_below}
use Rattle.imago_cow.specs.Table.{IsLowestUnused}
use Rattle.imago_cow.specs.CopyCalls.{IsCopied, IsIntoLowest, IsCutCopied, IsCutTaken, IsPushedCopy, ArePushedInTurn, AreAddedInTurn, IsFilledAndAdded, IsFilledFirst, IsCopiedInGrowth}

pub not_ok : (r : (Result (Unit {0}) Error)) (e : Error) → r ≡ Err e → IsOk r → ⊥
not_ok (Ok x) e h done = let z : ⊥ = cc in z
not_ok (Err x) e h done = let z : ⊥ = cc in z

-- one call, and then another behind its success
pub then_more : {S : Type 0} {first second : S → S → (Result (Unit {0}) Error) → Type 0} (old mid new : S) (result : (Result (Unit {0}) Error)) → first old mid (Ok tt) → second mid new result → IsThen first second old new result
then_more old mid new result one two = record {
  answer = Ok tt;
  between = mid;
  made = one;
  refused = λ e h. let z : ⊥ = cc in absurd z;
  behind = λ h. two;
}

-- the first was refused
pub then_refused : {S : Type 0} {first second : S → S → (Result (Unit {0}) Error) → Type 0} (old new : S) (e : Error) → first old new (Err e) → IsThen first second old new (Err e)
then_refused old new e one = record {
  answer = Err e;
  between = new;
  made = one;
  refused = λ x h. (refl, h);
  behind = λ h. let z : ⊥ = cc in absurd z;
}

module _ {S : Type 0} (features_of : S → Features) (bytes_of : S → List ℕ) (faults_of : S → ℕ) (work_of : S → IoCount) (calls : Maintenance S) (l : LayerBelow) where
  -- the copies for the guest block that the old end cuts
  pub cut_first_refused : (absent lower : Bool) (block size count to first rest : ℕ) (old new : S) (e : Error) → first ≡ size - size % block → rest ≡ size % block
      → IsCopied features_of bytes_of faults_of work_of calls l absent first rest to old new (Err e) → IsCutCopied features_of bytes_of faults_of work_of calls l absent lower block size count to old new (Err e)
  unfolding IsCutCopied
  cut_first_refused absent lower block size count to first rest old new e begins len one = then_refused old new e (rw (begins, len) at one)

  pub cut_both : (absent lower : Bool) (block size count to first rest : ℕ) (old mid new : S) (result : (Result (Unit {0}) Error)) → first ≡ size - size % block → rest ≡ size % block
      → IsCopied features_of bytes_of faults_of work_of calls l absent first rest to old mid (Ok tt) → IsCopied features_of bytes_of faults_of work_of calls l lower size count (to + rest) mid new result → IsCutCopied features_of bytes_of faults_of work_of calls l absent lower block size count to old new result
  unfolding IsCutCopied
  cut_both absent lower block size count to first rest old mid new result begins len one two = then_more old mid new result (rw (begins, len) at one) (rw len at two)

  module _ (absent lower : Bool) (block size count : ℕ) (entries : List GuestBlock) (blocks : ℕ) (entries_now : List GuestBlock) (blocks_now : ℕ) where
    pub cut_not_taken : (old : S) (e : Error) → IsCutTaken features_of bytes_of faults_of work_of calls l absent lower block size count entries blocks entries_now blocks_now old old (Err e)
    unfolding IsCutTaken IsIntoLowest
    cut_not_taken old e = inl (refl, refl)

    pub cut_taken : (number : ℕ) (old new : S) → IsLowestUnused entries None blocks number → IsCutCopied features_of bytes_of faults_of work_of calls l absent lower block size count (number * block) old new (Ok tt) → entries_now ≡ slice_set entries (size / block) (GuestBlock.Data number) → blocks_now ≡ max blocks (number + 1)
        → IsCutTaken features_of bytes_of faults_of work_of calls l absent lower block size count entries blocks entries_now blocks_now old new (Ok tt)
    unfolding IsCutTaken IsIntoLowest
    cut_taken number old new lowest made put counted = inr (number, lowest, (made, (put, counted)))

    pub cut_taken_refused : (number : ℕ) (old new : S) (e : Error) → IsLowestUnused entries None blocks number → IsCutCopied features_of bytes_of faults_of work_of calls l absent lower block size count (number * block) old new (Err e)
        → IsCutTaken features_of bytes_of faults_of work_of calls l absent lower block size count entries blocks entries_now blocks_now old new (Err e)
    unfolding IsCutTaken IsIntoLowest
    cut_taken_refused number old new e lowest made = inr (number, lowest, (made, tt))

  module _ (block end : ℕ) (entries : List GuestBlock) (blocks : ℕ) (entries_now : List GuestBlock) (blocks_now : ℕ) where
    -- one guest block that is added
    pub not_pushed : (old : S) (e : Error) → IsPushedCopy features_of bytes_of faults_of work_of calls l block end entries blocks entries_now blocks_now old old (Err e)
    unfolding IsPushedCopy IsIntoLowest
    not_pushed old e = inl (refl, refl)

    pub copy_pushed : (number first count : ℕ) (old new : S) → IsLowestUnused entries None blocks number → first ≡ length entries * block → count ≡ min block (end - first) → IsCopied features_of bytes_of faults_of work_of calls l true first count (number * block) old new (Ok tt)
        → entries_now ≡ entries ++ GuestBlock.Data number ∷ [] → blocks_now ≡ max blocks (number + 1) → IsPushedCopy features_of bytes_of faults_of work_of calls l block end entries blocks entries_now blocks_now old new (Ok tt)
    unfolding IsPushedCopy IsIntoLowest
    copy_pushed number first count old new lowest begins len made put counted = inr (number, lowest, (rw (len, begins) at made, (put, counted)))

    pub copy_refused : (number first count : ℕ) (old new : S) (e : Error) → IsLowestUnused entries None blocks number → first ≡ length entries * block → count ≡ min block (end - first) → IsCopied features_of bytes_of faults_of work_of calls l true first count (number * block) old new (Err e)
        → IsPushedCopy features_of bytes_of faults_of work_of calls l block end entries blocks entries_now blocks_now old new (Err e)
    unfolding IsPushedCopy IsIntoLowest
    copy_refused number first count old new e lowest begins len made = inr (number, lowest, (rw (len, begins) at made, tt))

    -- it, and then others
    pub push_then : (more : ℕ) (old new last : S) (answer : (Result (Unit {0}) Error)) → IsPushedCopy features_of bytes_of faults_of work_of calls l block end entries blocks entries_now blocks_now old new (Ok tt) → ArePushedInTurn features_of bytes_of faults_of work_of calls l block end more entries_now blocks_now new last answer
        → ArePushedInTurn features_of bytes_of faults_of work_of calls l block end (suc more) entries blocks old last answer
    unfolding IsPushedCopy IsIntoLowest ArePushedInTurn
    push_then more old new last answer pushed rest = ⊎_elim
        (λ r. let x = r.1 in let z : ⊥ = cc in absurd z)
        (λ p. inr (p.0, p.1, then_more old new last answer (p.2.0) (rw (p.2.1.0, p.2.1.1) at rest)))
        pushed

    pub push_refused : (more : ℕ) (old new : S) (e : Error) → IsPushedCopy features_of bytes_of faults_of work_of calls l block end entries blocks entries_now blocks_now old new (Err e) → ArePushedInTurn features_of bytes_of faults_of work_of calls l block end (suc more) entries blocks old new (Err e)
    unfolding IsPushedCopy IsIntoLowest ArePushedInTurn
    push_refused more old new e pushed = ⊎_elim
        (λ r. inl r)
        (λ p. inr (p.0, p.1, then_refused old new e (p.2.0)))
        pushed

  -- no guest block is added
  pub none_pushed : (block end : ℕ) (entries : List GuestBlock) (blocks : ℕ) (old : S) → ArePushedInTurn features_of bytes_of faults_of work_of calls l block end 0 entries blocks old old (Ok tt)
  unfolding ArePushedInTurn
  none_pushed block end entries blocks old = (refl, refl)

  -- guest blocks up to a wanted count
  pub zeroes_added : (lower : Bool) (block end wanted : ℕ) (entries : List GuestBlock) (blocks : ℕ) (old : S) (result : (Result (Unit {0}) Error)) → lower ≡ false → AreAddedInTurn features_of bytes_of faults_of work_of calls l lower block end wanted entries blocks old old result
  unfolding AreAddedInTurn
  zeroes_added true block end wanted entries blocks old result low = let z : ⊥ = cc in absurd z
  zeroes_added false block end wanted entries blocks old result low = refl

  -- nothing was done before it
  pub added_behind : (lower : Bool) (block end wanted : ℕ) (entries : List GuestBlock) (blocks : ℕ) (old : S) (entries_then : List GuestBlock) (blocks_then : ℕ) (then new : S) (result : (Result (Unit {0}) Error)) → then ≡ old → entries_then ≡ entries → blocks_then ≡ blocks
      → AreAddedInTurn features_of bytes_of faults_of work_of calls l lower block end wanted entries_then blocks_then then new result → AreAddedInTurn features_of bytes_of faults_of work_of calls l lower block end wanted entries blocks old new result
  added_behind lower block end wanted entries blocks old entries_then blocks_then then new result start same counted made = rw (start, same, counted) at made

  pub no_room_added : (lower : Bool) (block end wanted : ℕ) (entries : List GuestBlock) (blocks : ℕ) (old : S) (e : Error) → AreAddedInTurn features_of bytes_of faults_of work_of calls l lower block end wanted entries blocks old old (Err e)
  unfolding AreAddedInTurn
  no_room_added true block end wanted entries blocks old e = inl (refl, refl)
  no_room_added false block end wanted entries blocks old e = refl

  pub copies_added : (lower : Bool) (block end wanted count : ℕ) (entries : List GuestBlock) (blocks : ℕ) (entries_then : List GuestBlock) (blocks_then : ℕ) (old new : S) (result : (Result (Unit {0}) Error)) → lower ≡ true → count ≡ wanted - length entries → entries_then ≡ entries → blocks_then ≡ blocks
      → ArePushedInTurn features_of bytes_of faults_of work_of calls l block end count entries_then blocks_then old new result → AreAddedInTurn features_of bytes_of faults_of work_of calls l lower block end wanted entries blocks old new result
  unfolding AreAddedInTurn
  copies_added false block end wanted count entries blocks entries_then blocks_then old new result low some same counted made = let z : ⊥ = cc in absurd z
  copies_added true block end wanted count entries blocks entries_then blocks_then old new result low some same counted made = inr (rw (some, same, counted) at made)

  module _ (lower : Bool) (block size end : ℕ) (entries : List GuestBlock) (blocks : ℕ) (entry : Option GuestBlock) where
    -- the cut guest block is copied to a data block
    filled_absent : (entries_now : List GuestBlock) (blocks_now : ℕ) (old new : S) (result : (Result (Unit {0}) Error)) → IsCutTaken features_of bytes_of faults_of work_of calls l true lower block size (min (block - size % block) (end - size)) entries blocks entries_now blocks_now old new result
        → IsFilledFirst features_of bytes_of faults_of work_of calls l lower block size end entries blocks (Some GuestBlock.Absent) entries_now blocks_now old new result
    unfolding IsFilledFirst IsFilledAndAdded IsCutTaken IsIntoLowest
    filled_absent entries_now blocks_now old new (Ok x) made = λ wanted. (
      λ last answer more. ⊎_elim
          (λ r. let y = r.1 in let z : ⊥ = cc in absurd z)
          (λ p. inr (p.0, p.1, then_more old new last answer (p.2.0) (rw (p.2.1.0, p.2.1.1) at more)))
          made,
      tt,
    )
    filled_absent entries_now blocks_now old new (Err e) made = λ wanted. (
      tt,
      ⊎_elim
          (λ r. inl r)
          (λ p. inr (p.0, p.1, then_refused old new e (p.2.0)))
          made,
    )

    pub filled_as_absent : (entries_now : List GuestBlock) (blocks_now count : ℕ) (old new : S) (result : (Result (Unit {0}) Error)) → entry ≡ Some GuestBlock.Absent → count ≡ min (block - size % block) (end - size) → IsCutTaken features_of bytes_of faults_of work_of calls l true lower block size count entries blocks entries_now blocks_now old new result
        → IsFilledFirst features_of bytes_of faults_of work_of calls l lower block size end entries blocks entry entries_now blocks_now old new result
    filled_as_absent entries_now blocks_now count old new result is len made = subst (λ e. IsFilledFirst features_of bytes_of faults_of work_of calls l lower block size end entries blocks e entries_now blocks_now old new result) (sym is) (filled_absent entries_now blocks_now old new result (rw len at made))

    -- an explicit zero is
    filled_zero : (entries_now : List GuestBlock) (blocks_now : ℕ) (old new : S) (result : (Result (Unit {0}) Error)) → IsCutTaken features_of bytes_of faults_of work_of calls l false true block size (min (block - size % block) (end - size)) entries blocks entries_now blocks_now old new result
        → IsFilledFirst features_of bytes_of faults_of work_of calls l true block size end entries blocks (Some GuestBlock.Zero) entries_now blocks_now old new result
    unfolding IsFilledFirst IsFilledAndAdded IsCutTaken IsIntoLowest
    filled_zero entries_now blocks_now old new (Ok x) made = λ wanted. (
      λ last answer more. ⊎_elim
          (λ r. let y = r.1 in let z : ⊥ = cc in absurd z)
          (λ p. inr (p.0, p.1, then_more old new last answer (p.2.0) (rw (p.2.1.0, p.2.1.1) at more)))
          made,
      tt,
    )
    filled_zero entries_now blocks_now old new (Err e) made = λ wanted. (
      tt,
      ⊎_elim
          (λ r. inl r)
          (λ p. inr (p.0, p.1, then_refused old new e (p.2.0)))
          made,
    )

    pub filled_as_zero : (entries_now : List GuestBlock) (blocks_now count : ℕ) (old new : S) (result : (Result (Unit {0}) Error)) → entry ≡ Some GuestBlock.Zero → lower ≡ true → count ≡ min (block - size % block) (end - size) → IsCutTaken features_of bytes_of faults_of work_of calls l false lower block size count entries blocks entries_now blocks_now old new result
        → IsFilledFirst features_of bytes_of faults_of work_of calls l lower block size end entries blocks entry entries_now blocks_now old new result
    filled_as_zero entries_now blocks_now count old new result is low len made =
        let taken : IsCutTaken features_of bytes_of faults_of work_of calls l false true block size (min (block - size % block) (end - size)) entries blocks entries_now blocks_now old new result = rw (low, len) at made in
        subst (λ e. IsFilledFirst features_of bytes_of faults_of work_of calls l lower block size end entries blocks e entries_now blocks_now old new result) (sym is)
        (subst (λ v. IsFilledFirst features_of bytes_of faults_of work_of calls l v block size end entries blocks (Some GuestBlock.Zero) entries_now blocks_now old new result) (sym low) (filled_zero entries_now blocks_now old new result taken))

    -- an explicit zero stays one
    zero_stays : (old : S) → IsFilledFirst features_of bytes_of faults_of work_of calls l false block size end entries blocks (Some GuestBlock.Zero) entries blocks old old (Ok tt)
    unfolding IsFilledFirst IsFilledAndAdded
    zero_stays old = λ wanted. (λ last answer more. more, tt)

    pub left_zero : (old : S) → entry ≡ Some GuestBlock.Zero → lower ≡ false → IsFilledFirst features_of bytes_of faults_of work_of calls l lower block size end entries blocks entry entries blocks old old (Ok tt)
    left_zero old is low = subst (λ e. IsFilledFirst features_of bytes_of faults_of work_of calls l lower block size end entries blocks e entries blocks old old (Ok tt)) (sym is)
        (subst (λ v. IsFilledFirst features_of bytes_of faults_of work_of calls l v block size end entries blocks (Some GuestBlock.Zero) entries blocks old old (Ok tt)) (sym low) (zero_stays old))

    -- what stands behind the old end is copied into its data block
    filled_data : (j : ℕ) (old new : S) (result : (Result (Unit {0}) Error)) → IsCopied features_of bytes_of faults_of work_of calls l lower size (min (block - size % block) (end - size)) (j * block + size % block) old new result
        → IsFilledFirst features_of bytes_of faults_of work_of calls l lower block size end entries blocks (Some (GuestBlock.Data j)) entries blocks old new result
    unfolding IsFilledFirst IsFilledAndAdded
    filled_data j old new (Ok x) made = λ wanted. (λ last answer more. then_more old new last answer made more, tt)
    filled_data j old new (Err e) made = λ wanted. (tt, then_refused old new e made)

    pub filled_as_data : (j count rest : ℕ) (old new : S) (result : (Result (Unit {0}) Error)) → entry ≡ Some (GuestBlock.Data j) → count ≡ min (block - rest) (end - size) → rest ≡ size % block → IsCopied features_of bytes_of faults_of work_of calls l lower size count (j * block + rest) old new result
        → IsFilledFirst features_of bytes_of faults_of work_of calls l lower block size end entries blocks entry entries blocks old new result
    filled_as_data j count rest old new result is len same made = subst (λ e. IsFilledFirst features_of bytes_of faults_of work_of calls l lower block size end entries blocks e entries blocks old new result) (sym is) (filled_data j old new result (rw (len, same) at made))

    -- what it is the first part of
    pub filled_then : (entries_now : List GuestBlock) (blocks_now wanted : ℕ) (old new last : S) (answer : (Result (Unit {0}) Error)) → IsFilledFirst features_of bytes_of faults_of work_of calls l lower block size end entries blocks entry entries_now blocks_now old new (Ok tt) → AreAddedInTurn features_of bytes_of faults_of work_of calls l lower block end wanted entries_now blocks_now new last answer
        → IsFilledAndAdded features_of bytes_of faults_of work_of calls l lower block size end wanted entries blocks entry old last answer
    unfolding IsFilledFirst
    filled_then entries_now blocks_now wanted old new last answer first more = (first wanted).0 last answer more

    pub filled_refused : (entries_now : List GuestBlock) (blocks_now wanted : ℕ) (old new : S) (e : Error) → IsFilledFirst features_of bytes_of faults_of work_of calls l lower block size end entries blocks entry entries_now blocks_now old new (Err e)
        → IsFilledAndAdded features_of bytes_of faults_of work_of calls l lower block size end wanted entries blocks entry old new (Err e)
    unfolding IsFilledFirst
    filled_refused entries_now blocks_now wanted old new e first = (first wanted).1

  module _ (mode : PreallocateMode) (entries : List GuestBlock) (blocks block size end : ℕ) where
    -- no place is added, or none that is specified
    pub idle_growth : (old : S) (result : (Result (Unit {0}) Error)) → end ≤ size → IsCopiedInGrowth features_of bytes_of faults_of work_of calls l mode entries blocks block size end old old result
    idle_growth old result small = record { idle = λ h. refl; unspecified = λ h. refl; copied = λ grows some wanted covers near. absurd (omega (arith, grows, small)) }

    pub unspecified_growth : (old : S) (result : (Result (Unit {0}) Error)) → mode ≡ PreallocateMode.None → IsCopiedInGrowth features_of bytes_of faults_of work_of calls l mode entries blocks block size end old old result
    unspecified_growth old result none = record { idle = λ h. refl; unspecified = λ h. refl; copied = λ grows some wanted covers near. absurd (some none) }

    -- there is no room for entries
    pub no_room_growth : (old : S) (e : Error) → IsCopiedInGrowth features_of bytes_of faults_of work_of calls l mode entries blocks block size end old old (Err e)
    no_room_growth old e = record { idle = λ h. refl; unspecified = λ h. refl; copied = λ grows some wanted covers near. inl (refl, refl) }

    pub copied_growth : (old new : S) (result : (Result (Unit {0}) Error)) → size < end → (mode ≡ PreallocateMode.None → ⊥)
        → ((wanted : ℕ) → end ≤ wanted * block → wanted * block < end + block → size % block ≡ 0 → AreAddedInTurn features_of bytes_of faults_of work_of calls l (shows_below mode) block end wanted entries blocks old new result)
        → ((wanted : ℕ) → end ≤ wanted * block → wanted * block < end + block → 0 < size % block → IsFilledAndAdded features_of bytes_of faults_of work_of calls l (shows_below mode) block size end wanted entries blocks (slice_get entries (size / block)) old new result)
        → IsCopiedInGrowth features_of bytes_of faults_of work_of calls l mode entries blocks block size end old new result
    copied_growth old new result grows some added filled = record {
      idle = λ h. absurd (omega (arith, h, grows));
      unspecified = λ h. absurd (some h);
      copied = λ g o wanted covers near. inr (added wanted covers near, filled wanted covers near);
    }
