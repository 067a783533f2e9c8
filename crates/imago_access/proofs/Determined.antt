-- SPDX-License-Identifier: MIT
use Rattle.std.proofs.Common.{◌≡◌, ℕ, ◌+◌, ◌-◌, ◌≤◌, ◌⊎◌, ◌&&◌, ⊎_elim, Bool, true, false, List, [], ◌∷◌, ◌++◌, length, take, drop, refl, sym, ap, ◌∙◌, arith, subst, Result, Ok, Err}
use Rattle.std.specs.Prelude.{IfOk, IfErr, not}
use Rattle.std.proofs.lemmas.List.{append-nil, take-append-drop}
use Rattle.imago_storage.specs.declared.error.Error.{Error}
use Rattle.imago_drivers.specs.Place.{Value}
use Rattle.imago_access.specs.declared.run.Call.{Call}
use Rattle.imago_access.specs.declared.run.Call.TheVariants as C
use Rattle.imago_access.specs.declared.run.Reply.{Reply}
use Rattle.imago_access.specs.declared.run.Reply.TheVariants as R
use Rattle.imago_access.specs.Writing.{shown_length}
use Rattle.imago_access.specs.Disk.{value_at, splice, filled_in, IsTestRefusal, IsUnspecifiedIn, IsGivenBack, IsOverwritten, IsFilledIn, IsPartlyFilled}
use Rattle.imago_access.specs.Runs.{reply_of, told_done, told_data, told_prepared}
use Rattle.imago_access.specs.Histories.{DoneOrRefused, IsPart, IsDataStep, IsPreparedStep, IsSame, IsFlatStep, IsFlatHistory}
use Rattle.imago_access.specs.Determined.{IsDetermined, if_done, if_prepared, after, AreDetermined, after_all, AllFit, IsFlatRun}
use Rattle.imago_access.proofs.DiskLists.{extended_known, filled_cut, same_by_values, nothing_overwritten}

-- what a call that answers nothing may be told as
done_so : (result : Result Unit Error) (done : Type 0) (refused : Error → Type 0) → R.Done ≡ reply_of told_done result → IfOk result (λ u. done) × IfErr result refused → done
done_so (Ok u) done refused e h = h.0
done_so (Err x) done refused e h = let z : ⊥ = cc in absurd z

refused_so : (x : Error) (result : Result Unit Error) (done : Type 0) (refused : Error → Type 0) → R.Refused x ≡ reply_of told_done result → IfOk result (λ u. done) × IfErr result refused → refused x
refused_so x (Ok u) done refused e h = let z : ⊥ = cc in absurd z
refused_so x (Err y) done refused e h = let same : y ≡ x = cc in subst refused same h.1

not_data : (b : _) (result : Result Unit Error) → R.Data b ≡ reply_of told_done result → ⊥
not_data b (Ok u) e = cc
not_data b (Err y) e = cc

not_size : (n : ℕ) (result : Result Unit Error) → R.Size n ≡ reply_of told_done result → ⊥
not_size n (Ok u) e = cc
not_size n (Err y) e = cc

not_mapped : (m : _) (n : ℕ) (result : Result Unit Error) → R.Mapped m n ≡ reply_of told_done result → ⊥
not_mapped m n (Ok u) e = cc
not_mapped m n (Err y) e = cc

not_data_mapped : (s f c : ℕ) (result : Result Unit Error) → R.DataMapped s f c ≡ reply_of told_done result → ⊥
not_data_mapped s f c (Ok u) e = cc
not_data_mapped s f c (Err y) e = cc

not_prepared : (c : ℕ) (b : Bool) (result : Result Unit Error) → R.Prepared c b ≡ reply_of told_done result → ⊥
not_prepared c b (Ok u) e = cc
not_prepared c b (Err y) e = cc

-- a call that answers nothing leaves the one list where it is done, and the other where it is refused
left : (r : Reply) (done : Type 0) (refused : Error → Type 0) (xs ys zs : List Value) → DoneOrRefused told_done r (λ u. done) refused → (r ≡ R.Done → done → zs ≡ ys) → ((e : Error) → r ≡ R.Refused e → refused e → zs ≡ xs) → zs ≡ if_done r ys xs
left R.Done done refused xs ys zs h f g = f refl (done_so h.0 done refused h.1 h.2)
left (R.Refused e) done refused xs ys zs h f g = g e refl (refused_so e h.0 done refused h.1 h.2)
left (R.Data b) done refused xs ys zs h f g = absurd (not_data b h.0 h.1)
left (R.Size n) done refused xs ys zs h f g = absurd (not_size n h.0 h.1)
left (R.Mapped m n) done refused xs ys zs h f g = absurd (not_mapped m n h.0 h.1)
left (R.DataMapped s o n) done refused xs ys zs h f g = absurd (not_data_mapped s o n h.0 h.1)
left (R.Prepared n b) done refused xs ys zs h f g = absurd (not_prepared n b h.0 h.1)

-- a call that its tests refuse leaves what a refusal leaves
discard_so : {same : Type 0} {test : Error → Type 0} (r : Reply) (done left : Type 0) (e : Error) → r ≡ R.Refused e → DoneOrRefused told_done r (λ u. done) (λ x. left × (test x → same)) → test e → same
discard_so {same} {test} r done left e is h t =
    let k = refused_so e h.0 done (λ x. left × (test x → same)) (sym is ∙ h.1) h.2 in
    k.1 t

-- what a discard leaves, done or refused
discard_leaves : {fits left : Type 0} {same : Error → Type 0} (r : Reply) → DoneOrRefused told_done r (λ u. fits × left) (λ x. left × same x) → left
discard_leaves {fits} {left} {same} r h = by h.0 h.2
  where
    by : (result : Result Unit Error) → IfOk result (λ u. fits × left) × IfErr result (λ x. left × same x) → left
    by (Ok u) x = x.0.1
    by (Err e) x = x.1.0

-- a call that leaves the list, done or refused
same_so : (xs : List Value) (r : Reply) (ys : List Value) → IsSame xs r ys → ys ≡ xs
same_so xs r ys h = by h.0 h.2
  where
    by : (result : Result Unit Error) → IfOk result (λ u. ys ≡ xs) × IfErr result (λ e. ys ≡ xs) → ys ≡ xs
    by (Ok u) x = x.0
    by (Err e) x = x.1

-- a data mapping that is determined leaves the list
data_refused : (x : Error) (xs ys : List Value) (o n : ℕ) (overwrite : Bool) (result : Result (ℕ × ℕ × ℕ) Error) → R.Refused x ≡ reply_of told_data result → IsTestRefusal xs o n x
    → IfErr result (λ e. IsOverwritten overwrite xs o n ys × (IsTestRefusal xs o n e → ys ≡ xs)) → ys ≡ xs
data_refused x xs ys o n overwrite (Ok m) e t h = let z : ⊥ = cc in absurd z
data_refused x xs ys o n overwrite (Err y) e t h = let same : x ≡ y = cc in h.1 (subst (λ (w : Error). IsTestRefusal xs o n w) same t)

-- one of nothing leaves it too
data_of_none : (xs ys : List Value) (o n : ℕ) (r : Reply) → n ≡ 0 → IsDataStep xs o n true r ys → ys ≡ xs
data_of_none xs ys o n r none h = by h.0 h.2
  where
    by : (result : Result (ℕ × ℕ × ℕ) Error) → IfOk result (λ m. (o + n ≤ length xs) × IsPart n m.2 × IsOverwritten true xs o m.2 ys) × IfErr result (λ e. IsOverwritten true xs o n ys × (IsTestRefusal xs o n e → ys ≡ xs)) → ys ≡ xs
    by (Ok m) x = let z : m.2 ≡ 0 = omega (arith, x.0.1.0) in nothing_overwritten xs ys o (subst (λ (c : ℕ). IsUnspecifiedIn xs o c ys) z x.0.2)
    by (Err e) x = nothing_overwritten xs ys o (subst (λ (c : ℕ). IsUnspecifiedIn xs o c ys) none x.1.0)

data_after : (xs ys : List Value) (o n : ℕ) (overwrite : Bool) (r : Reply) → (overwrite ≡ true → (n ≡ 0) ⊎ ((e : Error) × (r ≡ R.Refused e) × IsTestRefusal xs o n e)) → IsDataStep xs o n overwrite r ys → ys ≡ xs
data_after xs ys o n true r d h = ⊎_elim
    (λ none. data_of_none xs ys o n r none h)
    (λ t. data_refused t.0 xs ys o n true h.0 (sym t.1 ∙ h.1) t.2 h.2.1)
    (d refl)
data_after xs ys o n false r d h = by h.0 h.2
  where
    by : (result : Result (ℕ × ℕ × ℕ) Error) → IfOk result (λ m. (o + n ≤ length xs) × IsPart n m.2 × (ys ≡ xs)) × IfErr result (λ e. (ys ≡ xs) × (IsTestRefusal xs o n e → ys ≡ xs)) → ys ≡ xs
    by (Ok m) x = x.0.2
    by (Err e) x = x.1.0

-- a write through a mapping that is determined leaves the bytes that fit
filled_after : (overwrite : Bool) (xs ys : List Value) (o c : ℕ) (bytes : List ℕ) → (overwrite ≡ false) ⊎ (c ≤ length bytes) → IsFilledIn overwrite xs o c bytes ys → ys ≡ filled_in xs o c bytes
filled_after false xs ys o c bytes d h = h
filled_after true xs ys o c bytes d h = ⊎_elim
    (λ e. let z : ⊥ = cc in absurd z)
    (λ (le : c ≤ length bytes). let z : c - length bytes ≡ 0 = omega arith in nothing_overwritten (filled_in xs o c bytes) ys (o + length bytes) (rw z at h))
    d

spliced_none : (xs : List Value) (o : ℕ) → splice xs o [] ≡ xs
spliced_none xs o =
    let at : o + 0 ≡ o = omega arith in
    let left : splice xs o [] ≡ (take o xs ++ []) ++ drop (o + 0) xs = refl in
    left ∙ ap (λ (zs : List Value). zs ++ drop (o + 0) xs) (append-nil (take o xs)) ∙ ap (λ (k : ℕ). take o xs ++ drop k xs) at ∙ take-append-drop o xs

filled_by_none : (xs : List Value) (o : ℕ) (bytes : List ℕ) → filled_in xs o 0 bytes ≡ xs
filled_by_none xs o [] = spliced_none xs o
filled_by_none xs o (b ∷ bytes) = spliced_none xs o

-- of none, refused, nothing is left
none_filled : (xs ys : List Value) (o n : ℕ) (overwrite : Bool) (bytes : List ℕ) (e : Error) → n ≡ 0 → IsPartlyFilled overwrite xs o n bytes e ys → ys ≡ xs
none_filled xs ys o n overwrite bytes e none h =
    let same : filled_in xs o 0 bytes ≡ xs = filled_by_none xs o bytes in
    same_by_values xs ys h.same_length (λ p. ⊎_elim
    (λ v. v)
    (λ k. ⊎_elim
    (λ v. subst (λ (c : ℕ). value_at ys p ≡ value_at (filled_in xs o c bytes) p) none v ∙ ap (λ (zs : List Value). value_at zs p) same)
    (λ i. absurd (omega (arith, i.1.0, i.1.1)))
    k)
    (h.each p))

prepared_after : (xs ys : List Value) (o n : ℕ) (overwrite : Bool) (bytes : List ℕ) (commit : Bool) (r : Reply)
    → ((m : ℕ × Bool) → r ≡ told_prepared m → ((overwrite && not m.1) ≡ false) ⊎ (shown_length commit m ≤ length bytes)) → (n ≡ 0) ⊎ ((e : Error) → r ≡ R.Refused e → IsTestRefusal xs o n e)
    → IsPreparedStep xs o n overwrite bytes commit r ys → ys ≡ if_prepared r commit o bytes xs
prepared_after xs ys o n overwrite bytes commit r d t h = by h.0 h.1 h.2
  where
    by : (result : Result (ℕ × Bool) Error) → r ≡ reply_of told_prepared result
        → IfOk result (λ m. (o + n ≤ length xs) × IsPart n m.0 × IsFilledIn (overwrite && not m.1) xs o (shown_length commit m) bytes ys) × IfErr result (λ e. IsPartlyFilled overwrite xs o n bytes e ys)
        → ys ≡ if_prepared r commit o bytes xs
    by (Ok m) e x = subst (λ (q : Reply). ys ≡ if_prepared q commit o bytes xs) (sym e) (filled_after (overwrite && not m.1) xs ys o (shown_length commit m) bytes (d m e) x.0.2)
    by (Err z) e x = subst (λ (q : Reply). ys ≡ if_prepared q commit o bytes xs) (sym e) (⊎_elim (λ none. none_filled xs ys o n overwrite bytes z none x.1) (λ test. x.1.untouched (test z e)) t)

-- nothing is given back of none
nothing_given_back : (below : ℕ → Value) (xs ys : List Value) (o : ℕ) → IsGivenBack below xs o 0 ys → ys ≡ xs
nothing_given_back below xs ys o h = same_by_values xs ys h.same_length (λ p. ⊎_elim (λ v. v) (λ i. absurd (omega (arith, i.0.0, i.0.1))) (h.each p))

module _ (below : ℕ → Value) where
  -- a step that is determined leaves the one list
  step_after : (xs ys : List Value) (call : Call) (r : Reply) → IsDetermined xs call r → IsFlatStep below xs call r ys → ys ≡ after below call r xs
  step_after xs ys (C.Write o bytes) r d h = left r _ _ xs _ ys h (λ e s. s.1) (λ e w t. t.untouched (d e w))
  step_after xs ys (C.EnsureData o n overwrite) r d h = data_after xs ys o n overwrite r d h
  step_after xs ys (C.Prepared o n overwrite bytes commit) r d h = prepared_after xs ys o n overwrite bytes.items commit r d.0 d.1 h
  step_after xs ys (C.WriteZeroes o n) r d h = left r _ _ xs _ ys h (λ e s. s.1) (λ e w t. t.untouched (d e w))
  step_after xs ys (C.DiscardToZero o n) r d h = left r _ _ xs _ ys h (λ e s. s.1) (λ e w t. t.untouched (d e w))
  step_after xs ys (C.DiscardToAny o n) r d h = ⊎_elim
      (λ none. nothing_overwritten xs ys o (subst (λ (c : ℕ). IsUnspecifiedIn xs o c ys) none (discard_leaves r h)))
      (λ t. discard_so r _ _ t.0 t.1 h t.2)
      d
  step_after xs ys (C.DiscardToBacking o n) r d h = ⊎_elim
      (λ none. nothing_given_back below xs ys o (subst (λ (c : ℕ). IsGivenBack below xs o c ys) none (discard_leaves r h)))
      (λ t. discard_so r _ _ t.0 t.1 h t.2)
      d
  step_after xs ys (C.Resize n mode) r d h = left r _ _ xs _ ys h (λ e s. extended_known mode below n (take n xs) ys (filled_cut mode n xs (d e)) s) (λ e w s. s)
  step_after xs ys (C.ResizeGrow n mode) r d h = left r _ _ xs _ ys h (λ e s. extended_known mode below n xs ys (d e) s) (λ e w s. s)
  step_after xs ys (C.ResizeShrink n) r d h = left r _ _ xs _ ys h (λ e s. s) (λ e w s. s)
  step_after xs ys (C.Read o n) r d h = h.0
  step_after xs ys C.Size r d h = h.0
  step_after xs ys (C.GetMapping o n) r d h = h.0
  step_after xs ys C.Flush r d h = same_so xs r ys h
  step_after xs ys C.Sync r d h = same_so xs r ys h
  step_after xs ys C.InvalidateCache r d h = same_so xs r ys h

  history_after : (xs zs : List Value) (calls : List Call) (replies : List Reply) → AreDetermined below xs calls replies → IsFlatHistory below xs calls replies zs → zs ≡ after_all below calls replies xs
  history_after xs zs [] [] d h = h
  history_after xs zs [] (r ∷ rs) d h = absurd h
  history_after xs zs (c ∷ cs) [] d h = absurd h
  history_after xs zs (c ∷ cs) (r ∷ rs) d h =
      let s = step_after xs h.0 c r d.0 h.1 in
      history_after h.0 zs cs rs (subst (λ (ys : List Value). AreDetermined below ys cs rs) (sym s) d.1) h.2 ∙ ap (after_all below cs rs) s

  history_fits : (xs zs : List Value) (calls : List Call) (replies : List Reply) → AreDetermined below xs calls replies → IsFlatHistory below xs calls replies zs → AllFit below xs calls replies
  history_fits xs zs [] [] d h = tt
  history_fits xs zs [] (r ∷ rs) d h = absurd h
  history_fits xs zs (c ∷ cs) [] d h = absurd h
  history_fits xs zs (c ∷ cs) (r ∷ rs) d h =
      let s = step_after xs h.0 c r d.0 h.1 in
      let rest = history_fits h.0 zs cs rs (subst (λ (ys : List Value). AreDetermined below ys cs rs) (sym s) d.1) h.2 in
      (subst (IsFlatStep below xs c r) s h.1, subst (λ (ys : List Value). AllFit below ys cs rs) s rest)

-- a history whose steps are all determined
pub flat_run : (below : ℕ → Value) (xs zs : List Value) (calls : List Call) (replies : List Reply) → AreDetermined below xs calls replies → IsFlatHistory below xs calls replies zs → IsFlatRun below xs calls replies zs
flat_run below xs zs calls replies d h = record { list_after = history_after below xs zs calls replies d h; replies_fit = history_fits below xs zs calls replies d h }
