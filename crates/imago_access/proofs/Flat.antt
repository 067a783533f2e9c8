-- SPDX-License-Identifier: MIT
use Rattle.std.proofs.Common.{◌≡◌, ℕ, ◌+◌, ◌-◌, ◌<◌, ◌≤◌, ◌⊎◌, ◌&&◌, ⊎_elim, inl, inr, Bool, true, false, List, [], ◌∷◌, ◌++◌, length, take, map, refl, sym, ap, ◌∙◌, arith, subst, Result, Ok, Err, length-take, replicate, ◌^◌}
use Rattle.std.proofs.Math.Path.{fun_ext}
use Rattle.std.proofs.lemmas.Bool.{cases_lt}
use Rattle.std.proofs.lemmas.List.{get_or_past, take_all, get_or-replicate, length-replicate}
use Rattle.std.specs.Prelude.{IsTrue, IfOk, IfErr, OnOk, not}
use Rattle.imago_storage.specs.declared.error.Error.{Error}
use Rattle.imago_drivers.specs.declared.format.PreallocateMode.{PreallocateMode}
use Rattle.imago_drivers.specs.Operation.{Operation, Write, Zero, DiscardToZero, DiscardToAny, DiscardToBacking, Grow, Shrink}
use Rattle.imago_drivers.specs.Place.{Value, Byte, HasValues}
use Rattle.imago_drivers.specs.LayerBelow.{IsUnreadableIn, ReadBound}
use Rattle.imago_drivers.specs.Reasons.{Reasons, allowed}
use Rattle.imago_drivers.specs.View.{View, Abilities}
use Rattle.imago_drivers.specs.CallRelations.{Calls}
use Rattle.imago_drivers.specs.Laws.{IsLawful, AreCauses}
use Rattle.imago_drivers.specs.Changes.{IsChanged, into, partly, overwritten, given_back, zeroes}
use Rattle.imago_access.proofs.Chains.{told_out}
use Rattle.imago_access.proofs.Weaker.{and_left, and_right, and_both}
use Rattle.imago_access.specs.declared.access.FormatAccess.{FormatAccess}
use Rattle.imago_access.specs.declared.run.Call.{Call}
use Rattle.imago_access.specs.declared.run.Call.TheVariants as C
use Rattle.imago_access.specs.declared.run.Reply.{Reply}
use Rattle.imago_access.specs.declared.run.Reply.TheVariants as R
use Rattle.imago_access.specs.declared.discard.DiscardCall.TheVariants as X
use Rattle.imago_access.specs.Zeroing.{IsZeroWrite}
use Rattle.imago_access.specs.Discarding.{IsLoosened, IsImageDiscard}
use Rattle.imago_access.specs.Chain.{driver, backing, disk_value, lent_image, read_cause, read_reasons, keeps_data, tells_bytes}
use Rattle.imago_access.specs.ChainLaws.{image_is_layer}
use Rattle.imago_access.specs.Target.{target}
use Rattle.imago_access.specs.Calls.{IsKept, IsWrite, IsMappedWrite, FailsTest, write_refusals, Overflows, IsRangeCall}
use Rattle.imago_access.specs.Sizes.{IsSameImage, IsResize, IsResizeTo, IsFlushed, HasGrown, HasShrunk}
use Rattle.imago_access.specs.Writing.{filled, shown_length}
use Rattle.imago_access.specs.Runs.{Answers, told_done, told_mapping, told_data, told_prepared, IsReadRefusal, IsBufferRead, IsMapped, IsDataMapped, IsStep, IsRun}
use Rattle.imago_access.specs.Disk.{values_from, disk, backed_value, value_at, splice, OldOrNewValues, IsTestRefusal, IsSpliced, IsTorn, IsExtended, IsSameWrite, IsEndRefusal, IsZeroed, IsPartlyZeroed, IsUnspecifiedIn, IsGivenBack, IsFilledIn, IsPartlyFilled, WritesDisk, ZeroesDisk, DiscardsOfDisk, ResizesDisk, IsPartOf}
use Rattle.imago_access.specs.Histories.{DoneOrRefused, IsDataOf, IsMappingOf, IsPart, IsDataStep, IsSame, IsFlatStep, IsFlatHistory}
use Rattle.imago_access.proofs.Targets.{target_shows, target_faulty, mapped_value}
use Rattle.imago_access.proofs.DiskLists.{filled_list, partly_filled, overwritten_list, listed_at, from_length, same_listed, spliced, written_list, torn_list, torn_values, cut_list, grown_list, extended_by, is_extended_none}

bool_cases : (b : Bool) → (b ≡ true) ⊎ (b ≡ false)
bool_cases true = inl refl
bool_cases false = inr refl

-- no more of a mapping shows than it holds
shown_within : (commit : Bool) (m : ℕ × Bool) (n : ℕ) → m.0 ≤ n → shown_length commit m ≤ n
shown_within true m n h = h
shown_within false (c, true) n h = h
shown_within false (c, false) n h = omega arith

-- what holds of a call by its result holds by its reply
done_or_refused : {T : Type 0} (told : T → Reply) (r : Reply) (outcome : Result T Error → Type 0) (done : T → Type 0) (refused : Error → Type 0) → ((t : T) → outcome (Ok t) → done t) → ((e : Error) → outcome (Err e) → refused e)
    → Answers told r outcome → DoneOrRefused told r done refused
done_or_refused told r outcome done refused f g h = (h.0, h.1, by h.0 h.2)
  where
    by : (result : Result _ Error) → outcome result → IfOk result done × IfErr result refused
    by (Ok t) x = (f t x, tt)
    by (Err e) x = (tt, g e x)

module _ {D St : Type 0} (view : D → View St) where
  same_kept : (old new : FormatAccess D) → new ≡ old → IsKept view old new
  same_kept old new e = subst (λ (x : FormatAccess D). IsKept view old x) (sym e) (record { below = refl; kind = record { abilities = refl; store_count = refl; store_features = λ i. refl } })

  resize_kept : (old new : FormatAccess D) (n : ℕ) (mode : PreallocateMode) (result : Result Unit Error) → IsResizeTo view n mode old new result → IsKept view old new
  resize_kept old new n mode result h = ⊎_elim (λ lt. (h.cut lt).kept) (λ le. (h.grown le).kept) (cases_lt n (view (driver old)).size)

  step_kept : (its : Calls D St) (old new : FormatAccess D) (call : Call) (r : Reply) → IsStep view its old call r new → IsKept view old new
  step_kept its old new (C.Write o bytes) r h = h.2.0.kept
  step_kept its old new (C.Read o n) r h = same_kept old new h.0
  step_kept its old new (C.GetMapping o n) r h = same_kept old new h.0
  step_kept its old new C.Size r h = same_kept old new h.0
  step_kept its old new C.Flush r h = h.2.kept
  step_kept its old new C.Sync r h = h.2.kept
  step_kept its old new C.InvalidateCache r h = h.2.kept
  step_kept its old new (C.EnsureData o n overwrite) r h = h.2.0.call.kept
  step_kept its old new (C.Prepared o n overwrite bytes commit) r h = h.2.0.call.kept
  step_kept its old new (C.WriteZeroes o n) r h = h.2.0.kept
  step_kept its old new (C.DiscardToZero o n) r h = h.2.0.kept
  step_kept its old new (C.DiscardToAny o n) r h = h.2.range.kept
  step_kept its old new (C.DiscardToBacking o n) r h = h.2.range.kept
  step_kept its old new (C.Resize n mode) r h = resize_kept old new n mode h.0 h.2.0
  step_kept its old new (C.ResizeGrow n mode) r h = h.2.0.kept
  step_kept its old new (C.ResizeShrink n) r h = h.2.0.kept

  kept_twice : (old mid new : FormatAccess D) → IsKept view old mid → IsKept view mid new → IsKept view old new
  kept_twice old mid new a b = record {
    below = b.below ∙ a.below;
    kind = record { abilities = b.kind.abilities ∙ a.kind.abilities; store_count = b.kind.store_count ∙ a.kind.store_count; store_features = λ i. b.kind.store_features i ∙ a.kind.store_features i };
  }

  -- a run changes no layer below
  pub run_kept : (its : Calls D St) (old new : FormatAccess D) (calls : List Call) (replies : List Reply) → IsRun view its old calls replies new → IsKept view old new
  run_kept its old new [] [] h = same_kept old new h
  run_kept its old new [] (r ∷ rs) h = absurd h
  run_kept its old new (c ∷ cs) [] h = absurd h
  run_kept its old new (c ∷ cs) (r ∷ rs) h = kept_twice old h.0 new (step_kept its old h.0 c r h.1) (run_kept its h.0 new cs rs h.2)

  -- so what its layers below show stays
  same_backed : (old new : FormatAccess D) → IsKept view old new → backed_value view new ≡ backed_value view old
  same_backed old new k =
      ap (λ (a : Abilities). given_back a.takes_backing (lent_image view (backing new)).at) k.kind.abilities
      ∙ ap (λ (b : _). given_back (view (driver old)).abilities.takes_backing (lent_image view b).at) k.below

  same_disk_kept : (old new : FormatAccess D) → IsTrue (view (driver old)).abilities.keeps_data → IsSameImage view old new → disk view new ≡ disk view old
  same_disk_kept old new k h = same_listed (disk_value view old) (disk_value view new) _ _ h.size (h.values k)

  same_disk : (old new : FormatAccess D) → IsTrue (keeps_data view old) → IsSameImage view old new → disk view new ≡ disk view old
  same_disk old new k h = same_disk_kept old new (and_left _ _ k) h

  pub disk_length : (x : FormatAccess D) → length (disk view x) ≡ (view (driver x)).size
  disk_length x = from_length (disk_value view x) 0 (view (driver x)).size

  flushed : (relation : D → D → Result Unit Error → Type 0) (old new : FormatAccess D) (r : Reply) → IsTrue (keeps_data view old) → Answers told_done r (IsFlushed view relation old new) → IsSame (disk view old) r (disk view new)
  flushed relation old new r k h = done_or_refused told_done r (IsFlushed view relation old new) _ _ (λ u x. same_disk old new k x.unchanged) (λ e x. same_disk old new k x.unchanged) h

  resized : (old new : FormatAccess D) (op : Operation) (n : ℕ) (effect : Type 0) (done : Type 0) (r : Reply) → IsTrue (keeps_data view old) → (effect → done)
      → Answers told_done r (IsResize view op n effect old new) → DoneOrRefused told_done r (λ u. done) (λ e. disk view new ≡ disk view old)
  resized old new op n effect done r k f h = done_or_refused told_done r (IsResize view op n effect old new) (λ u. done) _ (λ u x. f x.done) (λ e x. same_disk old new k x.unchanged) h

  pub shrunk : (old new : FormatAccess D) (n : ℕ) → IsTrue (view (driver old)).abilities.keeps_data → HasShrunk view n old new → disk view new ≡ take n (disk view old)
  shrunk old new n k h = cut_list (disk_value view old) (disk_value view new) (view (driver old)).size (view (driver new)).size n h.size (h.stays k)

  pub grown : (old new : FormatAccess D) (mode : PreallocateMode) (n : ℕ) → IsTrue (keeps_data view old) → HasGrown view mode n old new → IsExtended mode (backed_value view old) n (disk view old) (disk view new)
  grown old new mode n k h =
      let s = (view (driver old)).size in
      let l : length (disk view old) ≡ (view (driver old)).size = disk_length old in
      let e = grown_list (disk_value view old) (disk_value view new) (view (driver old)).size (view (driver new)).size n h.size (h.stays k) in
      extended_by mode (view (driver old)).abilities.takes_backing (lent_image view (backing old)).at (disk_value view new) n (disk view old) (disk view new)
      (e ∙ ap (λ (m : ℕ). disk view old ++ values_from (disk_value view new) m (n - m)) (sym l))
      (λ p a b. h.added k p (omega arith) b)

  resized_to : (old new : FormatAccess D) (mode : PreallocateMode) (n : ℕ) → IsTrue (keeps_data view old) → IsResizeTo view n mode old new (Ok tt) → IsExtended mode (backed_value view old) n (take n (disk view old)) (disk view new)
  resized_to old new mode n k h =
      let l : length (disk view old) ≡ (view (driver old)).size = disk_length old in
      ⊎_elim
      (λ (lt : n < (view (driver old)).size).
      let whole : n ≤ length (disk view old) = omega arith in
      is_extended_none mode (backed_value view old) n (take n (disk view old)) (disk view new) (as_long n (disk view old) whole) (shrunk old new n (and_left _ _ k) (h.cut lt).done))
      (λ (le : (view (driver old)).size ≤ n).
      let e : take n (disk view old) ≡ disk view old = take_all n (disk view old) (omega arith) in
      subst (λ (xs : List Value). IsExtended mode (backed_value view old) n xs (disk view new)) (sym e) (grown old new mode n k (h.grown le).done))
      (cases_lt n (view (driver old)).size)
    where
      as_long : (n : ℕ) (xs : List Value) → n ≤ length xs → n ≤ length (take n xs)
      as_long n xs h = omega (arith, length-take n xs)

  resize_refused : (old new : FormatAccess D) (n : ℕ) (mode : PreallocateMode) (e : Error) → IsTrue (keeps_data view old) → IsResizeTo view n mode old new (Err e) → disk view new ≡ disk view old
  resize_refused old new n mode e k h = same_disk old new k (⊎_elim (λ lt. (h.cut lt).unchanged) (λ le. (h.grown le).unchanged) (cases_lt n (view (driver old)).size))

  -- a write past the end fails a test
  past_fails : (x : FormatAccess D) (o n : ℕ) → (view (driver x)).size < o + n → (e : Error) × FailsTest (view (driver x)) Write o n e
  past_fails x o n h = ⊎_elim
      (λ w. (Error.BeyondDisk, inr (inr (refl, w, (λ z. z), h))))
      (λ w. (Error.ReadOnly, inl (refl, w)))
      (bool_cases (view (driver x)).abilities.is_writable)

  -- a write that succeeded lies in the disk
  write_fits : (old new : FormatAccess D) (o : ℕ) (bytes : List ℕ) → IsWrite view old new o bytes (Ok tt) → o + length bytes ≤ (view (driver old)).size
  write_fits old new o bytes h = ⊎_elim
      (λ (past : (view (driver old)).size < o + length bytes).
      let f = past_fails old o (length bytes) past in
      let z = (h.tested f.0 f.1).0 in
      let y : ⊥ = cc in
      absurd y)
      (λ (fits : o + length bytes ≤ (view (driver old)).size). fits)
      (cases_lt (view (driver old)).size (o + length bytes))

  untouched : (old new : FormatAccess D) (o : ℕ) (bytes : List ℕ) (e : Error) → IsWrite view old new o bytes (Err e) → IsTestRefusal (disk view old) o (length bytes) e → disk view new ≡ disk view old
  untouched old new o bytes e h t = ap (disk view) (⊎_elim
      (λ (read_only : e ≡ Error.ReadOnly). ⊎_elim
      (λ f. (h.tested e f).1)
      (λ a. let none : ⊥ = subst (allowed (write_refusals view old o (length bytes))) read_only a in absurd none)
      h.refusals)
      (λ (past : length (disk view old) < o + length bytes).
      let f = past_fails old o (length bytes) (omega (arith, disk_length old)) in
      (h.tested f.0 f.1).1)
      t)

-- whether a range's end is a number of 64 bits
pub zero_cases : (o n : ℕ) → (2 ^ 64 ≤ o + n) ⊎ ((2 ^ 64 ≤ o + n) → ⊥)
zero_cases o n = ⊎_elim (λ lt. inr (λ ge. omega arith)) (λ ge. inl ge) (cases_lt (o + n) (2 ^ 64))

-- zeroes, as bytes
zeroes_into : (o n : ℕ) (f g : ℕ → Value) → IsChanged o n zeroes f g → IsChanged o (length (replicate {A = ℕ} n 0)) (into (replicate n 0)) f g
zeroes_into o n f g h =
    let len : length (replicate {A = ℕ} n 0) ≡ n = length-replicate n 0 in
    record { inside = λ k lt. let i : k < n = omega arith in h.inside k i ∙ ap Byte (sym (get_or-replicate n k 0 0 i)); before = h.before; behind = λ p ge. h.behind p (omega arith) }

torn_into : (o n : ℕ) (f g : ℕ → Value) → IsChanged o n (partly zeroes) f g → IsChanged o (length (replicate {A = ℕ} n 0)) (partly (into (replicate n 0))) f g
torn_into o n f g h =
    let len : length (replicate {A = ℕ} n 0) ≡ n = length-replicate n 0 in
    record { inside = λ k lt. let i : k < n = omega arith in ⊎_elim (λ e. inl e) (λ e. inr (e ∙ ap Byte (sym (get_or-replicate n k 0 0 i)))) (h.inside k i); before = h.before; behind = λ p ge. h.behind p (omega arith) }

module _ {D St : Type 0} (view : D → View St) where
  -- a call past the end fails a test
  call_fails : (x : FormatAccess D) (op : Operation) (o n : ℕ) → Overflows op o n ⊎ (Overflows op o n → ⊥) → (view (driver x)).size < o + n → (e : Error) × FailsTest (view (driver x)) op o n e
  call_fails x op o n over h = ⊎_elim
      (λ w. ⊎_elim (λ big. (Error.RangeOverflow, inr (inl (refl, w, big)))) (λ small. (Error.BeyondDisk, inr (inr (refl, w, small, h)))) over)
      (λ w. (Error.ReadOnly, inl (refl, w)))
      (bool_cases (view (driver x)).abilities.is_writable)

  -- a call that succeeded lies in the disk
  call_fits : {T nothing : Type 0} {of : Operation → Type 0} {reasons : Reasons} {hidden : Type 0} {part : T → ℕ} {keeps : Bool} {effect : T → Type 0} {remains : Type 0} {t : T} (old new : FormatAccess D) (op : Operation) (o n : ℕ) → Overflows op o n ⊎ (Overflows op o n → ⊥)
      → IsRangeCall view op o n nothing of reasons hidden part keeps effect remains old new (Ok t) → o + n ≤ (view (driver old)).size
  call_fits old new op o n over h = ⊎_elim
      (λ (past : (view (driver old)).size < o + n).
      let f = call_fails old op o n over past in
      let z = (h.tested f.0 f.1).0 in
      let y : ⊥ = cc in
      absurd y)
      (λ (fits : o + n ≤ (view (driver old)).size). fits)
      (cases_lt (view (driver old)).size (o + n))

  -- a call that a test refused changed nothing
  call_untouched : {T nothing : Type 0} {of : Operation → Type 0} {reasons : Reasons} {hidden : Type 0} {part : T → ℕ} {keeps : Bool} {effect : T → Type 0} {remains : Type 0} (old new : FormatAccess D) (op : Operation) (o n : ℕ) → Overflows op o n ⊎ (Overflows op o n → ⊥) → (e : Error)
      → (reasons.read_only → ⊥) → (reasons.range_overflow → ⊥) → IsRangeCall {T = T} view op o n nothing of reasons hidden part keeps effect remains old new (Err e) → IsEndRefusal (disk view old) o n e → disk view new ≡ disk view old
  call_untouched {reasons = reasons} old new op o n over e no_read_only no_overflow h t = ap (disk view) (⊎_elim
      (λ overflow. ⊎_elim (λ f. (h.tested e f).1) (λ a. let none : reasons.range_overflow = subst (allowed reasons) overflow a in absurd (no_overflow none)) h.refusals)
      (λ test. ⊎_elim
      (λ read_only. ⊎_elim (λ f. (h.tested e f).1) (λ a. let none : reasons.read_only = subst (allowed reasons) read_only a in absurd (no_read_only none)) h.refusals)
      (λ past.
      let f = call_fails old op o n over (omega (arith, past, disk_length view old)) in
      (h.tested f.0 f.1).1)
      test)
      t)

module _ {D St : Type 0} (view : D → View St) (lawful : (d : D) → IsLawful (view d)) (causes : (d : D) → AreCauses (view d)) where
  pub value_in_list : (x : FormatAccess D) (p : ℕ) → disk_value view x p ≡ value_at (disk view x) p
  value_in_list x p =
      let s = (view (driver x)).size in
      ⊎_elim
      (λ (below : p < s). sym (listed_at (disk_value view x) s p (Byte 0) below))
      (λ (above : s ≤ p).
      let past : length (disk view x) ≤ p = omega (arith, disk_length view x) in
      (image_is_layer view causes lawful x).past p above ∙ sym (get_or_past (disk view x) p (Byte 0) past))
      (cases_lt p s)

  -- what an image shows is its list, with zeroes past its end
  values_in_list : (x : FormatAccess D) → disk_value view x ≡ value_at (disk view x)
  values_in_list x = fun_ext (value_in_list x)

  module _ (old new : FormatAccess D) (o : ℕ) (bytes : List ℕ) where
    in_list : (P : (ℕ → Value) → (ℕ → Value) → Type 0) → P (disk_value view old) (disk_value view new) → P (value_at (disk view old)) (value_at (disk view new))
    in_list P h = subst (λ (f : ℕ → Value). P f (value_at (disk view new))) (values_in_list old) (subst (λ (f : ℕ → Value). P (disk_value view old) f) (values_in_list new) h)

    from_list : (P : (ℕ → Value) → (ℕ → Value) → Type 0) → P (value_at (disk view old)) (value_at (disk view new)) → P (disk_value view old) (disk_value view new)
    from_list P h = subst (λ (f : ℕ → Value). P f (disk_value view new)) (sym (values_in_list old)) (subst (λ (f : ℕ → Value). P (value_at (disk view old)) f) (sym (values_in_list new)) h)

    module _ (same : (view (driver new)).size ≡ (view (driver old)).size) (fits : o + length bytes ≤ (view (driver old)).size) where
      same_length : length (disk view new) ≡ length (disk view old)
      same_length = disk_length view new ∙ same ∙ sym (disk_length view old)

      inside : o + length bytes ≤ length (disk view old)
      inside = omega (arith, fits, disk_length view old)

      written : IsChanged o (length bytes) (into bytes) (disk_value view old) (disk_value view new) → disk view new ≡ splice (disk view old) o (map Byte bytes)
      written c = written_list (disk view old) o bytes (disk view new) same_length inside (in_list (λ f g. IsChanged o (length bytes) (into bytes) f g) c)

      torn : IsChanged o (length bytes) (partly (into bytes)) (disk_value view old) (disk_value view new) → OldOrNewValues (disk view old) (splice (disk view old) o (map Byte bytes)) (disk view new)
      torn c = torn_list (disk view old) o bytes (disk view new) same_length inside (in_list (λ f g. IsChanged o (length bytes) (partly (into bytes)) f g) c)

      pub same_write : IsSameWrite view old o bytes new
      same_write = record {
        written = (written, λ e. from_list (λ f g. IsChanged o (length bytes) (into bytes) f g) (subst (λ (ys : List Value). IsChanged o (length bytes) (into bytes) (value_at (disk view old)) (value_at ys)) (sym e) (spliced (disk view old) o bytes inside)));
        torn = (torn, λ t. from_list (λ f g. IsChanged o (length bytes) (partly (into bytes)) f g) (torn_values (disk view old) o bytes (disk view new) inside t));
      }

  write_done : (old new : FormatAccess D) (o : ℕ) (bytes : List ℕ) → IsTrue (keeps_data view old) → IsWrite view old new o bytes (Ok tt) → IsSpliced (disk view old) o bytes (disk view new)
  write_done old new o bytes k h =
      let fits = write_fits view old new o bytes h in
      (inside old new o bytes h.same_size fits, written old new o bytes h.same_size fits (h.done k).0)

  write_refused : (old new : FormatAccess D) (o : ℕ) (bytes : List ℕ) (e : Error) → IsTrue (keeps_data view old) → IsWrite view old new o bytes (Err e) → IsTorn (disk view old) o bytes e (disk view new)
  write_refused old new o bytes e k h = record {
    old_or_new = ⊎_elim
        (λ (past : (view (driver old)).size < o + length bytes).
        let f = past_fails view old o (length bytes) past in
        let same : disk view new ≡ disk view old = ap (disk view) (h.tested f.0 f.1).1 in
        record { each = λ p. inl (ap (λ (xs : List Value). value_at xs p) same); same_length = ap (λ (xs : List Value). length xs) same })
        (λ (fits : o + length bytes ≤ (view (driver old)).size). torn old new o bytes h.same_size fits (h.torn k))
        (cases_lt (view (driver old)).size (o + length bytes));
    untouched = untouched view old new o bytes e h;
  }

  zero_done : (old new : FormatAccess D) (op : Operation) (o n : ℕ) → Overflows op o n ⊎ (Overflows op o n → ⊥) → IsTrue (keeps_data view old) → IsZeroWrite view op old new o n (Ok tt) → IsZeroed (disk view old) o n (disk view new)
  zero_done old new op o n over k h =
      let fits : o + n ≤ (view (driver old)).size = call_fits view old new op o n over h in
      let len : length (replicate {A = ℕ} n 0) ≡ n = length-replicate n 0 in
      (omega (arith, fits, disk_length view old), written old new o (replicate n 0) h.same_size (omega arith) (zeroes_into o n _ _ (h.done k).0))

  zero_refused : (old new : FormatAccess D) (op : Operation) (o n : ℕ) → Overflows op o n ⊎ (Overflows op o n → ⊥) → (e : Error) → IsTrue (keeps_data view old) → IsZeroWrite view op old new o n (Err e) → IsPartlyZeroed (disk view old) o n e (disk view new)
  zero_refused old new op o n over e k h = record {
    old_or_zero = ⊎_elim
        (λ (past : (view (driver old)).size < o + n).
        let f = call_fails view old op o n over past in
        let same : disk view new ≡ disk view old = ap (disk view) (h.tested f.0 f.1).1 in
        record { each = λ p. inl (ap (λ (xs : List Value). value_at xs p) same); same_length = ap (λ (xs : List Value). length xs) same })
        (λ (fits : o + n ≤ (view (driver old)).size).
        let len : length (replicate {A = ℕ} n 0) ≡ n = length-replicate n 0 in
        torn old new o (replicate n 0) h.same_size (omega arith) (torn_into o n _ _ (h.torn k)))
        (cases_lt (view (driver old)).size (o + n));
    untouched = call_untouched view old new op o n over e (λ a. a) (λ a. a) h;
  }

  list_length : (old new : FormatAccess D) → (view (driver new)).size ≡ (view (driver old)).size → length (disk view new) ≡ length (disk view old)
  list_length old new same = disk_length view new ∙ same ∙ sym (disk_length view old)

  -- the same offset, as the list has it
  at_list : (old new : FormatAccess D) (p : ℕ) → disk_value view new p ≡ disk_value view old p → value_at (disk view new) p ≡ value_at (disk view old) p
  at_list old new p e = sym (value_in_list new p) ∙ e ∙ value_in_list old p

  unspecified_list : (old new : FormatAccess D) (o n : ℕ) → (view (driver new)).size ≡ (view (driver old)).size → IsLoosened view X.ToAny o n old new → IsUnspecifiedIn (disk view old) o n (disk view new)
  unspecified_list old new o n same c = record {
    same_length = list_length old new same;
    outside = λ p s. at_list old new p (⊎_elim (λ lt. c.before p lt) (λ ge. c.behind p ge) s);
  }

  given_back_list : (old new : FormatAccess D) (o n : ℕ) → (view (driver new)).size ≡ (view (driver old)).size → IsLoosened view X.ToBacking o n old new → IsGivenBack (backed_value view old) (disk view old) o n (disk view new)
  given_back_list old new o n same c = record {
    same_length = list_length old new same;
    each = λ p. ⊎_elim
        (λ below. inl (at_list old new p (c.before p below)))
        (λ above. ⊎_elim
        (λ inside.
        let e : o + (p - o) ≡ p = omega arith in
        let v = rw e at (c.inside (p - o) (omega arith)) in
        ⊎_elim (λ s. inl (at_list old new p s)) (λ b. inr ((above, inside), sym (value_in_list new p) ∙ b)) v)
        (λ behind. inl (at_list old new p (c.behind p behind)))
        (cases_lt p (o + n)))
        (cases_lt p o);
  }

  -- an image's values, as those of its list
  listed : (P : (ℕ → Value) → (ℕ → Value) → Type 0) (old new : FormatAccess D) → P (disk_value view old) (disk_value view new) → P (value_at (disk view old)) (value_at (disk view new))
  listed P old new h = subst (λ (f : ℕ → Value). P f (value_at (disk view new))) (values_in_list old) (subst (λ (f : ℕ → Value). P (disk_value view old) f) (values_in_list new) h)

  -- a test refuses a write or a mapping
  test_untouched : {T nothing : Type 0} {of : Operation → Type 0} {reasons : Reasons} {hidden : Type 0} {part : T → ℕ} {keeps : Bool} {effect : T → Type 0} {remains : Type 0} (old new : FormatAccess D) (o n : ℕ) (e : Error)
      → (reasons.read_only → ⊥) → (reasons.range_overflow → ⊥) → IsRangeCall {T = T} view Write o n nothing of reasons hidden part keeps effect remains old new (Err e) → IsTestRefusal (disk view old) o n e → disk view new ≡ disk view old
  test_untouched old new o n e a b h t = call_untouched view old new Write o n (inr (λ z. z)) e a b h (inr t)

  data_step : (old new : FormatAccess D) (o n : ℕ) (overwrite : Bool) (r : Reply) → IsTrue (keeps_data view old) → Answers told_data r (IsDataMapped view old new o n overwrite) → IsDataStep (disk view old) o n overwrite r (disk view new)
  data_step old new o n overwrite r k h = done_or_refused told_data r (IsDataMapped view old new o n overwrite) _ _
      (λ m x.
      let fits = call_fits view old new Write o n (inr (λ z. z)) x.call in
      (omega (arith, fits, disk_length view old), (x.mapped.within, x.mapped.some), overwritten_list overwrite (disk view old) (disk view new) o m.2 (list_length old new x.call.same_size) (listed (λ f g. IsChanged o m.2 (overwritten overwrite) f g) old new (x.call.done k))))
      (λ e x. (overwritten_list overwrite (disk view old) (disk view new) o n (list_length old new x.call.same_size) (listed (λ f g. IsChanged o n (overwritten overwrite) f g) old new (x.call.torn k)), test_untouched old new o n e (λ a. a) (λ a. a) x.call))
      h

  prepared_done : (old new : FormatAccess D) (o n : ℕ) (overwrite : Bool) (bytes : List ℕ) (commit : Bool) (m : ℕ × Bool) → IsTrue (keeps_data view old) → IsMappedWrite view old new o n overwrite bytes commit (Ok m)
      → (o + n ≤ length (disk view old)) × IsPart n m.0 × IsFilledIn (overwrite && not m.1) (disk view old) o (shown_length commit m) bytes (disk view new)
  prepared_done old new o n overwrite bytes commit m k x =
      let fits = call_fits view old new Write o n (inr (λ z. z)) x.call in
      let p = x.told.2 in
      let len : m.0 ≡ x.told.1.length = x.told.3 in
      let within : m.0 ≤ n = omega (arith, len, p.within) in
      let inside : o + n ≤ length (disk view old) = omega (arith, fits, disk_length view old) in
      let part : o + shown_length commit m ≤ length (disk view old) = omega (arith, shown_within commit m n within) in (
        inside,
        (within, λ some. omega (arith, len, p.some some)),
        filled_list (disk view old) o (shown_length commit m) bytes part (overwrite && not m.1) (disk view new) (list_length old new x.call.same_size)
            (listed (λ f g. IsChanged o (shown_length commit m) (filled (overwrite && not m.1) bytes) f g) old new (x.call.done k).0),
      )

  prepared_refused : (old new : FormatAccess D) (o n : ℕ) (overwrite : Bool) (bytes : List ℕ) (commit : Bool) (e : Error) → IsTrue (keeps_data view old) → IsMappedWrite view old new o n overwrite bytes commit (Err e)
      → IsPartlyFilled overwrite (disk view old) o n bytes e (disk view new)
  prepared_refused old new o n overwrite bytes commit e k x = record {
    same_length = list_length old new x.call.same_size;
    each = ⊎_elim
        (λ (past : (view (driver old)).size < o + n).
        let f = call_fails view old Write o n (inr (λ z. z)) past in
        let same : disk view new ≡ disk view old = ap (disk view) (x.call.tested f.0 f.1).1 in
        λ p. inl (ap (λ (xs : List Value). value_at xs p) same))
        (λ (fits : o + n ≤ (view (driver old)).size).
        let inside : o + n ≤ length (disk view old) = omega (arith, fits, disk_length view old) in
        partly_filled (disk view old) o n bytes inside overwrite (disk view new) (list_length old new x.call.same_size) (listed (λ f g. IsChanged o n (partly (filled overwrite bytes)) f g) old new (x.call.torn k)))
        (cases_lt (view (driver old)).size (o + n));
    untouched = test_untouched old new o n e (λ a. a) (λ a. a) x.call;
  }

  unreadable_in_list : (x : FormatAccess D) (o n : ℕ) (e why : Error) → e ≡ why → IsUnreadableIn (disk_value view x) o n why → IsUnreadableIn (value_at (disk view x)) o n e
  unreadable_in_list x o n e why same u = subst (λ (z : Error). IsUnreadableIn (value_at (disk view x)) o n z) (sym same) (u.0, u.1, sym (value_in_list x u.0) ∙ u.2)

  bound : (x : FormatAccess D) (o n : ℕ) (e : Error) → read_cause view x o n e → ReadBound (disk_value view x) o n e
  bound x o n e c = (image_is_layer view causes lawful x).bound o n e c

  -- a refused read: the buffer's memory, or the read's own reasons
  read_refused : (x : FormatAccess D) (o n : ℕ) (e : Error) → IsReadRefusal view x o n e → (e ≡ Error.InvalidData) ⊎ (e ≡ Error.NoAccess) → IsUnreadableIn (value_at (disk view x)) o n e
  read_refused x o n e h unreadable = ⊎_elim
      (λ m. let no : ⊥ = ⊎_elim (λ k. let z = sym m.0 ∙ k in cc) (λ k. let z = sym m.0 ∙ k in cc) unreadable in absurd no)
      (λ a. ⊎_elim
      (λ k. unreadable_in_list x o n e Error.InvalidData k (bound x o n Error.InvalidData (subst (allowed (read_reasons view x o n)) k a)))
      (λ k. unreadable_in_list x o n e Error.NoAccess k (bound x o n Error.NoAccess (subst (allowed (read_reasons view x o n)) k a)))
      unreadable)
      h

  -- an image that keeps data tells its bytes
  told_of : (x : FormatAccess D) → IsTrue (keeps_data view x) → IsTrue (tells_bytes view x)
  told_of x k = told_out view x ∙ and_both _ _ ((lawful (driver x)).told (and_left _ _ k)) (and_right _ _ k)

  -- what a read answers is the part of the list
  read_part : (its : Calls D St) (x : FormatAccess D) (o n : ℕ) (r : Reply) → IsTrue (tells_bytes view x) → Answers R.Data r (IsBufferRead view its x o n) → IsDataOf (disk view x) o n r
  read_part its x o n r tells h = done_or_refused R.Data r (IsBufferRead view its x o n) _ _
      (λ v y. (y.long, λ k lt. let i : k < length v.items = omega (arith, y.long) in sym (value_in_list x (o + k)) ∙ y.bytes tells k i))
      (λ e y. read_refused x o n e y.refusals) h

  mapped_part : (its : Calls D St) (x : FormatAccess D) (o n : ℕ) (r : Reply) → Answers told_mapping r (IsMapped view its x o n) → IsMappingOf (disk view x) o n r
  mapped_part its x o n r h = done_or_refused told_mapping r (IsMapped view its x o n) _ _
      (λ m y. record {
        within = y.right.within;
        names = λ k lt. mapped_value m.0 k (target view x (o + k)) (value_at (disk view x) (o + k)) (target_faulty view lawful x (o + k)) (sym (value_in_list x (o + k)) ∙ target_shows view x (o + k)) (y.right.leads k lt);
        empty = y.right.empty;
        past = λ ge. y.right.eof.1 ((lawful (driver x)).bounded o (omega (arith, ge, disk_length view x)));
      })
      (λ e y unreadable. sym (value_in_list x o) ∙ y.refused_place unreadable) h

  -- one step, on lists
  flat_step : (its : Calls D St) (old new : FormatAccess D) (call : Call) (r : Reply) → IsTrue (keeps_data view old) → IsStep view its old call r new → IsFlatStep (backed_value view old) (disk view old) call r (disk view new)
  flat_step its old new (C.Read o n) r k h = (ap (disk view) h.0, read_part its old o n r (told_of old k) h.1)
  flat_step its old new C.Size r k h = (ap (disk view) h.0, h.1 ∙ ap R.Size (sym (disk_length view old)))
  flat_step its old new (C.GetMapping o n) r k h = (ap (disk view) h.0, mapped_part its old o n r h.1)
  flat_step its old new (C.Write o bytes) r k h = done_or_refused told_done r (IsWrite view old new o bytes.items) _ _ (λ u. write_done old new o bytes.items k) (λ e x. write_refused old new o bytes.items e k x) (h.0, h.1, h.2.0)
  flat_step its old new (C.EnsureData o n overwrite) r k h = data_step old new o n overwrite r k (h.0, h.1, h.2.0)
  flat_step its old new (C.Prepared o n overwrite bytes commit) r k h = done_or_refused told_prepared r (IsMappedWrite view old new o n overwrite bytes.items commit) _ _
      (λ m x. prepared_done old new o n overwrite bytes.items commit m k x)
      (λ e x. prepared_refused old new o n overwrite bytes.items commit e k x) (h.0, h.1, h.2.0)
  flat_step its old new C.Flush r k h = flushed view its.flushed old new r k h
  flat_step its old new C.Sync r k h = flushed view its.synced old new r k h
  flat_step its old new C.InvalidateCache r k h = flushed view its.invalidated old new r k h
  flat_step its old new (C.WriteZeroes o n) r k h = done_or_refused told_done r (IsZeroWrite view Zero old new o n) _ _ (λ u x. zero_done old new Zero o n (zero_cases o n) k x) (λ e x. zero_refused old new Zero o n (zero_cases o n) e k x) (h.0, h.1, h.2.0)
  flat_step its old new (C.DiscardToZero o n) r k h = done_or_refused told_done r (IsZeroWrite view DiscardToZero old new o n) _ _ (λ u x. zero_done old new DiscardToZero o n (zero_cases o n) k x) (λ e x. zero_refused old new DiscardToZero o n (zero_cases o n) e k x) (h.0, h.1, h.2.0)
  flat_step its old new (C.DiscardToAny o n) r k h = done_or_refused told_done r (IsImageDiscard view its X.ToAny old new o n) _ _
      (λ u x. let fits = call_fits view old new DiscardToAny o n (zero_cases o n) x.range in (omega (arith, fits, disk_length view old), unspecified_list old new o n x.range.same_size (x.range.done (and_left _ _ k))))
      (λ e x. (unspecified_list old new o n x.range.same_size (x.range.torn (and_left _ _ k)), call_untouched view old new DiscardToAny o n (zero_cases o n) e (λ a. a) (λ a. a) x.range)) h
  flat_step its old new (C.DiscardToBacking o n) r k h = done_or_refused told_done r (IsImageDiscard view its X.ToBacking old new o n) _ _
      (λ u x. let fits = call_fits view old new DiscardToBacking o n (zero_cases o n) x.range in (omega (arith, fits, disk_length view old), given_back_list old new o n x.range.same_size (x.range.done (and_left _ _ k))))
      (λ e x. (given_back_list old new o n x.range.same_size (x.range.torn (and_left _ _ k)), call_untouched view old new DiscardToBacking o n (zero_cases o n) e (λ a. a) (λ a. a) x.range)) h
  flat_step its old new (C.Resize n mode) r k h = done_or_refused told_done r (IsResizeTo view n mode old new) _ _ (λ u. resized_to view old new mode n k) (λ e x. resize_refused view old new n mode e k x) (h.0, h.1, h.2.0)
  flat_step its old new (C.ResizeGrow n mode) r k h = resized view old new _ n (HasGrown view mode n old new) _ r k (grown view old new mode n k) (h.0, h.1, h.2.0)
  flat_step its old new (C.ResizeShrink n) r k h = resized view old new _ n (HasShrunk view n old new) _ r k (shrunk view old new n (and_left _ _ k)) (h.0, h.1, h.2.0)

  -- a run, on lists
  pub flat_history : (its : Calls D St) (old new : FormatAccess D) (calls : List Call) (replies : List Reply) → IsTrue (keeps_data view old) → IsRun view its old calls replies new → IsFlatHistory (backed_value view old) (disk view old) calls replies (disk view new)
  flat_history its old new [] [] k h = ap (disk view) h
  flat_history its old new [] (r ∷ rs) k h = absurd h
  flat_history its old new (c ∷ cs) [] k h = absurd h
  flat_history its old new (c ∷ cs) (r ∷ rs) k h =
      let s = step_kept view its old h.0 c r h.1 in
      let keeps : IsTrue (keeps_data view h.0) = rw (s.kind.abilities, s.below) k in
      let rest = flat_history its h.0 new cs rs keeps h.2 in
      (disk view h.0, flat_step its old h.0 c r k h.1, subst (λ (below : ℕ → Value). IsFlatHistory below (disk view h.0) cs rs (disk view new)) (same_backed view old h.0 s) rest)

  -- What each call does to the disk, by what it does at each offset.

  pub write_listed : (old new : FormatAccess D) (o : ℕ) (bytes : List ℕ) (result : Result (Unit {0}) Error) → IsTrue (keeps_data view old) → IsWrite view old new o bytes result → WritesDisk (disk view old) o bytes result (disk view new)
  write_listed old new o bytes (Ok u) k h = (write_done old new o bytes k h, tt)
  write_listed old new o bytes (Err e) k h = (tt, write_refused old new o bytes e k h)

  pub zero_listed : (old new : FormatAccess D) (op : Operation) (o n : ℕ) → Overflows op o n ⊎ (Overflows op o n → ⊥) → (result : Result (Unit {0}) Error) → IsTrue (keeps_data view old) → IsZeroWrite view op old new o n result → ZeroesDisk (disk view old) o n result (disk view new)
  zero_listed old new op o n over (Ok u) k h = (zero_done old new op o n over k h, tt)
  zero_listed old new op o n over (Err e) k h = (tt, zero_refused old new op o n over e k h)

  pub any_listed : (its : Calls D St) (old new : FormatAccess D) (o n : ℕ) (result : Result (Unit {0}) Error) → IsTrue (view (driver old)).abilities.keeps_data → IsImageDiscard view its X.ToAny old new o n result → DiscardsOfDisk (disk view old) o n (IsUnspecifiedIn (disk view old) o n (disk view new)) result (disk view new)
  any_listed its old new o n (Ok u) k h =
      let fits = call_fits view old new DiscardToAny o n (zero_cases o n) h.range in
      ((omega (arith, fits, disk_length view old), unspecified_list old new o n h.range.same_size (h.range.done k)), tt)
  any_listed its old new o n (Err e) k h = (tt, (unspecified_list old new o n h.range.same_size (h.range.torn k), call_untouched view old new DiscardToAny o n (zero_cases o n) e (λ a. a) (λ a. a) h.range))

  pub backing_listed : (its : Calls D St) (old new : FormatAccess D) (o n : ℕ) (result : Result (Unit {0}) Error) → IsTrue (view (driver old)).abilities.keeps_data → IsImageDiscard view its X.ToBacking old new o n result → DiscardsOfDisk (disk view old) o n (IsGivenBack (backed_value view old) (disk view old) o n (disk view new)) result (disk view new)
  backing_listed its old new o n (Ok u) k h =
      let fits = call_fits view old new DiscardToBacking o n (zero_cases o n) h.range in
      ((omega (arith, fits, disk_length view old), given_back_list old new o n h.range.same_size (h.range.done k)), tt)
  backing_listed its old new o n (Err e) k h = (tt, (given_back_list old new o n h.range.same_size (h.range.torn k), call_untouched view old new DiscardToBacking o n (zero_cases o n) e (λ a. a) (λ a. a) h.range))

  pub growth_listed : (old new : FormatAccess D) (mode : PreallocateMode) (n : ℕ) (result : Result (Unit {0}) Error) → IsTrue (keeps_data view old) → IsResize view (Grow mode) n (HasGrown view mode n old new) old new result → ResizesDisk (disk view old) (IsExtended mode (backed_value view old) n (disk view old) (disk view new)) result (disk view new)
  growth_listed old new mode n (Ok u) k h = (grown view old new mode n k h.done, tt)
  growth_listed old new mode n (Err e) k h = (tt, same_disk view old new k h.unchanged)

  pub cut_listed : (old new : FormatAccess D) (n : ℕ) (result : Result (Unit {0}) Error) → IsTrue (view (driver old)).abilities.keeps_data → IsResize view Shrink n (HasShrunk view n old new) old new result → ResizesDisk (disk view old) (disk view new ≡ take n (disk view old)) result (disk view new)
  cut_listed old new n (Ok u) k h = (shrunk view old new n k h.done, tt)
  cut_listed old new n (Err e) k h = (tt, same_disk_kept view old new k h.unchanged)

  pub resize_listed : (old new : FormatAccess D) (mode : PreallocateMode) (n : ℕ) (result : Result (Unit {0}) Error) → IsTrue (keeps_data view old) → IsResizeTo view n mode old new result → ResizesDisk (disk view old) (IsExtended mode (backed_value view old) n (take n (disk view old)) (disk view new)) result (disk view new)
  resize_listed old new mode n (Ok u) k h = (resized_to view old new mode n k h, tt)
  resize_listed old new mode n (Err e) k h = (tt, resize_refused view old new n mode e k h)

  pub read_listed : (x : FormatAccess D) (o : ℕ) (buffer : List ℕ) (n : ℕ) (result : Result (Unit {0}) Error) → length buffer ≡ n → OnOk result (HasValues (disk_value view x) o buffer) → OnOk result (IsPartOf (disk view x) o n buffer)
  read_listed x o buffer n (Ok u) long h = (long, λ k lt. sym (value_in_list x (o + k)) ∙ h k (omega (arith, long, lt)))
  read_listed x o buffer n (Err e) long h = tt
