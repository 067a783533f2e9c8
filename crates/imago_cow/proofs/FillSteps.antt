-- SPDX-License-Identifier: MIT
use Rattle.std.proofs.Common.{zero, suc, ◌≡◌, ℕ, ◌+◌, ◌-◌, ◌*◌, ◌/◌, ◌<◌, ◌≤◌, ◌⊎◌, ⊎_elim, inl, inr, Bool, true, false, List, [], ◌∷◌, ◌++◌, length, take, min, max, Some, Result, Ok, Err, refl, sym, subst, ap, ◌∙◌, arith, nat_lt}
use Rattle.std.specs.Prelude.{slice_get, slice_index, IsTrue, OnOk, OnErr, sum_by, replicate}
use Rattle.std.proofs.lemmas.Bool.{cases_lt}
use Rattle.std.proofs.lemmas.Bool.Decides.{nat_tests}
use Rattle.std.proofs.lemmas.Option.{slice_get_within}
use Rattle.std.proofs.Math.Nat.{div-lt_iff_lt-mul}
use Rattle.std.proofs.lemmas.List.{take_all, take_at, take-append-le, length_push}
use Rattle.std.proofs.lemmas.List.Sums.{sum_by_push, sum_by-append}
use Rattle.std.proofs.lemmas.List.Folds.{sum_by-replicate}
use Rattle.imago_storage.specs.Faults.{CountsFaults}
use Rattle.imago_cow.specs.Table.{named_count, names_any, without_data}
use Rattle.imago_storage.specs.declared.error.Error.{Error}
use Rattle.imago_storage.specs.Features.{Features, len_align, AreLawful}
use Rattle.imago_storage.proofs.Padding.{wrap_causes}
use Rattle.imago_drivers.specs.LayerBelow.{LayerBelow}
use Rattle.imago_drivers.specs.Lengths.{padded_to}
use Rattle.imago_drivers.specs.Place.{Value, shown}
use Rattle.imago_drivers.specs.Reasons.{allowed}
use Rattle.imago_cow.specs.declared.table.GuestBlock.{GuestBlock}
use Rattle.imago_cow.specs.declared.table.WithoutData.{WithoutData}
use Rattle.imago_cow.specs.declared.table.WithoutData.TheVariants as W
use Rattle.imago_cow.specs.Guest.{entry_place, is_data, IsExact, AreAdded}
use Rattle.imago_cow.specs.Grown.{AddsData, ArePushed}
use Rattle.imago_cow.specs.GuestLaws.{lies_in}
use Rattle.imago_cow.specs.Growth.{SameOutside, KeepsBytes, IsPushed, IsExtended, fill_reasons}
use Rattle.imago_cow.proofs.WholeSteps.{times_next, times_more}
use Rattle.imago_cow.proofs.MapSteps.{number_ends}
use Rattle.imago_cow.proofs.PrepareSteps.{length_within}
use Rattle.imago_cow.proofs.GrowSteps.{other_place}

-- how long the storage is after a copy into one data block
pub filled_length : (f : Features) (block number most count to len old : ℕ) → 0 < block → number < most → to + count ≤ number * block + block → len ≤ max old (padded_to f to count) → len ≤ max old (padded_to f 0 (most * block))
filled_length f block number most count to len old positive known inside h = ⊎_elim
    (λ some.
    let t : nat_lt 0 count ≡ true = grind (arith, nat_tests) in
    let x : len ≤ max old (to + count + (len_align f - 1)) = rw t at h in
    length_within f block number most len old positive known (omega (arith, x, inside)))
    (λ none.
    let t : nat_lt 0 count ≡ false = grind (arith, nat_tests) in
    let x : len ≤ max old 0 = rw t at h in
    omega (arith, x))
    (cases_lt 0 count)

-- no data block that may be taken
pub take_refused : (f : Features) (l : LayerBelow) (block named most : ℕ) (copied : ℕ → Type 0) (e : Error) → AreLawful f → 0 < block → named + 1 ≤ most → (e ≡ Error.WrapAround → 18446744073709551616 ≤ (named + 1) * block) → (e ≡ Error.WrapAround) ⊎ (e ≡ Error.Memory)
    → allowed (fill_reasons f l (most * block) copied) e
take_refused f l block named most copied e lawful positive more full why = ⊎_elim
    (λ w.
    let far : 18446744073709551616 ≤ named * block + block = let x = full w in omega (arith, x) in
    let ends = number_ends block named most (omega (arith, more)) in
    rw w (inl (refl, record { from = named * block; count = block; above = omega arith; below = omega (arith, ends); wraps = (wrap_causes f lawful (named * block) block positive).1 (inl far) })))
    (λ m. rw m tt)
    why

-- bytes of a data block that a copy didn't touch
pub block_kept : (keeps : Bool) (block end n to count : ℕ) (entries : List GuestBlock) (old new : List ℕ) → ((i : ℕ) → slice_get entries i ≡ Some (GuestBlock.Data n) → ⊥) → n * block ≤ to → to + count ≤ n * block + block
    → (IsTrue keeps → SameOutside to count old new) → KeepsBytes keeps block end entries old new
block_kept keeps block end n to count entries old new unnamed begins ends same k i j r e small before = ⊎_elim
    (λ below. same k (j * block + r) (inl (omega (arith, times_next block j n below, begins, small))))
    (λ above. ⊎_elim
    (λ behind. same k (j * block + r) (inr (omega (arith, times_next block n j behind, ends))))
    (λ over. let x : j ≡ n = omega arith in absurd (unnamed i (e ∙ ap (λ y. Some (GuestBlock.Data y)) x)))
    (cases_lt n j))
    (cases_lt j n)

-- a growth in two steps
pub extended_more : (at : ℕ → Value) (lower keeps told : Bool) (block from mid until : ℕ) (a b c : List GuestBlock) (x y z : List ℕ) → from ≤ mid → IsExtended at lower keeps told block from mid a b x y → IsExtended at lower keeps told block mid until b c y z → IsExtended at lower keeps told block from until a c x z
extended_more at lower keeps told block from mid until a b c x y z le first second = record {
  kept = λ k p h. second.kept k p (omega (arith, h, le)) ∙ first.kept k p h;
  added = λ k t p h l. ⊎_elim
      (λ under. second.kept k p under ∙ first.added k t p h under)
      (λ over. second.added k t p over l)
      (cases_lt p mid);
  names = λ i j e. second.names i j (first.names i j e);
  bytes = λ k i j r e s h. second.bytes k i j r (first.names i j e) s (omega (arith, h, le)) ∙ first.bytes k i j r e s h;
}

get_left : {X : Type 0} (xs ys : List X) (i : ℕ) → i < length xs → slice_get (xs ++ ys) i ≡ slice_get xs i
get_left [] ys i h = let z : ⊥ = omega arith in absurd z
get_left (x ∷ xs) ys zero h = refl
get_left (x ∷ xs) ys (suc i) h = get_left xs ys i (omega arith)

get_last : {X : Type 0} (xs : List X) (y : X) → slice_get (xs ++ y ∷ []) (length xs) ≡ Some y
get_last [] y = refl
get_last (x ∷ xs) y = get_last xs y

-- a guest block that was pushed goes on with the disk
pub pushed_extended : (at : ℕ → Value) (keeps told : Bool) (block end : ℕ) (old new : List GuestBlock) (x y : List ℕ) → 0 < block → IsPushed at keeps told block end old new x y → IsExtended at true keeps told block (length old * block) (min end (length old * block + block)) old new x y
pushed_extended at keeps told block end old new x y positive push =
    let n = push.number in
    let left : (i : ℕ) → i < length old → slice_get new i ≡ slice_get old i = λ i h. ap (λ e. slice_get e i) (push.entries) ∙ get_left old (GuestBlock.Data n ∷ []) i h in
    record {
      kept = λ k p h.
          let l : p / block < length old = (div-lt_iff_lt-mul positive).1 h in
          let same : (q : ℕ) → (q < n * block + 0) ⊎ (n * block + 0 + block ≤ q) → slice_index y q ≡ slice_index x q = λ q s. push.outside k q (⊎_elim (λ u. inl (omega (arith, u))) (λ u. inr (omega (arith, u))) s) in
          ap (λ e. shown at (entry_place y block p e)) (left (p / block) l) ∙ ap (shown at) (other_place block positive x y n 0 block p (slice_get old (p / block)) (omega arith) (push.unnamed (p / block)) same);
      added = λ k t p h l.
          let i : p / block ≡ length old = lies_in block positive (length old) p h (omega (arith, l)) in
          let e : slice_get new (p / block) ≡ Some (GuestBlock.Data n) = ap (slice_get new) i ∙ ap (λ z. slice_get z (length old)) (push.entries) ∙ get_last old (GuestBlock.Data n) in
          ap (λ z. shown at (entry_place y block p z)) e ∙ sym (push.holds k t p h (omega (arith, l)) (omega (arith, l)));
      names = λ i j e. left i (slice_get_within old i (GuestBlock.Data j) e) ∙ e;
      bytes = block_kept keeps block (length old * block) n (n * block) block old x y (push.unnamed) (omega arith) (omega arith) (push.outside);
    }

pub pushing_none : (at : ℕ → Value) (keeps told : Bool) (block end : ℕ) (start : List GuestBlock) (old : List ℕ) (before : ℕ) → ArePushed at keeps told block end start start old old before before 0
pushing_none at keeps told block end start old before = record {
  len = omega arith;
  prefix = take_all (length start) start (omega arith);
  extended = record {
    kept = λ k p h. refl;
    added = λ k t p h l. let z : ⊥ = omega (arith, h, l) in absurd z;
    names = λ i j e. e;
    bytes = λ k i j r e s h. refl;
  };
  in_data = λ i h l. absurd (omega (arith, h, l));
  named = omega arith;
  counted = omega arith;
}

-- one more guest block in a data block
data_more : (start now next : List GuestBlock) (n : ℕ) → next ≡ now ++ GuestBlock.Data n ∷ [] → AddsData start now → AddsData start next
data_more start now next n pushed was i h l = ⊎_elim
    (λ under. ap (λ e. is_data (slice_get e i)) pushed ∙ ap is_data (get_left now (GuestBlock.Data n ∷ []) i under) ∙ was i h under)
    (λ over.
    let len : length next ≡ length now + 1 = ap length pushed ∙ length_push now (GuestBlock.Data n) in
    let last : i ≡ length now = omega (arith, over, l, len) in
    ap (λ e. is_data (slice_get e i)) pushed ∙ ap (λ k. is_data (slice_get (now ++ GuestBlock.Data n ∷ []) k)) last ∙ ap is_data (get_last now (GuestBlock.Data n)))
    (cases_lt i (length now))

pub pushing_more : (at : ℕ → Value) (keeps told : Bool) (block end : ℕ) (start now next : List GuestBlock) (old new more : List ℕ) (before count later done : ℕ) → 0 < block → length now * block < end → ArePushed at keeps told block end start now old new before count done
    → IsPushed at keeps told block end now next new more → later ≤ max count (named_count now + 1) → ArePushed at keeps told block end start next old more before later (done + 1)
pushing_more at keeps told block end start now next old new more before count later done positive begins was push added =
    let n = push.number in
    let l : length next ≡ length now + 1 = ap length (push.entries) ∙ length_push now (GuestBlock.Data n) in
    let t : length next * block ≡ (length now + 1) * block = ap (λ z. z * block) l in
    let mid : min end (length now * block) ≡ length now * block = omega (arith, begins) in
    let until : min end (length now * block + block) ≡ min end (length next * block) = omega (arith, t) in
    let first : IsExtended at true keeps told block (length start * block) (length now * block) start now old new = subst (λ z. IsExtended at true keeps told block (length start * block) z start now old new) mid (was.extended) in
    let second : IsExtended at true keeps told block (length now * block) (min end (length next * block)) now next new more = subst (λ z. IsExtended at true keeps told block (length now * block) z now next new more) until (pushed_extended at keeps told block end now next new more positive push) in
    let less : length start ≤ length now = omega (arith, was.len) in
    record {
      len = omega (arith, l, was.len);
      prefix = ap (take (length start)) (push.entries) ∙ take-append-le (length start) now (GuestBlock.Data n ∷ []) less ∙ was.prefix;
      extended = extended_more at true keeps told block (length start * block) (length now * block) (min end (length next * block)) start now next old new more (times_more block (length start) (length now) less) first second;
      in_data = data_more start now next n (push.entries) was.in_data;
      named = ap named_count (push.entries) ∙ sum_by_push names_any now (GuestBlock.Data n) ∙ (let z = was.named in omega (arith, z));
      counted = omega (arith, added, was.counted, was.named);
    }

-- counts of faults of two calls, of which the first succeeded
pub counts_then : {T : Type 0} (r : Bool) (a b c : ℕ) (y : Result T Error) → CountsFaults {T = Unit {0}} r a b (Ok tt) → CountsFaults r b c y → CountsFaults r a c y
counts_then r a b c y first second = record {
  later = omega (arith, first.later, second.later);
  reliable = λ e. second.reliable e ∙ first.reliable e;
  device = λ e. ⊎_elim (λ rose. inl (omega (arith, rose, first.later))) (λ full. inr full) (second.device e);
}

-- what two facts of a success give
pub on_ok_both : {T E P Q R : Type 0} (r : Result T E) → (P → Q → R) → OnOk r P → OnOk r Q → OnOk r R
on_ok_both (Ok x) f p q = f p q
on_ok_both (Err e) f p q = tt

-- guest blocks without data that were added go on with the disk as zeroes
pub zero_extended : (at : ℕ → Value) (keeps told : Bool) (block new_size : ℕ) (old new : List GuestBlock) (x : List ℕ) → 0 < block → IsExact new_size block new → AreAdded GuestBlock.Zero old new → IsExtended at false keeps told block (length old * block) new_size old new x x
zero_extended at keeps told block new_size old new x positive exact added = record {
  kept = λ k p h. ap (λ e. shown at (entry_place x block p e)) (added.kept (p / block) ((div-lt_iff_lt-mul positive).1 h));
  added = λ k t p h l.
      let far : length old ≤ p / block = ⊎_elim (λ under. let z : p < length old * block = (div-lt_iff_lt-mul positive).0 under in absurd (omega (arith, z, h))) (λ over. over) (cases_lt (p / block) (length old)) in
      let inside : p / block < length new = (div-lt_iff_lt-mul positive).1 (omega (arith, l, exact.covers)) in
      ap (λ e. shown at (entry_place x block p e)) (added.added (p / block) far inside);
  names = λ i j e. added.kept i (slice_get_within old i (GuestBlock.Data j) e) ∙ e;
  bytes = λ k i j r e s h. refl;
}

-- there is one number of guest blocks for a size
pub one_whole : (block n a b : ℕ) → n ≤ a * block → a * block < n + block → n ≤ b * block → b * block < n + block → a ≡ b
one_whole block n a b ca na cb nb = ⊎_elim
    (λ under. absurd (omega (arith, times_next block a b under, ca, nb)))
    (λ above. ⊎_elim
    (λ under. absurd (omega (arith, times_next block b a under, cb, na)))
    (λ over. omega (arith, above, over))
    (cases_lt b a))
    (cases_lt a b)

-- the entries that were there begin the new ones
pub prefix_kept : {X T E : Type 0} (r : Result T E) (old new more : List X) → OnOk r (new ≡ old ++ more) → OnErr r (new ≡ old) → take (length old) new ≡ old
prefix_kept (Ok x) old new more e u = ap (take (length old)) e ∙ take_at old more (length old) refl
prefix_kept (Err x) old new more e u = ap (take (length old)) u ∙ take_all (length old) old (omega arith)

empty_names : (kind : WithoutData) → names_any (without_data kind) ≡ 0
empty_names W.Absent = refl
empty_names W.Zero = refl

-- entries without data name none
pub named_kept : {T E : Type 0} (r : Result T E) (old new : List GuestBlock) (kind : WithoutData) (n : ℕ) → OnOk r (new ≡ old ++ replicate n (without_data kind)) → OnErr r (new ≡ old) → named_count new ≡ named_count old
named_kept (Ok x) old new kind n e u =
    let a = sum_by-append names_any old (replicate n (without_data kind)) in
    let b : sum_by names_any (replicate n (without_data kind)) ≡ n * names_any (without_data kind) = sum_by-replicate names_any n (without_data kind) in
    let c : n * names_any (without_data kind) ≡ n * 0 = ap (λ z. n * z) (empty_names kind) in
    ap named_count e ∙ omega (arith, a, b, c)
named_kept (Err x) old new kind n e u = ap named_count u
