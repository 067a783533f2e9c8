-- SPDX-License-Identifier: MIT
use Rattle.std.proofs.Common.{◌≡◌, ℕ, ◌+◌, ◌-◌, ◌<◌, ◌≤◌, ◌⊎◌, ⊎_elim, inl, inr, Bool, true, false, List, [], ◌++◌, length, take, map, replicate, min, max, get_or, refl, sym, ap, ◌∙◌, arith, length-take, length-drop, length-append, slice_index}
use Rattle.std.proofs.lemmas.Bool.{cases_lt}
use Rattle.std.proofs.lemmas.List.{places, same_lists, length-map, get_or-map, get_or_default, get_or-take, get_or-replicate, length-replicate, get_or_append_left, append-nil, nil_from_length}
use Rattle.std.proofs.lemmas.List.FromFn.{get_or-map-range_with_len, length-map-range_with_len}
use Rattle.std.proofs.Math.Seq.{get_or-append_right}
use Rattle.imago_drivers.specs.declared.format.PreallocateMode.{PreallocateMode}
use Rattle.imago_drivers.specs.declared.format.PreallocateMode.TheVariants as Mode
use Rattle.imago_drivers.specs.Place.{Value, Byte, IsIn}
use Rattle.imago_drivers.specs.Changes.{IsChanged, into, partly, overwritten, given_back}
use Rattle.imago_drivers.specs.Resized.{grown_into}
use Rattle.imago_access.specs.Writing.{filled}
use Rattle.imago_access.specs.Disk.{values_from, value_at, splice, OldOrNewValues, extended, IsExtended, filled_in, IsFilledIn, IsUnspecifiedIn, IsOverwritten}
use Rattle.imago_access.specs.Determined.{IsFilled}

pub from_at : (f : ℕ → Value) (o n k : ℕ) (d : Value) → k < n → get_or (values_from f o n) k d ≡ f (o + k)
from_at f o n k d h = get_or-map-range_with_len f o n k (o + k) d h refl

pub listed_at : (f : ℕ → Value) (n k : ℕ) (d : Value) → k < n → get_or (values_from f 0 n) k d ≡ f k
listed_at f n k d h = let e : 0 + k ≡ k = omega arith in get_or-map-range_with_len f 0 n k k d h e

pub from_length : (f : ℕ → Value) (o n : ℕ) → length (values_from f o n) ≡ n
from_length f o n = length-map-range_with_len f o n

pub same_listed : (f g : ℕ → Value) (m n : ℕ) → m ≡ n → ((p : ℕ) → g p ≡ f p) → values_from g 0 m ≡ values_from f 0 n
same_listed f g m n e h = same_lists (values_from g 0 m) (values_from f 0 n) (from_length g 0 m ∙ e ∙ sym (from_length f 0 n))
    (λ k d lt.
    let a : k < m = omega (arith, from_length g 0 m) in
    let b : k < n = omega arith in
    listed_at g m k d a ∙ h k ∙ sym (listed_at f n k d b))

splice_length : (xs ys : List Value) (o : ℕ) → o + length ys ≤ length xs → length (splice xs o ys) ≡ length xs
splice_length xs ys o h = simp (length-append, length-take, length-drop) (omega arith)

splice_before : (xs ys : List Value) (o k : ℕ) (d : Value) → o + length ys ≤ length xs → k < o → get_or (splice xs o ys) k d ≡ get_or xs k d
splice_before xs ys o k d h j = grind (arith, places)

splice_inside : (xs ys : List Value) (o k : ℕ) (d : Value) → o + length ys ≤ length xs → o ≤ k → k < o + length ys → get_or (splice xs o ys) k d ≡ get_or ys (k - o) d
splice_inside xs ys o k d h i j = grind (arith, places)

splice_behind : (xs ys : List Value) (o k : ℕ) (d : Value) → o + length ys ≤ length xs → o + length ys ≤ k → get_or (splice xs o ys) k d ≡ get_or xs k d
splice_behind xs ys o k d h j = grind (arith, places)

module _ (xs : List Value) (o : ℕ) (bytes : List ℕ) where
  -- a splice of bytes, offset by offset
  pub spliced : o + length bytes ≤ length xs → IsChanged o (length bytes) (into bytes) (value_at xs) (value_at (splice xs o (map Byte bytes)))
  spliced h =
      let len : length (map Byte bytes) ≡ length bytes = length-map bytes Byte in
      let inside : o + length (map Byte bytes) ≤ length xs = omega arith in
      record {
        inside = λ k lt.
            let a : o ≤ o + k = omega arith in
            let b : o + k < o + length (map Byte bytes) = omega arith in
            let e : o + k - o ≡ k = omega arith in
            splice_inside xs (map Byte bytes) o (o + k) (Byte 0) inside a b ∙ ap (λ (i : ℕ). get_or (map Byte bytes) i (Byte 0)) e ∙ get_or-map Byte bytes k 0 (Byte 0) lt;
        before = λ p lt. splice_before xs (map Byte bytes) o p (Byte 0) inside lt;
        behind = λ p le. splice_behind xs (map Byte bytes) o p (Byte 0) inside (omega arith);
      }

  pub spliced_length : o + length bytes ≤ length xs → length (splice xs o (map Byte bytes)) ≡ length xs
  spliced_length h =
      let len : length (map Byte bytes) ≡ length bytes = length-map bytes Byte in
      splice_length xs (map Byte bytes) o (omega arith)

  -- two lists that change into the same bytes are one
  pub written_list : (ys : List Value) → length ys ≡ length xs → o + length bytes ≤ length xs → IsChanged o (length bytes) (into bytes) (value_at xs) (value_at ys) → ys ≡ splice xs o (map Byte bytes)
  written_list ys same h c =
      let s = spliced h in
      let len : length (splice xs o (map Byte bytes)) ≡ length xs = spliced_length h in
      let at : (p : ℕ) → value_at ys p ≡ value_at (splice xs o (map Byte bytes)) p = λ p. ⊎_elim
      (λ (before : p < o). c.before p before ∙ sym (s.before p before))
      (λ (above : o ≤ p). ⊎_elim
      (λ (under : p < o + length bytes).
      let i : p - o < length bytes = omega arith in
      let t : o + (p - o) ≡ p = omega arith in
      let e : value_at ys (o + (p - o)) ≡ value_at (splice xs o (map Byte bytes)) (o + (p - o)) = c.inside (p - o) i ∙ sym (s.inside (p - o) i) in
      rw t at e)
      (λ (behind : o + length bytes ≤ p). c.behind p behind ∙ sym (s.behind p behind))
      (cases_lt p (o + length bytes)))
      (cases_lt p o) in
      same_lists ys (splice xs o (map Byte bytes)) (same ∙ sym len) (λ k d lt. get_or_default_to ys k d lt ∙ at k ∙ sym (get_or_default_to (splice xs o (map Byte bytes)) k d (omega arith)))
    where
      get_or_default_to : (zs : List Value) (k : ℕ) (d : Value) → k < length zs → get_or zs k d ≡ value_at zs k
      get_or_default_to zs k d lt = get_or_default zs k d (Byte 0) lt

  -- a torn write on lists, offset by offset
  pub torn_list : (ys : List Value) → length ys ≡ length xs → o + length bytes ≤ length xs → IsChanged o (length bytes) (partly (into bytes)) (value_at xs) (value_at ys) → OldOrNewValues xs (splice xs o (map Byte bytes)) ys
  torn_list ys same h c =
      let s = spliced h in
      record {
        each = λ p. ⊎_elim
            (λ (before : p < o). inl (c.before p before))
            (λ (above : o ≤ p). ⊎_elim
            (λ (under : p < o + length bytes).
            let i : p - o < length bytes = omega arith in
            let t : o + (p - o) ≡ p = omega arith in
            let e : (value_at ys (o + (p - o)) ≡ value_at xs (o + (p - o))) ⊎ (value_at ys (o + (p - o)) ≡ value_at (splice xs o (map Byte bytes)) (o + (p - o))) =
            ⊎_elim (λ k. inl k) (λ k. inr (k ∙ sym (s.inside (p - o) i))) (c.inside (p - o) i) in
            rw t at e)
            (λ (behind : o + length bytes ≤ p). inl (c.behind p behind))
            (cases_lt p (o + length bytes)))
            (cases_lt p o);
        same_length = same;
      }

  pub torn_values : (ys : List Value) → o + length bytes ≤ length xs → OldOrNewValues xs (splice xs o (map Byte bytes)) ys → IsChanged o (length bytes) (partly (into bytes)) (value_at xs) (value_at ys)
  torn_values ys h t =
      let s = spliced h in
      record {
        inside = λ k lt. ⊎_elim (λ e. inl e) (λ e. inr (e ∙ s.inside k lt)) (t.each (o + k));
        before = λ p lt. ⊎_elim (λ e. e) (λ e. e ∙ s.before p lt) (t.each p);
        behind = λ p le. ⊎_elim (λ e. e) (λ e. e ∙ s.behind p le) (t.each p);
      }

-- lists that show the same values are one
pub same_by_values : (xs ys : List Value) → length ys ≡ length xs → ((p : ℕ) → value_at ys p ≡ value_at xs p) → ys ≡ xs
same_by_values xs ys same at = same_lists ys xs same (λ k d lt. get_or_default ys k d (Byte 0) lt ∙ at k ∙ sym (get_or_default xs k d (Byte 0) (omega arith)))

-- a write through a mapping, on lists
module _ (xs : List Value) (o n : ℕ) (bytes : List ℕ) (fits : o + n ≤ length xs) where
  fitting : length (take n bytes) ≡ min n (length bytes)
  fitting = length-take n bytes

  fitting_inside : o + length (take n bytes) ≤ length xs
  fitting_inside = omega (arith, fitting)

  -- what is written there
  filled_at : (k : ℕ) → k < n → k < length bytes → value_at (filled_in xs o n bytes) (o + k) ≡ Byte (slice_index bytes k)
  filled_at k lt i = (spliced xs o (take n bytes) fitting_inside).inside k (omega (arith, fitting)) ∙ ap Byte (get_or-take n bytes k 0 lt)

  filled_before : (p : ℕ) → p < o → value_at (filled_in xs o n bytes) p ≡ value_at xs p
  filled_before p lt = (spliced xs o (take n bytes) fitting_inside).before p lt

  filled_behind : (p : ℕ) → (o + n ≤ p) ⊎ (o + length bytes ≤ p) → value_at (filled_in xs o n bytes) p ≡ value_at xs p
  filled_behind p out = (spliced xs o (take n bytes) fitting_inside).behind p (⊎_elim (λ (h : o + n ≤ p). omega (arith, fitting)) (λ (h : o + length bytes ≤ p). omega (arith, fitting)) out)

  filled_length : length (filled_in xs o n bytes) ≡ length xs
  filled_length = spliced_length xs o (take n bytes) fitting_inside

  module _ (overwrite : Bool) (ys : List Value) (same : length ys ≡ length xs) where
    -- all but what may be overwritten
    agrees : IsChanged o n (filled overwrite bytes) (value_at xs) (value_at ys) → (p : ℕ) → (p < o + length bytes) ⊎ (o + n ≤ p) → value_at ys p ≡ value_at (filled_in xs o n bytes) p
    agrees c p out = ⊎_elim
        (λ (before : p < o). c.before p before ∙ sym (filled_before p before))
        (λ (above : o ≤ p). ⊎_elim
        (λ (under : p < o + n).
        let t : o + (p - o) ≡ p = omega arith in
        let i : p - o < length bytes = ⊎_elim (λ (h : p < o + length bytes). omega arith) (λ (h : o + n ≤ p). omega arith) out in
        let e : value_at ys (o + (p - o)) ≡ value_at (filled_in xs o n bytes) (o + (p - o)) = (c.inside (p - o) (omega arith)).0 i ∙ sym (filled_at (p - o) (omega arith) i) in
        rw t at e)
        (λ (behind : o + n ≤ p). c.behind p behind ∙ sym (filled_behind p (inl behind)))
        (cases_lt p (o + n)))
        (cases_lt p o)

    unspecified_rest : IsChanged o n (filled overwrite bytes) (value_at xs) (value_at ys) → IsUnspecifiedIn (filled_in xs o n bytes) (o + length bytes) (n - length bytes) ys
    unspecified_rest c = record {
      same_length = same ∙ sym filled_length;
      outside = λ p out. agrees c p (⊎_elim (λ (h : p < o + length bytes). inl h) (λ (h : o + length bytes + (n - length bytes) ≤ p). inr (omega arith)) out);
    }

    -- refused: each value by itself
    pub partly_filled : IsChanged o n (partly (filled overwrite bytes)) (value_at xs) (value_at ys)
        → (p : ℕ) → (value_at ys p ≡ value_at xs p) ⊎ ((value_at ys p ≡ value_at (filled_in xs o n bytes) p) ⊎ ((overwrite ≡ true) × IsIn (o + length bytes) (n - length bytes) p))
    partly_filled c p = ⊎_elim
        (λ (before : p < o). inl (c.before p before))
        (λ (above : o ≤ p). ⊎_elim
        (λ (under : p < o + n).
        let k : p - o < n = omega arith in
        let t : o + (p - o) ≡ p = omega arith in
        let x = rw t at (c.inside (p - o) k) in
        ⊎_elim
        (λ s. inl s)
        (λ f. ⊎_elim
        (λ (i : p - o < length bytes).
        let w = rw t at (filled_at (p - o) k i) in
        inr (inl (f.0 i ∙ sym w)))
        (λ (i : length bytes ≤ p - o). ⊎_elim (λ e. inr (inr (e, (omega arith, omega arith)))) (λ s. inl s) (f.1 i))
        (cases_lt (p - o) (length bytes)))
        x)
        (λ (behind : o + n ≤ p). inl (c.behind p behind))
        (cases_lt p (o + n)))
        (cases_lt p o)

  -- a write through a mapping that nothing but the bytes shows of
  filled_exactly : (ys : List Value) → length ys ≡ length xs → IsChanged o n (filled false bytes) (value_at xs) (value_at ys) → ys ≡ filled_in xs o n bytes
  filled_exactly ys same c = same_by_values (filled_in xs o n bytes) ys (same ∙ sym filled_length) (λ p. ⊎_elim
      (λ (h : p < o + length bytes). agrees false ys same c p (inl h))
      (λ (h : o + length bytes ≤ p). ⊎_elim
      (λ (under : p < o + n).
      let t : o + (p - o) ≡ p = omega arith in
      let x = rw t at ((c.inside (p - o) (omega arith)).1 (omega arith)) in
      ⊎_elim (λ e. let z : ⊥ = cc in absurd z) (λ s. s ∙ sym (filled_behind p (inr h))) x)
      (λ (behind : o + n ≤ p). agrees false ys same c p (inr behind))
      (cases_lt p (o + n)))
      (cases_lt p (o + length bytes)))

  pub filled_list : (overwrite : Bool) (ys : List Value) → length ys ≡ length xs → IsChanged o n (filled overwrite bytes) (value_at xs) (value_at ys) → IsFilledIn overwrite xs o n bytes ys
  filled_list true ys same c = unspecified_rest true ys same c
  filled_list false ys same c = filled_exactly ys same c

-- values that may be overwritten where none is
pub nothing_overwritten : (xs ys : List Value) (o : ℕ) → IsUnspecifiedIn xs o 0 ys → ys ≡ xs
nothing_overwritten xs ys o u = same_by_values xs ys u.same_length (λ p. u.outside p (⊎_elim (λ (h : p < o). inl h) (λ (h : o ≤ p). inr (omega arith)) (cases_lt p o)))

-- a data mapping, on lists
pub overwritten_list : (overwrite : Bool) (xs ys : List Value) (o n : ℕ) → length ys ≡ length xs → IsChanged o n (overwritten overwrite) (value_at xs) (value_at ys) → IsOverwritten overwrite xs o n ys
overwritten_list true xs ys o n same c = record { same_length = same; outside = λ p out. ⊎_elim (λ lt. c.before p lt) (λ ge. c.behind p ge) out }
overwritten_list false xs ys o n same c = same_by_values xs ys same (λ p. ⊎_elim
    (λ (before : p < o). c.before p before)
    (λ (above : o ≤ p). ⊎_elim
    (λ (under : p < o + n).
    let t : o + (p - o) ≡ p = omega arith in
    let x = rw t at (c.inside (p - o) (omega arith)) in
    ⊎_elim (λ e. let z : ⊥ = cc in absurd z) (λ s. s) x)
    (λ (behind : o + n ≤ p). c.behind p behind)
    (cases_lt p (o + n)))
    (cases_lt p o))

-- a cut, as lists
pub cut_list : (f g : ℕ → Value) (s t n : ℕ) → t ≡ min s n → ((p : ℕ) → p < t → g p ≡ f p) → values_from g 0 t ≡ take n (values_from f 0 s)
cut_list f g s t n e h =
    let len : length (take n (values_from f 0 s)) ≡ min n s = length-take n (values_from f 0 s) ∙ ap (min n) (from_length f 0 s) in
    let all : length (values_from g 0 t) ≡ t = from_length g 0 t in
    same_lists (values_from g 0 t) (take n (values_from f 0 s)) (omega arith) (λ k d lt.
    let a : k < t = omega arith in
    let b : k < s = omega arith in
    let c : k < n = omega arith in
    listed_at g t k d a ∙ h k a ∙ sym (get_or-take n (values_from f 0 s) k d c ∙ listed_at f s k d b))

-- a growth, as lists
pub grown_list : (f g : ℕ → Value) (s t n : ℕ) → t ≡ max s n → ((p : ℕ) → p < s → g p ≡ f p) → values_from g 0 t ≡ values_from f 0 s ++ values_from g s (n - s)
grown_list f g s t n e h =
    let one : length (values_from f 0 s) ≡ s = from_length f 0 s in
    let two : length (values_from g s (n - s)) ≡ n - s = from_length g s (n - s) in
    let all : length (values_from g 0 t) ≡ t = from_length g 0 t in
    let both : length (values_from f 0 s ++ values_from g s (n - s)) ≡ s + (n - s) = simp length-append (omega arith) in
    same_lists (values_from g 0 t) (values_from f 0 s ++ values_from g s (n - s)) (omega arith) (λ k d lt.
    let a : k < t = omega arith in
    listed_at g t k d a ∙
    ⊎_elim
    (λ (old : k < s).
    let b : k < length (values_from f 0 s) = omega arith in
    h k old ∙ sym (get_or_append_left (values_from f 0 s) (values_from g s (n - s)) d k b ∙ listed_at f s k d old))
    (λ (new : s ≤ k).
    let b : length (values_from f 0 s) ≤ k = omega arith in
    let c : k - s < n - s = omega arith in
    let q : s + (k - s) ≡ k = omega arith in
    sym (get_or-append_right (values_from f 0 s) (values_from g s (n - s)) k d b ∙ ap (λ (m : ℕ). get_or (values_from g s (n - s)) (k - m) d) one ∙ from_at g s (n - s) (k - s) d c ∙ ap g q))
    (cases_lt k s))

-- new values that are all given
given_list : (g v : ℕ → Value) (s n : ℕ) → ((p : ℕ) → s ≤ p → p < n → g p ≡ v p) → values_from g s (n - s) ≡ values_from v s (n - s)
given_list g v s n h = same_lists (values_from g s (n - s)) (values_from v s (n - s)) (from_length g s (n - s) ∙ sym (from_length v s (n - s))) (λ k d lt.
    let a : k < n - s = omega (arith, from_length g s (n - s)) in
    from_at g s (n - s) k d a ∙ h (s + k) (omega arith) (omega arith) ∙ sym (from_at v s (n - s) k d a))

zero_list : (g : ℕ → Value) (s n : ℕ) → ((p : ℕ) → s ≤ p → p < n → g p ≡ Byte 0) → values_from g s (n - s) ≡ replicate (n - s) (Byte 0)
zero_list g s n h =
    let len : length (replicate (n - s) (Byte 0)) ≡ n - s = length-replicate (n - s) (Byte 0) in
    same_lists (values_from g s (n - s)) (replicate (n - s) (Byte 0)) (from_length g s (n - s) ∙ sym len) (λ k d lt.
    let a : k < n - s = omega (arith, from_length g s (n - s)) in
    from_at g s (n - s) k d a ∙ h (s + k) (omega arith) (omega arith) ∙ sym (get_or-replicate (n - s) k (Byte 0) d a))

-- a growth whose new values are what the mode says
pub extended_by : (mode : PreallocateMode) (takes_backing : Bool) (below g : ℕ → Value) (n : ℕ) (xs ys : List Value) → ys ≡ xs ++ values_from g (length xs) (n - length xs)
    → ((p : ℕ) → length xs ≤ p → p < n → grown_into mode takes_backing below p (g p)) → IsExtended mode (given_back takes_backing below) n xs ys
extended_by Mode.None t below g n xs ys e h = (values_from g (length xs) (n - length xs), from_length g (length xs) (n - length xs), e)
extended_by Mode.Zero t below g n xs ys e h = e ∙ ap (λ (zs : List Value). xs ++ zs) (zero_list g (length xs) n h)
extended_by Mode.FormatAllocate t below g n xs ys e h = e ∙ ap (λ (zs : List Value). xs ++ zs) (given_list g (given_back t below) (length xs) n h)
extended_by Mode.FullAllocate t below g n xs ys e h = e ∙ ap (λ (zs : List Value). xs ++ zs) (given_list g (given_back t below) (length xs) n h)
extended_by Mode.WriteData t below g n xs ys e h = e ∙ ap (λ (zs : List Value). xs ++ zs) (given_list g (given_back t below) (length xs) n h)

no_values : (xs ys added : List Value) → ys ≡ xs ++ added → length added ≡ 0 → ys ≡ xs
no_values xs ys added e h = e ∙ ap (λ (zs : List Value). xs ++ zs) (nil_from_length added h) ∙ append-nil xs

-- a list that is as long already
pub extended_none : (mode : PreallocateMode) (below : ℕ → Value) (n : ℕ) (xs : List Value) → n ≤ length xs → extended mode below n xs ≡ xs
extended_none Mode.Zero below n xs h = no_values xs _ (replicate (n - length xs) (Byte 0)) refl (length-replicate (n - length xs) (Byte 0) ∙ omega arith)
extended_none Mode.None below n xs h = no_values xs _ (values_from below (length xs) (n - length xs)) refl (from_length below (length xs) (n - length xs) ∙ omega arith)
extended_none Mode.FormatAllocate below n xs h = no_values xs _ (values_from below (length xs) (n - length xs)) refl (from_length below (length xs) (n - length xs) ∙ omega arith)
extended_none Mode.FullAllocate below n xs h = no_values xs _ (values_from below (length xs) (n - length xs)) refl (from_length below (length xs) (n - length xs) ∙ omega arith)
extended_none Mode.WriteData below n xs h = no_values xs _ (values_from below (length xs) (n - length xs)) refl (from_length below (length xs) (n - length xs) ∙ omega arith)

pub is_extended_none : (mode : PreallocateMode) (below : ℕ → Value) (n : ℕ) (xs ys : List Value) → n ≤ length xs → ys ≡ xs → IsExtended mode below n xs ys
is_extended_none Mode.None below n xs ys h e = ([], omega arith, e ∙ sym (append-nil xs))
is_extended_none Mode.Zero below n xs ys h e = e ∙ sym (extended_none Mode.Zero below n xs h)
is_extended_none Mode.FormatAllocate below n xs ys h e = e ∙ sym (extended_none Mode.FormatAllocate below n xs h)
is_extended_none Mode.FullAllocate below n xs ys h e = e ∙ sym (extended_none Mode.FullAllocate below n xs h)
is_extended_none Mode.WriteData below n xs ys h e = e ∙ sym (extended_none Mode.WriteData below n xs h)

-- a growth whose new values are known
pub extended_known : (mode : PreallocateMode) (below : ℕ → Value) (n : ℕ) (xs ys : List Value) → IsFilled mode n xs → IsExtended mode below n xs ys → ys ≡ extended mode below n xs
extended_known Mode.None below n xs ys f h = ⊎_elim
    (λ (le : n ≤ length xs). no_values xs ys h.0 h.2 (h.1 ∙ omega arith) ∙ sym (extended_none Mode.None below n xs le))
    (λ no. absurd (no refl))
    f
extended_known Mode.Zero below n xs ys f h = h
extended_known Mode.FormatAllocate below n xs ys f h = h
extended_known Mode.FullAllocate below n xs ys f h = h
extended_known Mode.WriteData below n xs ys f h = h

-- what is known of the list is known of its first n values
pub filled_cut : (mode : PreallocateMode) (n : ℕ) (xs : List Value) → IsFilled mode n xs → IsFilled mode n (take n xs)
filled_cut mode n xs f = ⊎_elim (λ (le : n ≤ length xs). inl (omega (arith, length-take n xs))) (λ no. inr no) f

-- an extended list is the list, and as many values more as it lacks
extended_parts : (mode : PreallocateMode) (below : ℕ → Value) (n : ℕ) (xs ys : List Value) → IsExtended mode below n xs ys → (added : List Value) × (length added ≡ n - length xs) × (ys ≡ xs ++ added)
extended_parts Mode.None below n xs ys h = h
extended_parts Mode.Zero below n xs ys h = (replicate (n - length xs) (Byte 0), length-replicate (n - length xs) (Byte 0), h)
extended_parts Mode.FormatAllocate below n xs ys h = (values_from below (length xs) (n - length xs), from_length below (length xs) (n - length xs), h)
extended_parts Mode.FullAllocate below n xs ys h = (values_from below (length xs) (n - length xs), from_length below (length xs) (n - length xs), h)
extended_parts Mode.WriteData below n xs ys h = (values_from below (length xs) (n - length xs), from_length below (length xs) (n - length xs), h)

pub extended_length : (mode : PreallocateMode) (below : ℕ → Value) (n : ℕ) (xs ys : List Value) → IsExtended mode below n xs ys → length ys ≡ length xs + (n - length xs)
extended_length mode below n xs ys h =
    let x = extended_parts mode below n xs ys h in
    let a : length ys ≡ length (xs ++ x.0) = ap (λ (zs : List Value). length zs) x.2 in
    let b : length (xs ++ x.0) ≡ length xs + length x.0 = length-append xs x.0 in
    let c : length x.0 ≡ n - length xs = x.1 in
    omega arith

pub extended_before : (mode : PreallocateMode) (below : ℕ → Value) (n : ℕ) (xs ys : List Value) → IsExtended mode below n xs ys → (p : ℕ) → p < length xs → value_at ys p ≡ value_at xs p
extended_before mode below n xs ys h p lt =
    let x = extended_parts mode below n xs ys h in
    ap (λ (zs : List Value). value_at zs p) x.2 ∙ get_or_append_left xs x.0 (Byte 0) p lt

behind : (xs ys added : List Value) (p : ℕ) → ys ≡ xs ++ added → length xs ≤ p → value_at ys p ≡ value_at added (p - length xs)
behind xs ys added p e le = ap (λ (zs : List Value). value_at zs p) e ∙ get_or-append_right xs added p (Byte 0) le

given_behind : (v : ℕ → Value) (n : ℕ) (xs ys : List Value) (p : ℕ) → ys ≡ xs ++ values_from v (length xs) (n - length xs) → length xs ≤ p → p < n → value_at ys p ≡ v p
given_behind v n xs ys p e le lt =
    let m : p - length xs < n - length xs = omega arith in
    let q : length xs + (p - length xs) ≡ p = omega arith in
    behind xs ys (values_from v (length xs) (n - length xs)) p e le ∙ from_at v (length xs) (n - length xs) (p - length xs) (Byte 0) m ∙ ap v q

pub extended_added : (mode : PreallocateMode) (takes_backing : Bool) (below : ℕ → Value) (n : ℕ) (xs ys : List Value) → IsExtended mode (given_back takes_backing below) n xs ys
    → (p : ℕ) → length xs ≤ p → p < n → grown_into mode takes_backing below p (value_at ys p)
extended_added Mode.None t below n xs ys h p le lt = tt
extended_added Mode.Zero t below n xs ys h p le lt =
    let m : p - length xs < n - length xs = omega arith in
    behind xs ys (replicate (n - length xs) (Byte 0)) p h le ∙ get_or-replicate (n - length xs) (p - length xs) (Byte 0) (Byte 0) m
extended_added Mode.FormatAllocate t below n xs ys h p le lt = given_behind (given_back t below) n xs ys p h le lt
extended_added Mode.FullAllocate t below n xs ys h p le lt = given_behind (given_back t below) n xs ys p h le lt
extended_added Mode.WriteData t below n xs ys h p le lt = given_behind (given_back t below) n xs ys p h le lt
