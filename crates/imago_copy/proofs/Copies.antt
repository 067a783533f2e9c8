-- Values put behind one another.
-- SPDX-License-Identifier: MIT
use Rattle.std.proofs.Common.{◌≡◌, ℕ, ◌+◌, ◌-◌, ◌<◌, ◌≤◌, ⊎_elim, Bool, List, [], ◌++◌, length, map, min, replicate, take, Option, Some, None, Result, Ok, Err, OnOk, OnErr, refl, sym, ap, ◌∙◌, subst, arith}
use Rattle.std.specs.Prelude.{IsTrue}
use Rattle.std.proofs.lemmas.Bool.{cases_lt}
use Rattle.std.proofs.lemmas.List.{same_lists, get_or_append_left, get_or-append_right, get_or-map, get_or-replicate, get_or-take, length-replicate, length-append, length-map, length-take, length-take-le, take_all, append_assoc, append-nil}
use Rattle.std.proofs.lemmas.List.FromFn.{length-map-range_with_len, get_or-map-range_with_len}
use borrow.Rule.Slice.PartMut.{put_mid, mid_of, same_len_mid}
use Rattle.imago_drivers.specs.Place.{Value, Byte, shown, HasValues}
use Rattle.imago_drivers.specs.View.{View}
use Rattle.imago_access.specs.declared.access.FormatAccess.{FormatAccess}
use Rattle.imago_access.specs.Chain.{driver, disk_value, tells_bytes}
use Rattle.imago_access.specs.Disk.{values_from, disk}
use Rattle.imago_access.specs.Resolved.{LeadsToZero}
use Rattle.imago_access.specs.Target.{Target, target}
use Rattle.imago_access.proofs.Values.{has_more}
use Rattle.imago_copy.specs.Appended.{IsAppended, IsPartlyAppended}
use Rattle.imago_copy.specs.declared.runs.Run.{Run}
use Rattle.imago_copy.specs.Runs.{IsRunAt, IsNextRun}
use Rattle.imago_copy.specs.Copies.{IsPut, IsPartlyPut, IsGathered, IsDiskPut, IsDiskPartlyPut}
use Rattle.imago_copy.specs.Ends.{AreZeroBehind}

-- what holds anyway holds where there is an error
pub on_error : {T E : Type 0} (r : Result T E) (P : Type 0) → P → OnErr r P
on_error (Ok x) P h = tt
on_error (Err e) P h = h

-- no values were put
pub put_none : (at : ℕ → Value) (o : ℕ) (s : Option (List ℕ)) → IsPut at o 0 s s
put_none at o None = tt
put_none at o (Some old) = ([], refl, (λ k lt. absurd (omega (arith, lt))), ap (λ (z : List ℕ). Some z) (sym (append-nil old)))

-- bytes that were appended were put
pub put_bytes : (at : ℕ → Value) (o n : ℕ) (s t : Option (List ℕ)) (bytes : List ℕ) → length bytes ≡ n → HasValues at o bytes → IsAppended s t bytes → IsPut at o n s t
put_bytes at o n None t bytes len values is = tt
put_bytes at o n (Some old) t bytes len values is = (bytes, len, values, is)

-- two that were put are one
pub put_more : (at : ℕ → Value) (o a b : ℕ) (s mid t : Option (List ℕ)) → IsPut at o a s mid → IsPut at (o + a) b mid t → IsPut at o (a + b) s t
put_more at o a b None mid t h k = tt
put_more at o a b (Some old) mid t (xs, len, values, is) k =
    let (ys, more, behind, then) = subst (λ (z : Option (List ℕ)). IsPut at (o + a) b z t) is k in
    let both : length (xs ++ ys) ≡ a + b = length-append xs ys ∙ ap (λ (z : ℕ). z + length ys) len ∙ ap (λ (z : ℕ). a + z) more in (
      xs ++ ys,
      both,
      (λ i lt. ⊎_elim
          (λ (inside : i < length xs). values i inside ∙ ap Byte (sym (get_or_append_left xs ys 0 i inside)))
          (λ (past : length xs ≤ i).
          let j : ℕ = i - length xs in
          let within : j < length ys = omega (arith, lt, past, both, len, more) in
          let place : o + a + j ≡ o + i = omega (arith, past, len) in
          ap at (sym place) ∙ behind j within ∙ ap Byte (sym (get_or-append_right xs ys (length xs) i 0 refl past)))
          (cases_lt i (length xs))),
      then ∙ ap (λ (z : List ℕ). Some z) (append_assoc old xs ys),
    )

-- what is shown of zeroes of no storage
pub zero_shown : (explicit : Bool) (t : Target) → LeadsToZero explicit t → shown (λ (q : ℕ). Byte 0) t.place ≡ Byte 0
zero_shown explicit t h = ⊎_elim
    (λ top. ap (shown (λ (q : ℕ). Byte 0)) top.0)
    (λ deep. ⊎_elim (λ zero. ap (shown (λ (q : ℕ). Byte 0)) zero.1) (λ end. ap (shown (λ (q : ℕ). Byte 0)) end.0) deep)
    h

-- zeroes were put for values that are zero
put_zeroes : (at : ℕ → Value) (o n : ℕ) (s t : Option (List ℕ)) → ((i : ℕ) → i < n → at (o + i) ≡ Byte 0) → IsAppended s t (replicate n 0) → IsPut at o n s t
put_zeroes at o n None t zero is = tt
put_zeroes at o n (Some old) t zero is = (
  replicate n 0,
  length-replicate n 0,
  (λ i lt.
      let inside : i < n = omega (arith, lt, length-replicate {A = ℕ} n 0) in
      zero i inside ∙ ap Byte (sym (get_or-replicate n i 0 0 inside))),
  is,
)

-- all was put, and nothing is held
pub gathered_put : (at : ℕ → Value) (p : ℕ) (s t : Option (List ℕ)) (buf : List ℕ) → IsPut at 0 p s t → IsGathered at p s t buf 0
gathered_put at p s t buf put =
    let all : p + 0 ≡ p = omega arith in
    let fits : 0 ≤ length buf = omega arith in
    let none : length (take 0 buf) ≡ min 0 (length buf) = length-take 0 buf in
    (p, all, put, fits, λ k lt. absurd (omega (arith, lt, none)))

-- nothing was read yet, and nothing is held
pub gathered_none : (at : ℕ → Value) (s : Option (List ℕ)) (buf : List ℕ) → IsGathered at 0 s s buf 0
gathered_none at s buf = gathered_put at 0 s s buf (put_none at 0 s)

module _ {D St : Type 0} (view : D → View St) (x : FormatAccess D) where
  -- all values of a disk were put
  pub put_disk : (n : ℕ) (s t : Option (List ℕ)) → n ≡ (view (driver x)).size → IsPut (disk_value view x) 0 n s t → IsDiskPut (disk view x) s t
  put_disk n None t e h = tt
  put_disk n (Some old) t e (bytes, len, values, is) =
      let f : ℕ → Value = disk_value view x in
      let size : ℕ = (view (driver x)).size in
      let listed : length (values_from f 0 size) ≡ size = length-map-range_with_len f 0 size in (
        bytes,
        same_lists (values_from f 0 size) (map Byte bytes) (listed ∙ sym e ∙ sym len ∙ sym (length-map bytes Byte))
            (λ k d lt.
            let here : k < size = omega (arith, lt, listed) in
            let there : k < length bytes = omega (arith, here, e, len) in
            get_or-map-range_with_len f 0 size k (0 + k) d here refl ∙ values k there ∙ sym (get_or-map Byte bytes k 0 d there)),
        is,
      )

-- what is zero on one image's disk is zero on the same image's
pub zero_as : {D St : Type 0} (view : D → View St) (y x : FormatAccess D) (o m n : ℕ) → y ≡ x → AreZeroBehind (disk_value view y) o m n → AreZeroBehind (disk_value view x) o m n
zero_as view y x o m n same h = subst (λ (z : FormatAccess _). AreZeroBehind (disk_value view z) o m n) same h

module _ {D St : Type 0} (view : D → View St) (y x : FormatAccess D) (p q held : ℕ) (t u : Option (List ℕ)) (buf : List ℕ) (same : y ≡ x) where
  -- what was gathered of one image's disk was gathered of the same image's
  pub gathered_as : (more : ℕ) (new : List ℕ)
      → (IsTrue (tells_bytes view y) → (s : Option (List ℕ)) → IsGathered (disk_value view y) p s t buf held → IsGathered (disk_value view y) q s u new more)
      → IsTrue (tells_bytes view x) → (s : Option (List ℕ)) → IsGathered (disk_value view x) p s t buf held → IsGathered (disk_value view x) q s u new more
  gathered_as more new h = subst (λ (z : FormatAccess D). IsTrue (tells_bytes view z) → (s : Option (List ℕ)) → IsGathered (disk_value view z) p s t buf held → IsGathered (disk_value view z) q s u new more) same h

  -- what was put of it before a refusal was put of the same image's
  pub partly_as : (IsTrue (tells_bytes view y) → (s : Option (List ℕ)) → IsGathered (disk_value view y) p s t buf held → IsPartlyPut (disk_value view y) 0 q s u)
      → IsTrue (tells_bytes view x) → (s : Option (List ℕ)) → IsGathered (disk_value view x) p s t buf held → IsPartlyPut (disk_value view x) 0 q s u
  partly_as h = subst (λ (z : FormatAccess D). IsTrue (tells_bytes view z) → (s : Option (List ℕ)) → IsGathered (disk_value view z) p s t buf held → IsPartlyPut (disk_value view z) 0 q s u) same h

module _ {D St : Type 0} (view : D → View St) where
  -- the next run, where there is one
  pub next_is : (x y : FormatAccess D) (p q : ℕ) (o : Option Run) (run : Run) → x ≡ y → o ≡ Some run → IsNextRun view x p o q → IsRunAt (target view y) p run × (q ≡ p + run.count) × (q ≤ (view (driver y)).size)
  next_is x y p q o run e is h = subst (λ (z : FormatAccess D). IsNextRun view z p (Some run) q) e (subst (λ (z : Option Run). IsNextRun view x p z q) is h)

  -- where there is none, the disk ends
  pub next_ends : (x y : FormatAccess D) (p q : ℕ) (o : Option Run) → x ≡ y → o ≡ None → IsNextRun view x p o q → (view (driver y)).size ≤ p
  next_ends x y p q o e is h =
      let ends : ((view (driver x)).size ≤ p) × (q ≡ p) = subst (λ (z : Option Run). IsNextRun view x p z q) is h in
      subst (λ (z : FormatAccess D). (view (driver z)).size ≤ p) e ends.0

-- nothing was put
pub partly_none : (at : ℕ → Value) (o most : ℕ) (s : Option (List ℕ)) → IsPartlyPut at o most s s
partly_none at o most s =
    let least : 0 ≤ most = omega arith in
    (0, least, put_none at o s)

-- the first of some bytes were put, which are values from there on
pub partly_bytes : (at : ℕ → Value) (o most : ℕ) (s t : Option (List ℕ)) (bytes : List ℕ) → length bytes ≤ most → HasValues at o bytes → IsPartlyAppended s t bytes → IsPartlyPut at o most s t
partly_bytes at o most None t bytes fits values is =
    let least : 0 ≤ most = omega arith in
    (0, least, tt)
partly_bytes at o most (Some old) t bytes fits values (n, le, is) =
    let len : length (take n bytes) ≡ min n (length bytes) = length-take n bytes in
    let all : length (take n bytes) ≡ n = omega (arith, len, le) in
    let within : n ≤ most = omega (arith, le, fits) in (
      n,
      within,
      (
        take n bytes,
        all,
        (λ k lt.
            let inside : k < n = omega (arith, lt, all) in
            let there : k < length bytes = omega (arith, inside, le) in
            values k there ∙ ap Byte (sym (get_or-take n bytes k 0 inside))),
        is,
      ),
    )

-- values that were put, and some behind them
pub partly_more : (at : ℕ → Value) (o a b most : ℕ) (s mid t : Option (List ℕ)) → a + b ≤ most → IsPut at o a s mid → IsPartlyPut at (o + a) b mid t → IsPartlyPut at o most s t
partly_more at o a b most s mid t fits h (n, le, k) =
    let within : a + n ≤ most = omega (arith, le, fits) in
    (a + n, within, put_more at o a n s mid t h k)

-- what is held was put
pub put_gathered : (at : ℕ → Value) (p held : ℕ) (s t u : Option (List ℕ)) (buf : List ℕ) → IsGathered at p s t buf held → IsAppended t u (take held buf) → IsPut at 0 p s u
put_gathered at p held s t u buf (n, all, put, fits, values) is =
    let len : length (take held buf) ≡ held = length-take-le held buf fits in
    let from : n ≡ 0 + n = omega arith in
    subst (λ (z : ℕ). IsPut at 0 z s u) all (put_more at 0 n held s t u put (subst (λ (o : ℕ). IsPut at o held t u) from (put_bytes at n held t u (take held buf) len values is)))

-- the first ones of what is held were put, or none
pub partly_gathered : (at : ℕ → Value) (p held : ℕ) (s t u : Option (List ℕ)) (buf : List ℕ) → IsGathered at p s t buf held → IsPartlyAppended t u (take held buf) → IsPartlyPut at 0 p s u
partly_gathered at p held s t u buf (n, all, put, fits, values) is =
    let len : length (take held buf) ≡ held = length-take-le held buf fits in
    let most : length (take held buf) ≤ held = omega (arith, len) in
    let from : n ≡ 0 + n = omega arith in
    let within : n + held ≤ p = omega (arith, all) in
    partly_more at 0 n held p s t u within put (subst (λ (o : ℕ). IsPartlyPut at o held t u) from (partly_bytes at n held t u (take held buf) most values is))

-- what is held wasn't put
pub partly_held : (at : ℕ → Value) (p q held : ℕ) (s t : Option (List ℕ)) (buf : List ℕ) → p ≤ q → IsGathered at p s t buf held → IsPartlyPut at 0 q s t
partly_held at p q held s t buf le (n, all, put, fits, values) =
    let within : n ≤ q = omega (arith, all, le) in
    (n, within, put)

-- at most so many were put, and so at most more
pub partly_within : (at : ℕ → Value) (p q : ℕ) (s t : Option (List ℕ)) → p ≤ q → IsPartlyPut at 0 p s t → IsPartlyPut at 0 q s t
partly_within at p q s t le (n, most, put) =
    let within : n ≤ q = omega (arith, most, le) in
    (n, within, put)

-- what was read behind what is held is held with it
pub gathered_more : (at : ℕ → Value) (p held n k : ℕ) (s t : Option (List ℕ)) (buf chunk : List ℕ) → length chunk ≡ n → length chunk ≡ length (mid_of held k buf) → held + n ≤ length buf
    → HasValues at p chunk → IsGathered at p s t buf held → IsGathered at (p + n) s t (put_mid held k buf chunk) (held + n)
gathered_more at p held n k s t buf chunk len mid room read (m, all, put, fits, values) =
    let sum : m + (held + n) ≡ p + n = omega (arith, all) in
    let whole : length (put_mid held k buf chunk) ≡ length buf = same_len_mid held k buf chunk mid in
    let inside : held + n ≤ length (put_mid held k buf chunk) = omega (arith, whole, room) in
    let some : n ≤ length chunk = omega (arith, len) in
    let least : length chunk ≤ n = omega (arith, len) in
    let from : p ≡ m + held = sym all in
    let behind : HasValues at (m + held) (take n chunk) = subst (λ (o : ℕ). HasValues at o (take n chunk)) from (subst (HasValues at p) (sym (take_all n chunk least)) read) in
    (m, sum, put, inside, has_more at m held k n buf chunk fits some values behind)

-- zeroes were put behind what was put
pub put_tail : (at : ℕ → Value) (p n : ℕ) (s t u : Option (List ℕ)) → ((i : ℕ) → i < n → at (p + i) ≡ Byte 0) → IsPut at 0 p s t → IsAppended t u (replicate n 0) → IsPut at 0 (p + n) s u
put_tail at p n s t u zero put is =
    let from : p ≡ 0 + p = omega arith in
    put_more at 0 p n s t u put (subst (λ (o : ℕ). IsPut at o n t u) from (put_zeroes at p n t u zero is))

-- some zeroes were put behind it
pub partly_tail : (at : ℕ → Value) (p n : ℕ) (s t u : Option (List ℕ)) → ((i : ℕ) → i < n → at (p + i) ≡ Byte 0) → IsPut at 0 p s t → IsPartlyAppended t u (replicate n 0) → IsPartlyPut at 0 (p + n) s u
partly_tail at p n s t u zero put is =
    let all : p + n ≤ p + n = omega arith in
    let from : p ≡ 0 + p = omega arith in
    partly_more at 0 p n (p + n) s t u all put (subst (λ (o : ℕ). IsPartlyPut at o n t u) from (partly_bytes at p n t u (replicate n 0) zeroes values is))
  where
    zeroes : length (replicate {A = ℕ} n 0) ≤ n
    zeroes = omega (arith, length-replicate {A = ℕ} n 0)

    values : HasValues at p (replicate n 0)
    values k lt =
        let inside : k < n = omega (arith, lt, length-replicate {A = ℕ} n 0) in
        zero k inside ∙ ap Byte (sym (get_or-replicate n k 0 0 inside))

module _ {D St : Type 0} (view : D → View St) (x : FormatAccess D) where
  -- the first values of a disk were put
  pub partly_disk : (most : ℕ) (s t : Option (List ℕ)) → most ≤ (view (driver x)).size → IsPartlyPut (disk_value view x) 0 most s t → IsDiskPartlyPut (disk view x) s t
  partly_disk most None t fits h = tt
  partly_disk most (Some old) t fits (n, le, (bytes, len, values, is)) =
      let f : ℕ → Value = disk_value view x in
      let size : ℕ = (view (driver x)).size in
      let listed : length (values_from f 0 size) ≡ size = length-map-range_with_len f 0 size in
      let cut : length (take (length bytes) (values_from f 0 size)) ≡ min (length bytes) (length (values_from f 0 size)) = length-take (length bytes) (values_from f 0 size) in
      let mapped : length (map Byte bytes) ≡ length bytes = length-map bytes Byte in
      let all : length (map Byte bytes) ≡ length (take (length bytes) (values_from f 0 size)) = omega (arith, cut, listed, mapped, len, le, fits) in (
        bytes,
        same_lists (map Byte bytes) (take (length bytes) (values_from f 0 size)) all
            (λ k d lt.
            let there : k < length bytes = omega (arith, lt, mapped) in
            let here : k < size = omega (arith, there, len, le, fits) in
            get_or-map Byte bytes k 0 d there ∙ sym (values k there) ∙ sym (get_or-map-range_with_len f 0 size k (0 + k) d here refl)
            ∙ sym (get_or-take (length bytes) (values_from f 0 size) k d there)),
        is,
      )

  module _ {E : Type 0} (r : Result (Unit {0}) E) (p held : ℕ) (s t u : Option (List ℕ)) (buf : List ℕ) (gathered : IsGathered (disk_value view x) p s t buf held) where
    -- once what is held is put, all values of a disk were put
    pub rest_put : p ≡ (view (driver x)).size → OnOk r (IsAppended t u (take held buf)) → OnOk r (IsDiskPut (disk view x) s u)
    rest_put ends = on_ok r ends
      where
        on_ok : (q : Result (Unit {0}) E) → p ≡ (view (driver x)).size → OnOk q (IsAppended t u (take held buf)) → OnOk q (IsDiskPut (disk view x) s u)
        on_ok (Ok y) ends is = put_disk view x p s u ends (put_gathered (disk_value view x) p held s t u buf gathered is)
        on_ok (Err e) ends is = tt

    -- where that is refused, the first ones of them were put
    pub rest_partly_put : p ≤ (view (driver x)).size → OnErr r (IsPartlyAppended t u (take held buf)) → OnErr r (IsDiskPartlyPut (disk view x) s u)
    rest_partly_put within = on_err r within
      where
        on_err : (q : Result (Unit {0}) E) → p ≤ (view (driver x)).size → OnErr q (IsPartlyAppended t u (take held buf)) → OnErr q (IsDiskPartlyPut (disk view x) s u)
        on_err (Ok y) within is = tt
        on_err (Err e) within is = partly_disk p s u within (partly_gathered (disk_value view x) p held s t u buf gathered is)
