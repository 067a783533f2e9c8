-- Extents one after the other, found by where each begins, and what a mapping of one names.
-- SPDX-License-Identifier: MIT
use Rattle.std.proofs.Common.{◌≡◌, ℕ, zero, suc, ◌+◌, ◌-◌, ◌*◌, ◌^◌, ◌<◌, ◌≤◌, ◌⊎◌, Bool, true, false, List, [], ◌∷◌, length, map, get_or, min, refl, sym, ap, ◌∙◌, arith, inl, ⊎_elim, nat_lt, slice_index, slice_index_or, Result, Ok, Err, IfOk, IfErr}
use Rattle.std.specs.List.{sum_by}
use Rattle.std.proofs.lemmas.Bool.{cases_lt}
use Rattle.std.proofs.lemmas.Bool.Decides.{nat_tests}
use Rattle.std.proofs.lemmas.List.Sums.{sum_by-cons}
use Rattle.imago_storage.specs.declared.error.Error.{Error}
use Rattle.imago_drivers.specs.declared.mapping.ShallowMapping.{ShallowMapping}
use Rattle.imago_drivers.specs.declared.mapping.ShallowMapping.TheVariants as M
use Rattle.imago_drivers.specs.Mapping.{Names, IsEof, IsRight}
use Rattle.imago_storage.specs.Features.{Features}
use Rattle.imago_drivers.specs.Reasons.{allowed}
use Rattle.imago_drivers.specs.Done.{map_reasons}
use Rattle.imago_drivers.specs.Place.{Value, Place, Special, Refused, End}
use Rattle.imago_vmdk.specs.declared.line.Extent.{Extent}
use Rattle.imago_vmdk.specs.declared.vmdk.Start.{Start}
use Rattle.imago_vmdk.specs.Line.{extent_with}
use Rattle.imago_vmdk.specs.Reading.{size_of}
use Rattle.imago_vmdk.specs.Vmdk.{flat_place, extent_place, storages_of, places_from, vmdk_place, extent_rest, rest_from, vmdk_view}
use Rattle.imago_vmdk.specs.Starts.{starts_from}
use Rattle.imago_vmdk.specs.VmdkLaws.{first_extent, next_extents, refusal_is, never_special}

module _ {N : Type 0} where
  pub length_starts : (from index : ℕ) (es : List (Extent N)) → length (starts_from from index es) ≡ length es
  length_starts from index [] = refl
  length_starts from index (e ∷ es) = ap suc (length_starts (from + size_of e) (index + storages_of e) es)

  -- extents begin in order
  begins_behind : (from index : ℕ) (es : List (Extent N)) (k : ℕ) (d : Start) → k < length es → from ≤ (get_or (starts_from from index es) k d).offset
  begins_behind from index [] k d h = absurd (omega arith)
  begins_behind from index (e ∷ es) zero d h = omega arith
  begins_behind from index (e ∷ es) (suc k) d h = let b = begins_behind (from + size_of e) (index + storages_of e) es k d (omega (arith, h)) in omega (arith, b)

  -- the next one begins where one ends, and the last one ends where all do
  next_start : (from index : ℕ) (es : List (Extent N)) (k : ℕ) (d : Start) (e : Extent N) → suc k < length es → e ≡ get_or es k e → (get_or (starts_from from index es) (suc k) d).offset ≡ (get_or (starts_from from index es) k d).offset + size_of e
  next_start from index [] k d e h x = absurd (omega arith)
  next_start from index (f ∷ []) k d e h x = absurd (omega arith)
  next_start from index (f ∷ (g ∷ es)) zero d e h x = rw x refl
  next_start from index (f ∷ (g ∷ es)) (suc k) d e h x = next_start (from + size_of f) (index + storages_of f) (g ∷ es) k d e (omega (arith, h)) x

  last_end : (from index : ℕ) (es : List (Extent N)) (k : ℕ) (d : Start) (e : Extent N) → suc k ≡ length es → e ≡ get_or es k e → from + sum_by size_of es ≡ (get_or (starts_from from index es) k d).offset + size_of e
  last_end from index [] k d e h x = absurd (omega (arith, h))
  last_end from index (f ∷ []) zero d e h x = let s = sum_by-cons size_of f [] in let y : size_of e ≡ size_of f = ap size_of x in omega (arith, s, y)
  last_end from index (f ∷ []) (suc k) d e h x = absurd (omega (arith, h))
  last_end from index (f ∷ (g ∷ es)) zero d e h x = absurd (omega (arith, h))
  last_end from index (f ∷ (g ∷ es)) (suc k) d e h x =
      let s = sum_by-cons size_of f (g ∷ es) in
      let r = last_end (from + size_of f) (index + storages_of f) (g ∷ es) k d e (omega (arith, h)) x in
      omega (arith, s, r)

  first_rest : (e : Extent N) (es : List (Extent N)) (p : ℕ) → p < size_of e → rest_from (e ∷ es) p ≡ extent_rest e p
  first_rest e es p h = let t : nat_lt p (size_of e) ≡ true = grind (arith, nat_tests) in rw t refl

  next_rest : (e : Extent N) (es : List (Extent N)) (p : ℕ) → size_of e ≤ p → rest_from (e ∷ es) p ≡ rest_from es (p - size_of e)
  next_rest e es p h = let t : nat_lt p (size_of e) ≡ false = grind (arith, nat_tests) in rw t refl

  -- what stands at an offset in the k-th extent, and how much one mapping names from there on
  located : (bytes : ℕ → List ℕ) (from index : ℕ) (es : List (Extent N)) (k p : ℕ) (s : Start) (e : Extent N) → k < length es → e ≡ get_or es k e → s ≡ get_or (starts_from from index es) k s
      → s.offset ≤ p → p < s.offset + size_of e → (places_from bytes index es (p - from) ≡ extent_place bytes s.storage e (p - s.offset)) × (rest_from es (p - from) ≡ extent_rest e (p - s.offset))
  located bytes from index [] k p s e h x y low high = absurd (omega arith)
  located bytes from index (f ∷ es) zero p s e h x y low high =
      let o : s.offset ≡ from = ap (λ (t : Start). t.offset) y in
      let t : s.storage ≡ index = ap (λ (u : Start). u.storage) y in
      let z : size_of e ≡ size_of f = ap size_of x in
      rw (o, t, x) (first_extent bytes index f es (p - from) (omega (arith, o, z, low, high)), first_rest f es (p - from) (omega (arith, o, z, low, high)))
  located bytes from index (f ∷ es) (suc k) p s e h x y low high =
      let b = begins_behind (from + size_of f) (index + storages_of f) es k s (omega (arith, h)) in
      let o : s.offset ≡ (get_or (starts_from (from + size_of f) (index + storages_of f) es) k s).offset = ap (λ (t : Start). t.offset) y in
      let far : size_of f ≤ p - from = omega (arith, b, o, low) in
      let part : p - from - size_of f ≡ p - (from + size_of f) = omega arith in
      let r = located bytes (from + size_of f) (index + storages_of f) es k p s e (omega (arith, h)) x y low high in
      (next_extents bytes index f es (p - from) far ∙ ap (places_from bytes (index + storages_of f) es) part ∙ r.0, next_rest f es (p - from) far ∙ ap (rest_from es) part ∙ r.1)

  -- The extent that a search found at an offset: what stands in it, and how much one mapping names.
  pub record Found (bytes : ℕ → List ℕ) (es : List (Extent N)) (p : ℕ) (e : Extent N) (s : Start) : Type 0 where
    pub inside : p - s.offset < size_of e
    pub place : (i : ℕ) → p - s.offset + i < size_of e → places_from bytes 1 es (p + i) ≡ extent_place bytes s.storage e (p - s.offset + i)
    pub rest : rest_from es p ≡ extent_rest e (p - s.offset)
    pub fits : size_of e ≤ sum_by size_of es

  part_of : (es : List (Extent N)) (k : ℕ) (e : Extent N) → k < length es → e ≡ get_or es k e → size_of e ≤ sum_by size_of es
  part_of [] k e h x = absurd (omega arith)
  part_of (f ∷ es) zero e h x = let s = sum_by-cons size_of f es in let z : size_of e ≡ size_of f = ap size_of x in omega (arith, s, z)
  part_of (f ∷ es) (suc k) e h x = let s = sum_by-cons size_of f es in let r = part_of es k e (omega (arith, h)) x in omega (arith, s, r)

  pub found : (bytes : ℕ → List ℕ) (es : List (Extent N)) (k p : ℕ) (e : Extent N) (s : Start) → k < length es → e ≡ get_or es k e → s ≡ get_or (starts_from 0 1 es) k s
      → s.offset ≤ p → (k + 1 < length (starts_from 0 1 es) → p < (get_or (starts_from 0 1 es) (k + 1) s).offset) → p < sum_by size_of es → Found bytes es p e s
  found bytes es k p e s h x y low next all =
      let n = length_starts 0 1 es in
      let o : s.offset ≡ (get_or (starts_from 0 1 es) k s).offset = ap (λ (t : Start). t.offset) y in
      let same : k + 1 ≡ suc k = omega arith in
      let high : p < s.offset + size_of e = ⊎_elim
      (λ inner. let g = next_start 0 1 es k s e inner x in let q = next (omega (arith, n, inner)) in let z : (get_or (starts_from 0 1 es) (k + 1) s).offset ≡ (get_or (starts_from 0 1 es) (suc k) s).offset = ap (λ i. (get_or (starts_from 0 1 es) i s).offset) same in omega (arith, g, q, o, z))
      (λ outer. let g = last_end 0 1 es k s e (omega (arith, outer, h)) x in omega (arith, g, o, all))
      (cases_lt (suc k) (length es)) in
      let zero_less : (q : ℕ) → q - 0 ≡ q = λ q. omega arith in
      record {
        inside = omega (arith, low, high);
        place = λ i j.
            let r = located bytes 0 1 es k (p + i) s e h x y (omega (arith, low)) (omega (arith, j, low)) in
            let at : p + i - s.offset ≡ p - s.offset + i = omega (arith, low) in
            ap (places_from bytes 1 es) (sym (zero_less (p + i))) ∙ r.0 ∙ ap (extent_place bytes s.storage e) at;
        rest = ap (rest_from es) (sym (zero_less p)) ∙ (located bytes 0 1 es k p s e h x y low high).1;
        fits = part_of es k e h x;
      }

-- a byte of a FLAT extent that may be mapped, and one that may not
pub flat_named : (bytes : ℕ → List ℕ) (storage at i : ℕ) (w : Bool) → at + i < 2 ^ 64 - 1 → Names (M.Raw storage at w) i (flat_place bytes storage w (at + i))
flat_named bytes storage at i w h = let t : nat_lt (at + i) (2 ^ 64 - 1) ≡ true = grind (arith, nat_tests) in (slice_index (bytes storage) (at + i), rw t refl)

pub flat_refused : (bytes : ℕ → List ℕ) (storage at : ℕ) (w : Bool) → 2 ^ 64 - 1 ≤ at → flat_place bytes storage w at ≡ Refused Error.InvalidData
flat_refused bytes storage at w h = let t : nat_lt at (2 ^ 64 - 1) ≡ false = grind (arith, nat_tests) in rw t refl

pub rest_within : {N : Type 0} (e : Extent N) (at : ℕ) → extent_rest e at ≤ size_of e - at
rest_within (Extent.Zero sectors) at = omega arith
rest_within (Extent.NoAccess sectors) at = omega arith
rest_within (Extent.Flat sectors name offset writable vmfs) at = omega arith

-- a mapping that names a place isn't the end, and the place is neither an end nor refused
names_no_end : (m : ShallowMapping) (i : ℕ) (x : Place) → Names m i x → x ≡ End → ⊥
names_no_end (M.Raw s o w) i x h e = let y = h.1 in let z : ⊥ = cc in z
names_no_end (M.Indirect o w) i x h e = let z : ⊥ = cc in z
names_no_end (M.Zero v) i x h e = let z : ⊥ = cc in z
names_no_end M.Eof i x h e = h
names_no_end (M.Special o) i x h e = let y = h.1 in let z : ⊥ = cc in z

names_no_refusal : (m : ShallowMapping) (i : ℕ) (x : Place) (r : Error) → Names m i x → x ≡ Refused r → ⊥
names_no_refusal (M.Raw s o w) i x r h e = let y = h.1 in let z : ⊥ = cc in z
names_no_refusal (M.Indirect o w) i x r h e = let z : ⊥ = cc in z
names_no_refusal (M.Zero v) i x r h e = let z : ⊥ = cc in z
names_no_refusal M.Eof i x r h e = h
names_no_refusal (M.Special o) i x r h e = let y = h.1 in let z : ⊥ = cc in z

names_no_eof : (m : ShallowMapping) (i : ℕ) (x : Place) → Names m i x → IsEof m → ⊥
names_no_eof (M.Raw s o w) i x h e = e
names_no_eof (M.Indirect o w) i x h e = e
names_no_eof (M.Zero v) i x h e = e
names_no_eof M.Eof i x h e = h
names_no_eof (M.Special o) i x h e = e

-- a mapping that isn't empty and names what stands there is right
pub right_mapping : (place : ℕ → Place) (p most : ℕ) (m : ShallowMapping) (n : ℕ) → 0 < n → ((i : ℕ) → i < n → Names m i (place (p + i))) → IsRight place p most m n
right_mapping place p most m n h names =
    let here : Names m 0 (place p) = let e : p + 0 ≡ p = omega arith in rw e at (names 0 h) in
    record {
      names = names;
      first = λ e. here;
      eof = (λ e. absurd (names_no_eof m 0 (place p) here e), λ e. absurd (names_no_end m 0 (place p) here e));
      no_refusal = λ r e. names_no_refusal m 0 (place p) r here e;
      empty = λ e. absurd (omega (arith, h, e));
    }

-- what a mapping of bytes of a FLAT extent names
pub flat_names : (bytes : ℕ → List ℕ) (storage offset at rest : ℕ) (w : Bool) (r : Result (ShallowMapping × ℕ) Error) → IfOk r (λ x. x.0 ≡ M.Raw storage (offset * 512 + at) w) → IfOk r (λ x. (x.1 ≡ min rest (2 ^ 64 - 1 - (offset * 512 + at))) × (0 < x.1))
    → IfOk r (λ x. (i : ℕ) → i < x.1 → Names x.0 i (flat_place bytes storage w (offset * 512 + (at + i))))
flat_names bytes storage offset at rest w (Err e) m n = tt
flat_names bytes storage offset at rest w (Ok x) m n = λ i h.
    let same : offset * 512 + (at + i) ≡ offset * 512 + at + i = omega arith in
    rw (m, same) (flat_named bytes storage (offset * 512 + at) i w (omega (arith, n.0, h)))

pub right_end : (place : ℕ → Place) (p most : ℕ) → place p ≡ End → IsRight place p most M.Eof 0
right_end place p most e = record {
  names = λ i h. absurd (omega (arith, h));
  first = λ h. absurd (h e);
  eof = (λ h. e, λ h. tt);
  no_refusal = λ r h. let z = sym e ∙ h in let y : ⊥ = cc in y;
  empty = λ h. inl e;
}

pub rest_past : {N : Type 0} (es : List (Extent N)) (p : ℕ) → sum_by size_of es ≤ p → rest_from es p ≡ 0
rest_past [] p h = refl
rest_past (e ∷ es) p h =
    let s = sum_by-cons size_of e es in
    next_rest e es p (omega (arith, s, h)) ∙ rest_past es (p - size_of e) (omega (arith, s, h))

-- a mapping's answer, clause by clause
pub mapped_right : (place : ℕ → Place) (p most n : ℕ) (r : Result (ShallowMapping × ℕ) Error) → IfOk r (λ x. (i : ℕ) → i < x.1 → Names x.0 i (place (p + i))) → IfOk r (λ x. (x.1 ≡ n) × (0 < x.1)) → IfOk r (λ x. IsRight place p most x.0 x.1)
mapped_right place p most n (Ok x) names rest = right_mapping place p most x.0 x.1 rest.1 names
mapped_right place p most n (Err e) names rest = tt

pub mapped_part : (n : ℕ) (r : Result (ShallowMapping × ℕ) Error) → IfOk r (λ x. (x.1 ≡ n) × (0 < x.1)) → IfOk r (λ x. x.1 ≡ n)
mapped_part n (Ok x) rest = rest.0
mapped_part n (Err e) rest = tt

pub mapped_whole : (most n : ℕ) (r : Result (ShallowMapping × ℕ) Error) → IfOk r (λ x. (x.1 ≡ n) × (0 < x.1)) → most ≤ n → IfOk r (λ x. most ≤ x.1)
mapped_whole most n (Ok x) rest h = omega (arith, rest.0, h)
mapped_whole most n (Err e) rest h = tt

pub mapped_refused : (place : ℕ → Place) (p : ℕ) (r : Result (ShallowMapping × ℕ) Error) → IfErr r (λ e. place p ≡ Refused e) → IfErr r (λ e. (e ≡ Error.InvalidData) ⊎ (e ≡ Error.NoAccess) → place p ≡ Refused e)
mapped_refused place p (Ok x) h = tt
mapped_refused place p (Err e) h = λ k. h

-- why a mapping may be refused
map_allowed : {N : Type 0} (features : List Features) (bytes : List (List ℕ)) (es : List (Extent N)) (p most : ℕ) (e : Error) → places_from (λ i. slice_index_or bytes i []) 1 es p ≡ Refused e → (e ≡ Error.InvalidData) ⊎ (e ≡ Error.NoAccess) → allowed (map_reasons (vmdk_view features bytes true es) p most) e
map_allowed features bytes es p most e h k = ⊎_elim
    (λ i. let place = rw i at h in rw i (refl, (p, (omega arith, omega arith), place)))
    (λ a. let place = rw a at h in rw a (refl, (p, (omega arith, omega arith), place)))
    k

pub mapped_allowed : {N : Type 0} (features : List Features) (bytes : List (List ℕ)) (es : List (Extent N)) (p most : ℕ) (r : Result (ShallowMapping × ℕ) Error) → IfErr r (λ e. places_from (λ i. slice_index_or bytes i []) 1 es p ≡ Refused e) → IfErr r (allowed (map_reasons (vmdk_view features bytes true es) p most))
mapped_allowed features bytes es p most (Ok x) h = tt
mapped_allowed features bytes es p most (Err e) h = map_allowed features bytes es p most e h (refusal_is (λ i. slice_index_or bytes i []) 1 es p e h)

-- names under another form change no size
same_size : {N M : Type 0} (name : N → M) (e : Extent N) → size_of (extent_with name e) ≡ size_of e
same_size name (Extent.Zero sectors) = refl
same_size name (Extent.NoAccess sectors) = refl
same_size name (Extent.Flat sectors file offset writable vmfs) = refl

pub same_sizes : {N M : Type 0} (name : N → M) (es : List (Extent N)) → sum_by size_of (map (extent_with name) es) ≡ sum_by size_of es
same_sizes name [] = refl
same_sizes name (e ∷ es) =
    let s = sum_by-cons size_of (extent_with name e) (map (extent_with name) es) in
    let t = sum_by-cons size_of e es in
    omega (arith, s, t, same_size name e, same_sizes name es)

-- no place of an image is special
pub image_never_special : {N : Type 0} (bytes : ℕ → List ℕ) (opened : Bool) (es : List (Extent N)) (p : ℕ) (b : Value) (o : ℕ) → vmdk_place bytes opened es p ≡ Special b o → ⊥
image_never_special bytes false es p b o h = let z : ⊥ = cc in z
image_never_special bytes true es p b o h = never_special bytes 1 es p b o h

-- a disk that isn't empty has a first extent, which begins at 0
pub some_start : {N : Type 0} (es : List (Extent N)) (p : ℕ) → p < sum_by size_of es → 0 < length (starts_from 0 1 es)
some_start [] p h = absurd (omega (arith, h))
some_start (e ∷ es) p h = omega arith

pub first_start : {N : Type 0} (es : List (Extent N)) (p : ℕ) (d : Start) → p < sum_by size_of es → (get_or (starts_from 0 1 es) 0 d).offset ≤ p
first_start [] p d h = absurd (omega (arith, h))
first_start (e ∷ es) p d h = omega arith

same_default : {A : Type 0} (xs : List A) (k : ℕ) (d e : A) → k < length xs → get_or xs k d ≡ get_or xs k e
same_default [] k d e h = absurd (omega (arith, h))
same_default (x ∷ xs) zero d e h = refl
same_default (x ∷ xs) (suc k) d e h = same_default xs k d e (omega (arith, h))

-- what a search through the starts found
pub found_at : {N : Type 0} (bytes : ℕ → List ℕ) (es : List (Extent N)) (starts : List Start) (k p : ℕ) (e : Extent N) (d : Start) → starts ≡ starts_from 0 1 es → k < length starts → e ≡ get_or es k e
    → ((x : Start) → (get_or starts k x).offset ≤ p) → ((x : Start) → k + 1 < length starts → p < (get_or starts (k + 1) x).offset) → p < sum_by size_of es → Found bytes es p e (get_or starts k d)
found_at bytes es starts k p e d t h x low next all =
    let inside : k < length (starts_from 0 1 es) = rw t at h in
    let s = get_or (starts_from 0 1 es) k d in
    let f = found bytes es k p e s (omega (arith, inside, length_starts 0 1 es)) x (same_default (starts_from 0 1 es) k d s inside) ((rw t at low) d) ((rw t at next) s) all in
    rw t f

-- what the mapping of an extent's bytes names on the disk
module _ {N : Type 0} (bytes : ℕ → List ℕ) (es : List (Extent N)) (p : ℕ) (e : Extent N) (s : Start) where
  pub names_on_disk : (r : Result (ShallowMapping × ℕ) Error) → Found bytes es p e s → IfOk r (λ x. (i : ℕ) → i < x.1 → Names x.0 i (extent_place bytes s.storage e (p - s.offset + i))) → IfOk r (λ x. (x.1 ≡ extent_rest e (p - s.offset)) × (0 < x.1))
      → IfOk r (λ x. (i : ℕ) → i < x.1 → Names x.0 i (places_from bytes 1 es (p + i)))
  names_on_disk (Err d) f names rest = tt
  names_on_disk (Ok x) f names rest = λ i h. let w = rest_within e (p - s.offset) in rw (f.place i (omega (arith, h, rest.0, w, f.inside))) (names i h)

  pub rest_on_disk : (r : Result (ShallowMapping × ℕ) Error) → Found bytes es p e s → IfOk r (λ x. (x.1 ≡ extent_rest e (p - s.offset)) × (0 < x.1)) → IfOk r (λ x. (x.1 ≡ rest_from es p) × (0 < x.1))
  rest_on_disk (Err d) f rest = tt
  rest_on_disk (Ok x) f rest = (rest.0 ∙ sym f.rest, rest.1)

  pub refusal_on_disk : (r : Result (ShallowMapping × ℕ) Error) → Found bytes es p e s → IfErr r (λ d. extent_place bytes s.storage e (p - s.offset) ≡ Refused d) → IfErr r (λ d. places_from bytes 1 es p ≡ Refused d)
  refusal_on_disk (Ok x) f h = tt
  refusal_on_disk (Err d) f h =
      let here : p + 0 ≡ p = omega arith in
      let at : p - s.offset + 0 ≡ p - s.offset = omega arith in
      ap (places_from bytes 1 es) (sym here) ∙ f.place 0 (omega (arith, f.inside)) ∙ ap (extent_place bytes s.storage e) at ∙ h
