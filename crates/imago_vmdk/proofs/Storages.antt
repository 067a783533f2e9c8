-- The storages of an image, by their indices, and reads of them.
-- SPDX-License-Identifier: MIT
use Rattle.std.proofs.Common.{◌≡◌, ℕ, zero, suc, ◌+◌, ◌-◌, ◌<◌, ◌≤◌, Bool, true, false, ◌&&◌, List, [], ◌∷◌, length, map, get_or, slice_index_or, refl, sym, ap, ◌∙◌, arith, ⊎_elim, Result, Ok, Err, IfErr, IsOk, IsErrOf}
use Rattle.std.specs.List.{slice_get}
use Rattle.std.specs.Prelude.{IfSome, IsTrue}
use Rattle.std.proofs.lemmas.Bool.{cases_lt}
use Rattle.std.proofs.lemmas.List.{get_or-map}
use Rattle.imago_storage.specs.declared.error.Error.{Error}
use Rattle.imago_storage.specs.Error.{IsExtRefusal}
use Rattle.imago_storage.specs.Features.{Features, MayRunOut, IsAlignedRequest}
use Rattle.imago_storage.specs.Padding.{Wraps}
use Rattle.imago_storage.specs.Mem.{null_features}
use Rattle.imago_drivers.specs.Reasons.{allowed}
use Rattle.imago_drivers.specs.Done.{stored_read_reasons}
use Rattle.imago_vmdk.specs.declared.line.Extent.{Extent}
use Rattle.imago_vmdk.specs.Vmdk.{all_reliable, all_tell, vmdk_view}

pub length_mapped : {A X : Type 0} (f : A → X) (xs : List A) → length (map f xs) ≡ length xs
length_mapped f [] = refl
length_mapped f (x ∷ xs) = ap suc (length_mapped f xs)

-- a storage behind the first one
pub behind_first : {A X : Type 0} (f : A → X) (x : X) (xs : List A) (i : ℕ) (d : X) (a : A) → 0 < i → i ≤ length xs → a ≡ get_or xs (i - 1) a → f a ≡ slice_index_or (x ∷ map f xs) i d
behind_first f x xs zero d a h k e = absurd (omega arith)
behind_first f x xs (suc j) d a h k e =
    let same : suc j - 1 ≡ j = omega arith in
    let at : a ≡ get_or xs j a = rw same at e in
    ap f at ∙ sym (get_or-map f xs j a d (omega (arith, k)))

and_false : (b : Bool) → b && false ≡ false
and_false true = refl
and_false false = refl

-- one device that may fail is enough
pub unreliable_one : (fs : List Features) (i : ℕ) (d : Features) → i < length fs → (slice_index_or fs i d).is_reliable ≡ false → all_reliable fs ≡ false
unreliable_one [] i d h e = absurd (omega arith)
unreliable_one (f ∷ fs) zero d h e = rw e refl
unreliable_one (f ∷ fs) (suc i) d h e = rw (unreliable_one fs i d (omega (arith, h)) e) (and_false f.is_reliable)

both_true : (a b : Bool) → IsTrue (a && b) → IsTrue a × IsTrue b
both_true true b h = (refl, h)
both_true false b h = let z : ⊥ = cc in absurd z

-- where all tell their bytes, each one does
pub each_tells : (fs : List Features) (i : ℕ) (d : Features) → i < length fs → IsTrue (all_tell fs) → IsTrue (slice_index_or fs i d).tells_bytes
each_tells [] i d h told = absurd (omega arith)
each_tells (f ∷ fs) zero d h told = (both_true f.tells_bytes (all_tell fs) told).0
each_tells (f ∷ fs) (suc i) d h told = each_tells fs i d (omega (arith, h)) (both_true f.tells_bytes (all_tell fs) told).1

-- why a read of stored bytes may be refused
module _ {N : Type 0} (features : List Features) (bytes : List (List ℕ)) (opened : Bool) (es : List (Extent N)) (storage at n : ℕ) where
  refusal_allowed : (f : Features) (b : List ℕ) (e : Error) → f ≡ slice_index_or features storage null_features → b ≡ slice_index_or bytes storage [] → storage < length features
      → 0 < n → IsExtRefusal e → (e ≡ Error.Device → f.is_reliable ≡ false) → (e ≡ Error.WrapAround → Wraps f at n)
      → (e ≡ Error.Memory → IsAlignedRequest f at n → MayRunOut f.read_memory (length b) (at + n)) → allowed (stored_read_reasons (vmdk_view features bytes opened es) storage at n) e
  refusal_allowed f b e is_f is_b known some only device wraps memory = ⊎_elim
      (λ w.
      let k : Wraps (slice_index_or features storage null_features) at n = rw is_f at (wraps w) in
      rw w (refl, λ o q. (refl, record { from = o; count = n; above = omega arith; below = omega arith; wraps = (storage, at, q, k) }), k))
      (λ rest. ⊎_elim
      (λ w. rw w (unreliable_one features storage null_features known (rw is_f at (device w))))
      (λ w. rw w (λ o q none.
      let t = none.1 storage at some q in
      let aligned : IsAlignedRequest f at n = rw is_f t.0 in
      t.1 (rw (is_f, is_b) at (memory w aligned))))
      rest)
      only

  some_read : (e : Error) → (n ≡ 0 → IsOk {T = Unit {0}} (Err e)) → 0 < n
  some_read e empty = ⊎_elim (λ positive. positive) (λ none_read. let no : n ≡ 0 = omega (arith, none_read) in let ok = empty no in let z : ⊥ = cc in absurd z) (cases_lt 0 n)

  pub read_allowed : (f : Features) (b : List ℕ) (r : Result Unit Error) → f ≡ slice_index_or features storage null_features → b ≡ slice_index_or bytes storage [] → storage < length features
      → (n ≡ 0 → IsOk r) → IfErr r IsExtRefusal → (IsErrOf r Error.Device → f.is_reliable ≡ false) → (IsErrOf r Error.WrapAround → Wraps f at n)
      → (IsErrOf r Error.Memory → IsAlignedRequest f at n → MayRunOut f.read_memory (length b) (at + n)) → IfErr r (allowed (stored_read_reasons (vmdk_view features bytes opened es) storage at n))
  read_allowed f b (Ok x) is_f is_b known empty only device wraps memory = tt
  read_allowed f b (Err e) is_f is_b known empty only device wraps memory = refusal_allowed f b e is_f is_b known (some_read e empty) only (λ k. device (rw k refl)) (λ k. wraps (rw k refl)) (λ k. memory (rw k refl))

-- storages that are borrowed, by their places in a list
pub each_mapped : {A X : Type 0} (f : A → X) (xs : List A) (i : ℕ) (d : X) → IfSome (slice_get xs i) (λ a. f a ≡ slice_index_or (map f xs) i d)
each_mapped f [] i d = tt
each_mapped f (x ∷ xs) zero d = refl
each_mapped f (x ∷ xs) (suc i) d = each_mapped f xs i d
