-- SPDX-License-Identifier: MIT
use Rattle.std.proofs.Common.{◌≡◌, ℕ, ◌+◌, ◌/◌, ◌<◌, ⊎_elim, true, false, List, Some, Result, sym, subst, ap, ◌∙◌, arith}
use Rattle.std.specs.Prelude.{slice_get, IsOk, IsErrOf}
use Rattle.std.proofs.lemmas.Bool.{cases_lt}
use Rattle.imago_storage.specs.declared.error.Error.{Error}
use Rattle.imago_storage.specs.Features.{Features, MemoryUse, IsAlignedRequest, MayRunOut}
use Rattle.imago_drivers.specs.Place.{PlacesStandAt}
use Rattle.imago_cow.specs.declared.table.GuestBlock.{GuestBlock}
use Rattle.imago_cow.specs.Guest.{cow_place, is_data, origin_in}
use Rattle.imago_cow.specs.Cow.{IsDirect}
use Rattle.imago_cow.specs.CowLaws.{stored_place}

-- what was refused wasn't empty, if what is empty is never refused
pub refused_some : {T : Type 0} (n : ℕ) (r : Result T Error) (e : Error) → (n ≡ 0 → IsOk r) → IsErrOf r e → 0 < n
refused_some n r e empty refused = ⊎_elim
    (λ some. some)
    (λ none. let ok = empty (omega (arith, none)) in let x = rw refused at ok in let z : ⊥ = cc in absurd z)
    (cases_lt 0 n)

module _ (f : Features) (memory : MemoryUse) (len block : ℕ) (entries : List GuestBlock) (o n : ℕ) where
  -- a guest block without data isn't direct
  pub not_direct : is_data (slice_get entries (o / block)) ≡ false → IsDirect f memory len block entries o n → ⊥
  not_direct empty d = let x : true ≡ false = sym (ap is_data d.named) ∙ empty in let z : ⊥ = cc in z

  -- places that stand in the storage do so where their data block has them
  module _ (bytes : List ℕ) (size s at : ℕ) (some : 0 < n) (stands : PlacesStandAt (cow_place bytes size block entries) s at n o) where
    named_there : (j : ℕ) × (slice_get entries (o / block) ≡ Some (GuestBlock.Data j)) × (at ≡ origin_in block j o)
    named_there =
        let q = stands 0 some in
        let first : o + 0 ≡ o = omega arith in
        let x = (stored_place bytes size block entries (o + 0) (q.0) s (at + 0) (q.1) (q.2)).1 in
        let named : slice_get entries (o / block) ≡ Some (GuestBlock.Data x.number) = ap (λ i. slice_get entries (i / block)) (sym first) ∙ x.named in
        let stood : origin_in block x.number (o + 0) ≡ origin_in block x.number o = ap (origin_in block x.number) first in
        (x.number, named, omega (arith, x.offset, stood))

    pub stands_in_data : is_data (slice_get entries (o / block)) ≡ false → ⊥
    stands_in_data empty = let x : true ≡ false = sym (ap is_data (named_there.1)) ∙ empty in let z : ⊥ = cc in z

    pub direct_request : IsDirect f memory len block entries o n → IsAlignedRequest f at n × (MayRunOut memory len (at + n) → ⊥)
    direct_request d =
        let t = named_there in
        let same : d.number ≡ t.0 = let x : Some (GuestBlock.Data d.number) ≡ Some (GuestBlock.Data (t.0)) = sym d.named ∙ t.1 in cc in
        let there : origin_in block d.number o ≡ at = ap (λ j. origin_in block j o) same ∙ sym (t.2) in
        (subst (λ i. IsAlignedRequest f i n) there d.aligned, subst (λ i. MayRunOut memory len (i + n) → ⊥) there d.free)
