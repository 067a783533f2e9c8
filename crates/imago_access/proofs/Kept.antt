-- SPDX-License-Identifier: MIT
use Rattle.std.proofs.Common.{◌≡◌, ℕ, ◌+◌, ◌-◌, ◌<◌, ◌≤◌, ◌⊎◌, List, length, take, ap, ◌∙◌, subst, arith, Result}
use Rattle.std.specs.Prelude.{IsTrue}
use Rattle.imago_storage.specs.declared.error.Error.{Error}
use Rattle.imago_drivers.specs.CallRelations.{Calls}
use Rattle.imago_drivers.specs.Laws.{AreCauses}
use Rattle.imago_drivers.specs.Place.{Value, HasValues}
use Rattle.imago_drivers.specs.Reasons.{allowed}
use Rattle.imago_drivers.specs.View.{View}
use Rattle.imago_drivers.specs.declared.mapping.ShallowMapping.{ShallowMapping}
use Rattle.imago_access.specs.declared.access.FormatAccess.{FormatAccess}
use Rattle.imago_access.specs.declared.chain.Way.{Way}
use Rattle.imago_access.specs.Chain.{driver, disk_value, tells_bytes, chain_no_memory, inside_part, read_reasons}
use Rattle.imago_access.specs.Kept.{IsFirstKept, rest_kept, IsReadThrough}
use Rattle.imago_access.specs.Named.{chunk_read_reasons}
use Rattle.imago_access.specs.Specials.{special_at, MakesUp, IsMade}
use Rattle.imago_access.specs.Ways.{HasLanded}
use Rattle.imago_access.proofs.Chains.{special_here, told_here}
use Rattle.imago_access.proofs.MadeSteps.{MadeFrom}
use Rattle.imago_access.proofs.ReadSteps.{chunk_refused, once_more}
use Rattle.imago_access.proofs.Values.{has_more}
use borrow.Rule.Slice.PartMut.{put_mid}

module _ {D St : Type 0} (view : D → View St) where
  -- where a range lands, that layer's driver makes up the special bytes at its depth
  pub landed_makes : (x : FormatAccess D) (o most : ℕ) (layer : FormatAccess D) (way : Way) (m : ShallowMapping) → HasLanded view x o most layer way m → MakesUp view x way.depth layer
  landed_makes x o most layer way m h = record {
    told = λ t. told_here view layer (h.leads.told t);
    same = λ lt p.
        let hops : ℕ = h.hops in
        let d = h.depth in
        let e : way.depth ≡ hops + 0 = omega (arith, d, lt) in
        ap (λ (n : ℕ). special_at view x n p) e ∙ h.leads.specials 0 p ∙ ap (λ (f : ℕ → Value). f p) (special_here view layer);
  }

  -- what a piece makes goes on where the pieces before it end
  pub made_further : (x y layer : FormatAccess D) → y ≡ x → (o a at k n : ℕ) (xs ys : List ℕ) → at ≡ o + a → a ≤ length xs → n ≤ length ys → IsMade view x layer o a xs → IsMade view y layer at n ys
      → IsMade view x layer o (a + n) (put_mid a k xs ys)
  made_further x y layer same o a at k n xs ys here h j before next tells =
      let there : IsMade view x layer at n ys = subst (λ (z : FormatAccess D). IsMade view z layer at n ys) same next in
      has_more (view (driver layer)).special o a k n xs ys h j (before tells) (subst (λ (p : ℕ). HasValues (view (driver layer)).special p (take n ys)) here (there tells))

  module _ (x y : FormatAccess D) (same : y ≡ x) where
    -- the values of a chunk are those of the image
    pub chunk_values : (o n : ℕ) (ys : List ℕ) → (IsTrue (tells_bytes view y) → HasValues (disk_value view y) o (take n ys)) → IsTrue (tells_bytes view x) → HasValues (disk_value view x) o (take n ys)
    chunk_values o n ys h = subst (λ (z : FormatAccess D). IsTrue (tells_bytes view z) → HasValues (disk_value view z) o (take n ys)) same h

    -- its refusal is one of the whole
    pub kept_refused : ((d : D) → AreCauses (view d)) → (o n done m len : ℕ)
        → m ≡ inside_part (view (driver x)).size o n → done < m → (chain_no_memory view x o m → (done ≡ 0) ⊎ (done ≡ m))
        → (e : Error) → allowed (chunk_read_reasons view y (o + done) len) e → len ≡ m - done → allowed (read_reasons view x o n) e
    kept_refused laws o n done m len inside lt first e c long = chunk_refused view laws x o n done m len inside lt first e (subst (λ (z : FormatAccess D). allowed (chunk_read_reasons view z (o + done) len) e) same c) long

    -- where no driver takes memory, one part is the whole
    pub kept_once : (o m done n len : ℕ) → (chain_no_memory view y (o + done) len → n ≡ len) → (chain_no_memory view x o m → (done ≡ 0) ⊎ (done ≡ m)) → done < m → len ≡ m - done
        → chain_no_memory view x o m → (done + n ≡ 0) ⊎ (done + n ≡ m)
    kept_once o m done n len whole = once_more view x o m done n len (subst (λ (z : FormatAccess D). chain_no_memory view z (o + done) len → n ≡ len) same whole)

module _ {D St : Type 0} (its : Calls D St) where
  -- a part of a read, by its length
  pub part_kept : (x y : FormatAccess D) → y ≡ x → (o n c len : ℕ) (result : Result ℕ Error) → len ≡ n - c → IsFirstKept its y (o + c) len result → rest_kept its x o n c tt tt result
  part_kept x y same o n c len result h r = subst (λ (z : FormatAccess D). IsFirstKept its z (o + c) (n - c) result) same (subst (λ (k : ℕ). IsFirstKept its y (o + c) k result) h r)

  -- the parts of a read, by how much of it lies inside the disk
  pub through_by : (view : D → View St) (x : FormatAccess D) (o n m : ℕ) (result : Result Unit Error) → m ≡ inside_part (view (driver x)).size o n → MadeFrom (rest_kept its x o m) m 0 tt tt result → IsReadThrough view its x o n result
  through_by view x o n m result h r = subst (λ (k : ℕ). MadeFrom (rest_kept its x o k) k 0 tt tt result) h r
