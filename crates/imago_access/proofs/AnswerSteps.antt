-- SPDX-License-Identifier: MIT
use Rattle.std.proofs.Common.{◌≡◌, ℕ, Bool, ◌+◌, ◌-◌, inl, inr, Option, Some, None, refl, sym, subst, Box, Global, Result, Err}
use Rattle.imago_storage.specs.declared.error.Error.{Error}
use Rattle.imago_drivers.specs.CallRelations.{Calls}
use Rattle.imago_drivers.specs.View.{View}
use Rattle.imago_drivers.specs.declared.mapping.ShallowMapping.{ShallowMapping}
use Rattle.imago_drivers.specs.declared.mapping.ShallowMapping.TheVariants as S
use Rattle.imago_access.specs.declared.access.FormatAccess.{FormatAccess, out-FormatAccess, is-FormatAccess', back-FormatAccess-backing}
use Rattle.imago_access.specs.Chain.{driver, backing, unboxed, inside_part}
use Rattle.imago_access.specs.Answered.{Maps, Reaches, ReachesBelow, Lands, IsMapRefusal, IsFirstRead, rest_read, IsReadBy}
use Rattle.imago_access.proofs.MadeSteps.{MadeFrom}
use Rattle.imago_access.specs.Ways.{IsBottom}

-- what a range of one layer reaches, a range of another one does
abbrev pub ReachesOn : {D St : Type 0} → Calls D St → FormatAccess D → ℕ → ℕ → FormatAccess D → ℕ → ℕ → Type 0
ReachesOn {D} its y p c x o n = (layer : FormatAccess D) (q m : ℕ) → Reaches its y p c layer q m → Reaches its x o n layer q m

module _ {D St : Type 0} (its : Calls D St) where
  -- a range reaches the layer that it is a range of
  pub reaches_here : (x : FormatAccess D) (o n : ℕ) → Reaches its x o n x o n
  reaches_here x o n = subst (λ (y : FormatAccess D). Reaches its y o n y o n) (sym (is-FormatAccess' x)) (inl (refl, refl, refl))

  from_below : (b : Option (Box (FormatAccess D) Global)) (y layer : FormatAccess D) (p c q m : ℕ) → unboxed b ≡ Some y → Reaches its y p c layer q m → ReachesBelow its (back-FormatAccess-backing D b) p c layer q m
  from_below None y layer p c q m h r = let z : ⊥ = cc in absurd z
  from_below (Some b) y layer p c q m h r =
      let k : b.value ≡ y = cc in
      subst (λ (z : FormatAccess D). Reaches its z p c layer q m) (sym k) r

  -- what is reached from the layer below, for what the driver maps there, is reached
  pub reaches_below : (x y layer : FormatAccess D) (o n p c q m : ℕ) (w : Bool) → backing x ≡ Some y → Maps its (driver x) o n (S.Indirect p w) c → Reaches its y p c layer q m → Reaches its x o n layer q m
  reaches_below x y layer o n p c q m w h a r =
      subst (λ (z : FormatAccess D). Reaches its z o n layer q m) (sym (is-FormatAccess' x)) (inr (p, c, w, a, from_below (out-FormatAccess D x).backing y layer p c q m h r))

  -- so the layer below goes on where the one above it did
  pub on_below : (top x y : FormatAccess D) (a b o n p c : ℕ) (w : Bool) → ReachesOn its x o n top a b → backing x ≡ Some y → Maps its (driver x) o n (S.Indirect p w) c → ReachesOn its y p c top a b
  on_below top x y a b o n p c w on h k layer q m r = on layer q m (reaches_below x y layer o n p c q m w h k r)

  -- where the last driver maps its bytes, the range lands
  pub lands : (top x : FormatAccess D) (a b o n : ℕ) (s : ShallowMapping) (c : ℕ) → ReachesOn its x o n top a b → Maps its (driver x) o n s c → IsBottom s x → Lands its top a b x s c
  lands top x a b o n s c on h bottom = (o, n, on x o n (reaches_here x o n), h, bottom)

  -- the refusal of the last driver is that of the mapping
  pub map_refusal : (top x : FormatAccess D) (a b o n : ℕ) (e : Error) → ReachesOn its x o n top a b → its.mapped o n (driver x) (Err e) → IsMapRefusal its top a b e
  map_refusal top x a b o n e on h = (x, o, n, on x o n (reaches_here x o n), h)

  -- a part of a read, by its length
  pub part_read : (x : FormatAccess D) (o n c len : ℕ) (result : Result ℕ Error) → len ≡ n - c → IsFirstRead its x (o + c) len result → rest_read its x o n c tt tt result
  part_read x o n c len result h r = subst (λ (k : ℕ). IsFirstRead its x (o + c) k result) h r

  -- the parts of a read, by how much of it lies inside the disk
  pub read_by : (view : D → View St) (x : FormatAccess D) (o n m : ℕ) (result : Result Unit Error) → m ≡ inside_part (view (driver x)).size o n → MadeFrom (rest_read its x o m) m 0 tt tt result → IsReadBy view its x o n result
  read_by view x o n m result h r = subst (λ (k : ℕ). MadeFrom (rest_read its x o k) k 0 tt tt result) h r
