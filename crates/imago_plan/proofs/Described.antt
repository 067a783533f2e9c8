-- Images of one layer, by the bytes of its storages.
-- SPDX-License-Identifier: MIT
use Rattle.std.proofs.Common.{◌≡◌, ℕ, IsTrue, List, sym, ap, ◌∙◌, subst}
use Rattle.imago_drivers.specs.Place.{Byte, shown}
use Rattle.imago_drivers.specs.View.{View}
use Rattle.imago_access.specs.declared.access.FormatAccess.{FormatAccess}
use Rattle.imago_access.specs.Chain.{driver}
use Rattle.imago_access.specs.Target.{Target, target, target_here}
use Rattle.imago_vmdk.specs.declared.line.Accepted.{Accepted}
use Rattle.imago_vmdk.specs.Disk.{described_place, described_value, with_bytes}
use Rattle.imago_plan.specs.StoredBytes.{target_value}

module _ {D St : Type 0} (view : D → View St) (x : FormatAccess D) (bytes : ℕ → ℕ → List ℕ) where
  -- what the places of the one layer show
  top_value : ((p : ℕ) → target view x p ≡ target_here ((view (driver x)).place p)) → (p : ℕ) → target_value bytes (target view x p) ≡ shown (λ (q : ℕ). Byte 0) (with_bytes (bytes 0) ((view (driver x)).place p))
  top_value top p = ap (λ (t : Target). shown (λ (q : ℕ). Byte 0) (with_bytes (bytes t.depth) t.place)) (top p)

  -- an image whose places a descriptor says, in storages that have other bytes
  pub described : (accepted : D → Accepted) (d : D) → d ≡ driver x
      → (IsTrue ((view d).stores.features 0).tells_bytes → (p : ℕ) → (view d).place p ≡ described_place (accepted d) (view d).stores.bytes p)
      → ((allowed : Accepted) (old new : ℕ → List ℕ) (p : ℕ) → new 0 ≡ old 0 → described_place allowed new p ≡ with_bytes new (described_place allowed old p))
      → ((p : ℕ) → target view x p ≡ target_here ((view (driver x)).place p))
      → IsTrue ((view (driver x)).stores.features 0).tells_bytes → bytes 0 0 ≡ (view (driver x)).stores.bytes 0
      → (p : ℕ) → described_value (accepted (driver x)) (bytes 0) p ≡ target_value bytes (target view x p)
  described accepted d is places law top told same p =
      let at_d : IsTrue ((view d).stores.features 0).tells_bytes = subst (λ (z : D). IsTrue ((view z).stores.features 0).tells_bytes) (sym is) told in
      let old : ℕ → List ℕ = (view (driver x)).stores.bytes in
      let here : (view (driver x)).place p ≡ described_place (accepted (driver x)) old p = subst (λ (z : D). (view z).place p ≡ described_place (accepted z) (view z).stores.bytes p) is (places at_d p) in
      ap (shown (λ (q : ℕ). Byte 0)) (law (accepted (driver x)) old (bytes 0) p same ∙ ap (with_bytes (bytes 0)) (sym here)) ∙ sym (top_value top p)
