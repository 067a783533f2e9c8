-- SPDX-License-Identifier: MIT
use Rattle.std.proofs.Common.{◌≡◌, ℕ, IsTrue, ap, sym, ◌∙◌, subst}
use Rattle.imago_drivers.specs.Place.{Value, shown}
use Rattle.imago_drivers.specs.View.{View}
use Rattle.imago_access.specs.declared.access.FormatAccess.{FormatAccess, out-FormatAccess, is-FormatAccess', back-FormatAccess-backing}
use Rattle.imago_access.specs.Chain.{driver, disk_value, value_below}
use Rattle.imago_vmdk.specs.declared.line.Accepted.{Accepted}
use Rattle.imago_vmdk.specs.Image.{accepted_in}
use Rattle.imago_vmdk.specs.Disk.{described_value}
use Rattle.imago.proofs.laws.vmdk_disk.Goals as goal

-- what a driver shows over every layer below, its image shows over the one that it has
described : {D St : Type 0} (view : D → View St) (accepted : D → Accepted) (x : FormatAccess D) (d : D) → d ≡ driver x → (IsTrue ((view d).stores.features 0).tells_bytes → (below : ℕ → Value) (p : ℕ) → shown below ((view d).place p) ≡ described_value (accepted d) (view d).stores.bytes p) → IsTrue ((view (driver x)).stores.features 0).tells_bytes → (p : ℕ) → disk_value view x p ≡ described_value (accepted (driver x)) (view (driver x)).stores.bytes p
described {D} view accepted x d is h told p =
    let at_d : IsTrue ((view d).stores.features 0).tells_bytes = subst (λ (z : D). IsTrue ((view z).stores.features 0).tells_bytes) (sym is) told in
    let below = value_below view (back-FormatAccess-backing D (out-FormatAccess D x).backing) in
    ap (λ (y : FormatAccess D). disk_value view y p) (is-FormatAccess' x) ∙ subst (λ (z : D). shown below ((view z).place p) ≡ described_value (accepted z) (view z).stores.bytes p) is (h at_d below p)

pub returns : goal.returns
returns g c = described _ (λ d. accepted_in d) c.args.image.now c.inner.result.now c.inner.ensures c.disk_of_bytes.ensures
