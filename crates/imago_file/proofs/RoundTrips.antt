-- SPDX-License-Identifier: MIT
use Rattle.std.proofs.Common.{◌≡◌, ℕ, List, length, sym, ◌∙◌, ap, arith, Option, None, Result, Ok, Err}
use Rattle.std.proofs.lemmas.Grind.{same_number_lists}
use Rattle.std.specs.Prelude.{IsTrue, OnOk}
use Rattle.imago_storage.specs.declared.error.Error.{Error}
use Rattle.imago_drivers.specs.Place.{Value, Byte, HasValues}
use Rattle.imago_drivers.specs.Changes.{IsChanged, into}
use Rattle.imago_drivers.specs.View.{View}
use Rattle.imago_access.specs.declared.access.FormatAccess.{FormatAccess}
use Rattle.imago_access.specs.Chain.{driver, backing, lent_image, keeps_data, tells_bytes, disk_value}
use Rattle.imago_access.specs.Calls.{IsWrite}
use Rattle.imago_access.proofs.Chains.{told_out}
use Rattle.imago_access.proofs.Weaker.{and_both}

byte_is : (a b : ℕ) → Byte a ≡ Byte b → a ≡ b
byte_is a b h = cc

-- the bytes that changed a disk are those that are read of it
pub written_is_read : (before shows : ℕ → Value) (o : ℕ) (bytes buf : List ℕ) (r : Result Unit Error) → length buf ≡ length bytes → IsChanged o (length bytes) (into bytes) before shows → OnOk r (HasValues shows o buf) → OnOk r (buf ≡ bytes)
written_is_read before shows o bytes buf (Ok t) same w h = same_number_lists _ _ same (λ k lt. byte_is _ _ (sym (h k lt) ∙ w.inside k (omega (arith, same, lt))))
written_is_read before shows o bytes buf (Err e) same w h = tt

module _ {D St : Type 0} (view : D → View St) where
  -- below an image that stands alone nothing is left untold
  none_below : (x : FormatAccess D) → backing x ≡ None → IsTrue (lent_image view (backing x)).tells_bytes
  none_below x alone = ap (λ (b : Option (FormatAccess D)). (lent_image view b).tells_bytes) alone

  pub keeps_alone : (x : FormatAccess D) → backing x ≡ None → IsTrue (view (driver x)).abilities.keeps_data → IsTrue (keeps_data view x)
  keeps_alone x alone keeps = and_both _ _ keeps (none_below x alone)

  -- an image that stands alone tells its bytes where its driver does, before a change and after it
  pub tells_still : (old new : FormatAccess D) → backing old ≡ None → backing new ≡ backing old → (view (driver new)).abilities ≡ (view (driver old)).abilities
      → IsTrue (view (driver old)).abilities.tells_bytes → IsTrue (tells_bytes view new)
  tells_still old new alone below same tells =
      let told : IsTrue (view (driver new)).abilities.tells_bytes = rw same tells in
      told_out view new ∙ and_both _ _ told (none_below new (below ∙ alone))

-- a write of an image that stands alone, and a read of the same range behind it
pub round_trip : {D St : Type 0} (view : D → View St) (old new : FormatAccess D) (o : ℕ) (bytes buf : List ℕ) (r : Result Unit Error)
    → IsWrite view old new o bytes (Ok tt) → backing old ≡ None → IsTrue (view (driver old)).abilities.keeps_data → IsTrue (view (driver old)).abilities.tells_bytes
    → (IsTrue (tells_bytes view new) → OnOk r (HasValues (disk_value view new) o buf)) → length buf ≡ length bytes → OnOk r (buf ≡ bytes)
round_trip view old new o bytes buf r written alone keeps tells read same =
    written_is_read _ _ _ _ _ _ same ((written.done (keeps_alone view old alone keeps)).0)
    (read (tells_still view old new alone written.kept.below written.kept.kind.abilities tells))
