-- Chains of qcow2 images, layer by layer.
-- SPDX-License-Identifier: MIT
use Rattle.std.proofs.Common.{◌≡◌, ℕ, List, IsTrue, refl, ◌∙◌}
use Rattle.imago_drivers.specs.Place.{Value, Place, Stored, Zeroed, Special, Lower, Refused, End, shown}
use Rattle.imago_drivers.specs.View.{View}
use Rattle.imago_access.specs.declared.access.FormatAccess.{FormatAccess, FormatAccess', Held-FormatAccess-backing, None', Some'}
use Rattle.imago_access.specs.Chain.{disk_value, value_below, tells_bytes, tells_bytes_below}
use Rattle.imago_access.proofs.Weaker.{and_left, and_right}
use Rattle.imago_qcow2.specs.Entry.{qcow2_place}
use Rattle.imago.specs.Qcow2Chain.{files_value, files_of, files_below}

-- a place shows the same over layers that show the same
shown_same : (f g : ℕ → Value) → ((q : ℕ) → f q ≡ g q) → (place : Place) → shown f place ≡ shown g place
shown_same f g h (Stored b s o w) = refl
shown_same f g h (Zeroed e) = refl
shown_same f g h (Special b o) = refl
shown_same f g h (Lower q w) = h q
shown_same f g h (Refused e) = refl
shown_same f g h End = refl

module _ {D St : Type 0} (view : D → View St) (bytes : D → List ℕ) (says : (d : D) → IsTrue (view d).abilities.tells_bytes → (below : ℕ → Value) (p : ℕ) → shown below ((view d).place p) ≡ shown below (qcow2_place (bytes d) p)) where
  mutual
    pub chain_says : (x : FormatAccess D) → IsTrue (tells_bytes view x) → (p : ℕ) → disk_value view x p ≡ files_value (files_of bytes x) p
    chain_says (FormatAccess' below inner) told p =
        says inner (and_left (view inner).abilities.tells_bytes (tells_bytes_below view below) told) (value_below view below) p
        ∙ shown_same (value_below view below) (files_value (files_below bytes below)) (λ q. below_says below (and_right (view inner).abilities.tells_bytes (tells_bytes_below view below) told) q) (qcow2_place (bytes inner) p)

    below_says : (b : Held-FormatAccess-backing D) → IsTrue (tells_bytes_below view b) → (p : ℕ) → value_below view b p ≡ files_value (files_below bytes b) p
    below_says None' told p = refl
    below_says (Some' k x) told p = chain_says x told p
