-- The disk of an image, by the bytes of its storages alone.
-- SPDX-License-Identifier: MIT
use Rattle.std.proofs.Common.{◌≡◌, ℕ, ◌+◌, ◌-◌, ◌*◌, ◌^◌, Bool, true, false, List, [], ◌∷◌, map, nat_lt, if◌then◌else◌, slice_index, Result, Ok, Err, refl, ap}
use Rattle.imago_drivers.specs.Place.{Place, Stored, Zeroed, Refused, Value, Byte, shown}
use Rattle.imago_storage.specs.declared.error.Error.{Error}
use Rattle.imago_storage.specs.declared.error.Error.TheVariants as E
use Rattle.imago_vmdk.specs.declared.line.Extent.{Extent}
use Rattle.imago_vmdk.specs.Line.{extent_with}
use Rattle.imago_vmdk.specs.Vmdk.{flat_place, places_from}
use Rattle.imago_vmdk.specs.Disk.{places_read, with_bytes}

-- names under another form change no place
pub places_with : {N M : Type 0} (name : N → M) (bytes : ℕ → List ℕ) (index : ℕ) (es : List (Extent N)) (p : ℕ) → places_from bytes index (map (extent_with name) es) p ≡ places_from bytes index es p
places_with name bytes index [] p = refl
places_with name bytes index (Extent.Zero n ∷ es) p = ap (λ (x : Place). if nat_lt p (n * 512) then Zeroed true else x) (places_with name bytes (index + 0) es (p - n * 512))
places_with name bytes index (Extent.NoAccess n ∷ es) p = ap (λ (x : Place). if nat_lt p (n * 512) then Refused E.NoAccess else x) (places_with name bytes (index + 0) es (p - n * 512))
places_with name bytes index (Extent.Flat n file offset writable vmfs ∷ es) p =
    ap (λ (x : Place). if nat_lt p (n * 512) then flat_place bytes index writable (offset * 512 + p) else x) (places_with name bytes (index + 1) es (p - n * 512))

module _ (below : ℕ → Value) where
  shown_if : (b : Bool) (x y : Place) → shown below x ≡ shown (λ (q : ℕ). Byte 0) x → shown below y ≡ shown (λ (q : ℕ). Byte 0) y
      → shown below (if b then x else y) ≡ shown (λ (q : ℕ). Byte 0) (if b then x else y)
  shown_if true x y h k = h
  shown_if false x y h k = k

  -- no place is left to what lies below
  pub shown_alone : {N : Type 0} (bytes : ℕ → List ℕ) (index : ℕ) (es : List (Extent N)) (p : ℕ) → shown below (places_from bytes index es p) ≡ shown (λ (q : ℕ). Byte 0) (places_from bytes index es p)
  shown_alone bytes index [] p = refl
  shown_alone bytes index (Extent.Zero n ∷ es) p = shown_if (nat_lt p (n * 512)) (Zeroed true) _ refl (shown_alone bytes (index + 0) es (p - n * 512))
  shown_alone bytes index (Extent.NoAccess n ∷ es) p = shown_if (nat_lt p (n * 512)) (Refused E.NoAccess) _ refl (shown_alone bytes (index + 0) es (p - n * 512))
  shown_alone bytes index (Extent.Flat n file offset writable vmfs ∷ es) p = shown_if (nat_lt p (n * 512)) (flat_place bytes index writable (offset * 512 + p)) _
      (shown_if (nat_lt (offset * 512 + p) (2 ^ 64 - 1)) (Stored (slice_index (bytes index) (offset * 512 + p)) index (offset * 512 + p) writable) (Refused E.InvalidData) refl refl)
      (shown_alone bytes (index + 1) es (p - n * 512))

  -- nor is one of what was read
  pub read_alone : (bytes : ℕ → List ℕ) (r : Result (List (Extent (List ℕ)) × ℕ) Error) (p : ℕ) → shown below (places_read bytes r p) ≡ shown (λ (q : ℕ). Byte 0) (places_read bytes r p)
  read_alone bytes (Ok disk) p = shown_alone bytes 1 disk.0 p
  read_alone bytes (Err e) p = refl

-- other bytes in the storages are shown at the same places
module _ (old new : ℕ → List ℕ) where
  same_if : (b : Bool) (x y u v : Place) → u ≡ with_bytes new x → v ≡ with_bytes new y → (if b then u else v) ≡ with_bytes new (if b then x else y)
  same_if true x y u v h k = h
  same_if false x y u v h k = k

  same_flat : (index : ℕ) (w : Bool) (at : ℕ) → flat_place new index w at ≡ with_bytes new (flat_place old index w at)
  same_flat index w at = same_if (nat_lt at (2 ^ 64 - 1)) (Stored (slice_index (old index) at) index at w) (Refused E.InvalidData) (Stored (slice_index (new index) at) index at w) (Refused E.InvalidData) refl refl

  same_places : {N : Type 0} (index : ℕ) (es : List (Extent N)) (p : ℕ) → places_from new index es p ≡ with_bytes new (places_from old index es p)
  same_places index [] p = refl
  same_places index (Extent.Zero n ∷ es) p = same_if (nat_lt p (n * 512)) (Zeroed true) (places_from old (index + 0) es (p - n * 512)) (Zeroed true) (places_from new (index + 0) es (p - n * 512)) refl (same_places (index + 0) es (p - n * 512))
  same_places index (Extent.NoAccess n ∷ es) p = same_if (nat_lt p (n * 512)) (Refused E.NoAccess) (places_from old (index + 0) es (p - n * 512)) (Refused E.NoAccess) (places_from new (index + 0) es (p - n * 512)) refl (same_places (index + 0) es (p - n * 512))
  same_places index (Extent.Flat n file offset w vmfs ∷ es) p = same_if (nat_lt p (n * 512)) (flat_place old index w (offset * 512 + p)) (places_from old (index + 1) es (p - n * 512)) (flat_place new index w (offset * 512 + p)) (places_from new (index + 1) es (p - n * 512)) (same_flat index w (offset * 512 + p)) (same_places (index + 1) es (p - n * 512))

  pub same_read : (r : Result (List (Extent (List ℕ)) × ℕ) Error) (p : ℕ) → places_read new r p ≡ with_bytes new (places_read old r p)
  same_read (Ok disk) p = same_places 1 disk.0 p
  same_read (Err e) p = refl
