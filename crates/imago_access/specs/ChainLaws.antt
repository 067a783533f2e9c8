-- SPDX-License-Identifier: MIT
use Rattle.std.specs.Prelude.{◌≡◌, ℕ, ◌+◌, ◌-◌, ◌≤◌}
use Rattle.std.proofs.Common.{arith, ap, ◌∙◌, inl, inr, ⊎_elim}
use Rattle.imago_storage.specs.declared.error.Error.{Error}
use Rattle.imago_storage.specs.declared.error.Error.TheVariants as E
use Rattle.imago_drivers.specs.Operation.{Operation, Map, Read}
use Rattle.imago_drivers.specs.Place.{Value, Place, Byte, Unreadable, Stored, Zeroed, Special, Lower}
use Rattle.imago_drivers.specs.Place.{Refused, End, shown, own_values}
use Rattle.imago_drivers.specs.LayerBelow.{IsLayerBelow, IsUnreadableIn, ReadBound}
use Rattle.imago_drivers.specs.View.{View}
use Rattle.imago_drivers.specs.Laws.{IsLawful, AreCauses}
use Rattle.imago_access.specs.declared.access.FormatAccess.{FormatAccess, FormatAccess'}
use Rattle.imago_access.specs.declared.access.FormatAccess.{Held-FormatAccess-backing, None', Some'}
use Rattle.imago_access.specs.declared.access.FormatAccess.{out-FormatAccess, is-FormatAccess'}
use Rattle.imago_access.specs.declared.access.FormatAccess.{back-FormatAccess-backing}
use Rattle.imago_access.specs.Chain.{driver, disk_value, value_below, IsReached, chain_cause}
use Rattle.imago_access.specs.Chain.{cause_below, as_layer_below}

-- a place that can't be read with nothing below can't be read over any layer
own_shown : (below : ℕ → Value) (place : Place) (e : Error)
    → shown (λ _. Byte 0) place ≡ Unreadable e → shown below place ≡ Unreadable e
own_shown below (Lower q w) e h = let z : ⊥ = cc in absurd z
own_shown below (Stored b s f w) e h = h
own_shown below (Zeroed explicit) e h = h
own_shown below (Special v f) e h = h
own_shown below (Refused r) e h = h
own_shown below End e h = h

pub reached_wider : (place : ℕ → Place) (o n p k q m : ℕ) → o ≤ p → p + k ≤ o + n
    → IsReached place p k q m → IsReached place o n q m
reached_wider place o n p k q m h j r i lt =
    let x = r i lt in
    let e : p + x.0 ≡ o + (p - o + x.0) = omega arith in
    (p - o + x.0, omega (arith, x.1), x.2, rw (← e) x.3)

module _ {D St : Type 0} (view : D → View St) (laws : (d : D) → AreCauses (view d)) where
  -- a cause for a part of a range is one for the whole
  pub chain_part : (x : FormatAccess D) (op : Operation) (o n q m : ℕ) (e : Error) → o ≤ q
      → q + m ≤ o + n → chain_cause view x op q m e → chain_cause view x op o n e
  chain_part (FormatAccess' b inner) op o n q m e h j c =
      ⊎_elim (λ a. inl ((laws inner).part op o n q m e h j a))
      (λ r. inr (r.0, r.1, r.2, reached_wider (view inner).place o n q m r.0 r.1 h j r.3, r.4))
      c

  -- what can't be read below can't be read above, where it is reached
  lift : (inner : D) (b : Held-FormatAccess-backing D) (o n q m : ℕ) (e : Error)
      → IsReached (view inner).place o n q m → IsUnreadableIn (value_below view b) q m e
      → IsUnreadableIn (disk_value view (FormatAccess' b inner)) o n e
  lift inner b o n q m e r (p, i, s) =
      let x = r (p - q) (omega (arith, i.0, i.1)) in
      let t : q + (p - q) ≡ p = omega (arith, i.0) in
      (o + x.0, (omega arith, omega (arith, x.1)), ap (shown (value_below view b)) x.3 ∙ (rw t s))

  mutual
    unreadable : (op : Operation) (e : Error) → ((d : D) (o n : ℕ) → (view d).limits.cause op o n e
        → IsUnreadableIn (own_values (view d).place) o n e) → (x : FormatAccess D) (o n : ℕ)
        → chain_cause view x op o n e → IsUnreadableIn (disk_value view x) o n e
    unreadable op e own (FormatAccess' b inner) o n c =
        ⊎_elim (λ a. let r = own inner o n a in
        (r.0, r.1, own_shown (value_below view b) ((view inner).place r.0) e r.2))
        (λ r. lift inner b o n r.0 r.1 e r.3 (unreadable_below op e own b r.0 r.1 r.4)) c

    unreadable_below : (op : Operation) (e : Error)
        → ((d : D) (o n : ℕ) → (view d).limits.cause op o n e
        → IsUnreadableIn (own_values (view d).place) o n e)
        → (b : Held-FormatAccess-backing D) (q m : ℕ) → cause_below view b op q m e
        → IsUnreadableIn (value_below view b) q m e
    unreadable_below op e own None' q m c = absurd c
    unreadable_below op e own (Some' k x) q m c = unreadable op e own x q m c

  mutual
    never : (op : Operation) (e : Error) → ((d : D) (o n : ℕ) → (view d).limits.cause op o n e → ⊥)
        → (x : FormatAccess D) (o n : ℕ) → chain_cause view x op o n e → ⊥
    never op e own (FormatAccess' b inner) o n c = ⊎_elim (λ a. own inner o n a)
        (λ r. never_below op e own b r.0 r.1 r.4) c

    never_below : (op : Operation) (e : Error) → ((d : D) (o n : ℕ) → (view d).limits.cause op o n e
        → ⊥) → (b : Held-FormatAccess-backing D) (q m : ℕ) → cause_below view b op q m e → ⊥
    never_below op e own None' q m c = c
    never_below op e own (Some' k x) q m c = never op e own x q m c

  -- each cause of a chain is within the bounds of a read
  pub chain_bound : (x : FormatAccess D) (op : Operation) (o n : ℕ) (e : Error)
      → chain_cause view x op o n e → ReadBound (disk_value view x) o n e
  chain_bound x op o n E.WrapAround c = tt
  chain_bound x op o n E.Unsupported c = tt
  chain_bound x op o n E.InvalidData c = unreadable op Error.InvalidData
      (λ d a b k. (laws d).bound op a b Error.InvalidData k) x o n c
  chain_bound x op o n E.NoAccess c = unreadable op Error.NoAccess
      (λ d a b k. (laws d).bound op a b Error.NoAccess k) x o n c
  chain_bound x op o n E.ReadOnly c = never op Error.ReadOnly
      (λ d a b k. (laws d).bound op a b Error.ReadOnly k) x o n c
  chain_bound x op o n E.BeyondDisk c = never op Error.BeyondDisk
      (λ d a b k. (laws d).bound op a b Error.BeyondDisk k) x o n c
  chain_bound x op o n E.RangeOverflow c = never op Error.RangeOverflow
      (λ d a b k. (laws d).bound op a b Error.RangeOverflow k) x o n c
  chain_bound x op o n E.Device c = never op Error.Device
      (λ d a b k. (laws d).bound op a b Error.Device k) x o n c
  chain_bound x op o n E.Memory c = never op Error.Memory
      (λ d a b k. (laws d).bound op a b Error.Memory k) x o n c
  chain_bound x op o n E.ForeignMapping c = never op Error.ForeignMapping
      (λ d a b k. (laws d).bound op a b Error.ForeignMapping k) x o n c
  chain_bound x op o n E.Denied c = never op Error.Denied
      (λ d a b k. (laws d).bound op a b Error.Denied k) x o n c
  chain_bound x op o n E.NotFound c = never op Error.NotFound
      (λ d a b k. (laws d).bound op a b Error.NotFound k) x o n c

  past_value : ((d : D) → IsLawful (view d)) → (x : FormatAccess D) (p : ℕ) → (view (driver x)).size
      ≤ p → disk_value view x p ≡ Byte 0
  past_value lawful x p h =
      ap (λ (y : FormatAccess D). disk_value view y p) (is-FormatAccess' x)
      ∙ ap (shown (value_below view (back-FormatAccess-backing D (out-FormatAccess D x).backing)))
      ((lawful (driver x)).bounded p h)

  -- an image is a layer that a driver can stand on
  pub image_is_layer : ((d : D) → IsLawful (view d)) → (x : FormatAccess D)
      → IsLayerBelow (as_layer_below view x)
  image_is_layer lawful x = record {
    past = past_value lawful x;
    part = λ o n q m e h j c. ⊎_elim (λ a. inl (chain_part x Read o n q m e h j a))
        (λ a. inr (chain_part x Map o n q m e h j a)) c;
    bound = λ o n e c. ⊎_elim (λ a. chain_bound x Read o n e a) (λ a. chain_bound x Map o n e a) c;
  }
