-- SPDX-License-Identifier: MIT
use Rattle.std.proofs.Common.{◌≡◌, ℕ, ◌+◌, ◌%◌, ◌<◌, ◌≤◌, arith, inl, inr, false, refl}
use Rattle.std.specs.Int.{next_multiple_of}
use Rattle.imago_storage.specs.declared.error.Error.{Error}
use Rattle.imago_storage.specs.Features.{Features, AreLawful, len_align}
use Rattle.imago_storage.specs.Padding.{Wraps}
use Rattle.imago_storage.specs.Zeroes.{MayWrap}
use Rattle.imago_storage.proofs.Alignment.{power_positive}
use Rattle.imago_storage.proofs.Padding.{len_positive, next_below}
use Rattle.imago_drivers.specs.Operation.{Operation, Map, Read, Write, Zero, DiscardToZero, DiscardToAny, DiscardToBacking, Grow, Shrink, Flush}
use Rattle.imago_drivers.specs.Ranges.{HasWrappingPart}
use Rattle.imago_drivers.specs.Raw.{RequestWraps, raw_cause, raw_offers}
use Rattle.imago_drivers.specs.RawLaws.{raw_only}
use Rattle.imago_drivers.specs.Room.{HasRoom, IsPadded}

module _ (f : Features) (a : AreLawful f) where
  -- a part of a range with room doesn't wrap around
  part_fits : (o n q m : ℕ) → HasRoom f o n → q + m ≤ o + n → Wraps f q m → ⊥
  part_fits o n q m room within w =
      let near : next_multiple_of (q % f.req_align + m) (len_align f) < q % f.req_align + m + len_align f = next_below (q % f.req_align + m) (len_align f) (len_positive f a) in
      omega (arith, near, room, within, w.1)

  -- nor does a zero write of it
  zero_fits : (o n q m : ℕ) → HasRoom f o n → q + m ≤ o + n → MayWrap f f.zeroes q m → ⊥
  zero_fits o n q m room within w = elim (w.why) [
    | inl x ↦ elim x [
      | inl y ↦ omega (arith, room, within, y, len_positive f a)
      | inr y ↦ omega (arith, room, within, y, next_below q f.zero_align (power_positive f.zero_align a.zero))
    ]
    | inr x ↦ elim x [
      | inl y ↦ elim (y.2) [
        | inl z ↦ part_fits o n _ _ room (omega (arith, within, y.0)) z
        | inr z ↦ part_fits o n _ _ room (omega (arith, within, y.0)) z
      ]
      | inr y ↦ elim (y.1) [
        | inl z ↦ part_fits o n _ _ room (omega (arith, within)) z
        | inr z ↦ part_fits o n _ _ room (omega (arith, within, z.0)) z
      ]
    ]
  ]

  -- no operation wraps around at a raw image
  wraps_nowhere : (size : ℕ) (op : Operation) (o n : ℕ) → (IsPadded op → HasRoom f o n) → HasWrappingPart (RequestWraps f size op) o n → ⊥
  wraps_nowhere size Map o n room w = w.wraps
  wraps_nowhere size Read o n room w = part_fits o n w.from w.count (room tt) w.below (w.wraps.1)
  wraps_nowhere size Write o n room w = part_fits o n w.from w.count (room tt) w.below w.wraps
  wraps_nowhere size Zero o n room w = zero_fits o n w.from w.count (room tt) w.below w.wraps
  wraps_nowhere size DiscardToZero o n room w = zero_fits o n w.from w.count (room tt) w.below w.wraps
  wraps_nowhere size DiscardToAny o n room w = w.wraps
  wraps_nowhere size DiscardToBacking o n room w = zero_fits o n w.from w.count (room tt) w.below w.wraps
  wraps_nowhere size (Grow mode) o n room w = w.wraps
  wraps_nowhere size Shrink o n room w = w.wraps
  wraps_nowhere size Flush o n room w = w.wraps

  -- what is left is that it isn't offered
  pub not_offered_alone : (size : ℕ) (op : Operation) (o n : ℕ) (e : Error) → (IsPadded op → HasRoom f o n) → raw_cause f size op o n e
      → (e ≡ Error.Unsupported) × (raw_offers f op ≡ false)
  not_offered_alone size op o n e room c = raw_only f size op o n e (λ r. (r ≡ Error.Unsupported) × (raw_offers f op ≡ false)) c
      (λ w. absurd (wraps_nowhere size op o n room w))
      (λ u. (refl, u))
