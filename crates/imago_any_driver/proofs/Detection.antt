-- SPDX-License-Identifier: MIT
use Rattle.std.proofs.Common.{inl, inr}
use Rattle.imago_storage.specs.declared.error.Error.{Error}
use Rattle.imago_storage.specs.declared.error.Error.TheVariants as E
use Rattle.imago_drivers.specs.Reasons.{Reasons, allowed}
use Rattle.imago_any_driver.specs.AnyDriver.{reasons_of_both}

module _ (a b : Reasons) where
  pub allowed_first : (e : Error) → allowed a e → allowed (reasons_of_both a b) e
  allowed_first E.ReadOnly h = inl h
  allowed_first E.BeyondDisk h = inl h
  allowed_first E.RangeOverflow h = inl h
  allowed_first E.WrapAround h = inl h
  allowed_first E.InvalidData h = inl h
  allowed_first E.Unsupported h = inl h
  allowed_first E.NoAccess h = inl h
  allowed_first E.Device h = inl h
  allowed_first E.Memory h = inl h
  allowed_first E.ForeignMapping h = inl h
  allowed_first E.Denied h = h
  allowed_first E.NotFound h = h

  pub allowed_second : (e : Error) → allowed b e → allowed (reasons_of_both a b) e
  allowed_second E.ReadOnly h = inr h
  allowed_second E.BeyondDisk h = inr h
  allowed_second E.RangeOverflow h = inr h
  allowed_second E.WrapAround h = inr h
  allowed_second E.InvalidData h = inr h
  allowed_second E.Unsupported h = inr h
  allowed_second E.NoAccess h = inr h
  allowed_second E.Device h = inr h
  allowed_second E.Memory h = inr h
  allowed_second E.ForeignMapping h = inr h
  allowed_second E.Denied h = h
  allowed_second E.NotFound h = h
