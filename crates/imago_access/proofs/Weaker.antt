-- SPDX-License-Identifier: MIT
use Rattle.std.proofs.Common.{◌&&◌, Bool, true, false, refl, Result, Ok, Err}
use Rattle.std.specs.Prelude.{IfErr, IsTrue}
use Rattle.imago_storage.specs.declared.error.Error.{Error}
use Rattle.imago_storage.specs.declared.error.Error.TheVariants as E
use Rattle.imago_drivers.specs.Reasons.{Reasons, allowed}

-- Each reason of the first is one of the second.
pub record IsWeaker (r s : Reasons) : Type 0 where
  pub read_only : r.read_only → s.read_only
  pub beyond_disk : r.beyond_disk → s.beyond_disk
  pub range_overflow : r.range_overflow → s.range_overflow
  pub cause : (e : Error) → r.cause e → s.cause e
  pub device : r.device → s.device
  pub memory : r.memory → s.memory
  pub foreign_mapping : r.foreign_mapping → s.foreign_mapping

pub allowed_more : (r s : Reasons) → IsWeaker r s → (e : Error) → allowed r e → allowed s e
allowed_more r s w E.ReadOnly h = w.read_only h
allowed_more r s w E.BeyondDisk h = w.beyond_disk h
allowed_more r s w E.RangeOverflow h = w.range_overflow h
allowed_more r s w E.WrapAround h = w.cause Error.WrapAround h
allowed_more r s w E.InvalidData h = w.cause Error.InvalidData h
allowed_more r s w E.Unsupported h = w.cause Error.Unsupported h
allowed_more r s w E.NoAccess h = w.cause Error.NoAccess h
allowed_more r s w E.Device h = w.device h
allowed_more r s w E.Memory h = w.memory h
allowed_more r s w E.ForeignMapping h = w.foreign_mapping h
allowed_more r s w E.Denied h = h
allowed_more r s w E.NotFound h = h

pub refused_more : {T : Type 0} (r s : Reasons) (result : Result T Error) → IsWeaker r s → IfErr result (allowed r) → IfErr result (allowed s)
refused_more r s (Ok x) w h = tt
refused_more r s (Err e) w h = allowed_more r s w e h

pub and_left : (a b : Bool) → IsTrue (a && b) → IsTrue a
and_left true b h = refl
and_left false b h = h

pub and_right : (a b : Bool) → IsTrue (a && b) → IsTrue b
and_right true b h = h
and_right false b h = let z : ⊥ = cc in absurd z

pub and_both : (a b : Bool) → IsTrue a → IsTrue b → IsTrue (a && b)
and_both true b h k = k
and_both false b h k = h
