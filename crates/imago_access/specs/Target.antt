-- SPDX-License-Identifier: MIT
use Rattle.std.specs.Prelude.{ℕ, ◌+◌, ◌-◌, ◌^◌, ◌&&◌, Bool, true, min}
use Rattle.imago_drivers.specs.Place.{Place, Stored, Zeroed, Special, Lower, Refused, End}
use Rattle.imago_drivers.specs.View.{View}
use Rattle.imago_access.specs.declared.access.FormatAccess.{FormatAccess, FormatAccess'}
use Rattle.imago_access.specs.declared.access.FormatAccess.{Held-FormatAccess-backing, None', Some'}

-- Where an offset of an image leads, once each reference to the layer below is followed.
pub record Target : Type 0 where
  -- how many layers down
  pub depth : ℕ
  -- each reference on the way is marked writable
  pub writable : Bool
  pub place : Place

abbrev pub deeper : ℕ → Bool → Target → Target
deeper n w t = record { depth = n + t.depth; writable = w && t.writable; place = t.place }

abbrev pub target_here : Place → Target
target_here p = record { depth = 0; writable = true; place = p }

-- where a place leads, over a layer below whose offsets lead there
abbrev pub followed : (ℕ → Target) → Place → Target
followed below (Lower offset writable) = deeper 1 writable (below offset)
followed below (Stored byte storage offset writable) = target_here
    (Stored byte storage offset writable)
followed below (Zeroed explicit) = target_here (Zeroed explicit)
followed below (Special byte offset) = target_here (Special byte offset)
followed below (Refused e) = target_here (Refused e)
followed below End = target_here End

abbrev mutual
  pub target : {D St : Type 0} → (D → View St) → FormatAccess D → ℕ → Target
  target view (FormatAccess' below inner) p = followed (target_below view below)
      ((view inner).place p)

  pub target_below : {D St : Type 0} → (D → View St) → Held-FormatAccess-backing D → ℕ → Target
  target_below view None' p = target_here End
  target_below view (Some' k x) p = target view x p

-- a depth as a mapping tells it: the greatest number of 64 bits stands for each depth from there on
abbrev pub told_depth : ℕ → ℕ
told_depth depth = min depth (2 ^ 64 - 1)
