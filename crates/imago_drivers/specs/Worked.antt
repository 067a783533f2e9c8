-- SPDX-License-Identifier: MIT
use Rattle.std.specs.Prelude.{ℕ, List, ◌∷◌, [], false, if◌then◌else◌, nat_lt}
use Rattle.imago_drivers.specs.Place.{Value, Byte, Place, Lower, End}

-- the bytes of a raw image
abbrev pub four_bytes : List ℕ
four_bytes = 1 ∷ 2 ∷ 3 ∷ 4 ∷ []

-- a layer below of 512 bytes, each of them 17
abbrev pub seventeens : ℕ → Value
seventeens p = if nat_lt p 512 then Byte 17 else Byte 0

-- a disk of 1024 bytes that leads to the layer below at the same offset
abbrev pub leading_below : ℕ → Place
leading_below p = if nat_lt p 1024 then Lower p false else End
