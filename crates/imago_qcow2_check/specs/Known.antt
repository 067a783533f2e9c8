-- Whether everything in a file that may use clusters is known.
-- SPDX-License-Identifier: MIT
use Rattle.std.specs.Prelude.{◌≡◌, ◌<◌, ℕ, zero, suc, ◌+◌, ◌-◌, Bool, true, false, ◌||◌, List}
use Rattle.std.specs.Prelude.{if◌then◌else◌, nat_lt, nat_eq}
use Rattle.std.specs.Int.{next_multiple_of}
use Rattle.imago_qcow2.specs.Numbers.{be32}
use Rattle.imago_qcow2.specs.Header.{features_at, own_length}
use Rattle.imago_qcow2.specs.Backing.{backing_format, extensions_end}

-- the type of the header extension that says where bitmaps are
abbrev pub bitmaps_type : ℕ
bitmaps_type = 0x23852875

-- Types of header extensions: the format of the backing file, the names of features, bitmaps, and
-- the name of an external data file. Bitmaps use clusters where a feature says that they are valid.
abbrev pub is_known_type : ℕ → Bool
is_known_type kind = nat_eq kind backing_format || (nat_eq kind 0x6803f857
    || (nat_eq kind bitmaps_type || nat_eq kind 0x44415441))

-- Header extensions from an offset up to the end, of which each has the number of its type, the
-- length of what it holds, and that, up to a multiple of 8 bytes. Type 0 ends them. All types are
-- known, and none passes the end; so many steps are enough.
abbrev pub known_by : ℕ → List ℕ → ℕ → ℕ → Bool
known_by zero bytes at end = true
known_by (suc steps) bytes at end =
    if nat_lt at end then
    (if nat_eq (be32 bytes at) 0 then true else
    (if nat_lt (end - at) (8 + be32 bytes (at + 4)) then false else
    (if is_known_type (be32 bytes at) then
    known_by steps bytes (at + (8 + next_multiple_of (be32 bytes (at + 4)) 8)) end
    else false)))
    else true

-- each extension takes 8 bytes at least
unfoldable pub known_from : List ℕ → ℕ → ℕ → Bool
known_from bytes at end = known_by (end - at) bytes at end

-- What may use clusters is known: there is no autoclear feature but bit 0, which says that bitmaps
-- are valid, and all header extensions are known.
pub record IsKnown (bytes : List ℕ) : Type 0 where
  pub features : features_at bytes 88 < 2
  pub extensions : known_from bytes (own_length bytes) (extensions_end bytes) ≡ true
