-- What is seen of a storage that doesn't tell the bytes of the one inside.
-- SPDX-License-Identifier: MIT
use Rattle.std.specs.Prelude.{◌≡◌, ℕ, List, length, replicate, false}
use Rattle.imago_storage.specs.Features.{Features, AreLawful}

-- what never changes in it: nothing is kept or told, and all else is as inside
abbrev pub untold : Features → Features
untold f = record f { keeps_data = false; tells_bytes = false }

-- as many zeroes as there are bytes
abbrev pub zeroes_of : List ℕ → List ℕ
zeroes_of bytes = replicate (length bytes) 0

-- The call was made inside, with a buffer of that length.
pub record IsReadInside (counted : List ℕ → Type 0) (n : ℕ) : Type 0 where
  pub given : List ℕ
  pub long : length given ≡ n
  pub made : counted given

-- its alignments are lawful
pub untold_lawful : (f : Features) → AreLawful f → AreLawful (untold f)
untold_lawful f l = record {
  mem = l.mem;
  req = l.req;
  zero = l.zero;
  discard = l.discard;
  zero_whole = l.zero_whole;
  discard_whole = l.discard_whole;
  told = λ keeps. keeps;
}
