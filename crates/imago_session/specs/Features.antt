-- What a file of which some blocks are in memory can do as a storage.
-- SPDX-License-Identifier: MIT
use Rattle.std.specs.Prelude.{true, false, refl}
use Rattle.imago_storage.specs.Features.{Features, AsData, AreLawful}
use Rattle.imago_storage.specs.Mem.{null_features}

-- Blocks of a file in memory: what is written isn't kept, and nothing fails. A relative name stands
-- for itself.
abbrev pub loaded_features : Features
loaded_features = record null_features {
  zeroes = AsData;
  offers_resize = false;
  resolves_paths = true;
}

pub loaded_lawful : AreLawful loaded_features
loaded_lawful = record {
  mem = (0, refl);
  req = (0, refl);
  zero = (0, refl);
  discard = (0, refl);
  zero_whole = refl;
  discard_whole = refl;
  told = λ keeps. refl;
}
