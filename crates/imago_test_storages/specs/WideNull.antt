-- SPDX-License-Identifier: MIT
use Rattle.std.specs.Prelude.{refl}
use Rattle.imago_storage.specs.Features.{Features, AreLawful}
use Rattle.imago_storage.specs.Mem.{null_features}

-- what never changes in zeroes that are asked for in blocks of 4096
abbrev pub wide_features : Features
wide_features = record null_features {
  mem_align = 4096;
  req_align = 4096;
  zero_align = 4096;
  discard_align = 4096;
}

-- its alignments are lawful
pub wide_lawful : AreLawful wide_features
wide_lawful = record {
  mem = (12, refl);
  req = (12, refl);
  zero = (12, refl);
  discard = (12, refl);
  zero_whole = refl;
  discard_whole = refl;
  told = λ keeps. refl;
}
