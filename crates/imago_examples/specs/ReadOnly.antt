-- What never changes in a storage that may only be read.
-- SPDX-License-Identifier: MIT
use Rattle.std.specs.Prelude.{◌≡◌, ℕ, false, true, Result, Err}
use Rattle.imago.specs.DeclaredError.{Error}
use Rattle.imago.specs.Features.{Features, NotOffered, AreLawful}
use Rattle.imago.specs.Maintenance.{Maintenance}

-- what never changes in a storage that may only be read, over what never changes in the one inside
abbrev pub read_only_features : Features → Features
read_only_features f = record f {
  is_reliable = false;
  atomic = true;
  zeroes = NotOffered;
  allocated_zeroes = NotOffered;
  offers_discard = false;
  offers_resize = false;
}

pub read_only_lawful : (f : Features) → AreLawful f → AreLawful (read_only_features f)
read_only_lawful f l = record {
  mem = l.mem;
  req = l.req;
  zero = l.zero;
  discard = l.discard;
  zero_whole = l.zero_whole;
  discard_whole = l.discard_whole;
  told = l.told;
}
