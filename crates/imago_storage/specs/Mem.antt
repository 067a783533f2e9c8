-- SPDX-License-Identifier: MIT
use Rattle.std.specs.Prelude.{◌≡◌, ℕ, ◌%◌, List, Option, None, true, false, refl}
use Rattle.imago_storage.specs.Powers.{IsAlignment, power_of_two}
use Rattle.std.proofs.Math.Nat.{mod_self}
use Rattle.imago_storage.specs.Features.{Features, InPlace, AsData, Never, ForGrowth, AreLawful}

-- Bytes in memory: kept, never failing, and refused for memory only where they grow, with nothing
-- changed.
abbrev pub mem_features : Option (List ℕ) → ℕ → ℕ → ℕ → Features
mem_features name mem req zeroed = record {
  filename = name;
  mem_align = mem;
  req_align = req;
  zero_align = zeroed;
  discard_align = req;
  keeps_data = true;
  tells_bytes = true;
  is_reliable = true;
  atomic = true;
  zeroes = InPlace;
  allocated_zeroes = InPlace;
  offers_discard = true;
  offers_resize = true;
  grows_by_zeroes = true;
  resolves_paths = true;
  read_memory = Never;
  write_memory = ForGrowth;
  zero_memory = ForGrowth;
  resize_memory = ForGrowth;
  other_memory = Never;
}

pub mem_lawful : (name : Option (List ℕ)) (mem req zeroed : ℕ) → IsAlignment mem → IsAlignment req
    → IsAlignment zeroed → zeroed % req ≡ 0
    → AreLawful (mem_features name mem req zeroed)
mem_lawful name mem req zeroed a b c whole = record {
  mem = power_of_two mem a;
  req = power_of_two req b;
  zero = power_of_two zeroed c;
  discard = power_of_two req b;
  zero_whole = whole;
  discard_whole = mod_self req;
  told = λ keeps. keeps;
}

-- Zeroes of any length: nothing is kept, nothing fails, no call takes memory but allocated zeroes,
-- which are data.
abbrev pub null_features : Features
null_features = record {
  filename = None;
  mem_align = 1;
  req_align = 1;
  zero_align = 1;
  discard_align = 1;
  keeps_data = false;
  tells_bytes = true;
  is_reliable = true;
  atomic = true;
  zeroes = InPlace;
  allocated_zeroes = AsData;
  offers_discard = true;
  offers_resize = true;
  grows_by_zeroes = true;
  resolves_paths = false;
  read_memory = Never;
  write_memory = Never;
  zero_memory = Never;
  resize_memory = Never;
  other_memory = Never;
}

pub null_lawful : AreLawful null_features
null_lawful = record {
  mem = (0, refl);
  req = (0, refl);
  zero = (0, refl);
  discard = (0, refl);
  zero_whole = refl;
  discard_whole = refl;
  told = λ keeps. refl;
}
