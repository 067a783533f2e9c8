-- What never changes in a storage over a file.
-- SPDX-License-Identifier: MIT
use Rattle.std.specs.Prelude.{ℕ, Bool, true, false, List, Option, is_some, refl}
use Rattle.imago_storage.specs.Features.{Features, AsData, Never, AreLawful}

-- Every request is aligned. The device may fail, and no call takes memory. Where the file's bytes
-- are told, they are kept, and a refused write changes none. The storage can be resized where it is
-- writable, and tells what a relative name stands for where it has a name.
abbrev pub file_features : Option (List ℕ) → Bool → Bool → Features
file_features name writable told = record {
  filename = name;
  mem_align = 1;
  req_align = 1;
  zero_align = 1;
  discard_align = 1;
  keeps_data = told;
  tells_bytes = told;
  is_reliable = false;
  atomic = told;
  zeroes = AsData;
  allocated_zeroes = AsData;
  offers_discard = false;
  offers_resize = writable;
  grows_by_zeroes = true;
  resolves_paths = is_some name;
  read_memory = Never;
  write_memory = Never;
  zero_memory = Never;
  resize_memory = Never;
  other_memory = Never;
}

pub file_lawful : (name : Option (List ℕ)) (writable told : Bool)
    → AreLawful (file_features name writable told)
file_lawful name writable told = record {
  mem = (0, refl);
  req = (0, refl);
  zero = (0, refl);
  discard = (0, refl);
  zero_whole = refl;
  discard_whole = refl;
  told = λ keeps. keeps;
}
