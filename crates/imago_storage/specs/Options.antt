-- SPDX-License-Identifier: MIT
use Rattle.std.specs.Prelude.{ℕ, List, Bool, false, Option, None, option_map}
use Rattle.std.specs.String.{string_bytes}
use Rattle.imago_storage.specs.declared.options.PreallocateMode.{PreallocateMode}
use Rattle.imago_storage.specs.declared.options.PreallocateMode.TheVariants as Mode
use Rattle.imago_storage.specs.declared.options.StorageOpenOptions.{StorageOpenOptions}
use Rattle.imago_storage.specs.declared.options.StorageCreateOptions.{StorageCreateOptions}

-- what is asked of an opening
pub record OpenOptions : Type 0 where
  pub filename : Option (List ℕ)
  pub writable : Bool
  pub direct : Bool

-- what is asked of a creation; the file name stands in the options to open it
pub record CreateOptions : Type 0 where
  pub to_open : OpenOptions
  pub size : ℕ
  pub mode : PreallocateMode
  pub overwrite : Bool

abbrev pub open_options : StorageOpenOptions → OpenOptions
open_options o = record {
  filename = option_map string_bytes o.filename;
  writable = o.writable;
  direct = o.direct;
}

-- the options that what is created is opened with
abbrev pub opening_options : StorageCreateOptions → StorageOpenOptions
opening_options o = o.open_opts

abbrev pub create_options : StorageCreateOptions → CreateOptions
create_options o = record {
  to_open = open_options (opening_options o);
  size = o.size;
  mode = o.prealloc_mode;
  overwrite = o.overwrite;
}

abbrev pub no_open_options : OpenOptions
no_open_options = record { filename = None; writable = false; direct = false }

abbrev pub no_create_options : CreateOptions
no_create_options = record {
  to_open = no_open_options;
  size = 0;
  mode = Mode.None;
  overwrite = false;
}
