-- SPDX-License-Identifier: MIT
use Rattle.std.specs.Prelude.{option_map}
use Rattle.std.specs.String.{string_bytes}
use Rattle.imago_storage.specs.Options.{open_options}
use Rattle.imago_drivers.specs.declared.builder.FormatDriverBuilderBase.{FormatDriverBuilderBase}
use Rattle.imago_drivers.specs.declared.builder.FormatCreateBuilderBase.{FormatCreateBuilderBase}
use Rattle.imago_drivers.specs.declared.builder.StorageOrPath.{StorageOrPath}
use Rattle.imago_drivers.specs.declared.builder.StorageOrPath.TheVariants as Variant
use Rattle.imago_drivers.specs.Builder.{Source, HandedIn, AtPath, OpenSettings, CreateSettings}

abbrev pub source_of : {S : Type 0} → StorageOrPath S → Source S
source_of (Variant.Storage storage) = HandedIn storage
source_of (Variant.Path path) = AtPath (string_bytes path)

-- what is set in a builder's base
abbrev pub open_settings : {S : Type 0} → FormatDriverBuilderBase S → OpenSettings S
open_settings b = record {
  source = source_of b.image;
  writable = b.writable;
  options = option_map open_options b.storage_opts;
}

abbrev pub create_settings : {S : Type 0} → FormatCreateBuilderBase S → CreateSettings S
create_settings b = record { image = b.image; size = b.size; mode = b.prealloc_mode }
