-- SPDX-License-Identifier: MIT
use Rattle.imago_drivers.specs.declared.raw_builder.RawOpenBuilder.{RawOpenBuilder}
use Rattle.imago_drivers.specs.declared.raw_builder.RawCreateBuilder.{RawCreateBuilder}
use Rattle.imago_drivers.specs.Builder.{OpenSettings, CreateSettings}
use Rattle.imago_drivers.specs.BuilderBase.{open_settings, create_settings}

-- what is set in a builder of raw images
abbrev pub raw_open_settings : {S : Type 0} → RawOpenBuilder S → OpenSettings S
raw_open_settings b = open_settings b.0

abbrev pub raw_create_settings : {S : Type 0} → RawCreateBuilder S → CreateSettings S
raw_create_settings b = create_settings b.0
