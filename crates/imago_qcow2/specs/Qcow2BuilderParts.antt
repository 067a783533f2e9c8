-- What is set in a builder of qcow2 images.
-- SPDX-License-Identifier: MIT
use Rattle.std.specs.Prelude.{Bool}
use Rattle.imago_drivers.specs.Builder.{OpenSettings}
use Rattle.imago_drivers.specs.BuilderBase.{open_settings}
use Rattle.imago_qcow2.specs.declared.qcow2_builder.Qcow2OpenBuilder.{Qcow2OpenBuilder}

-- what builders of all formats have
abbrev pub qcow2_settings : {S : Type 0} → Qcow2OpenBuilder S → OpenSettings S
qcow2_settings b = open_settings b.base

-- the caller lays the image of the backing file below
abbrev pub backing_laid_in : {S : Type 0} → Qcow2OpenBuilder S → Bool
backing_laid_in b = b.backing_laid
