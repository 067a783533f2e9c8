-- SPDX-License-Identifier: MIT
use Rattle.imago_drivers.specs.Builder.{OpenSettings}
use Rattle.imago_drivers.specs.BuilderBase.{open_settings}
use Rattle.imago_vmdk.specs.declared.line.Accepted.{Accepted}
use Rattle.imago_vmdk.specs.declared.vmdk_builder.VmdkOpenBuilder.{VmdkOpenBuilder}

-- what is set in a builder of VMDK images
abbrev pub vmdk_settings : {S : Type 0} → VmdkOpenBuilder S → OpenSettings S
vmdk_settings b = open_settings b.base

-- what it accepts of a descriptor
abbrev pub accepted_by : {S : Type 0} → VmdkOpenBuilder S → Accepted
accepted_by b = b.accepted
