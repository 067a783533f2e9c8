-- SPDX-License-Identifier: MIT
use Rattle.std.specs.Prelude.{ℕ, Bool, List, map}
use Rattle.std.specs.String.{string_bytes}
use Rattle.imago_vmdk.specs.declared.line.Accepted.{Accepted}
use Rattle.imago_vmdk.specs.declared.line.Extent.{Extent}
use Rattle.imago_vmdk.specs.declared.vmdk.Vmdk.{Vmdk}
use Rattle.imago_vmdk.specs.Line.{extent_with}

-- the storage of an image's descriptor
abbrev pub descriptor_in : {S : Type 0} {g : _} {h : _} → Vmdk S g h → S
descriptor_in v = v.descriptor

-- its extents, with their names as bytes
abbrev pub extents_in : {S : Type 0} {g : _} {h : _} → Vmdk S g h → List (Extent (List ℕ))
extents_in v = map (extent_with string_bytes) v.extents.items

-- whether these are opened
abbrev pub is_opened : {S : Type 0} {g : _} {h : _} → Vmdk S g h → Bool
is_opened v = v.opened

-- the storages of its FLAT extents, once these are opened
abbrev pub storages_of_extents : {S : Type 0} {g : _} {h : _} → Vmdk S g h → List S
storages_of_extents v = v.storages.items

-- whether these are opened as direct
abbrev pub opens_direct : {S : Type 0} {g : _} {h : _} → Vmdk S g h → Bool
opens_direct v = v.direct

-- what was accepted of its descriptor
abbrev pub accepted_in : {S : Type 0} {g : _} {h : _} → Vmdk S g h → Accepted
accepted_in v = v.accepted
