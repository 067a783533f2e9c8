-- What is seen of the gate of an image's files.
-- SPDX-License-Identifier: MIT
use Rattle.std.specs.Prelude.{ℕ, List, Option}
use Rattle.imago_images.specs.declared.gate.FolderGate.{FolderGate}
use Rattle.imago_images.specs.declared.gate.Named.{Named}
use Rattle.imago_images.specs.declared.opening.OtherFiles.{OtherFiles}
use Rattle.imago_images.specs.DoorParts.{door_host, door_image, door_files}
use Rattle.imago_images.specs.FolderParts.{bounds_in}

-- the host whose files it looks at
abbrev pub gate_host : {H File : Type 0} {g : _} {h : _} → FolderGate H File g h → H
gate_host gate = door_host gate.door

-- the path of the image that names the files
abbrev pub gate_image : {H File : Type 0} {g : _} {h : _} → FolderGate H File g h → List ℕ
gate_image gate = door_image gate.door

-- which files it lets through
abbrev pub gate_files : {H File : Type 0} {g : _} {h : _} → FolderGate H File g h → OtherFiles
gate_files gate = door_files gate.door

-- what the image names its files as
abbrev pub gate_named : {H File : Type 0} {g : _} {h : _} → FolderGate H File g h → Named
gate_named gate = gate.named

-- the path without links of the folder that its files stand in, where only such are let through
abbrev pub gate_bounds : {H File : Type 0} {g : _} {h : _} → FolderGate H File g h → Option (List ℕ)
gate_bounds gate = bounds_in gate.folder
