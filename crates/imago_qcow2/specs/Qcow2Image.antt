-- What callers see of an image: its storage, and what was loaded of it when it was opened.
-- SPDX-License-Identifier: MIT
use Rattle.imago_qcow2.specs.declared.header.Header.{Header}
use Rattle.imago_qcow2.specs.declared.qcow2.Qcow2.{Qcow2}
use Rattle.imago_qcow2.specs.Tables.{LoadedImage, loaded_of}

-- the storage of an image's file
abbrev pub storage_in : {S : Type 0} {g : _} {h : _} → Qcow2 S g h → S
storage_in d = d.storage

-- what its header said
abbrev pub header_in : {S : Type 0} {g : _} {h : _} → Qcow2 S g h → Header
header_in d = d.header

-- the header's numbers and the tables, as they were loaded
abbrev pub loaded_in : {S : Type 0} {g : _} {h : _} → Qcow2 S g h → LoadedImage
loaded_in d = loaded_of d.header d.cluster.length d.tables
