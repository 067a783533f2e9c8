-- SPDX-License-Identifier: MIT
use Rattle.std.specs.Prelude.{ℕ, Bool}
use Rattle.imago_drivers.specs.declared.raw.Raw.{Raw}

-- the storage of a raw image
abbrev pub storage_in : {S : Type 0} {g : _} {h : _} → Raw S g h → S
storage_in r = r.storage

-- its disk's size
abbrev pub size_of : {S : Type 0} {g : _} {h : _} → Raw S g h → ℕ
size_of r = r.size

-- whether it may be written
abbrev pub writability_of : {S : Type 0} {g : _} {h : _} → Raw S g h → Bool
writability_of r = r.writable
