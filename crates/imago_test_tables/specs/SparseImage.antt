-- SPDX-License-Identifier: MIT
use Rattle.std.specs.Prelude.{ℕ, List}
use Rattle.imago_test_tables.specs.declared.sparse.Settings.{Settings}
use Rattle.imago_test_tables.specs.declared.sparse.Sparse.{Sparse}
use Rattle.imago_test_tables.specs.declared.table.Origin.{Origin}

-- the entries of the disk's table
abbrev pub table_of : {S : Type 0} {g : _} {h : _} → Sparse S g h → List Origin
table_of d = d.table.items

-- the disk's size
abbrev pub size_of : {S : Type 0} {g : _} {h : _} → Sparse S g h → ℕ
size_of d = d.size

abbrev pub settings_of : {S : Type 0} {g : _} {h : _} → Sparse S g h → Settings
settings_of d = d.settings

-- the storage of the index 0
abbrev pub first_in : {S : Type 0} {g : _} {h : _} → Sparse S g h → S
first_in d = d.storages.first

-- the storage of the index 1
abbrev pub second_in : {S : Type 0} {g : _} {h : _} → Sparse S g h → S
second_in d = d.storages.second

-- how often something else failed than its storages
abbrev pub own_faults_of : {S : Type 0} {g : _} {h : _} → Sparse S g h → ℕ
own_faults_of d = d.storages.faults
