-- SPDX-License-Identifier: MIT
use Rattle.std.specs.Prelude.{ℕ, ◌+◌, ◌-◌, ◌^◌, ◌<◌, ◌⊎◌, List, IsTrue}
use Rattle.std.specs.Prelude.{Option, Some, None, Result, Ok, Err}
use Rattle.imago_storage.specs.declared.error.Error.{Error}
use Rattle.imago_drivers.specs.CallRelations.{Calls}
use Rattle.imago_drivers.specs.Place.{HasValues}
use Rattle.imago_drivers.specs.View.{View}
use Rattle.imago_drivers.specs.declared.mapping.ShallowMapping.{ShallowMapping}
use Rattle.imago_drivers.specs.declared.mapping.ShallowMapping.TheVariants as S
use Rattle.imago_access.specs.declared.access.FormatAccess.{FormatAccess}
use Rattle.imago_access.specs.declared.reader.Block.{Block}
use Rattle.imago_access.specs.Chain.{driver, tells_bytes, inside_part}
use Rattle.imago_access.specs.Specials.{special_at}
use Rattle.imago_access.specs.Answered.{IsMapRefusal, Lands, IsNamedRead}
use Rattle.imago_access.specs.Performed.{Part, IsMadeInParts}

-- What is kept of a block, if any is, are the special bytes of the layer at its depth from its
-- start on, where the image tells its bytes. A depth that a mapping can't tell keeps none.
abbrev pub IsBlockOf : {D St : Type 0} → (D → View St) → FormatAccess D → Option Block → List ℕ
    → Type 0
IsBlockOf view x None bytes = Unit {0}
IsBlockOf view x (Some b) bytes = (b.depth < 2 ^ 64 - 1)
    × (IsTrue (tells_bytes view x) → HasValues (special_at view x b.depth) b.start bytes)

-- What a read by way of what is kept asks of the layers' drivers: the same as a plain read, but for
-- special bytes that are there. These may have been kept, or be made with others of their block.

-- the driver reads n bytes of what a mapping names, or they are special ones and are there
abbrev pub IsKeptRead : {D St : Type 0} → Calls D St → D → ShallowMapping → ℕ → Result Unit Error
    → Type 0
IsKeptRead its d (S.Special offset) n (Ok u) = Unit {0}
IsKeptRead its d m n result = IsNamedRead its d m n result

-- The first bytes of a range are read where they land, as many as are answered. It is refused by
-- the mapping, or by the read there.
abbrev pub IsFirstKept : {D St : Type 0} → Calls D St → FormatAccess D → ℕ → ℕ → Result ℕ Error
    → Type 0
IsFirstKept {D} its x o n (Ok c) = (layer : FormatAccess D) × (s : ShallowMapping)
    × Lands its x o n layer s c × IsKeptRead its (driver layer) s c (Ok tt)
IsFirstKept {D} its x o n (Err e) =
    IsMapRefusal its x o n e
    ⊎ ((layer : FormatAccess D) × (s : ShallowMapping) × (c : ℕ) × Lands its x o n layer s c
    × IsKeptRead its (driver layer) s c (Err e))

-- what is behind the first c of n bytes is read, which changes nothing
abbrev pub rest_kept : {D St : Type 0} → Calls D St → FormatAccess D → ℕ → ℕ → Part (Unit {0})
rest_kept its x o n c old new result = IsFirstKept its x (o + c) (n - c) result

-- A read of a range is that of its bytes inside the disk, part after part.
abbrev pub IsReadThrough : {D St : Type 0} → (D → View St) → Calls D St → FormatAccess D → ℕ → ℕ
    → Result Unit Error → Type 0
IsReadThrough view its x o n result =
    let m = inside_part (view (driver x)).size o n in (parts : List ℕ)
    × IsMadeInParts (rest_kept its x o m) m 0 parts tt tt result
