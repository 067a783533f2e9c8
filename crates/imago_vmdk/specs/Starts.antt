-- SPDX-License-Identifier: MIT
use Rattle.std.specs.Prelude.{ℕ, ◌+◌, List, [], ◌∷◌}
use Rattle.imago_vmdk.specs.declared.line.Extent.{Extent}
use Rattle.imago_vmdk.specs.declared.vmdk.Start.{Start}
use Rattle.imago_vmdk.specs.Reading.{size_of}
use Rattle.imago_vmdk.specs.Vmdk.{storages_of}

-- where extents begin, one after the other: on the disk, in bytes, from that offset on, and, by
-- index, in which storage
abbrev pub starts_from : {N : Type 0} → ℕ → ℕ → List (Extent N) → List Start
starts_from from index [] = []
starts_from from index (extent ∷ extents) = record { offset = from; storage = index } ∷ starts_from
    (from + size_of extent) (index + storages_of extent) extents
