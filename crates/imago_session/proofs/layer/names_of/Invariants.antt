-- SPDX-License-Identifier: MIT
use Rattle.std.proofs.Common.{◌≡◌, ◌++◌, map, drop}
use Rattle.std.specs.List.{flat_map}
use Rattle.std.specs.String.{string_bytes}
use Rattle.imago_vmdk.specs.Line.{extent_with}
use Rattle.imago_session.specs.Files.{file_name}
use Rattle.imago_session.proofs.layer.names_of.Given as goal

abbrev pub invariant-loop-extent : goal.invariant-loop-extent
invariant-loop-extent l = map string_bytes l.names.items ++ flat_map file_name (map (extent_with string_bytes) (drop l.extent-index l.extents)) ≡ flat_map file_name (map (extent_with string_bytes) l.extents)
