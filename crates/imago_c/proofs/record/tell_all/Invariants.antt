-- SPDX-License-Identifier: MIT
use Rattle.std.proofs.Common.{◌≡◌, ◌++◌, length, map, drop}
use Rattle.std.specs.List.{flat_map}
use Rattle.std.specs.String.{string_bytes}
use Rattle.imago_vmdk.specs.Line.{extent_with}
use Rattle.imago_c.specs.Records.{name_of, records_from}
use Rattle.imago_c.proofs.record.tell_all.Given as goal

abbrev pub invariant-loop-extent : goal.invariant-loop-extent
invariant-loop-extent l = record {
  records : l.records.items ++ records_from (length l.names.items) (map (extent_with string_bytes) (drop l.extent-index l.extents)) ≡ l.fn.records.items ++ records_from (length l.fn.names.items) (map (extent_with string_bytes) l.extents);
  names : l.names.items ++ flat_map name_of (map (extent_with string_bytes) (drop l.extent-index l.extents)) ≡ l.fn.names.items ++ flat_map name_of (map (extent_with string_bytes) l.extents);
}
