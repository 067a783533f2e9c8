-- SPDX-License-Identifier: MIT
use Rattle.std.specs.Prelude.{option_map}
use Rattle.std.specs.String.{string_bytes}
use Rattle.imago_storage.specs.Features.{Features, AreLawful}
use Rattle.imago_storage.specs.Mem.{mem_features, mem_lawful}
use Rattle.imago_storage.specs.declared.mem.MemStorage.{MemStorage}

-- what never changes in a storage in memory
abbrev pub features_of : MemStorage → Features
features_of s = mem_features (option_map string_bytes s.name) s.mem_align s.req_align s.zero_align

-- its alignments are lawful
pub alignments_of : (s : MemStorage) → AreLawful (features_of s)
alignments_of s = mem_lawful (option_map string_bytes s.name) s.mem_align s.req_align s.zero_align
    s.mem_power s.req_power s.zero_power s.zero_whole
