-- SPDX-License-Identifier: MIT
use Rattle.std.specs.Prelude.{ℕ, ◌+◌, ◌-◌, ◌^◌, max, min}
use Rattle.imago_storage.specs.IoCount.{IoCount}
use Rattle.imago_test_storages.specs.declared.counting.Counts.{Counts}

-- the counts as every storage has them
abbrev pub io_count : Counts → IoCount
io_count c = record {
  reads = c.reads;
  bytes_read = c.bytes_read;
  writes = c.writes;
  bytes_written = c.bytes_written;
  longest_write = c.longest_write;
}

-- a count of so many more, which stays at its greatest value
abbrev pub counted : ℕ → ℕ → ℕ
counted count more = min (count + more) (2 ^ 64 - 1)

-- one read more, of so many bytes
abbrev pub after_read : ℕ → IoCount → IoCount
after_read n c = record c { reads = counted c.reads 1; bytes_read = counted c.bytes_read n }

-- one write more, of so many bytes
abbrev pub after_write : ℕ → IoCount → IoCount
after_write n c = record c {
  writes = counted c.writes 1;
  bytes_written = counted c.bytes_written n;
  longest_write = max c.longest_write n;
}
