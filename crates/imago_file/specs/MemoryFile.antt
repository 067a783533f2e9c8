-- What the calls of a file in memory are.
-- SPDX-License-Identifier: MIT
use Rattle.std.specs.Prelude.{◌≡◌, ◌≤◌, ℕ, ◌+◌, ◌-◌, ◌^◌, List, min, length, Ok}
use Rattle.std.specs.Prelude.{IsOk, OnOk, OnErr}
use Rattle.imago_storage.specs.Bytes.{splice, IsReadAt}
use Rattle.imago_file.specs.declared.host.MemoryFile.{MemoryFile}
use Rattle.imago_file.specs.Contents.{sized}
use Rattle.imago_file.specs.FileCalls.{FileCalls, Answer}

-- how often a file was synced
abbrev pub sync_count : MemoryFile → ℕ
sync_count f = f.syncs

-- A change of the bytes: made, or refused with nothing changed. One that makes the file no longer
-- isn't refused. It syncs nothing.
pub record IsMemoryChange (target : List ℕ) (old new : MemoryFile) (answer : Answer) : Type 0 where
  pub done : OnOk answer (new.bytes.items ≡ target)
  pub refused : OnErr answer (new.bytes.items ≡ old.bytes.items)
  pub within : length target ≤ length old.bytes.items → IsOk answer
  pub syncs : sync_count new ≡ sync_count old

-- Lengths, reads and syncs aren't refused, and a sync is counted.
abbrev pub memory_calls : FileCalls MemoryFile
memory_calls = record {
  measured = λ f answer. answer ≡ Ok (length f.bytes.items);
  read = λ at buffer f answer. (answer ≡ Ok tt) × IsReadAt f.bytes.items at buffer;
  written = λ at source old new. IsMemoryChange (splice old.bytes.items at source) old new;
  resized = λ n old new. IsMemoryChange (sized old.bytes.items n) old new;
  synced = λ old new answer. (answer ≡ Ok tt) × (new.bytes.items ≡ old.bytes.items)
      × (sync_count new ≡ min (sync_count old + 1) (2 ^ 64 - 1));
}
