-- SPDX-License-Identifier: MIT
use Rattle.std.proofs.Common.{◌≡◌, drop}
use Rattle.imago_img_tests.specs.MemoryFiles.{file_bytes, first_of, has_file}
use Rattle.imago_img_tests.proofs.memory_host.MemoryHost.file.Given as goal

-- the file isn't among those that were looked at
abbrev pub invariant-loop-file : goal.invariant-loop-file
invariant-loop-file l = record {
  bytes : file_bytes (drop l.file-index l.self.files.items) l.path ≡ file_bytes l.self.files.items l.path;
  first : first_of (drop l.file-index l.self.files.items) l.path ≡ first_of l.self.files.items l.path;
  there : has_file (drop l.file-index l.self.files.items) l.path ≡ has_file l.self.files.items l.path;
}
