-- What the files of a host in memory are.
-- SPDX-License-Identifier: MIT
use Rattle.std.specs.Prelude.{ℕ, Bool, false, ◌||◌, List, [], ◌∷◌, ◌++◌, length, Option, Some, None}
use Rattle.std.specs.Prelude.{codes, filter, if◌then◌else◌, not}
use Rattle.std.specs.List.{list_any}
use Rattle.std.specs.Str.{bytes_eq}
use Rattle.std.specs.String.{string_bytes}
use Rattle.imago_images.specs.declared.files.FileKind.{FileKind}
use Rattle.imago_images.specs.declared.files.FileKind.TheVariants as Kind
use Rattle.imago_images.specs.declared.files.FileStatus.{FileStatus}
use Rattle.imago_img_tests.specs.declared.memory_host.MemoryFile.{MemoryFile}
use Rattle.imago_img_tests.specs.declared.memory_host.MemoryHost.{MemoryHost}
use Rattle.imago_img_tests.specs.declared.memory_host.Nature.{Nature}
use Rattle.imago_img_tests.specs.declared.memory_host.Nature.TheVariants as Of

-- the bytes of the first file of a path: none where there is no such file
abbrev pub file_bytes : List MemoryFile → List ℕ → List ℕ
file_bytes [] path = []
file_bytes (file ∷ files) path =
    if bytes_eq (string_bytes file.path) path then file.bytes.items else file_bytes files path

-- whether a file has that path
abbrev pub has_file : List MemoryFile → List ℕ → Bool
has_file [] path = false
has_file (file ∷ files) path = bytes_eq (string_bytes file.path) path || has_file files path

-- a host lets QEMU hold the file of that path
abbrev pub holds : MemoryHost → List ℕ → Bool
holds h path = list_any (λ held. bytes_eq (string_bytes held) path) h.held.items

-- the files of other paths
abbrev pub files_without : List ℕ → List MemoryFile → List MemoryFile
files_without path = filter (λ file. not (bytes_eq (string_bytes file.path) path))

-- the path under which a file is made that is to have a path
abbrev pub unfinished_path : List ℕ → List ℕ
unfinished_path path = path ++ codes ".imago-img-unfinished"

-- what a file of that nature is
abbrev pub kind_by : Nature → FileKind
kind_by Of.Plain = Kind.Regular
kind_by Of.Secret = Kind.Regular
kind_by (Of.Torn at) = Kind.Regular
kind_by Of.Device = Kind.BlockDevice
kind_by Of.Folder = Kind.Other
kind_by (Of.Link path) = Kind.Regular
kind_by Of.Barred = Kind.Regular

-- what a file is
abbrev pub status_by : MemoryFile → FileStatus
status_by file = record {
  kind = kind_by file.nature;
  length = length file.bytes.items;
  device = 1;
  inode = file.inode;
}

-- the first file of a path, if there is one
abbrev pub first_of : List MemoryFile → List ℕ → Option MemoryFile
first_of [] path = None
first_of (file ∷ files) path =
    if bytes_eq (string_bytes file.path) path then Some file else first_of files path

-- what it is, if there is one, and else an empty file
abbrev pub status_in : Option MemoryFile → FileStatus
status_in None = record { kind = Kind.Regular; length = 0; device = 0; inode = 0 }
status_in (Some file) = status_by file

-- what the file of a path is
abbrev pub file_status : List MemoryFile → List ℕ → FileStatus
file_status files path = status_in (first_of files path)

-- the path without links that a file of that path and nature has
abbrev pub real_by : Nature → List ℕ → List ℕ
real_by (Of.Link to) path = to.now
real_by nature path = codes "/images/" ++ path

-- the same, if there is one
abbrev pub real_in : Option MemoryFile → List ℕ → List ℕ
real_in None path = []
real_in (Some file) path = real_by file.nature path

-- the path without links that a path leads to
abbrev pub path_without_links : List MemoryFile → List ℕ → List ℕ
path_without_links files path =
    if bytes_eq path (codes ".") then codes "/images" else real_in (first_of files path) path
