-- The files on the way down a chain.
-- SPDX-License-Identifier: MIT
use Rattle.std.specs.Prelude.{ℕ, ◌&&◌, Bool, List, nat_eq}
use Rattle.std.specs.List.{list_any}
use Rattle.imago_images.specs.declared.files.FileStatus.{FileStatus}
use Rattle.imago_images.specs.declared.way.Way.{Way}

-- a file by its device, and its number there
abbrev pub identity : FileStatus → ℕ × ℕ
identity status = (status.device, status.inode)

-- whether a file is one of these
abbrev pub is_among : List (ℕ × ℕ) → ℕ × ℕ → Bool
is_among files file = list_any (λ f. nat_eq f.0 file.0 && nat_eq f.1 file.1) files

-- those that were entered, the first one first
abbrev pub entered : Way → List (ℕ × ℕ)
entered way = way.files.items
