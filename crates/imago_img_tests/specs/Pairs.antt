-- What two files in memory are.
-- SPDX-License-Identifier: MIT
use Rattle.std.specs.Prelude.{ℕ, Bool, ◌||◌, List, [], if◌then◌else◌}
use Rattle.std.specs.Str.{bytes_eq}
use Rattle.std.specs.String.{string_bytes}
use Rattle.imago_img_tests.specs.declared.pair_host.PairHost.{PairHost}

-- the bytes of the file of a path: none where there is no such file
abbrev pub pair_bytes : PairHost → List ℕ → List ℕ
pair_bytes h path = if bytes_eq (string_bytes h.out_path) path then h.out.items else
    (if bytes_eq (string_bytes h.image_path) path then h.image.items else [])

-- whether one of them has that path
abbrev pub has_path : PairHost → List ℕ → Bool
has_path h path =
    bytes_eq (string_bytes h.out_path) path || bytes_eq (string_bytes h.image_path) path
