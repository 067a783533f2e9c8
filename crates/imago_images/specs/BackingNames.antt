-- What the name of a backing file in a qcow2 header stands for: a file, or something that is
-- reached by a protocol.
-- SPDX-License-Identifier: MIT
use Rattle.std.specs.Prelude.{ℕ, Bool, true, false, List, [], ◌∷◌, Option, Some, None}
use Rattle.std.specs.Prelude.{codes, drop, nat_eq, if◌then◌else◌}
use Rattle.std.specs.List.{starts_with}

-- a name with a colon (58) before its first slash (47) begins with a protocol
unfoldable pub names_protocol : List ℕ → Bool
names_protocol [] = false
names_protocol (c ∷ rest) =
    if nat_eq c 47 then false else (if nat_eq c 58 then true else names_protocol rest)

-- the name of the file that a name stands for, if it stands for one: what is behind `file:`, or the
-- name itself, unless it begins with a protocol
unfoldable pub file_named : List ℕ → Option (List ℕ)
file_named name =
    if starts_with nat_eq name (codes "file:") then Some (drop 5 name) else
    (if names_protocol name then None else Some name)
