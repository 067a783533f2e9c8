-- The lines that tell where the bytes of a disk stand.
-- SPDX-License-Identifier: MIT
use Rattle.std.specs.Prelude.{ℕ, ◌-◌, List, [], ◌∷◌, ◌++◌, Option, None, Some}
use Rattle.std.specs.Prelude.{length, replicate, codes}
use Rattle.std.specs.Fmt.{decimal}
use Rattle.imago_img_disks.specs.declared.lines.LineKind.{LineKind}

-- a number in a column of twenty characters, and what parts it from the next column
abbrev pub column : ℕ → List ℕ
column n = decimal n ++ replicate (21 - length (decimal n)) 32

-- data, zeroes that a layer has, zeroes since no layer has anything, or compressed data
unfoldable pub kind_word : LineKind → List ℕ
kind_word LineKind.Data = codes "data"
kind_word LineKind.Zero = codes "zero"
kind_word LineKind.Absent = codes "absent"
kind_word LineKind.Compressed = codes "compressed"

-- where so many bytes stand in a file, if in one: its name, and from which offset on
abbrev pub place : Option (List ℕ × ℕ) → List ℕ
place None = []
place (Some (file, offset)) = codes " " ++ (column offset ++ file)

-- bytes from an offset on as a line of columns
abbrev pub line : ℕ → ℕ → LineKind → Option (List ℕ × ℕ) → List ℕ
line start count kind at =
    column start ++ (column count ++ (kind_word kind ++ (place at ++ (10 ∷ []))))

-- what JSON says of the same: whether a layer has it, whether it is 0, and whether it is data
unfoldable pub kind_members : LineKind → List ℕ
kind_members LineKind.Data = codes ", \"present\": true, \"zero\": false, \"data\": true"
kind_members LineKind.Zero = codes ", \"present\": true, \"zero\": true, \"data\": false"
kind_members LineKind.Absent = codes ", \"present\": false, \"zero\": true, \"data\": false"
kind_members LineKind.Compressed =
    codes ", \"present\": true, \"zero\": false, \"data\": true, \"compressed\": true"

-- where bytes stand in a file, as members of a JSON object
unfoldable pub members_in : List ℕ → ℕ → List ℕ
members_in file offset =
    codes ", \"offset\": " ++ (decimal offset ++ (codes ", \"filename\": " ++ file))

-- the same where they may stand in none
abbrev pub place_members : Option (List ℕ × ℕ) → List ℕ
place_members None = []
place_members (Some (file, offset)) = members_in file offset

-- bytes from an offset on, which a layer of that depth has, as a JSON object
abbrev pub object : ℕ → ℕ → ℕ → LineKind → Option (List ℕ × ℕ) → List ℕ
object start count depth kind at =
    codes "{ \"start\": " ++ (decimal start ++ (codes ", \"length\": " ++ (decimal count
    ++ (codes ", \"depth\": " ++ (decimal depth ++ (kind_members kind
    ++ (place_members at ++ codes "}")))))))
