-- SPDX-License-Identifier: MIT
use Rattle.std.specs.Prelude.{ℕ, List, ◌++◌, true, false, codes}
use Rattle.std.specs.Fmt.{decimal, digits}
use Rattle.imago_access.specs.declared.mapping.Mapping.{Mapping}
use Rattle.imago_access.specs.declared.mapping.Mapping.TheVariants as M

-- the text of a mapping, as `1/0:0x600/ro`, `<zero:explicit>` or `<special:1:0x200>`
abbrev pub mapping_text : Mapping → List ℕ
mapping_text (M.Raw layer storage offset true) = decimal layer ++
    (codes "/" ++ (decimal storage ++ (codes ":0x" ++ (digits 16 false offset ++ codes "/rw"))))
mapping_text (M.Raw layer storage offset false) = decimal layer ++
    (codes "/" ++ (decimal storage ++ (codes ":0x" ++ (digits 16 false offset ++ codes "/ro"))))
mapping_text (M.Zero true) = codes "<zero:explicit>"
mapping_text (M.Zero false) = codes "<zero:unallocated>"
mapping_text M.Eof = codes "<eof>"
mapping_text (M.Special layer offset) = codes "<special:" ++
    (decimal layer ++ (codes ":0x" ++ (digits 16 false offset ++ codes ">")))
