-- The options of each command. What an option is for, its key says; that of one that changes
-- nothing is read nowhere.
-- SPDX-License-Identifier: MIT
use Rattle.std.specs.Prelude.{◌∷◌, true, false, List, [], codes}
use Rattle.imago_words.specs.declared.kind.Kind.{Kind}
use Rattle.imago_words.specs.declared.kind.Kind.TheVariants.{Info, Map, Check, Vet}
use Rattle.imago_words.specs.declared.kind.Kind.TheVariants.{Compare, Convert}
use Rattle.imago_words.specs.declared.kind.Kind.TheVariants.{Create, Measure, Resize}
use Rattle.imago_words.specs.Reading.{Known, Text}

-- an option by its key, letter and name, which takes no value
abbrev flag : Text → Text → Text → Known
flag key letter name = record { key = key; letter = letter; name = name; takes_value = false }

-- an option that takes a value
abbrev valued : Text → Text → Text → Known
valued key letter name = record { key = key; letter = letter; name = name; takes_value = true }

abbrev pub info_options : List Known
info_options =
    valued (codes "format") (codes "f") (codes "format")
    ∷ valued (codes "output") [] (codes "output")
    ∷ flag (codes "json") [] (codes "json")
    ∷ flag (codes "backing-chain") [] (codes "backing-chain")
    ∷ flag (codes "force-share") (codes "U") (codes "force-share")
    ∷ valued (codes "tables") [] (codes "tables")
    ∷ valued (codes "max-size") [] (codes "max-size")
    ∷ flag (codes "strict") [] (codes "strict")
    ∷ flag (codes "allow-outside") [] (codes "allow-outside")
    ∷ flag (codes "alone") [] (codes "alone")
    ∷ flag (codes "help") (codes "h") (codes "help")
    ∷ flag (codes "version") (codes "V") (codes "version")
    ∷ []

abbrev pub map_options : List Known
map_options =
    valued (codes "format") (codes "f") (codes "format")
    ∷ valued (codes "output") [] (codes "output")
    ∷ flag (codes "json") [] (codes "json")
    ∷ flag (codes "force-share") (codes "U") (codes "force-share")
    ∷ valued (codes "tables") [] (codes "tables")
    ∷ valued (codes "max-size") [] (codes "max-size")
    ∷ flag (codes "strict") [] (codes "strict")
    ∷ flag (codes "allow-outside") [] (codes "allow-outside")
    ∷ flag (codes "alone") [] (codes "alone")
    ∷ flag (codes "help") (codes "h") (codes "help")
    ∷ flag (codes "version") (codes "V") (codes "version")
    ∷ []

abbrev pub check_options : List Known
check_options =
    valued (codes "format") (codes "f") (codes "format")
    ∷ valued (codes "output") [] (codes "output")
    ∷ flag (codes "json") [] (codes "json")
    ∷ flag (codes "force-share") (codes "U") (codes "force-share")
    ∷ valued (codes "source-cache") (codes "T") []
    ∷ valued (codes "tables") [] (codes "tables")
    ∷ valued (codes "max-size") [] (codes "max-size")
    ∷ flag (codes "strict") [] (codes "strict")
    ∷ flag (codes "allow-outside") [] (codes "allow-outside")
    ∷ flag (codes "alone") [] (codes "alone")
    ∷ flag (codes "help") (codes "h") (codes "help")
    ∷ flag (codes "version") (codes "V") (codes "version")
    ∷ []

abbrev pub vet_options : List Known
vet_options =
    valued (codes "format") (codes "f") (codes "format")
    ∷ valued (codes "output") [] (codes "output")
    ∷ flag (codes "json") [] (codes "json")
    ∷ flag (codes "force-share") (codes "U") (codes "force-share")
    ∷ valued (codes "tables") [] (codes "tables")
    ∷ valued (codes "max-size") [] (codes "max-size")
    ∷ flag (codes "strict") [] (codes "strict")
    ∷ flag (codes "alone") [] (codes "alone")
    ∷ flag (codes "help") (codes "h") (codes "help")
    ∷ flag (codes "version") (codes "V") (codes "version")
    ∷ []

abbrev pub compare_options : List Known
compare_options =
    valued (codes "format") (codes "f") []
    ∷ valued (codes "second-format") (codes "F") []
    ∷ flag (codes "same-size") (codes "s") []
    ∷ flag (codes "progress") (codes "p") []
    ∷ flag (codes "quiet") (codes "q") (codes "quiet")
    ∷ flag (codes "force-share") (codes "U") (codes "force-share")
    ∷ valued (codes "source-cache") (codes "T") []
    ∷ valued (codes "tables") [] (codes "tables")
    ∷ valued (codes "max-size") [] (codes "max-size")
    ∷ flag (codes "strict") [] (codes "strict")
    ∷ flag (codes "allow-outside") [] (codes "allow-outside")
    ∷ flag (codes "alone") [] (codes "alone")
    ∷ flag (codes "help") (codes "h") (codes "help")
    ∷ flag (codes "version") (codes "V") (codes "version")
    ∷ []

abbrev pub convert_options : List Known
convert_options =
    valued (codes "format") (codes "f") []
    ∷ valued (codes "target-format") (codes "O") []
    ∷ valued (codes "options") (codes "o") []
    ∷ flag (codes "force") [] (codes "force")
    ∷ flag (codes "existing") (codes "n") []
    ∷ valued (codes "sparse") (codes "S") []
    ∷ flag (codes "progress") (codes "p") []
    ∷ flag (codes "quiet") (codes "q") (codes "quiet")
    ∷ flag (codes "force-share") (codes "U") (codes "force-share")
    ∷ valued (codes "cache") (codes "t") []
    ∷ valued (codes "source-cache") (codes "T") []
    ∷ valued (codes "requests") (codes "m") []
    ∷ flag (codes "out-of-order") (codes "W") []
    ∷ flag (codes "copy-range") (codes "C") []
    ∷ valued (codes "rate") (codes "r") []
    ∷ valued (codes "tables") [] (codes "tables")
    ∷ valued (codes "max-size") [] (codes "max-size")
    ∷ flag (codes "strict") [] (codes "strict")
    ∷ flag (codes "allow-outside") [] (codes "allow-outside")
    ∷ flag (codes "alone") [] (codes "alone")
    ∷ flag (codes "help") (codes "h") (codes "help")
    ∷ flag (codes "version") (codes "V") (codes "version")
    ∷ []

abbrev pub create_options : List Known
create_options =
    valued (codes "target-format") (codes "f") []
    ∷ valued (codes "options") (codes "o") []
    ∷ valued (codes "backing") (codes "b") []
    ∷ valued (codes "backing-format") (codes "F") []
    ∷ flag (codes "force") [] (codes "force")
    ∷ flag (codes "quiet") (codes "q") (codes "quiet")
    ∷ valued (codes "tables") [] (codes "tables")
    ∷ valued (codes "max-size") [] (codes "max-size")
    ∷ flag (codes "strict") [] (codes "strict")
    ∷ flag (codes "allow-outside") [] (codes "allow-outside")
    ∷ flag (codes "alone") [] (codes "alone")
    ∷ flag (codes "help") (codes "h") (codes "help")
    ∷ flag (codes "version") (codes "V") (codes "version")
    ∷ []

abbrev pub measure_options : List Known
measure_options =
    valued (codes "format") (codes "f") []
    ∷ valued (codes "target-format") (codes "O") []
    ∷ valued (codes "options") (codes "o") []
    ∷ valued (codes "size") [] (codes "size")
    ∷ valued (codes "output") [] (codes "output")
    ∷ flag (codes "json") [] (codes "json")
    ∷ flag (codes "force-share") (codes "U") (codes "force-share")
    ∷ valued (codes "tables") [] (codes "tables")
    ∷ valued (codes "max-size") [] (codes "max-size")
    ∷ flag (codes "strict") [] (codes "strict")
    ∷ flag (codes "allow-outside") [] (codes "allow-outside")
    ∷ flag (codes "alone") [] (codes "alone")
    ∷ flag (codes "help") (codes "h") (codes "help")
    ∷ flag (codes "version") (codes "V") (codes "version")
    ∷ []

abbrev pub resize_options : List Known
resize_options =
    valued (codes "format") (codes "f") (codes "format")
    ∷ flag (codes "shrink") [] (codes "shrink")
    ∷ flag (codes "quiet") (codes "q") (codes "quiet")
    ∷ flag (codes "alone") [] (codes "alone")
    ∷ flag (codes "help") (codes "h") (codes "help")
    ∷ flag (codes "version") (codes "V") (codes "version")
    ∷ []

abbrev pub options_of : Kind → List Known
options_of Info = info_options
options_of Map = map_options
options_of Check = check_options
options_of Vet = vet_options
options_of Compare = compare_options
options_of Convert = convert_options
options_of Create = create_options
options_of Measure = measure_options
options_of Resize = resize_options
