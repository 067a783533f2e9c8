-- What a command printed, where a writer tells what it was given.
-- SPDX-License-Identifier: MIT
use Rattle.std.specs.Prelude.{◌≡◌, ◌++◌, ℕ, List, codes, Bool, true, false, Option}
use Rattle.std.specs.Fmt.{decimal}
use Rattle.std.specs.Io.KnownBytes.{Appends}
use Rattle.imago_words.specs.declared.command.Output.{Output}
use Rattle.imago_words.specs.declared.command.Output.TheVariants.{Human, Json}
use Rattle.imago_images.specs.declared.format.ImageFormat.{ImageFormat}
use Rattle.imago_images.specs.Formats.{name_of}

-- a text of which that holds was put behind what a writer was given before
abbrev pub HasPrinted : (List ℕ → Type 0) → Option (List ℕ) → Option (List ℕ) → Type 0
HasPrinted P old new = (text : List ℕ) × Appends old new text × P text

-- any text
abbrev pub IsAnyText : List ℕ → Type 0
IsAnyText text = Unit {0}

-- whether a command prints JSON
abbrev pub is_json : Output → Bool
is_json Human = false
is_json Json = true

-- A format and a size in bytes, as lines, where the size is told in a unit too; or as two members of
-- a JSON object, each behind another one.
abbrev pub format_text : Bool → ImageFormat → ℕ → List ℕ → List ℕ
format_text false format size unit = codes "file format: " ++ (name_of format ++
    (codes "\nvirtual size: " ++ (unit ++ (codes " (" ++ (decimal size ++ codes " bytes)\n")))))
format_text true format size unit = codes ", \"format\": \"" ++ (name_of format ++
    (codes "\", \"virtual-size\": " ++ decimal size))

-- somewhere the text tells that format and that size
pub record TellsFormat (json : Bool) (format : ImageFormat) (size : ℕ) (text : List ℕ)
    : Type 0 where
  pub before : List ℕ
  pub unit : List ℕ
  pub behind : List ℕ
  pub whole : text ≡ before ++ (format_text json format size unit ++ behind)
