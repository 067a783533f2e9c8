-- Two command lines, what one of them asks for, and what holds of the options of each command.
-- SPDX-License-Identifier: MIT
use Rattle.std.specs.Prelude.{◌≡◌, ◌∷◌, ◌^◌, ◌&&◌, ◌||◌, Bool, true, false, List, [], Some, codes}
use Rattle.std.specs.Prelude.{map, not}
use Rattle.std.specs.List.{list_any}
use Rattle.std.specs.Str.{bytes_eq}
use Rattle.imago_words.specs.declared.command.Command.{Command}
use Rattle.imago_words.specs.declared.command.Command.TheVariants as Asked
use Rattle.imago_words.specs.declared.command.Convert.{Convert}
use Rattle.imago_words.specs.declared.format.Format.TheVariants.{Qcow2}
use Rattle.imago_words.specs.declared.settings.NewFormat.TheVariants.{Raw}
use Rattle.imago_words.specs.Reading.{Known, Text, is_empty}

abbrev pub worked_line : List Text
worked_line = codes "convert" ∷ codes "-pfqcow2" ∷ codes "a" ∷ codes "--tables=1G"
    ∷ codes "--force" ∷ codes "-1" ∷ []

-- `a`, a qcow2 image, is converted to the raw image `-1`, which may be there; tables take 1 GiB at
-- most, and the progress is shown
pub record IsWorkedConvert (c : Convert) : Type 0 where
  pub files : c.source.now ∷ c.target.now ∷ [] ≡ codes "a" ∷ codes "-1" ∷ []
  pub source_format : c.source_format ≡ Some Qcow2
  pub target_format : c.target_format ≡ Raw
  pub force : c.force ≡ true
  pub existing : c.existing ≡ false
  pub sparse : c.sparse ≡ true
  pub progress : c.progress ≡ true
  pub quiet : c.quiet ≡ false
  pub strict : c.opening.strict ≡ false
  pub allow_outside : c.opening.allow_outside ≡ false
  pub tables : c.opening.tables ≡ Some (2 ^ 30)

abbrev pub IsWorked : Command → Type 0
IsWorked (Asked.Convert c) = IsWorkedConvert c
IsWorked _ = ⊥

abbrev pub refused_line : List Text
refused_line = codes "compare" ∷ codes "-q" ∷ codes "a" ∷ codes "b" ∷ codes "--force" ∷ []

-- of the texts that aren't empty, no two are the same
abbrev pub all_differ : List Text → Bool
all_differ [] = true
all_differ (text ∷ rest) = (is_empty text || not (list_any (bytes_eq text) rest)) && all_differ rest

-- no two options have the same letter, name or key
abbrev pub options_differ : List Known → Bool
options_differ options = all_differ (map (λ o. o.letter) options)
    && (all_differ (map (λ o. o.name) options) && all_differ (map (λ o. o.key) options))
