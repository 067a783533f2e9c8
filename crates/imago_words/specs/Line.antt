-- What a whole command line asks for, behind the program's name.
-- SPDX-License-Identifier: MIT
use Rattle.std.specs.Prelude.{◌≡◌, ◌∷◌, ◌||◌, ℕ, Bool, true, false, List, [], Option, Some, None}
use Rattle.std.specs.Prelude.{if◌then◌else◌, MatchOption, codes, is_some, option_map}
use Rattle.std.specs.Str.{bytes_eq}
use Rattle.imago_words.specs.declared.command.Command.{Command}
use Rattle.imago_words.specs.declared.command.Command.TheVariants as Asked
use Rattle.imago_words.specs.declared.kind.Kind.{Kind}
use Rattle.imago_words.specs.declared.kind.Kind.TheVariants.{Info, Map, Check, Vet}
use Rattle.imago_words.specs.declared.kind.Kind.TheVariants.{Compare, Convert}
use Rattle.imago_words.specs.declared.kind.Kind.TheVariants.{Create, Measure, Resize}
use Rattle.imago_words.specs.declared.refusal.Refusal.{Refusal}
use Rattle.imago_words.specs.Commands.{IsCheck, IsCompare, IsConvert, IsInfo, IsMap, IsVet}
use Rattle.imago_words.specs.Commands.{IsCreate, IsMeasure, IsResize}
use Rattle.imago_words.specs.Commands.{info_is_meant, compare_is_meant, convert_is_meant}
use Rattle.imago_words.specs.Commands.{create_is_meant, measure_is_meant, resize_is_meant}
use Rattle.imago_words.specs.Options.{options_of}
use Rattle.imago_words.specs.Reading.{State, Text, read_of, was_given}
use Rattle.imago_words.specs.Settings.{asks_settings, target_format}

unfoldable pub kind_named : Text → Option Kind
kind_named name = if bytes_eq name (codes "info") then Some Info else
    if bytes_eq name (codes "map") then Some Map else
    if bytes_eq name (codes "check") then Some Check else
    if bytes_eq name (codes "vet") then Some Vet else
    if bytes_eq name (codes "compare") then Some Compare else
    if bytes_eq name (codes "convert") then Some Convert else
    if bytes_eq name (codes "create") then Some Create else
    if bytes_eq name (codes "measure") then Some Measure else
    if bytes_eq name (codes "resize") then Some Resize else None

-- what a first word asks for that is no command's name
unfoldable pub answer_of : Text → Option Command
answer_of word =
    if bytes_eq word (codes "-h") || bytes_eq word (codes "--help") then Some (Asked.Help None) else
    if bytes_eq word (codes "-V") || bytes_eq word (codes "--version") then Some Asked.Version
    else None

-- what options of a command ask for in its place: `-h` beats `-V`
abbrev pub answer_given : Kind → State → Option Command
answer_given kind s = if was_given (codes "help") s then Some (Asked.Help (Some kind)) else
    if was_given (codes "version") s then Some Asked.Version else None

-- the words behind a command's name ask for that
abbrev pub IsOf : Kind → State → Command → Type 0
IsOf Info s (Asked.Info c) = IsInfo s c
IsOf Map s (Asked.Map c) = IsMap s c
IsOf Check s (Asked.Check c) = IsCheck s c
IsOf Vet s (Asked.Vet c) = IsVet s c
IsOf Compare s (Asked.Compare c) = IsCompare s c
IsOf Convert s (Asked.Convert c) = IsConvert s c
IsOf Create s (Asked.Create c) = IsCreate s c
IsOf Measure s (Asked.Measure c) = IsMeasure s c
IsOf Resize s (Asked.Resize c) = IsResize s c
IsOf _ s _ = ⊥

-- where `-o help` asks for it, the settings of a new file of the format that is named are told
abbrev pub IsToldOr : Bool → Kind → State → Command → Type 0
IsToldOr true kind s c = option_map Asked.Settings (target_format s) ≡ Some c
IsToldOr false kind s c = IsOf kind s c

-- help and the version beat that
abbrev pub IsBehind : Kind → State → Command → Type 0
IsBehind kind s c = MatchOption (answer_given kind s)
    (IsToldOr (asks_settings s) kind s c) (λ answer. c ≡ answer)

-- those words are meant
abbrev pub of_is_meant : Kind → State → Bool
of_is_meant Info s = info_is_meant s
of_is_meant Map s = info_is_meant s
of_is_meant Check s = info_is_meant s
of_is_meant Vet s = info_is_meant s
of_is_meant Compare s = compare_is_meant s
of_is_meant Convert s = convert_is_meant s
of_is_meant Create s = create_is_meant s
of_is_meant Measure s = measure_is_meant s
of_is_meant Resize s = resize_is_meant s

abbrev pub told_or_is_meant : Bool → Kind → State → Bool
told_or_is_meant true kind s = is_some (target_format s)
told_or_is_meant false kind s = of_is_meant kind s

abbrev pub behind_is_meant : Kind → State → Bool
behind_is_meant kind s = is_some (answer_given kind s)
    || told_or_is_meant (asks_settings s) kind s

-- the words behind the first one ask for that, by the options of the command that it names
abbrev pub IsNamed : Option Kind → List Text → Command → Type 0
IsNamed None words c = ⊥
IsNamed (Some kind) words c =
    MatchOption (read_of (options_of kind) words) ⊥ (λ s. IsBehind kind s c)

-- the words of a command line ask for that
abbrev pub Asks : List Text → Command → Type 0
Asks [] c = ⊥
Asks (first ∷ words) c =
    MatchOption (answer_of first) (IsNamed (kind_named first) words c) (λ answer. c ≡ answer)

abbrev is_meant_by : (State → Bool) → Option State → Bool
is_meant_by meant None = false
is_meant_by meant (Some s) = meant s

-- those words are meant
abbrev pub named_is_meant : Option Kind → List Text → Bool
named_is_meant None words = false
named_is_meant (Some kind) words =
    is_meant_by (behind_is_meant kind) (read_of (options_of kind) words)

abbrev pub line_is_meant : List Text → Bool
line_is_meant [] = false
line_is_meant (first ∷ words) = is_some (answer_of first) || named_is_meant (kind_named first) words

-- the exit status of a refusal: 2 for `compare`, whose 1 means that the disks differ
abbrev pub status_for : Option Kind → ℕ
status_for (Some Compare) = 2
status_for _ = 1

abbrev pub status_of : Refusal → ℕ
status_of r = status_for r.kind

-- the command that the first word names
abbrev pub kind_typed : List Text → Option Kind
kind_typed [] = None
kind_typed (first ∷ _) = kind_named first
