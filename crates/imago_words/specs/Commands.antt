-- What the words behind a command's name ask of it.
-- SPDX-License-Identifier: MIT
use Rattle.std.specs.Prelude.{◌≡◌, ◌∷◌, ◌&&◌, ◌||◌, ◌==◌, ℕ, Bool, true, false, not, List, []}
use Rattle.std.specs.Prelude.{Option, Some, None, if◌then◌else◌, codes, is_some, length}
use Rattle.std.specs.Prelude.{option_and_then, unwrap_or}
use Rattle.std.specs.Str.{bytes_eq}
use Rattle.imago_words.specs.declared.command.Backing.{Backing}
use Rattle.imago_words.specs.declared.command.Check.{Check}
use Rattle.imago_words.specs.declared.command.Compare.{Compare}
use Rattle.imago_words.specs.declared.command.Convert.{Convert}
use Rattle.imago_words.specs.declared.command.Create.{Create}
use Rattle.imago_words.specs.declared.command.Info.{Info}
use Rattle.imago_words.specs.declared.command.Map.{Map}
use Rattle.imago_words.specs.declared.command.Measure.{Measure}
use Rattle.imago_words.specs.declared.command.Measured.{Measured}
use Rattle.imago_words.specs.declared.command.Measured.TheVariants as M
use Rattle.imago_words.specs.declared.command.NewSize.{NewSize}
use Rattle.imago_words.specs.declared.command.Opening.{Opening}
use Rattle.imago_words.specs.declared.command.Output.{Output}
use Rattle.imago_words.specs.declared.command.Resize.{Resize}
use Rattle.imago_words.specs.declared.command.Vet.{Vet}
use Rattle.imago_words.specs.declared.command.Output.TheVariants.{Human, Json}
use Rattle.imago_words.specs.declared.format.Format.{Format}
use Rattle.imago_words.specs.declared.format.Format.TheVariants.{Raw, Vmdk, Qcow2}
use Rattle.imago_words.specs.declared.settings.NewFormat.{NewFormat}
use Rattle.imago_words.specs.declared.settings.NewFormat.TheVariants as New
use Rattle.imago_words.specs.Reading.{State, Text, value_given, was_given}
use Rattle.imago_words.specs.Settings.{new_format}
use Rattle.imago_words.specs.Sizes.{new_size_of, size_of}

-- an option's value passes a test, if the option was given
abbrev passes : (Text → Bool) → Option Text → Bool
passes test None = true
passes test (Some value) = test value

unfoldable pub format_named : Text → Option Format
format_named name = if bytes_eq name (codes "raw") then Some Raw else
    if bytes_eq name (codes "vmdk") then Some Vmdk else
    if bytes_eq name (codes "qcow2") then Some Qcow2 else None

-- the format that an option gives, and that its value is one
abbrev pub format_given : Text → State → Option Format
format_given key s = option_and_then format_named (value_given key s)

abbrev pub format_is_meant : Text → State → Bool
format_is_meant key s = passes (λ value. is_some (format_named value)) (value_given key s)

-- the size that an option gives, and that its value is one
abbrev pub size_given : Text → State → Option ℕ
size_given key s = option_and_then size_of (value_given key s)

abbrev pub size_is_meant : Text → State → Bool
size_is_meant key s = passes (λ value. is_some (size_of value)) (value_given key s)

unfoldable pub output_named : Text → Option Output
output_named name = if bytes_eq name (codes "human") then Some Human else
    if bytes_eq name (codes "json") then Some Json else None

-- `--json` beats `--output`; without both it is for people
abbrev pub output_given : State → Output
output_given s = if was_given (codes "json") s then Json else
    unwrap_or (option_and_then output_named (value_given (codes "output") s)) Human

abbrev pub output_is_meant : State → Bool
output_is_meant s =
    passes (λ value. is_some (output_named value)) (value_given (codes "output") s)

-- the file is the disk
abbrev pub is_raw : NewFormat → Bool
is_raw New.Raw = true
is_raw (New.Qcow2 settings) = false

abbrev makes_raw : Option NewFormat → Bool
makes_raw None = false
makes_raw (Some format) = is_raw format

-- only a raw image is written over a file that is there
abbrev pub existing_is_meant : State → Bool
existing_is_meant s = not (was_given (codes "existing") s) || makes_raw (new_format s)

-- the size is that of the blocks of zeroes that are left out as holes, or 0 where none are
abbrev is_hole_size : Option ℕ → Bool
is_hole_size None = false
is_hole_size (Some size) = size == 0 || size == 4096

abbrev pub sparse_is_meant : State → Bool
sparse_is_meant s = passes (λ value. is_hole_size (size_of value)) (value_given (codes "sparse") s)

-- zeroes are left out as holes, unless the size is given as 0
abbrev pub leaves_holes : State → Bool
leaves_holes s = not (unwrap_or (size_given (codes "sparse") s) 4096 == 0)

-- what is said of each image
abbrev pub opening_is_meant : State → Bool
opening_is_meant s = size_is_meant (codes "tables") s && size_is_meant (codes "max-size") s

-- What each field of a command is.
pub record IsOpening (s : State) (o : Opening) : Type 0 where
  pub strict : o.strict ≡ was_given (codes "strict") s
  pub allow_outside : o.allow_outside ≡ was_given (codes "allow-outside") s
  pub alone : o.alone ≡ was_given (codes "alone") s
  pub tables : o.tables ≡ size_given (codes "tables") s
  pub max_size : o.max_size ≡ size_given (codes "max-size") s

-- that of a command which opens no file but those that the command line names
pub record IsOpeningAlone (s : State) (o : Opening) : Type 0 where
  pub strict : o.strict ≡ was_given (codes "strict") s
  pub allow_outside : o.allow_outside ≡ false
  pub alone : o.alone ≡ true
  pub tables : o.tables ≡ size_given (codes "tables") s
  pub max_size : o.max_size ≡ size_given (codes "max-size") s

pub record IsInfo (s : State) (i : Info) : Type 0 where
  pub files : s.files ≡ i.file.now ∷ []
  pub format : i.format ≡ format_given (codes "format") s
  pub output : i.output ≡ output_given s
  pub backing_chain : i.backing_chain ≡ was_given (codes "backing-chain") s
  pub opening : IsOpening s i.opening

pub record IsMap (s : State) (m : Map) : Type 0 where
  pub files : s.files ≡ m.file.now ∷ []
  pub format : m.format ≡ format_given (codes "format") s
  pub output : m.output ≡ output_given s
  pub opening : IsOpening s m.opening

pub record IsCheck (s : State) (c : Check) : Type 0 where
  pub files : s.files ≡ c.file.now ∷ []
  pub format : c.format ≡ format_given (codes "format") s
  pub output : c.output ≡ output_given s
  pub opening : IsOpening s c.opening

pub record IsVet (s : State) (v : Vet) : Type 0 where
  pub files : s.files ≡ v.file.now ∷ []
  pub format : v.format ≡ format_given (codes "format") s
  pub output : v.output ≡ output_given s
  pub opening : IsOpeningAlone s v.opening

pub record IsCompare (s : State) (c : Compare) : Type 0 where
  pub files : s.files ≡ c.first.now ∷ c.second.now ∷ []
  pub first_format : c.first_format ≡ format_given (codes "format") s
  pub second_format : c.second_format ≡ format_given (codes "second-format") s
  pub same_size : c.same_size ≡ was_given (codes "same-size") s
  pub progress : c.progress ≡ was_given (codes "progress") s
  pub quiet : c.quiet ≡ was_given (codes "quiet") s
  pub opening : IsOpening s c.opening

pub record IsConvert (s : State) (c : Convert) : Type 0 where
  pub files : s.files ≡ c.source.now ∷ c.target.now ∷ []
  pub source_format : c.source_format ≡ format_given (codes "format") s
  pub target_format : new_format s ≡ Some c.target_format
  pub force : c.force ≡ was_given (codes "force") s
  pub existing : c.existing ≡ was_given (codes "existing") s
  pub sparse : c.sparse ≡ leaves_holes s
  pub progress : c.progress ≡ was_given (codes "progress") s
  pub quiet : c.quiet ≡ was_given (codes "quiet") s
  pub opening : IsOpening s c.opening

-- the file that is named first, and the word behind it
abbrev first_word : List Text → Option Text
first_word [] = None
first_word (word ∷ _) = Some word

abbrev second_word : List Text → Option Text
second_word [] = None
second_word (_ ∷ words) = first_word words

-- the size that a word is, if there is one, and that it is one
abbrev pub size_said : Option Text → Option ℕ
size_said word = option_and_then size_of word

abbrev pub word_is_size : Option Text → Bool
word_is_size word = passes (λ w. is_some (size_of w)) word

-- the layer below is one of a file and a format, or none is said
abbrev pub IsBacking : State → Option Backing → Type 0
IsBacking s None = (value_given (codes "backing") s ≡ None)
    × (value_given (codes "backing-format") s ≡ None)
IsBacking s (Some b) = (value_given (codes "backing") s ≡ Some b.file.now)
    × (format_given (codes "backing-format") s ≡ Some b.format)

abbrev is_backing : Option Text → Option Text → Bool
is_backing None None = true
is_backing (Some file) (Some name) = is_some (format_named name)
is_backing file name = false

abbrev pub backing_is_meant : State → Bool
backing_is_meant s =
    is_backing (value_given (codes "backing") s) (value_given (codes "backing-format") s)

-- a layer below is shown by the clusters that a qcow2 file leaves to it
abbrev pub goes_below : NewFormat → Bool
goes_below New.Raw = false
goes_below (New.Qcow2 settings) = not settings.preallocated

abbrev offers_below : Option NewFormat → Bool
offers_below None = false
offers_below (Some format) = goes_below format

abbrev below_is_meant : State → Bool
below_is_meant s = not (is_some (value_given (codes "backing") s)) || offers_below (new_format s)

pub record IsCreate (s : State) (c : Create) : Type 0 where
  pub target : first_word s.files ≡ Some c.target.now
  pub format : new_format s ≡ Some c.format
  pub backing : IsBacking s c.backing
  pub size : c.size ≡ size_said (second_word s.files)
  pub force : c.force ≡ was_given (codes "force") s
  pub quiet : c.quiet ≡ was_given (codes "quiet") s
  pub opening : IsOpening s c.opening

-- the disk is that of a file, or one of a size
abbrev pub IsMeasured : State → Measured → Type 0
IsMeasured s (M.File file) =
    (s.files ≡ file.now ∷ []) × (value_given (codes "size") s ≡ None)
IsMeasured s (M.Size size) = (s.files ≡ []) × (size_given (codes "size") s ≡ Some size)

abbrev is_measured : Option Text → List Text → Bool
is_measured None files = length files == 1
is_measured (Some size) files = is_some (size_of size) && (length files == 0)

abbrev pub measured_is_meant : State → Bool
measured_is_meant s = is_measured (value_given (codes "size") s) s.files

pub record IsMeasure (s : State) (m : Measure) : Type 0 where
  pub disk : IsMeasured s m.disk
  pub source_format : m.source_format ≡ format_given (codes "format") s
  pub target_format : new_format s ≡ Some m.target_format
  pub output : m.output ≡ output_given s
  pub opening : IsOpening s m.opening

-- the size that the second word asks for
abbrev new_size_said : Option Text → Option NewSize
new_size_said word = option_and_then new_size_of word

abbrev word_is_new_size : Option Text → Bool
word_is_new_size None = false
word_is_new_size (Some word) = is_some (new_size_of word)

pub record IsResize (s : State) (r : Resize) : Type 0 where
  pub file : first_word s.files ≡ Some r.file.now
  pub format : r.format ≡ format_given (codes "format") s
  pub size : new_size_said (second_word s.files) ≡ Some r.size
  pub shrink : r.shrink ≡ was_given (codes "shrink") s
  pub quiet : r.quiet ≡ was_given (codes "quiet") s

-- The words are meant: there are as many files as the command takes, and each value is one that its
-- option takes.
abbrev are_files : ℕ → State → Bool
are_files count s = length s.files == count

-- there is a file, and maybe a word behind it: a size, which has to be said where no layer below
-- has one
abbrev takes_word : State → Bool
takes_word s = are_files 1 s || are_files 2 s

abbrev size_behind_is_meant : Option Text → State → Bool
size_behind_is_meant word s =
    word_is_size word && (is_some word || is_some (value_given (codes "backing") s))

abbrev pub info_is_meant : State → Bool
info_is_meant s = are_files 1 s && (format_is_meant (codes "format") s
    && (output_is_meant s && opening_is_meant s))

abbrev pub pair_is_meant : State → Bool
pair_is_meant s = are_files 2 s && format_is_meant (codes "format") s

abbrev pub compare_is_meant : State → Bool
compare_is_meant s = pair_is_meant s
    && (format_is_meant (codes "second-format") s && opening_is_meant s)

abbrev pub copy_is_meant : State → Bool
copy_is_meant s = is_some (new_format s) && (existing_is_meant s && sparse_is_meant s)

abbrev pub convert_is_meant : State → Bool
convert_is_meant s = pair_is_meant s && (copy_is_meant s && opening_is_meant s)

abbrev pub new_disk_is_meant : Option Text → State → Bool
new_disk_is_meant word s = is_some (new_format s)
    && ((backing_is_meant s && below_is_meant s) && size_behind_is_meant word s)

abbrev pub create_is_meant : State → Bool
create_is_meant s = takes_word s
    && (new_disk_is_meant (second_word s.files) s && opening_is_meant s)

abbrev pub measure_is_meant : State → Bool
measure_is_meant s = measured_is_meant s && (format_is_meant (codes "format") s
    && (is_some (new_format s) && (output_is_meant s && opening_is_meant s)))

abbrev pub resize_is_meant : State → Bool
resize_is_meant s = are_files 2 s && (word_is_new_size (second_word s.files)
    && format_is_meant (codes "format") s)
