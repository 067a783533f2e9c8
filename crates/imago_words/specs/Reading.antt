-- What the words behind a command's name are, by the options of the command.
-- SPDX-License-Identifier: MIT
use Rattle.std.specs.Prelude.{◌∷◌, ◌++◌, ℕ, Bool, true, false, List, [], Option, Some, None, map}
use Rattle.std.specs.Prelude.{if◌then◌else◌, ◌==◌, ◌&&◌, ◌||◌, codes, nat_lt, not, find, length}
use Rattle.std.specs.Prelude.{option_and_then, option_map, is_some}
use Rattle.std.specs.List.{list_any, position_or_len, before_first, after_first}
use Rattle.std.specs.Str.{bytes_eq}
use Rattle.imago_words.specs.declared.row.Row.{Row}
use Rattle.imago_words.specs.declared.words.Given.{Given}
use Rattle.imago_words.specs.declared.words.Words.{Words}

abbrev pub Text : Type 0
Text = List ℕ

abbrev pub is_empty : Text → Bool
is_empty text = length text == 0

-- An option: what the code calls it, its letter and its name, which are empty where it has none,
-- and whether it takes a value.
pub record Known : Type 0 where
  pub key : Text
  pub letter : Text
  pub name : Text
  pub takes_value : Bool

abbrev pub known : Row → Known
known r = record {
  key = r.key.now;
  letter = r.letter.now;
  name = r.name.now;
  takes_value = not (is_empty r.value.now);
}

-- What was read so far: the option that waits for its value, whether `--` was met, the options with
-- their values, the files.
pub record State : Type 0 where
  pub waiting : Option Known
  pub only_files : Bool
  pub given : List (Known × Text)
  pub files : List Text

-- an option that was given, with its value
abbrev pub shown : Given → Known × Text
shown g = (known g.row, g.value.now)

abbrev pub state_of : Words → State
state_of w = record {
  waiting = option_map known w.waiting;
  only_files = w.only_files;
  given = map shown w.given.items;
  files = map (λ f. f.now) w.files.items;
}

abbrev pub nothing_read : State
nothing_read = record { waiting = None; only_files = false; given = []; files = [] }

-- the first option whose name is the same text
abbrev pub same_name : List Known → Text → Option Known
same_name options name = find (λ o. bytes_eq o.name name) options

-- the first option of that name, which is written without its dashes; an option that has a letter
-- alone isn't found by its empty name
abbrev pub option_named : List Known → Text → Option Known
option_named options name = if is_empty name then None else same_name options name

-- the first option of that letter
abbrev pub option_of_letter : List Known → Text → Option Known
option_of_letter options letter = find (λ o. bytes_eq o.letter letter) options

-- the option is given, with that value
abbrev pub with_given : Known → Text → State → State
with_given o value s = record s { given = s.given ++ (o, value) ∷ [] }

abbrev pub with_file : Text → State → State
with_file f s = record s { files = s.files ++ f ∷ [] }

-- an option that is typed without a value waits for one, where it takes one
abbrev pub alone : Known → State → State
alone o s = if o.takes_value then record s { waiting = Some o } else with_given o [] s

-- an option with what stands behind it in its word
abbrev pub valued : Known → Text → State → Option State
valued o value s = if o.takes_value then Some (with_given o value s) else None

-- what stands before and after the first byte of that value, where there is one
abbrev pub cut_at : ℕ → Text → Option (Text × Text)
cut_at c text = if nat_lt (position_or_len (λ b. b == c) text) (length text) then Some
    (before_first (λ b. b == c) text, after_first (λ b. b == c) text) else None

-- `NAME` or `NAME=VALUE`, behind two dashes
abbrev pub named_by : List Known → Text → Option (Text × Text) → State → Option State
named_by options word None s = option_and_then (λ o. Some (alone o s)) (option_named options word)
named_by options word (Some parts) s =
    option_and_then (λ o. valued o parts.1 s) (option_named options parts.0)

abbrev pub named : List Known → Text → State → Option State
named options word s = named_by options word (cut_at 61 word) s

-- an option by its letter, with what stands behind it in its word
abbrev pub valued_letter : Known → Text → State → State
valued_letter o rest s = if is_empty rest then record s { waiting = Some o }
    else with_given o rest s

-- an option by its letter, and what `others` makes of the letters behind it
abbrev pub lettered : Option Known → Text → (State → Option State) → State → Option State
lettered None rest others s = None
lettered (Some o) rest others s = if o.takes_value
    then Some (valued_letter o rest s)
    else others (with_given o [] s)

-- `a`, `abc` or `aVALUE`, behind a dash; a letter is one byte
unfoldable pub letters : List Known → Text → State → Option State
letters options [] s = Some s
letters options (b ∷ rest) s = if nat_lt b 128
    then lettered (option_of_letter options (b ∷ [])) rest (letters options rest) s else None

-- the first letter of a text, where it is one byte, and what stands behind it
unfoldable pub first_letter : Text → Option (Text × Text)
first_letter [] = None
first_letter (b ∷ rest) = if nat_lt b 128 then Some (b ∷ [], rest) else None

-- what stands behind the dash that a text begins with
abbrev pub behind_dash : Text → Option Text
behind_dash text = option_and_then (λ p. if bytes_eq p.0 (codes "-") then Some p.1 else None)
    (first_letter text)

-- the text begins with a digit
abbrev pub begins_number : Text → Bool
begins_number [] = false
begins_number (b ∷ rest) = nat_lt 47 b && nat_lt b 58

abbrev pub twice_dashed : List Known → Option Text → Text → State → Option State
twice_dashed options None rest s = letters options rest s
twice_dashed options (Some name) rest s =
    if is_empty name then Some (record s { only_files = true })
    else named options name s

-- a word, by what stands behind its dash: without one it is a file, and so are a dash alone and
-- what begins as a number does
abbrev pub dashed : List Known → Text → Option Text → State → Option State
dashed options word None s = Some (with_file word s)
dashed options word (Some rest) s = if is_empty rest || begins_number rest
    then Some (with_file word s) else twice_dashed options (behind_dash rest) rest s

-- a word, where no option waits
abbrev pub worded : List Known → Text → State → Option State
worded options word s = if s.only_files then Some (with_file word s)
    else dashed options word (behind_dash word) s

abbrev pub step_by : Option Known → List Known → Text → State → Option State
step_by (Some o) options word s = Some (with_given o word (record s { waiting = None }))
step_by None options word s = worded options word s

-- what one word adds
abbrev pub step : List Known → Text → State → Option State
step options word s = step_by s.waiting options word s

-- what the words add, where each is meant
unfoldable pub steps : List Known → List Text → State → Option State
steps options [] s = Some s
steps options (word ∷ words) s = option_and_then (steps options words) (step options word s)

abbrev pub whole : State → Option State
whole s = if is_some s.waiting then None else Some s

-- what the words are: nothing, where one is no option, or an option lacks its value
abbrev pub read_of : List Known → List Text → Option State
read_of options words = option_and_then whole (steps options words nothing_read)

-- an option was given, which the code calls by that key
abbrev pub is_key : Text → Known × Text → Bool
is_key key given = bytes_eq given.0.key key

abbrev pub was_given : Text → State → Bool
was_given key s = list_any (is_key key) s.given

-- the option of that key that was given last, where each one takes the place of the one before
abbrev pub last_of : Text → Option (Known × Text) → List (Known × Text) → Option (Known × Text)
last_of key found [] = found
last_of key found (given ∷ rest) = last_of key (if is_key key given then Some given else found) rest

abbrev pub last_given : Text → State → Option (Known × Text)
last_given key s = last_of key None s.given

-- the value that counts, where the option was given
abbrev pub value_given : Text → State → Option Text
value_given key s = option_map (λ g. g.1) (last_given key s)
