-- What `-o` says of a new file.
-- SPDX-License-Identifier: MIT
use Rattle.std.specs.Prelude.{◌∷◌, ◌&&◌, ◌||◌, ◌==◌, ℕ, Bool, true, false, List, [], Option, Some}
use Rattle.std.specs.Prelude.{None, if◌then◌else◌, codes, option_and_then, option_map}
use Rattle.std.specs.List.{list_any, slice_split}
use Rattle.std.specs.Str.{bytes_eq}
use Rattle.imago_words.specs.declared.settings.Settings.{Settings}
use Rattle.imago_words.specs.declared.settings.Version.{Version}
use Rattle.imago_words.specs.declared.settings.Version.TheVariants.{Two, Three}
use Rattle.imago_words.specs.declared.settings.NewFormat.{NewFormat}
use Rattle.imago_words.specs.declared.settings.NewFormat.TheVariants.{Raw, Qcow2}
use Rattle.imago_words.specs.declared.settings.TargetFormat.{TargetFormat}
use Rattle.imago_words.specs.declared.settings.TargetFormat.TheVariants as Target
use Rattle.imago_words.specs.Reading.{Known, State, Text, cut_at, is_key, value_given, was_given}
use Rattle.imago_words.specs.Sizes.{size_of}

-- the settings of a file of which nothing is said: version 3, clusters of 64 KiB
abbrev pub plain : Settings
plain = record { version = Three; cluster_bits = 16; preallocated = false }

unfoldable pub version_named : Text → Option Version
version_named value =
    if bytes_eq value (codes "0.10") || bytes_eq value (codes "v2") then Some Two else
    if bytes_eq value (codes "1.1") || bytes_eq value (codes "v3") then Some Three else None

-- a cluster has 512 bytes to 2 MiB, a power of two
unfoldable pub bits_of : ℕ → Option ℕ
bits_of size =
    if size == 0x200 then Some 9 else
    if size == 0x400 then Some 10 else
    if size == 0x800 then Some 11 else
    if size == 0x1000 then Some 12 else
    if size == 0x2000 then Some 13 else
    if size == 0x4000 then Some 14 else
    if size == 0x8000 then Some 15 else
    if size == 0x10000 then Some 16 else
    if size == 0x20000 then Some 17 else
    if size == 0x40000 then Some 18 else
    if size == 0x80000 then Some 19 else
    if size == 0x100000 then Some 20 else
    if size == 0x200000 then Some 21 else None

unfoldable pub preallocation_named : Text → Option Bool
preallocation_named value = if bytes_eq value (codes "off") then Some false else
    if bytes_eq value (codes "metadata") then Some true else None

-- settings that take the one value that all new files have
unfoldable pub is_default : Text → Text → Bool
is_default name value =
    if bytes_eq name (codes "lazy_refcounts") || bytes_eq name (codes "extended_l2")
    then bytes_eq value (codes "off") else
    if bytes_eq name (codes "refcount_bits") then bytes_eq value (codes "16") else
    if bytes_eq name (codes "compression_type") then bytes_eq value (codes "zlib") else false

-- settings with another one of that name, where it takes the value
unfoldable pub set : Text → Text → Settings → Option Settings
set name value s =
    if bytes_eq name (codes "compat")
    then option_map (λ v. record s { version = v }) (version_named value) else
    if bytes_eq name (codes "cluster_size")
    then option_map (λ b. record s { cluster_bits = b }) (option_and_then bits_of (size_of value))
    else
    if bytes_eq name (codes "preallocation")
    then option_map (λ p. record s { preallocated = p }) (preallocation_named value) else
    if is_default name value then Some s else None

-- the same with `NAME=VALUE`
abbrev set_by : Option (Text × Text) → Settings → Option Settings
set_by None s = None
set_by (Some parts) s = set parts.0 parts.1 s

abbrev pub set_one : Text → Settings → Option Settings
set_one text s = set_by (cut_at 61 text) s

-- the same with several ones, of which a later one takes the place of an earlier one
abbrev pub set_all : List Text → Settings → Option Settings
set_all [] s = Some s
set_all (text ∷ texts) s = option_and_then (set_all texts) (set_one text s)

-- the parts of a text between its commas
abbrev pub texts_of : Text → List Text
texts_of text = slice_split (λ b. b == 44) text

-- what one option adds, of those that were given: only `-o` does
abbrev pub with_option : Known × Text → Settings → Option Settings
with_option given s =
    if is_key (codes "options") given then set_all (texts_of given.1) s else Some s

-- what all of them add, in the order in which they were given
abbrev pub with_options : List (Known × Text) → Settings → Option Settings
with_options [] s = Some s
with_options (given ∷ rest) s = option_and_then (with_options rest) (with_option given s)

-- the settings that all `-o` together give, where each setting is meant
abbrev settings_given : State → Option Settings
settings_given s = with_options s.given plain

-- a raw file has no settings
abbrev pub raw_format : State → Option NewFormat
raw_format s = if was_given (codes "options") s then None else Some Raw

abbrev pub qcow2_format : State → Option NewFormat
qcow2_format s = option_map Qcow2 (settings_given s)

-- the formats of files that commands make, by their names
unfoldable pub target_named : Text → Option TargetFormat
target_named name = if bytes_eq name (codes "raw") then Some Target.Raw else
    if bytes_eq name (codes "qcow2") then Some Target.Qcow2 else None

-- the one of the file that a command makes: raw, if nothing is said
abbrev target_by : Option Text → Option TargetFormat
target_by None = Some Target.Raw
target_by (Some name) = target_named name

abbrev pub target_format : State → Option TargetFormat
target_format s = target_by (value_given (codes "target-format") s)

-- the same with its settings
abbrev pub format_as : State → TargetFormat → Option NewFormat
format_as s Target.Raw = raw_format s
format_as s Target.Qcow2 = qcow2_format s

abbrev pub new_format : State → Option NewFormat
new_format s = option_and_then (format_as s) (target_format s)

-- one of the texts behind an `-o` asks which settings there are
unfoldable pub is_help : Text → Bool
is_help text = bytes_eq text (codes "help") || bytes_eq text (codes "?")

abbrev pub has_help : Text → Bool
has_help text = list_any is_help (texts_of text)

abbrev pub asks_help : Known × Text → Bool
asks_help given = is_key (codes "options") given && has_help given.1

abbrev pub asks_settings : State → Bool
asks_settings s = list_any asks_help s.given
