-- SPDX-License-Identifier: MIT
use Rattle.std.specs.Prelude.{ℕ, Bool, false, ◌&&◌, ◌||◌, List, [], ◌∷◌, map, length, Option, Some}
use Rattle.std.specs.Prelude.{None, if◌then◌else◌, codes}
use Rattle.std.specs.Str.{trim}
use Rattle.imago_vmdk.specs.Text.{utf8_of, lines_of, cut_at, number_of, is_text}
use Rattle.imago_vmdk.specs.Reading.{is_version, is_length, is_sparse}

-- the number is that of a known version
abbrev pub names_version : Option ℕ → Bool
names_version None = false
names_version (Some n) = is_version n

-- a line that names a version decides: whether that one is known
abbrev pub key_decides : Option (List ℕ × List ℕ) → Option Bool
key_decides None = None
key_decides (Some p) = if is_text (trim p.0) (codes "version") then Some
    (names_version (number_of 32 (trim p.1))) else None

-- one that isn't UTF-8 decides too: against
abbrev pub text_decides : Option (List ℕ) → Option Bool
text_decides None = Some false
text_decides (Some text) = key_decides (cut_at 61 text)

abbrev pub line_decides : List ℕ → Option Bool
line_decides bytes = text_decides (utf8_of bytes)

-- the first line that decides; none is against
abbrev pub first_answer : List (Option Bool) → Bool
first_answer [] = false
first_answer (None ∷ answers) = first_answer answers
first_answer (Some b ∷ answers) = b

unfoldable pub probe_lines : List (List ℕ) → Bool
probe_lines lines = first_answer (map line_decides lines)

-- whether bytes look like a VMDK image's
unfoldable pub probe_of : List ℕ → Bool
probe_of bytes = is_length (length bytes) && (is_sparse bytes || probe_lines (lines_of bytes))
