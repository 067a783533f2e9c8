-- The text by which QEMU sees a VMDK descriptor.
-- SPDX-License-Identifier: MIT
use Rattle.std.specs.Prelude.{ℕ, Bool, false, List, [], ◌∷◌, codes, nat_eq, ◌&&◌, ◌||◌}
use Rattle.std.specs.Prelude.{length, nat_lt, if◌then◌else◌}
use Rattle.std.specs.List.{slice_split, list_all, starts_with}
use Rattle.std.specs.Str.{bytes_eq}
use Rattle.std.specs.Str.Lines.{strip_carriage_return}

-- A text as its lines, cut at each newline. What stands behind the last newline comes last, and is
-- no line, since it doesn't end.
abbrev pub lines_of : List ℕ → List (List ℕ)
lines_of text = slice_split (λ b. nat_eq b 10) text

-- there are only spaces, and one at least
abbrev pub is_spaces : List ℕ → Bool
is_spaces text = nat_lt 0 (length text) && list_all (λ b. nat_eq b 32) text

-- a comment begins with '#', and may have any bytes
abbrev pub is_comment : List ℕ → Bool
is_comment line = starts_with nat_eq line (codes "#")

-- Comments are passed over, and so are blank lines, which have a space at least. A carriage return
-- at the end of a line doesn't count.
abbrev pub is_passed_over : List ℕ → Bool
is_passed_over line = is_comment line || is_spaces (strip_carriage_return line)

-- a line is that of a version, and nothing else
abbrev pub is_version : List ℕ → Bool
is_version text = bytes_eq text (codes "version=1") || bytes_eq text (codes "version=2")
    || bytes_eq text (codes "version=3")

abbrev pub names_version : List ℕ → Bool
names_version line = is_version (strip_carriage_return line)

-- the first line that isn't passed over tells, if there is one
abbrev pub first_tells : List (List ℕ) → Bool
first_tells [] = false
first_tells (unended ∷ []) = false
first_tells (line ∷ next ∷ lines) =
    if is_passed_over line then first_tells (next ∷ lines) else names_version line

-- block/vmdk.c, vmdk_probe, for a text
abbrev pub sees_descriptor : List ℕ → Bool
sees_descriptor text = first_tells (lines_of text)
