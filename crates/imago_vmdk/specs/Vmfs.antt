-- Which lines of a descriptor are VMFS extents, whatever is accepted.
-- SPDX-License-Identifier: MIT
use Rattle.std.specs.Prelude.{ℕ, Bool, true, false, ◌&&◌, ◌||◌, List, [], ◌∷◌, Option, Some, None}
use Rattle.std.specs.Prelude.{◌==◌, if◌then◌else◌, codes, slice_index}
use Rattle.std.specs.Str.{trim}
use Rattle.imago_vmdk.specs.Text.{utf8_of, words_of, number_of, is_text}
use Rattle.imago_vmdk.specs.declared.line.Access.{Access}
use Rattle.imago_vmdk.specs.Line.{access_of}

-- an extent that begins with this word may be read, so that its type counts
abbrev pub has_type : Option Access → Bool
has_type None = false
has_type (Some Access.NoAccess) = false
has_type (Some Access.ReadOnly) = true
has_type (Some Access.ReadWrite) = true

-- the word is a number of sectors
abbrev pub is_count : Option ℕ → Bool
is_count None = false
is_count (Some n) = true

-- an extent whose type is VMFS, by its words: what may be done with it, its length, its type
unfoldable pub are_vmfs_words : List (List ℕ) → Bool
are_vmfs_words [] = false
are_vmfs_words (first ∷ []) = false
are_vmfs_words (first ∷ sectors ∷ []) = false
are_vmfs_words (first ∷ sectors ∷ type ∷ words) =
    (has_type (access_of first) && is_count (number_of 64 sectors)) && is_text type (codes "VMFS")

-- a text is such an extent, and no comment
abbrev pub is_vmfs_text : Option (List ℕ) → Bool
is_vmfs_text None = false
is_vmfs_text (Some text) = if slice_index (trim text) 0 == 35 then false else
    are_vmfs_words (words_of (trim text))

-- a line is a VMFS extent
unfoldable pub is_vmfs_line : List ℕ → Bool
is_vmfs_line line = is_vmfs_text (utf8_of line)

-- one of the lines is
abbrev pub has_vmfs_line : List (List ℕ) → Bool
has_vmfs_line [] = false
has_vmfs_line (line ∷ lines) = is_vmfs_line line || has_vmfs_line lines
