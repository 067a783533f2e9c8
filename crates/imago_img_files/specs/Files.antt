-- The files of a host: what is told of them, and what making one does to them.
-- SPDX-License-Identifier: MIT
use Rattle.std.specs.Prelude.{◌≡◌, ◌≢◌, ◌⊎◌, ℕ, ◌+◌, ◌-◌, Bool, true, false, ◌||◌}
use Rattle.std.specs.Prelude.{List, [], ◌++◌, Option, Some, None, drop, length, replicate, take}
use Rattle.std.specs.Prelude.{IfSome}
use Rattle.std.specs.Str.{bytes_eq}

-- What is told of files beside their bytes: which paths lead to something, how many files are
-- begun, and neither finished nor abandoned, under which path one is made that is to have another
-- path, and which paths lead to a file that QEMU holds.
pub record Around : Type 0 where
  pub there : List ℕ → Bool
  pub unfinished : ℕ
  pub beside : List ℕ → List ℕ
  pub held : List ℕ → Bool

-- one more file is begun, which has no path yet
abbrev pub begun : Around → Around
begun a = record a { unfinished = a.unfinished + 1 }

-- one fewer is
abbrev pub ended : Around → Around
ended a = record a { unfinished = a.unfinished - 1 }

-- a file has that path
abbrev pub with_file : List ℕ → Around → Around
with_file path a = record a { there = λ other. bytes_eq path other || a.there other }

-- If QEMU holds the file of a path, something is so, where that is told.
abbrev pub IfHeld : Option Around → List ℕ → Type 0 → Type 0
IfHeld around path Then = IfSome around (λ a. a.held path ≡ true → Then)

-- QEMU doesn't hold it, where that is told
abbrev pub IsUnheld : Option Around → List ℕ → Type 0
IsUnheld around path = IfSome around (λ a. a.held path ≡ false)

-- The file of that path is gone, and all others are as they were.
pub record IsGone (old new : List ℕ → List ℕ) (before after : Around) (gone : List ℕ) : Type 0 where
  pub free : after.there gone ≡ false
  pub empty : new gone ≡ []
  pub others : (other : List ℕ) → other ≢ gone → new other ≡ old other
  pub still_there : (other : List ℕ) → other ≢ gone → after.there other ≡ before.there other
  pub unfinished : after.unfinished ≡ before.unfinished
  pub beside : after.beside ≡ before.beside
  pub held : after.held ≡ before.held

-- The unfinished file is gone that a copy to that path left, and all others are as they were, where
-- that is told. Which file it is follows from what is told of files beside their bytes.
abbrev pub IsWithoutLeftOver :
    Option (List ℕ → List ℕ) → Option (List ℕ → List ℕ) → Option Around → Option Around → List ℕ
    → Type 0
IsWithoutLeftOver None new before after path = Unit {0}
IsWithoutLeftOver (Some old) new None after path =
    (files : List ℕ → List ℕ) × (gone : List ℕ) × (new ≡ Some files) × (after ≡ None)
    × ((other : List ℕ) → other ≢ gone → files other ≡ old other)
IsWithoutLeftOver (Some old) new (Some before) after path =
    (files : List ℕ → List ℕ) × (now : Around) × (new ≡ Some files) × (after ≡ Some now)
    × IsGone old files before now (before.beside path)

-- Something is so of all files as they are. If the file of the path may be replaced, it is so of
-- them as they are, or without the unfinished file that a copy to that path left; and then that one
-- might be removed.
abbrev pub IsSoOnceCleared :
    Bool → Option (List ℕ → List ℕ) → Option Around → List ℕ → Type 0
    → (Option (List ℕ → List ℕ) → Option Around → Type 0) → Type 0
IsSoOnceCleared false files around path Might IsSo = IsSo files around
IsSoOnceCleared true files around path Might IsSo = IsSo files around
    ⊎ (Might × ((cleared : Option (List ℕ → List ℕ)) × (left : Option Around)
    × IsWithoutLeftOver files cleared around left path × IsSo cleared left))

-- A file of that path has those bytes now, and all others have what they had, where that is told.
abbrev pub IsMade : Option (List ℕ → List ℕ) → Option (List ℕ → List ℕ) → List ℕ → Option (List ℕ)
    → Type 0
IsMade None new path bytes = Unit {0}
IsMade (Some old) new path None = Unit {0}
IsMade (Some old) new path (Some bytes) =
    (files : List ℕ → List ℕ) × (new ≡ Some files) × (files path ≡ bytes)
    × ((other : List ℕ) → other ≢ path → files other ≡ old other)

-- as many bytes were put into a file as it was begun for, where both are told
abbrev pub IsWhole : Option (List ℕ × ℕ) → Option (List ℕ) → Type 0
IsWhole None bytes = Unit {0}
IsWhole (Some made) None = Unit {0}
IsWhole (Some made) (Some bytes) = length bytes ≡ made.1

-- Bytes were put over the first ones of the file of a path, which has at least as many; it and all
-- other files else have what they had, where that is told.
abbrev pub IsOverwritten :
    Option (List ℕ → List ℕ) → Option (List ℕ → List ℕ) → List ℕ → Option (List ℕ) → Type 0
IsOverwritten None new path bytes = Unit {0}
IsOverwritten (Some old) new path None = Unit {0}
IsOverwritten (Some old) new path (Some bytes) =
    (files : List ℕ → List ℕ) × (new ≡ Some files)
    × (files path ≡ bytes ++ drop (length bytes) (old path))
    × ((other : List ℕ) → other ≢ path → files other ≡ old other)

-- bytes, cut at a length or with zeroes behind them up to it
abbrev pub with_length : ℕ → List ℕ → List ℕ
with_length size bytes = take size bytes ++ replicate (size - length bytes) 0

-- The file of a path was cut at a length, or has zeroes behind its bytes up to it; all other files
-- have what they had, where that is told.
abbrev pub IsResized :
    Option (List ℕ → List ℕ) → Option (List ℕ → List ℕ) → List ℕ → ℕ → Type 0
IsResized None new path size = Unit {0}
IsResized (Some old) new path size =
    (files : List ℕ → List ℕ) × (new ≡ Some files)
    × (files path ≡ with_length size (old path))
    × ((other : List ℕ) → other ≢ path → files other ≡ old other)
