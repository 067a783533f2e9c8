-- Which paths a confined host is asked for.
-- SPDX-License-Identifier: MIT
use Rattle.std.specs.Prelude.{◌≡◌, ℕ, ◌||◌, Bool, true, false, List}
use Rattle.std.specs.Str.{bytes_eq}
use Rattle.imago_images.specs.declared.confined.Reach.{Reach}
use Rattle.imago_images.specs.declared.confined.Reach.TheVariants as R

-- whether the file of a path is opened and read
abbrev pub is_read : Reach → List ℕ → Bool
is_read R.Nothing path = false
is_read (R.File file) path = bytes_eq path file.now
is_read (R.Files first second) path = bytes_eq path first.now || bytes_eq path second.now
is_read (R.Copy source target) path = bytes_eq path source.now
is_read (R.Fresh target) path = false
is_read R.Reading path = true
is_read (R.ReadingInto target) path = true

-- whether a path is written to: a new file gets it, or the one that is there is changed
abbrev pub is_made : Reach → List ℕ → Bool
is_made R.Nothing path = false
is_made (R.File file) path = false
is_made (R.Files first second) path = false
is_made (R.Copy source target) path = bytes_eq path target.now
is_made (R.Fresh target) path = bytes_eq path target.now
is_made R.Reading path = false
is_made (R.ReadingInto target) path = bytes_eq path target.now

-- whether a path is looked at: it is read, or written to
abbrev pub is_seen : Reach → List ℕ → Bool
is_seen reach path = is_read reach path || is_made reach path

-- Each path of a reach is one of these.
abbrev pub AreAmong : (List ℕ → Bool) → (List ℕ → Bool) → Type 0
AreAmong inner outer = (path : List ℕ) → inner path ≡ true → outer path ≡ true
