-- SPDX-License-Identifier: MIT
use Rattle.std.specs.Prelude.{ℕ, Bool, true, false, not, ◌&&◌, ◌||◌, List, [], ◌∷◌, unwrap_or}
use Rattle.std.specs.Str.{bytes_eq}
use Rattle.std.specs.Path.{root_dir, parent_dir, path_components, path_parent, path_join}

-- a part of a path that leads out of the folder that it is taken in: the root, or `..`
abbrev pub leads_out : List ℕ → Bool
leads_out part = bytes_eq part parent_dir || bytes_eq part root_dir

-- none of these parts does
abbrev pub none_leads_out : List (List ℕ) → Bool
none_leads_out [] = true
none_leads_out (part ∷ parts) = not (leads_out part) && none_leads_out parts

-- a name of a file in the folder that it is taken in, or below: by its text, whatever links are
-- there
abbrev pub stays_below : List ℕ → Bool
stays_below name = none_leads_out (path_components name)

-- the path that a name stands for which a file has: in that file's folder, unless it begins at the
-- root
abbrev pub path_beside : List ℕ → List ℕ → List ℕ
path_beside file name = path_join (unwrap_or (path_parent file) []) name

-- parts of a path that begin with those of a folder, and lead nowhere out of it behind them
abbrev pub parts_lie_below : List (List ℕ) → List (List ℕ) → Bool
parts_lie_below [] parts = none_leads_out parts
parts_lie_below (first ∷ more) [] = false
parts_lie_below (first ∷ more) (part ∷ parts) = bytes_eq first part && parts_lie_below more parts

-- a path of a file in that folder, or below: by its text, whatever links are there
abbrev pub lies_below : List ℕ → List ℕ → Bool
lies_below folder path = parts_lie_below (path_components folder) (path_components path)
