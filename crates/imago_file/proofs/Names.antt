-- SPDX-License-Identifier: MIT
use Rattle.std.proofs.Common.{◌≡◌, ℕ, List, [], ◌∷◌, ◌++◌, Bool, true, false, ◌&&◌, refl}
use Rattle.std.proofs.lemmas.Slice.Eq.{bytes_eq-Decides}
use Rattle.std.specs.Str.{bytes_eq}
use Rattle.imago_file.specs.Names.{none_leads_out, parts_lie_below}

-- behind the folder's own parts
pub parts_behind : (folder rest : List (List ℕ)) → parts_lie_below folder (folder ++ rest) ≡ none_leads_out rest
parts_behind [] rest = refl
parts_behind (part ∷ parts) rest =
    let same : bytes_eq part part ≡ true = (bytes_eq-Decides part part).1 refl in
    rw same (parts_behind parts rest)

first_and : (b c : Bool) → (b ≡ true → c ≡ false) → (b && c) ≡ false
first_and true c h = h refl
first_and false c h = refl

parts_equal : (first part : List ℕ) (more parts rest : List (List ℕ)) → first ≡ part → parts ≡ more ++ rest → part ∷ parts ≡ first ∷ more ++ rest
parts_equal first part more parts rest p q = rw (p, q) refl

-- parts that don't begin with the folder's
pub parts_elsewhere : (folder parts : List (List ℕ)) → ((rest : List (List ℕ)) → parts ≡ folder ++ rest → ⊥) → parts_lie_below folder parts ≡ false
parts_elsewhere [] parts h = absurd (h parts refl)
parts_elsewhere (first ∷ more) [] h = refl
parts_elsewhere (first ∷ more) (part ∷ parts) h =
    first_and _ _ (λ same. parts_elsewhere more parts (λ rest e. h rest (parts_equal first part more parts rest ((bytes_eq-Decides first part).0 same) e)))
