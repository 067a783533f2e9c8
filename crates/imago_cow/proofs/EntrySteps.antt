-- SPDX-License-Identifier: MIT
use Rattle.std.proofs.Common.{suc, zero, ◌≡◌, ℕ, ◌≤◌, ◌++◌, ◌∷◌, List, length, take, replicate, ap, ◌∙◌, refl}
use Rattle.std.specs.Prelude.{map, slice_set}
use Rattle.std.proofs.lemmas.List.{map-set, map-append, take_all}

-- as many of one value stand for as many of what it stands for
pub map_replicated : {X Y : Type 0} (f : X → Y) (n : ℕ) (x : X) → map f (replicate n x) ≡ replicate n (f x)
map_replicated f zero x = refl
map_replicated f (suc n) x = ap (λ ys. f x ∷ ys) (map_replicated f n x)

-- a list of words after one of them was replaced
pub map_replaced : {X Y : Type 0} (f : X → Y) (xs : List X) (i : ℕ) (x : X) (y : Y) → f x ≡ y → map f (slice_set xs i x) ≡ slice_set (map f xs) i y
map_replaced f xs i x y e = map-set f xs i x ∙ ap (slice_set (map f xs) i) e

-- a list of words after as many of one value were added
pub map_grown : {X Y : Type 0} (f : X → Y) (xs : List X) (n k more : ℕ) (x : X) (y : Y) → f x ≡ y → length xs ≤ n → k ≡ more → map f (take n xs ++ replicate k x) ≡ map f xs ++ replicate more y
map_grown f xs n k more x y e h same =
    let t : take n xs ≡ xs = take_all n xs h in
    rw (t, same) (map-append f xs (replicate more x) ∙ ap (λ ys. map f xs ++ ys) (map_replicated f more x ∙ ap (replicate more) e))
