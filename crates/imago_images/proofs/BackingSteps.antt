-- Names that begin with a protocol, and names of files, step by step.
-- SPDX-License-Identifier: MIT
use Rattle.std.proofs.Common.{◌≡◌, ℕ, ◌+◌, ◌<◌, ◌≤◌, Bool, true, false, List, ◌∷◌, Some, None, length, drop, get_or, sym, ap, ◌∙◌, subst}
use Rattle.std.specs.Prelude.{codes, nat_eq, if◌then◌else◌}
use Rattle.std.specs.List.{starts_with}
use Rattle.std.specs.Str.Pattern.{FindsTextPrefix, StripsPrefix}
use Rattle.std.specs.Str.{IsCharBoundary}
use Rattle.std.proofs.lemmas.List.{drop_more}
use Rattle.std.proofs.lemmas.Bool.{ne_eqb}
use Rattle.std.proofs.lemmas.Str.Pattern.{starts_text}
use Rattle.std.proofs.Math.ListN.{drop_of_length-le}
use Rattle.imago_images.specs.BackingNames.{names_protocol, file_named}

-- at a slash, at a colon, and at any other character
pub at_slash :
    (xs : List ℕ) (i : ℕ) → i < length xs → get_or xs i 0 ≡ 47 → names_protocol (drop i xs) ≡ false
unfolding names_protocol
at_slash xs i inside is =
    ap names_protocol (drop_more xs i 0 inside) ∙ ap (λ c. names_protocol (c ∷ drop (i + 1) xs)) is

pub at_colon :
    (xs : List ℕ) (i : ℕ) → i < length xs → get_or xs i 0 ≡ 58 → names_protocol (drop i xs) ≡ true
unfolding names_protocol
at_colon xs i inside is =
    ap names_protocol (drop_more xs i 0 inside) ∙ ap (λ c. names_protocol (c ∷ drop (i + 1) xs)) is

passed :
    (c : ℕ) (rest : List ℕ) → nat_eq c 47 ≡ false → nat_eq c 58 ≡ false
    → names_protocol (c ∷ rest) ≡ names_protocol rest
unfolding names_protocol
passed c rest slash colon =
    ap (λ b. if b then false else (if nat_eq c 58 then true else names_protocol rest)) slash
    ∙ ap (λ b. if b then true else names_protocol rest) colon

pub at_other :
    (xs : List ℕ) (i : ℕ) → i < length xs → (get_or xs i 0 ≡ 47 → ⊥) → (get_or xs i 0 ≡ 58 → ⊥)
    → names_protocol (drop i xs) ≡ names_protocol (drop (i + 1) xs)
at_other xs i inside slash colon =
    ap names_protocol (drop_more xs i 0 inside)
    ∙ passed (get_or xs i 0) (drop (i + 1) xs) (ne_eqb (get_or xs i 0) 47 slash) (ne_eqb (get_or xs i 0) 58 colon)

-- behind the last character
pub at_end : (xs : List ℕ) (i : ℕ) → length xs ≤ i → names_protocol (drop i xs) ≡ false
unfolding names_protocol
at_end xs i past = ap names_protocol (drop_of_length-le xs past)

-- what a name stands for that begins with `file:`, and one that doesn't
by_start :
    (name : List ℕ) (starts : Bool) → starts_with nat_eq name (codes "file:") ≡ starts
    → file_named name ≡ (if starts then Some (drop 5 name) else (if names_protocol name then None else Some name))
unfolding file_named
by_start name starts is =
    ap (λ b. if b then Some (drop 5 name) else (if names_protocol name then None else Some name)) is

pub behind_file :
    (name rest : List ℕ) → StripsPrefix (FindsTextPrefix (codes "file:")) name rest
    → Some rest ≡ file_named name
behind_file name rest (n, found, is, len) =
    let starts : starts_with nat_eq name (codes "file:") ≡ true =
    sym (starts_text true (codes "file:") name (n, found, subst (λ k. IsCharBoundary name k) (sym found.0) found.2)) in
    ap Some (is ∙ ap (λ k. drop k name) found.0) ∙ sym (by_start name true starts)

pub without_file :
    (name : List ℕ) (protocol : Bool) → FindsTextPrefix (codes "file:") name None → protocol ≡ names_protocol name
    → (if protocol then None else Some name) ≡ file_named name
without_file name protocol none is =
    ap (λ b. if b then None else Some name) is
    ∙ sym (by_start name false (sym (starts_text false (codes "file:") name none)))
