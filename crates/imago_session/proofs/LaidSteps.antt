-- Layers that are laid on one another.
-- SPDX-License-Identifier: MIT
use Rattle.std.proofs.Common.{◌≡◌, ℕ, suc, ◌+◌, List, [], ◌∷◌, ◌++◌, length, length-append, Option, Some, None, Box, Global, refl, sym, subst, ap, ◌∙◌, arith}
use Rattle.imago_access.specs.declared.access.FormatAccess.{FormatAccess, out-FormatAccess, is-FormatAccess', back-FormatAccess-backing}
use Rattle.imago_access.specs.Chain.{driver, backing, unboxed}
use Rattle.imago_session.specs.declared.permitted.Permitted.{Permitted}
use Rattle.imago_session.specs.Files.{File, Layer, IsLayerOf, GoesDown, IsLowest, AreAbove, AreLayersOf, AreBelow, extent_names, names_in, names_below, layers_in, layers_below}

module _ (permitted : Permitted) where
  pub above_last : (files : ℕ → File) (ds : List Layer) (d : Layer) → AreAbove permitted files (ds ++ d ∷ [])
      → AreAbove permitted files ds × IsLayerOf permitted d (files (length ds)) × GoesDown d (files (length ds)).bytes
  above_last files [] d h = (tt, h.0, h.1)
  above_last files (x ∷ xs) d h = let r = above_last (λ (k : ℕ). files (suc k)) xs d h.2 in ((h.0, h.1, r.0), r.1, r.2)

  pub above_more : (files : ℕ → File) (ds : List Layer) (d : Layer) → AreAbove permitted files ds → IsLayerOf permitted d (files (length ds)) → GoesDown d (files (length ds)).bytes
      → AreAbove permitted files (ds ++ d ∷ [])
  above_more files [] d h s g = (s, g, tt)
  above_more files (x ∷ xs) d h s g = (h.0, h.1, above_more (λ (k : ℕ). files (suc k)) xs d h.2 s g)

  -- an image by its driver and what is below
  by_parts : (files : ℕ → File) (x : FormatAccess Layer) → IsLayerOf permitted (driver x) (files 0)
      → AreBelow permitted (λ (k : ℕ). files (suc k)) (driver x) (files 0).bytes (back-FormatAccess-backing Layer (out-FormatAccess Layer x).backing)
      → AreLayersOf permitted files x
  by_parts files x own below = subst (λ (y : FormatAccess Layer). AreLayersOf permitted files y) (sym (is-FormatAccess' x)) (own, below)

  none_below : (files : ℕ → File) (d : Layer) (bytes : List ℕ) (b : Option (Box (FormatAccess Layer) Global)) → unboxed b ≡ None → IsLowest d bytes
      → AreBelow permitted files d bytes (back-FormatAccess-backing Layer b)
  none_below files d bytes None e low = low
  none_below files d bytes (Some z) e low = let q : ⊥ = cc e in absurd q

  some_below : (files : ℕ → File) (d : Layer) (bytes : List ℕ) (y : FormatAccess Layer) (b : Option (Box (FormatAccess Layer) Global)) → unboxed b ≡ Some y → GoesDown d bytes → AreLayersOf permitted files y
      → AreBelow permitted files d bytes (back-FormatAccess-backing Layer b)
  some_below files d bytes y None e goes rest = let q : ⊥ = cc e in absurd q
  some_below files d bytes y (Some z) e goes rest = let q : z.value ≡ y = cc e in (goes, subst (λ (v : FormatAccess Layer). AreLayersOf permitted files v) (sym q) rest)

  -- the lowest layer
  pub laid_first : (files : ℕ → File) (n : ℕ) (x : FormatAccess Layer) (d : Layer) → driver x ≡ d → backing x ≡ None → IsLayerOf permitted d (files n) → IsLowest d (files n).bytes
      → AreLayersOf permitted (λ (k : ℕ). files (n + k)) x
  laid_first files n x d is none own low =
      let e : n ≡ n + 0 = omega arith in
      by_parts (λ (k : ℕ). files (n + k)) x
      (subst (λ (z : Layer). IsLayerOf permitted z (files (n + 0))) (sym is) (subst (λ (m : ℕ). IsLayerOf permitted d (files m)) e own))
      (none_below (λ (k : ℕ). files (n + suc k)) (driver x) (files (n + 0)).bytes (out-FormatAccess Layer x).backing none
      (subst (λ (z : Layer). IsLowest z (files (n + 0)).bytes) (sym is) (subst (λ (m : ℕ). IsLowest d (files m).bytes) e low)))

  -- a layer on others
  pub laid_more : (files : ℕ → File) (ds : List Layer) (d : Layer) (x y : FormatAccess Layer) → driver y ≡ d → backing y ≡ Some x
      → IsLayerOf permitted d (files (length ds)) → GoesDown d (files (length ds)).bytes → AreLayersOf permitted (λ (k : ℕ). files (length (ds ++ d ∷ []) + k)) x
      → AreLayersOf permitted (λ (k : ℕ). files (length ds + k)) y
  laid_more files ds d x y is on own goes rest =
      let e : length ds ≡ length ds + 0 = omega arith in
      let l : length (ds ++ d ∷ []) ≡ length ds + 1 = length-append ds (d ∷ []) in
      let far : (k : ℕ) → length (ds ++ d ∷ []) + k ≡ length ds + suc k = λ k. omega (arith, l) in
      by_parts (λ (k : ℕ). files (length ds + k)) y
      (subst (λ (z : Layer). IsLayerOf permitted z (files (length ds + 0))) (sym is) (subst (λ (m : ℕ). IsLayerOf permitted d (files m)) e own))
      (some_below (λ (k : ℕ). files (length ds + suc k)) (driver y) (files (length ds + 0)).bytes x (out-FormatAccess Layer y).backing on
      (subst (λ (z : Layer). GoesDown z (files (length ds + 0)).bytes) (sym is) (subst (λ (m : ℕ). GoesDown d (files m).bytes) e goes))
      (subst (λ (f : ℕ → File). AreLayersOf permitted f x) (λ i k. files (far k i)) rest))

  -- all of them
  pub laid_all : (files : ℕ → File) (ds : List Layer) (x : FormatAccess Layer) → ds ≡ [] → AreLayersOf permitted (λ (k : ℕ). files (length ds + k)) x → AreLayersOf permitted files x
  laid_all files ds x none h =
      let at : (k : ℕ) → length ds + k ≡ k = λ k. subst (λ (z : List Layer). length z + k ≡ k) (sym none) (omega arith) in
      subst (λ (f : ℕ → File). AreLayersOf permitted f x) (λ i k. files (at k i)) h

pub nil_of : (xs : List Layer) → length xs ≡ 0 → xs ≡ []
nil_of [] h = refl
nil_of (x ∷ xs) h = let z : ⊥ = omega (arith, h) in absurd z

-- the names and the count of layers, one laid on others
names_none : (files : ℕ → File) (own : List (List ℕ)) (b : Option (Box (FormatAccess Layer) Global)) → unboxed b ≡ None → names_below files own (back-FormatAccess-backing Layer b) ≡ own
names_none files own None e = refl
names_none files own (Some z) e = let q : ⊥ = cc e in absurd q

names_some : (files : ℕ → File) (own : List (List ℕ)) (y : FormatAccess Layer) (b : Option (Box (FormatAccess Layer) Global)) → unboxed b ≡ Some y → names_below files own (back-FormatAccess-backing Layer b) ≡ names_in files y
names_some files own y None e = let q : ⊥ = cc e in absurd q
names_some files own y (Some z) e = let q : z.value ≡ y = cc e in ap (names_in files) q

layers_none : (b : Option (Box (FormatAccess Layer) Global)) → unboxed b ≡ None → layers_below (back-FormatAccess-backing Layer b) ≡ 0
layers_none None e = refl
layers_none (Some z) e = let q : ⊥ = cc e in absurd q

layers_some : (y : FormatAccess Layer) (b : Option (Box (FormatAccess Layer) Global)) → unboxed b ≡ Some y → layers_below (back-FormatAccess-backing Layer b) ≡ layers_in y
layers_some y None e = let q : ⊥ = cc e in absurd q
layers_some y (Some z) e = let q : z.value ≡ y = cc e in ap layers_in q

pub names_first : (files : ℕ → File) (n : ℕ) (x : FormatAccess Layer) (d : Layer) → driver x ≡ d → backing x ≡ None → names_in (λ (k : ℕ). files (n + k)) x ≡ extent_names d (files n).bytes
names_first files n x d is none =
    let e : n + 0 ≡ n = omega arith in
    ap (names_in (λ (k : ℕ). files (n + k))) (is-FormatAccess' x)
    ∙ names_none (λ (k : ℕ). files (n + suc k)) (extent_names (driver x) (files (n + 0)).bytes) (out-FormatAccess Layer x).backing none
    ∙ ap (λ (z : Layer). extent_names z (files (n + 0)).bytes) is
    ∙ ap (λ (m : ℕ). extent_names d (files m).bytes) e

pub names_more : (files : ℕ → File) (ds : List Layer) (d : Layer) (x y : FormatAccess Layer) → backing y ≡ Some x → names_in (λ (k : ℕ). files (length ds + k)) y ≡ names_in (λ (k : ℕ). files (length (ds ++ d ∷ []) + k)) x
names_more files ds d x y on =
    let l : length (ds ++ d ∷ []) ≡ length ds + 1 = length-append ds (d ∷ []) in
    let far : (k : ℕ) → length ds + suc k ≡ length (ds ++ d ∷ []) + k = λ k. omega (arith, l) in
    ap (names_in (λ (k : ℕ). files (length ds + k))) (is-FormatAccess' y)
    ∙ names_some (λ (k : ℕ). files (length ds + suc k)) (extent_names (driver y) (files (length ds + 0)).bytes) x (out-FormatAccess Layer y).backing on
    ∙ (λ i. names_in (λ (k : ℕ). files (far k i)) x)

pub names_all : (files : ℕ → File) (ds : List Layer) (x : FormatAccess Layer) → ds ≡ [] → names_in files x ≡ names_in (λ (k : ℕ). files (length ds + k)) x
names_all files ds x none =
    let at : (k : ℕ) → k ≡ length ds + k = λ k. subst (λ (z : List Layer). k ≡ length z + k) (sym none) (omega arith) in
    λ i. names_in (λ (k : ℕ). files (at k i)) x

pub layers_first : (x : FormatAccess Layer) → backing x ≡ None → layers_in x ≡ 1
layers_first x none = ap layers_in (is-FormatAccess' x) ∙ ap (λ (n : ℕ). n + 1) (layers_none (out-FormatAccess Layer x).backing none)

pub layers_more : (x y : FormatAccess Layer) → backing y ≡ Some x → layers_in y ≡ layers_in x + 1
layers_more x y on = ap layers_in (is-FormatAccess' y) ∙ ap (λ (n : ℕ). n + 1) (layers_some x (out-FormatAccess Layer y).backing on)
