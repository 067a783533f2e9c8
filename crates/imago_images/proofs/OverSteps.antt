-- What layers above one another show.
-- SPDX-License-Identifier: MIT
use Rattle.std.proofs.Common.{◌≡◌, ℕ, ◌&&◌, Bool, true, List, [], ◌∷◌, Option, Some, None, refl, sym, ap, ◌∙◌, subst, Box, Global}
use Rattle.imago_drivers.specs.Place.{Place, Stored, Zeroed, Special, Lower, Refused, End, Value, shown}
use Rattle.imago_drivers.specs.View.{View}
use Rattle.imago_access.specs.declared.access.FormatAccess.{FormatAccess, FormatAccess', out-FormatAccess, is-FormatAccess', back-FormatAccess-backing}
use Rattle.imago_access.specs.Chain.{driver, backing, unboxed, lent_image}
use Rattle.imago_access.proofs.Chains.{value_out, told_out}
use Rattle.imago_images.specs.Layers.{layers_value, tables_of}
use Rattle.imago_images.specs.Layers.{IsDriverOf, ShowsLayers}

-- a place shows the same over the same
same_shown : (f g : ℕ → Value) → ((q : ℕ) → f q ≡ g q) → (place : Place) → shown f place ≡ shown g place
same_shown f g h (Stored b s o w) = refl
same_shown f g h (Zeroed e) = refl
same_shown f g h (Special v o) = refl
same_shown f g h (Lower q w) = h q
same_shown f g h (Refused e) = refl
same_shown f g h End = refl

both : (a b : Bool) → a ≡ true → b ≡ true → (a && b) ≡ true
both a b h k = ap (λ (z : Bool). z && b) h ∙ k

module _ {D St : Type 0} (view : D → View St) (x : FormatAccess D) (inner : D) (size : ℕ) (place : ℕ → Place) where
  laid : (b : Option (FormatAccess D)) (layers : List (ℕ → Place))
      → driver x ≡ inner → backing x ≡ b → IsDriverOf view size place inner
      → (lent_image view b).tells_bytes ≡ true
      → ((q : ℕ) → (lent_image view b).at q ≡ layers_value layers q)
      → ShowsLayers view x size (place ∷ layers)
  laid b layers is under of told shows =
      let here : IsDriverOf view size place (driver x) = subst (λ (d : D). IsDriverOf view size place d) (sym is) of in (
        told_out view x ∙ both _ _ here.1 (ap (λ (o : Option (FormatAccess D)). (lent_image view o).tells_bytes) under ∙ told),
        here.0,
        (λ p. ap (λ (f : ℕ → Value). f p) (value_out view x)
            ∙ ap (λ (o : Option (FormatAccess D)). shown (lent_image view o).at ((view (driver x)).place p)) under
            ∙ same_shown (lent_image view b).at (layers_value layers) shows ((view (driver x)).place p)
            ∙ ap (shown (layers_value layers)) (here.2 p)),
      )

  pub alone_shows : driver x ≡ inner → backing x ≡ None → IsDriverOf view size place inner → ShowsLayers view x size (place ∷ [])
  alone_shows is under of = laid None [] is under of refl (λ q. refl)

  pub over_shows : (below : FormatAccess D) (rest : ℕ) (layers : List (ℕ → Place)) → driver x ≡ inner → backing x ≡ Some below → IsDriverOf view size place inner → ShowsLayers view below rest layers → ShowsLayers view x size (place ∷ layers)
  over_shows below rest layers is under of shows = laid (Some below) layers is under of shows.0 shows.2

module _ {D : Type 0} (tables : D → ℕ) where
  abbrev below_tables : Option (FormatAccess D) → List ℕ
  below_tables None = []
  below_tables (Some x) = tables_of tables x

  tables_back : (inner : D) (b : Option (Box (FormatAccess D) Global))
      → tables_of tables (FormatAccess' (back-FormatAccess-backing D b) inner) ≡ tables inner ∷ below_tables (unboxed b)
  tables_back inner None = refl
  tables_back inner (Some b) = refl

  pub tables_out : (x : FormatAccess D) → tables_of tables x ≡ tables (driver x) ∷ below_tables (backing x)
  tables_out x = ap (tables_of tables) (is-FormatAccess' x) ∙ tables_back (driver x) (out-FormatAccess D x).backing

  pub alone_tables : (x : FormatAccess D) (inner : D) → driver x ≡ inner → backing x ≡ None
      → tables_of tables x ≡ tables inner ∷ []
  alone_tables x inner is under =
      tables_out x ∙ ap (λ (d : D). tables d ∷ below_tables (backing x)) is
      ∙ ap (λ (b : Option (FormatAccess D)). tables inner ∷ below_tables b) under

  pub over_tables : (x below : FormatAccess D) (inner : D) → driver x ≡ inner → backing x ≡ Some below
      → tables_of tables x ≡ tables inner ∷ tables_of tables below
  over_tables x below inner is under =
      tables_out x ∙ ap (λ (d : D). tables d ∷ below_tables (backing x)) is
      ∙ ap (λ (b : Option (FormatAccess D)). tables inner ∷ below_tables b) under
