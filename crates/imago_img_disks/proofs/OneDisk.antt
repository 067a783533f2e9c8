-- The image of a path shows one disk, whatever opens it.
-- SPDX-License-Identifier: MIT
use Rattle.std.proofs.Common.{◌≡◌, ℕ, ◌<◌, ◌∷◌, [], List, Option, None, Some, Result, Ok, Err, ⊎_elim, refl, sym, ap, subst, subst₂, ◌∙◌, arith}
use Rattle.imago_storage.specs.Bytes.{bytes_at}
use Rattle.imago_drivers.specs.Place.{Place, Value}
use Rattle.imago_access.specs.Disk.{values_from}
use Rattle.imago_images.specs.declared.format.ImageFormat.{ImageFormat}
use Rattle.imago_images.specs.declared.format.ImageFormat.TheVariants.{Raw, Vmdk, Qcow2}
use Rattle.imago_images.specs.declared.opening.Opening.{Opening}
use Rattle.imago_images.specs.declared.opening.OtherFiles.{OtherFiles}
use Rattle.imago_images.specs.BackingNames.{file_named}
use Rattle.imago_images.specs.Formats.{IsFormatBelow, IsFormatBy, SaysFormat, format_named}
use Rattle.imago_images.specs.Gate.{IsLetThrough}
use Rattle.imago_images.specs.Images.{AreLayers, GoesOn, IsLayer, LeadsTo, bytes_in, extent_paths}
use Rattle.imago_images.specs.Layers.{SaysBacking, layers_value, size_by}
use Rattle.imago_disk.specs.Shows.{ShowsDisk}
use Rattle.imago_img_disks.proofs.Disks.{one_format}

-- bytes that have a name don't lack it
no_name : (bytes name : List ℕ) → SaysBacking bytes None → SaysBacking bytes (Some name) → ⊥
no_name bytes name x y =
    let (at, count, is) = y in
    ⊎_elim (λ e. omega (arith, e, at)) (λ e. omega (arith, e, count)) x

-- bytes have one name of a backing file
one_name : (bytes : List ℕ) (a b : Option (List ℕ)) → SaysBacking bytes a → SaysBacking bytes b → a ≡ b
one_name bytes None None x y = refl
one_name bytes None (Some n) x y = absurd (no_name bytes n x y)
one_name bytes (Some m) None x y = absurd (no_name bytes m y x)
one_name bytes (Some m) (Some n) x y =
    let (at, count, is) = x in
    let (at₂, count₂, is₂) = y in
    ap (λ (k : List ℕ). Some k) (is ∙ sym is₂)

-- they lead to one path
one_path : (bytes path : List ℕ) (a b : Option (List ℕ)) → LeadsTo bytes path a → LeadsTo bytes path b → a ≡ b
one_path bytes path None None x y = refl
one_path bytes path None (Some q) x (name, file, says, named, is) = absurd (no_name bytes name x says)
one_path bytes path (Some p) None (name, file, says, named, is) y = absurd (no_name bytes name y says)
one_path bytes path (Some p) (Some q) (name, file, says, named, is) (name₂, file₂, says₂, named₂, is₂) =
    let (at, count, here) = says in
    let (at₂, count₂, here₂) = says₂ in
    let same : name ≡ name₂ = here ∙ sym here₂ in
    let both : Some file ≡ Some file₂ = sym named ∙ ap file_named same ∙ named₂ in
    let same_file : file ≡ file₂ = cc in
    rw (is, is₂, same_file) refl

-- they say one format of the file below
one_said : (bytes : List ℕ) (a b : Option ImageFormat) → SaysFormat bytes a → SaysFormat bytes b → a ≡ b
one_said bytes None None x y = refl
one_said bytes None (Some g) x (at, count, is, named) =
    let both : Ok None ≡ Ok (Some (at, count)) = sym x ∙ is in
    let z : ⊥ = cc in absurd z
one_said bytes (Some f) None (at, count, is, named) y =
    let both : Ok None ≡ Ok (Some (at, count)) = sym y ∙ is in
    let z : ⊥ = cc in absurd z
one_said bytes (Some f) (Some g) (at, count, is, named) (at₂, count₂, is₂, named₂) =
    let both : Ok (Some (at, count)) ≡ Ok (Some (at₂, count₂)) = sym is ∙ is₂ in
    let pair : (at, count) ≡ (at₂, count₂) = cc in
    let a : at ≡ at₂ = ap (λ (n : ℕ × ℕ). n.0) pair in
    let b : count ≡ count₂ = ap (λ (n : ℕ × ℕ). n.1) pair in
    sym (subst₂ (λ i j. format_named (bytes_at bytes i j) ≡ Some f) a b named) ∙ named₂

one_below : (upper path lower : List ℕ) (f g : ImageFormat) → IsFormatBelow upper path lower f → IsFormatBelow upper path lower g → f ≡ g
one_below upper path lower f g (said, says, by) (said₂, says₂, by₂) =
    let same : said ≡ said₂ = one_said upper said said₂ says says₂ in
    one_format said₂ path lower f g (subst (λ (s : Option ImageFormat). IsFormatBy s path lower f) same by) by₂

-- what was read once is the same as what was read again
first_of : {A B E : Type 0} (r : Result (A × B) E) (a c : A) (b d : B) → r ≡ Ok (a, b) → r ≡ Ok (c, d) → a ≡ c
first_of {A = A} {B = B} r a c b d x y =
    let both : Ok (a, b) ≡ Ok (c, d) = sym x ∙ y in
    let pair : (a, b) ≡ (c, d) = cc in
    ap (λ (p : A × B). p.0) pair

-- the file of a path is one layer, and leads to one path
one_layer : (accepted : _) (others : OtherFiles) (files : List ℕ → List ℕ) (path : List ℕ) (format : ImageFormat) (p q : ℕ → Place) (a b : Option (List ℕ))
    → IsLayer accepted others files path format p a → IsLayer accepted others files path format q b → (p ≡ q) × (a ≡ b)
one_layer accepted others files path Raw p q a b (x, none) (y, none₂) = (x ∙ sym y, none ∙ sym none₂)
one_layer accepted others files path Qcow2 p q a b (x, leads) (y, leads₂) = (x ∙ sym y, one_path (files path) path a b leads leads₂)
one_layer accepted others files path Vmdk p q a b (extents, size, is, through, x, none) (extents₂, size₂, is₂, through₂, y, none₂) =
    let same = first_of _ extents extents₂ size size₂ is is₂ in
    (rw (x, y, same) refl, none ∙ sym none₂)

-- what comes below the file of a path
abbrev Below : Opening → (List ℕ → List ℕ) → List ℕ → List (ℕ → Place) → List ℕ → Type 0
Below how files path below r = IsLetThrough how.other_files path r
    × ((lower : ImageFormat) × IsFormatBelow (files path) r (files r) lower
    × AreLayers how files r lower below)

-- an image has one list of layers
one_chain : (how : Opening) (files : List ℕ → List ℕ) (ps qs : List (ℕ → Place)) (path : List ℕ) (format : ImageFormat)
    → AreLayers how files path format ps → AreLayers how files path format qs → ps ≡ qs
one_chain how files [] qs path format x y = absurd x
one_chain how files (p ∷ ps) [] path format x y = absurd y
one_chain how files (p ∷ ps) (q ∷ qs) path format (next, is, limited, goes) (next₂, is₂, limited₂, goes₂) =
    let same = one_layer how.accepted how.other_files files path format p q next next₂ is is₂ in
    let rest : ps ≡ qs = each (one_chain how files ps qs) next goes (subst (λ (n : Option (List ℕ)). GoesOn n qs (Below how files path qs)) (sym same.1) goes₂) in
    ap (λ (r : ℕ → Place). r ∷ ps) same.0 ∙ ap (λ (rs : List (ℕ → Place)). q ∷ rs) rest
  where
    each : ((r : List ℕ) (lower : ImageFormat) → AreLayers how files r lower ps → AreLayers how files r lower qs → ps ≡ qs)
        → (n : Option (List ℕ)) → GoesOn n ps (Below how files path ps) → GoesOn n qs (Below how files path qs) → ps ≡ qs
    each deeper None a b = a ∙ sym b
    each deeper (Some r) (through, (lower, by, are)) (through₂, (lower₂, by₂, are₂)) =
        let f : lower ≡ lower₂ = one_below (files path) r (files r) lower lower₂ by by₂ in
        deeper r lower are (subst (λ (x : ImageFormat). AreLayers how files r x qs) (sym f) are₂)

-- it shows one disk
pub one_disk : (how : Opening) (files : List ℕ → List ℕ) (path : List ℕ) (d e : List Value) → ShowsDisk how files path d → ShowsDisk how files path e → d ≡ e
one_disk how files path d e (format, layers, by, are, is) (format₂, layers₂, by₂, are₂, is₂) =
    let f : format ≡ format₂ = one_format how.format path (files path) format format₂ by by₂ in
    let same : layers ≡ layers₂ = one_chain how files layers layers₂ path format₂ (subst (λ (x : ImageFormat). AreLayers how files path x layers) f are) are₂ in
    is ∙ ap (λ (ls : List (ℕ → Place)). values_from (layers_value ls) 0 (size_by how.accepted format (files path))) same
    ∙ ap (λ (x : ImageFormat). values_from (layers_value layers₂) 0 (size_by how.accepted x (files path))) f ∙ sym is₂
