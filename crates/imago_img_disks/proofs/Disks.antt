-- The disks of opened images, and what is made of them.
-- SPDX-License-Identifier: MIT
use Rattle.std.proofs.Common.{◌≡◌, ℕ, ◌+◌, ◌-◌, inl, inr, Bool, false, List, [], map, Option, Some, None, Result, Ok, Err, length, OnOk, IsOk, IfSome, IsTrue, refl, sym, ap, subst, ◌∙◌, arith}
use Rattle.std.specs.Prelude.{option_map}
use Rattle.std.proofs.lemmas.Bool.{false≢true}
use Rattle.std.proofs.lemmas.List.{length-map}
use Rattle.std.proofs.lemmas.List.FromFn.{length-map-range_with_len}
use Rattle.imago_drivers.specs.Place.{Place, Value, Byte}
use Rattle.imago_drivers.specs.View.{View}
use Rattle.imago_access.specs.declared.access.FormatAccess.{FormatAccess}
use Rattle.imago_access.specs.Chain.{driver, disk_value, tells_bytes}
use Rattle.imago_access.specs.Disk.{disk, values_from}
use Rattle.imago_access.proofs.DiskLists.{same_listed}
use Rattle.imago_copy.specs.Copies.{IsDiskPut}
use Rattle.imago_copy.specs.Differences.{IsFirstDifferentValue}
use Rattle.imago_images.specs.declared.format.ImageFormat.{ImageFormat}
use Rattle.imago_images.specs.declared.opening.Opening.{Opening}
use Rattle.imago_formats.specs.declared.signature.Signature.{Signature}
use Rattle.imago_formats.specs.Signatures.{signature_of}
use Rattle.imago_images.specs.Formats.{IsFormatBy, told_format, taken_for}
use Rattle.imago_images.specs.Layers.{layers_value, size_by}
use Rattle.imago_images.specs.declared.format.ImageFormat.TheVariants.{Raw, Vmdk, Qcow2}
use Rattle.imago_images.specs.Images.{AreLayers, IsImageIn}
use Rattle.imago_images.proofs.NameAlike.{raw_alike, image_alike, layers_said}
use Rattle.imago_img_files.specs.Files.{Around, begun, ended, with_file, IsMade, IsWhole}
use Rattle.imago_disk.specs.Shows.{ShowsDisk, IsImage, HasSize}
use Rattle.imago_disk.proofs.Shown.{shows_disk, disk_length}
use Rattle.imago_img_disks.specs.Disks.{IsDiskAppended, IsConverted, NamesStandAlike, AreSaidAlike, ArePathsOfOne, AreCompared, is_left_out, opened_as}

abbrev taken_or : ImageFormat → Result ImageFormat Signature → ImageFormat
taken_or other (Ok f) = f
taken_or other (Err e) = other

-- a file has one format by what is said
pub one_format :
    (said : Option ImageFormat) (path bytes : List ℕ) (f g : ImageFormat)
    → IsFormatBy said path bytes f → IsFormatBy said path bytes g → f ≡ g
one_format said path bytes f g h k = ap (taken_or f) (sym h ∙ k)

-- a file of both paths has the same format under each
format_alike :
    (said other : Option ImageFormat) (first second bytes : List ℕ) (f : ImageFormat)
    → AreSaidAlike said other first second → IsFormatBy said first bytes f
    → IsFormatBy other second bytes f
format_alike None other first second bytes f (none, names) by =
    let here : told_format None second bytes ≡ Ok f =
    ap (λ (n : Option ImageFormat). taken_for n (signature_of bytes)) (sym names) ∙ by in
    subst (λ (o : Option ImageFormat). IsFormatBy o second bytes f) (sym none) here
format_alike (Some said) other first second bytes f same by =
    subst (λ (o : Option ImageFormat). IsFormatBy o second bytes f) (sym same) by

-- a file that is begun and then ended leaves no trace
pub begun_ended : (o : Option Around) → option_map ended (option_map begun o) ≡ o
begun_ended None = refl
begun_ended (Some a) =
    let back : a.unfinished + 1 - 1 ≡ a.unfinished = omega arith in
    let counted : ℕ → Option Around =
    λ n. Some (record a { unfinished = n }) in
    ap counted back

module _ {D St : Type 0} (view : D → View St) (how : Opening) where
  -- the size of an opened image
  pub sized :
      (known : Option (List ℕ → List ℕ)) (path : List ℕ) (format : ImageFormat) (x : FormatAccess D)
      (size : ℕ) → size ≡ (view (driver x)).size
      → IfSome known (λ files. IsFormatBy how.format path (files path) format)
      → IfSome known (λ files. IsImageIn view how files path format x)
      → IfSome known (λ files. HasSize how files path size)
  sized None path format x size e by image = tt
  sized (Some files) path format x size e by (layers, are, shown) = (format, layers, by, are, e ∙ shown.1)

  -- a disk that was copied was appended
  pub appended_disk :
      (known : Option (List ℕ → List ℕ)) (path : List ℕ) (format : ImageFormat)
      (x : FormatAccess D) (old new : Option (List ℕ))
      → IfSome known (λ files. IsFormatBy how.format path (files path) format)
      → IfSome known (λ files. IsImageIn view how files path format x)
      → (IsTrue (tells_bytes view x) → IsDiskPut (disk view x) old new)
      → IsDiskAppended how known path old new
  appended_disk None path format x old new by image put = tt
  appended_disk (Some files) path format x None new by image put = tt
  appended_disk (Some files) path format x (Some old) new by image put =
      let (bytes, is, then) = put image.2.0 in
      let shown : ShowsDisk how files path (disk view x) = shows_disk view how files path format x by image in
      (bytes, subst (λ (d : List Value). ShowsDisk how files path d) is shown, then)

  -- an image shows the same under another path of it
  pub under_both :
      (other : Option ImageFormat) (files : List ℕ → List ℕ) (first second : List ℕ) (f : ImageFormat)
      (d : List Value) (layers : List (ℕ → Place)) → AreSaidAlike how.format other first second
      → ArePathsOfOne files first second f
      → IsFormatBy how.format first (files first) f → AreLayers how files first f layers
      → d ≡ values_from (layers_value layers) 0 (size_by how.accepted f (files first))
      → ShowsDisk (opened_as how other) files second d
  under_both other files first second f d layers same_said (inl is) by are shows =
      let here : IsFormatBy other second (files first) f =
      format_alike how.format other first second (files first) f same_said by in
      subst (λ (p : List ℕ). ShowsDisk (opened_as how other) files p d) is (
        f,
        layers,
        subst (λ (p : List ℕ). IsFormatBy other p (files first) f) (sym is) here,
        layers_said (opened_as how other) how refl refl refl refl files first f layers are,
        shows,
      )
  under_both other files first second f d layers same_said (inr (same, alike)) by are shows = (
    f,
    layers,
    subst (λ (b : List ℕ). IsFormatBy other second b f) same
        (format_alike how.format other first second (files first) f same_said by),
    layers_said (opened_as how other) how refl refl refl refl files second f layers (layers_alike f alike are),
    shows ∙ ap (λ (b : List ℕ). values_from (layers_value layers) 0 (size_by how.accepted f b)) same,
  )
    where
      layers_alike : (g : ImageFormat) → NamesStandAlike first second g
          → AreLayers how files first g layers → AreLayers how files second g layers
      layers_alike Raw alike are = raw_alike files first second same how layers are
      layers_alike Vmdk alike are = image_alike files first second same alike how Vmdk layers are
      layers_alike Qcow2 alike are = image_alike files first second same alike how Qcow2 layers are

-- so is one whose size is told
pub image_sized : (how : Opening) (files : List ℕ → List ℕ) (path : List ℕ) (size : ℕ) → HasSize how files path size → IsImage how files path
image_sized how files path size (format, layers, by, are, e) = (format, layers, by, are)

module _ {D St : Type 0} (view : D → View St) (how : Opening)
    (other : Option ImageFormat) (same_size : Bool) where
  -- the disks of two opened images were compared
  pub compared_disks :
      (second_how : Opening) → second_how ≡ opened_as how other
      → (known : Option (List ℕ → List ℕ)) (first second : List ℕ) (f g : ImageFormat)
      (x y : FormatAccess D) (size other_size : ℕ) (skips : Bool) (found : Option ℕ)
      → size ≡ (view (driver x)).size → other_size ≡ (view (driver y)).size
      → skips ≡ is_left_out same_size size other_size
      → IfSome known (λ files. IsFormatBy how.format first (files first) f)
      → IfSome known (λ files. IsImageIn view how files first f x)
      → IfSome known (λ files. IsFormatBy second_how.format second (files second) g)
      → IfSome known (λ files. IsImageIn view second_how files second g y)
      → (skips ≡ false → IsTrue (tells_bytes view x) → IsTrue (tells_bytes view y)
      → IsFirstDifferentValue (disk view x) (disk view y) found)
      → IfSome known (λ files. AreCompared how other same_size files first second
      size other_size found)
  compared_disks second_how e None first second f g x y size other_size skips found p q r a b c d h = tt
  compared_disks second_how e (Some files) first second f g x y size other_size skips found p q r a b c d h =
      let shown : ShowsDisk second_how files second (disk view y) = shows_disk view second_how files second g y c d in (
        disk view x,
        disk view y,
        shows_disk view how files first f x a b,
        subst (λ (o : Opening). ShowsDisk o files second (disk view y)) e shown,
        disk_length view x size p,
        disk_length view y other_size q,
        λ e. h (r ∙ e) b.2.0 d.2.0,
      )

  -- an image and itself are the same
  pub compared_same :
      (known : Option (List ℕ → List ℕ)) (first second : List ℕ) (f : ImageFormat)
      (x : FormatAccess D) (size : ℕ) → size ≡ (view (driver x)).size
      → AreSaidAlike how.format other first second
      → IfSome known (λ files. ArePathsOfOne files first second f)
      → IfSome known (λ files. IsFormatBy how.format first (files first) f)
      → IfSome known (λ files. IsImageIn view how files first f x)
      → IfSome known (λ files. AreCompared how other same_size files first second
      size size None)
  compared_same None first second f x size e w one a b = tt
  compared_same (Some files) first second f x size e w one a (layers, are, shown) =
      let shows : disk view x ≡ values_from (layers_value layers) 0 (size_by how.accepted f (files first)) =
      same_listed (layers_value layers) (disk_value view x) _ _ shown.1 shown.2 in (
        disk view x,
        disk view x,
        (f, layers, a, are, shows),
        under_both view how other files first second f (disk view x) layers w one a are shows,
        disk_length view x size e,
        disk_length view x size e,
        λ _ k. refl,
      )

-- what is so where a call succeeded that did
pub on_ok : {A E : Type 0} (r : Result A E) (P : Type 0) → IsOk r → OnOk r P → P
on_ok (Ok x) P is h = h
on_ok (Err e) P is h = absurd (false≢true is)

-- a disk has as many values as is told
pub disk_sized :
    (how : Opening)
    (files : List ℕ → List ℕ) (path : List ℕ) (size : ℕ) (d : List Value)
    → HasSize how files path size → ShowsDisk how files path d
    → length d ≡ size
disk_sized how files path size d (f, others, by, have, len) (format, layers, other, are, shows) =
    let same : format ≡ f = one_format how.format path (files path) format f other by in
    ap length shows
    ∙ length-map-range_with_len (layers_value layers) 0 (size_by how.accepted format (files path))
    ∙ ap (λ (g : ImageFormat). size_by how.accepted g (files path)) same ∙ sym len

-- as many bytes are in a file that was begun for a disk as the disk has
whole_disk :
    (how : Opening) (known : Option (List ℕ → List ℕ))
    (from to : List ℕ) (size : ℕ) (made later : Option (List ℕ × ℕ)) (old put : Option (List ℕ))
    → later ≡ made → IfSome known (λ files. HasSize how files from size)
    → IfSome known (λ files. old ≡ Some []) → IfSome known (λ files. made ≡ Some (to, size))
    → IsDiskAppended how known from old put → IfSome known (λ files. IsWhole later put)
whole_disk how None from to size made later old put e sized empty is filled = tt
whole_disk how (Some files) from to size made later old put e sized empty is filled =
    let (bytes, has, then) = subst (λ (o : Option (List ℕ)). IsDiskAppended how (Some files) from o put) empty filled in
    let all : length bytes ≡ size = sym (length-map bytes Byte)
    ∙ disk_sized how files from size (map Byte bytes) sized has in
    let whole : IsWhole (Some (to, size)) put = subst (λ (o : Option (List ℕ)). IsWhole (Some (to, size)) o) (sym then) all in
    subst (λ (m : Option (List ℕ × ℕ)). IsWhole m put) (sym (e ∙ is)) whole

-- what was put into a file that was begun, and finished then, is converted
converted_disk :
    (how : Opening) (replace : Bool) (known new : Option (List ℕ → List ℕ))
    (before mid after : Option Around) (from to : List ℕ) (size : ℕ)
    (made later : Option (List ℕ × ℕ)) (old put : Option (List ℕ))
    → later ≡ made → IfSome known (λ files. old ≡ Some [])
    → IfSome known (λ files. made ≡ Some (to, size))
    → IsDiskAppended how known from old put
    → IfSome later (λ m. IsMade known new m.0 put) → mid ≡ option_map begun before
    → IfSome later (λ m. after ≡ option_map (with_file m.0) (option_map ended mid))
    → (replace ≡ false → IfSome before (λ a. a.there to ≡ false))
    → IsConverted how replace known new before after from to
converted_disk how replace None new before mid after from to size made later old put e empty is filled finished began there free = tt
converted_disk how replace (Some files) new before mid after from to size made later old put e empty is filled finished began there free =
    let (bytes, has, then) = subst (λ (o : Option (List ℕ)). IsDiskAppended how (Some files) from o put) empty filled in
    let at : IsMade (Some files) new to put = subst (λ (m : Option (List ℕ × ℕ)). IfSome m (λ n. IsMade (Some files) new n.0 put)) (e ∙ is) finished in
    let around : after ≡ option_map (with_file to) (option_map ended mid) =
    subst (λ (m : Option (List ℕ × ℕ)). IfSome m (λ n. after ≡ option_map (with_file n.0) (option_map ended mid))) (e ∙ is) there in (
      bytes,
      has,
      subst (λ (o : Option (List ℕ)). IsMade (Some files) new to o) then at,
      around ∙ ap (λ (a : Option Around). option_map (with_file to) (option_map ended a)) began ∙ ap (option_map (with_file to)) (begun_ended before),
      free,
    )

-- The same of the calls that `convert` makes: a file is begun, which changes no other, filled, and
-- then ended.
module _ (how : Opening) {E : Type 0} (known mid : Option (List ℕ → List ℕ))
    (from to : List ℕ) (size : ℕ) (made later : Option (List ℕ × ℕ)) (old put : Option (List ℕ))
    (filled : Result (Unit {0}) E) where
  pub whole_file :
      mid ≡ known → later ≡ made → IfSome known (λ files. HasSize how files from size)
      → IfSome known (λ files. old ≡ Some []) → IfSome known (λ files. made ≡ Some (to, size))
      → OnOk filled (IsDiskAppended how mid from old put)
      → OnOk filled (IfSome mid (λ files. IsWhole later put))
  whole_file same e sized empty is h = each filled h
    where
      each : (r : Result (Unit {0}) E) → OnOk r (IsDiskAppended how mid from old put) → OnOk r (IfSome mid (λ files. IsWhole later put))
      each (Err _) k = tt
      each (Ok _) k =
          let whole : IsDiskAppended how known from old put → IfSome known (λ files. IsWhole later put) =
          whole_disk how known from to size made later old put e sized empty is in
          subst (λ (m : Option (List ℕ → List ℕ)). IsDiskAppended how m from old put → IfSome m (λ files. IsWhole later put)) (sym same) whole k

  pub converted_file :
      (replace : Bool) (done : Result (Unit {0}) E) (new : Option (List ℕ → List ℕ)) (before begins after : Option Around)
      → mid ≡ known → later ≡ made → IfSome known (λ files. old ≡ Some [])
      → IfSome known (λ files. made ≡ Some (to, size))
      → OnOk filled (IsDiskAppended how mid from old put) → OnOk done (IsOk filled)
      → OnOk done (IfSome later (λ m. IsMade mid new m.0 put)) → begins ≡ option_map begun before
      → OnOk done (IfSome later (λ m. after ≡ option_map (with_file m.0) (option_map ended begins)))
      → (replace ≡ false → IfSome before (λ a. a.there to ≡ false))
      → OnOk done (IsConverted how replace known new before after from to)
  converted_file replace (Err _) new before begins after same e empty is h ok finished began there free = tt
  converted_file replace (Ok _) new before begins after same e empty is h ok finished began there free =
      converted_disk how replace known new before begins after from to size made later old put e empty is
      (subst (λ (m : Option (List ℕ → List ℕ)). IsDiskAppended how m from old put) same (on_ok filled _ ok h))
      (subst (λ (m : Option (List ℕ → List ℕ)). IfSome later (λ n. IsMade m new n.0 put)) same finished) began there free
