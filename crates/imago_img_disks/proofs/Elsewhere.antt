-- Files that no storage of an image has the path of, by its layers, and what they aren't then.
-- SPDX-License-Identifier: MIT
use Rattle.std.proofs.Common.{◌≡◌, ℕ, ◌+◌, ◌<◌, ◌⊎◌, ◌||◌, ⊎_elim, Bool, true, false, List, [], ◌∷◌, Option, Some, None, Result, Ok, Err, IfSome, OnOk, refl, sym, ap, ◌∙◌, subst, map, length, arith, Box, Global}
use Rattle.std.specs.Prelude.{slice_index_or}
use Rattle.std.proofs.lemmas.Bool.{true≢false}
use Rattle.imago_drivers.specs.View.{Stores, View}
use Rattle.imago_access.specs.declared.access.FormatAccess.{FormatAccess, FormatAccess', Held-FormatAccess-backing, None', Some', out-FormatAccess, is-FormatAccess', back-FormatAccess-backing}
use Rattle.imago_access.specs.Chain.{driver, backing, unboxed}
use Rattle.imago_file.specs.Names.{path_beside}
use Rattle.imago_images.specs.declared.files.FileStatus.{FileStatus}
use Rattle.imago_images.specs.declared.format.ImageFormat.{ImageFormat}
use Rattle.imago_images.specs.declared.opening.Opening.{Opening}
use Rattle.imago_images.specs.Formats.{IsFormatBy}
use Rattle.imago_images.specs.ImageFiles.{AreNamed, HasFiles, HasStorages, HasStoragesBelow, IsNoneOf}
use Rattle.imago_images.specs.Way.{identity, is_among}
use Rattle.imago_words.specs.declared.command.Backing.{Backing}
use Rattle.imago_words.specs.declared.command.Create.{Create}
use Rattle.imago_img_disks.specs.LeftOvers.{AreElsewhere, IsElsewhere, IsElsewhereAt, IsElsewhereBelow, IsElsewhereIn, IsApart, IsApartBelow, IsNoSource, IsNoSourceAt, IsNoSourceAtBelow, IsNoSourceBelow, IsUntouched}
use Rattle.imago_img_files.specs.Files.{Around}
use Rattle.imago_disk.specs.Files.{is_one_file}
use Rattle.imago_img_files.specs.Openings.{how_by}

-- the first storages of a driver, so many of them, are elsewhere
abbrev pub AreElsewhereTo : Stores → (List ℕ → FileStatus) → ℕ × ℕ → ℕ → Type 0
AreElsewhereTo stores status_of file count = (i : ℕ) → i < count
    → IfSome (stores.features i).filename
    (λ path. is_one_file (identity (status_of path)) file ≡ false)

last_or_before : (i n : ℕ) → i < n + 1 → (i < n) ⊎ (i ≡ n)
last_or_before i n less = grind (arith, less)

module _ (stores : Stores) (file : ℕ × ℕ) (n : ℕ) where
  further :
      (status_of : List ℕ → FileStatus) → AreElsewhereTo stores status_of file n
      → IfSome (stores.features n).filename (λ path. is_one_file (identity (status_of path)) file ≡ false)
      → AreElsewhereTo stores status_of file (n + 1)
  further status_of before this i less = ⊎_elim
      (λ earlier. before i earlier)
      (λ same. subst (λ (k : ℕ). IfSome (stores.features k).filename
      (λ path. is_one_file (identity (status_of path)) file ≡ false)) (sym same) this)
      (last_or_before i n less)

  pub one_further :
      (known : Option (List ℕ → FileStatus)) → IfSome known (λ s. AreElsewhereTo stores s file n)
      → IfSome known (λ s. IfSome (stores.features n).filename
      (λ path. is_one_file (identity (s path)) file ≡ false))
      → IfSome known (λ s. AreElsewhereTo stores s file (n + 1))
  one_further None before this = tt
  one_further (Some s) before this = further s before this

module _ {D St : Type 0} (view : D → View St) (file : ℕ × ℕ) where
  elsewhere_back :
      (s : List ℕ → FileStatus) (inner : D) (b : Option (Box (FormatAccess D) Global))
      → AreElsewhere (view inner).stores s file → IsElsewhereIn view s file (unboxed b)
      → IsElsewhere view s file (FormatAccess' (back-FormatAccess-backing D b) inner)
  elsewhere_back s inner None own below = (own, below)
  elsewhere_back s inner (Some b) own below = (own, below)

  elsewhere_out :
      (s : List ℕ → FileStatus) (x : FormatAccess D) → AreElsewhere (view (driver x)).stores s file
      → IsElsewhereIn view s file (backing x) → IsElsewhere view s file x
  elsewhere_out s x own below =
      subst (λ (y : FormatAccess D). IsElsewhere view s file y) (sym (is-FormatAccess' x))
      (elsewhere_back s (driver x) (out-FormatAccess D x).backing own below)

  pub starts_elsewhere :
      (known : Option (List ℕ → FileStatus)) (image : FormatAccess D) (layer : Option (FormatAccess D))
      → layer ≡ Some image
      → IfSome known (λ s. IsElsewhereIn view s file layer → IsElsewhere view s file image)
  starts_elsewhere None image layer is = tt
  starts_elsewhere (Some s) image layer is = λ h. subst (λ (o : Option (FormatAccess D)). IsElsewhereIn view s file o) is h

  pub goes_elsewhere :
      (known : Option (List ℕ → FileStatus)) (image here : FormatAccess D) (inner : D)
      (layer next : Option (FormatAccess D))
      → layer ≡ Some here → inner ≡ driver here → next ≡ backing here
      → IfSome known (λ s. IsElsewhereIn view s file layer → IsElsewhere view s file image)
      → IfSome known (λ s. AreElsewhere (view inner).stores s file)
      → IfSome known (λ s. IsElsewhereIn view s file next → IsElsewhere view s file image)
  goes_elsewhere None image here inner layer next is in_here below all own = tt
  goes_elsewhere (Some s) image here inner layer next is in_here below all own = λ rest.
      all (subst (λ (o : Option (FormatAccess D)). IsElsewhereIn view s file o) (sym is)
      (elsewhere_out s here (subst (λ (d : D). AreElsewhere (view d).stores s file) in_here own)
      (subst (λ (o : Option (FormatAccess D)). IsElsewhereIn view s file o) below rest)))

  pub ends_elsewhere :
      (known : Option (List ℕ → FileStatus)) (image : FormatAccess D) (layer : Option (FormatAccess D))
      → layer ≡ None
      → IfSome known (λ s. IsElsewhereIn view s file layer → IsElsewhere view s file image)
      → IfSome known (λ s. IsElsewhere view s file image)
  ends_elsewhere None image layer is all = tt
  ends_elsewhere (Some s) image layer is all =
      all (subst (λ (o : Option (FormatAccess D)). IsElsewhereIn view s file o) (sym is) tt)

shifted : (path : List ℕ) (paths : List (List ℕ)) (i : ℕ) → i < length paths
    → slice_index_or (path ∷ paths) (i + 1) [] ≡ slice_index_or paths i []
shifted path paths i less = grind arith

longer : (path : List ℕ) (paths : List (List ℕ)) (i : ℕ) → i < length paths → i + 1 < length (path ∷ paths)
longer path paths i less = grind (arith, less)

neither : (a b : Bool) → a ≡ false → b ≡ false → (a || b) ≡ false
neither a b h k = ap (λ (z : Bool). z || b) h ∙ k

-- a file that no storage has the path of is none of the files of the image's paths
module _ (status_of : List ℕ → FileStatus) (file : ℕ × ℕ) where
  none_in :
      (paths : List (List ℕ))
      → ((i : ℕ) → i < length paths
      → is_one_file (identity (status_of (slice_index_or paths i []))) file ≡ false)
      → is_among (map (λ path. identity (status_of path)) paths) file ≡ false
  none_in [] none = refl
  none_in (path ∷ paths) none =
      neither _ _ (none 0 (omega arith))
      (none_in paths (λ i less.
      subst (λ (p : List ℕ). is_one_file (identity (status_of p)) file ≡ false) (shifted path paths i less)
      (none (i + 1) (longer path paths i less))))

  layer_none :
      (stores : Stores) (paths : List (List ℕ)) → AreNamed stores paths → AreElsewhere stores status_of file
      → is_among (map (λ path. identity (status_of path)) paths) file ≡ false
  layer_none stores paths named elsewhere =
      none_in paths (λ i less.
      subst (λ (o : Option (List ℕ)). IfSome o (λ path. is_one_file (identity (status_of path)) file ≡ false))
      (named.1 i less) (elsewhere i (subst (λ (n : ℕ). i < n) (sym named.0) less)))

  module _ {D St : Type 0} (view : D → View St) where
    mutual
      layers_none :
          (x : FormatAccess D) (layers : List (List (List ℕ))) → HasStorages view x layers
          → IsElsewhere view status_of file x → IsNoneOf status_of file layers
      layers_none (FormatAccess' below inner) [] has elsewhere = tt
      layers_none (FormatAccess' below inner) (paths ∷ rest) has elsewhere =
          (layer_none (view inner).stores paths has.0 elsewhere.0, below_none below rest has.1 elsewhere.1)

      below_none :
          (b : Held-FormatAccess-backing D) (layers : List (List (List ℕ))) → HasStoragesBelow view b layers
          → IsElsewhereBelow view status_of file b → IsNoneOf status_of file layers
      below_none None' layers has elsewhere =
          subst (λ (ls : List (List (List ℕ))). IsNoneOf status_of file ls) (sym has) tt
      below_none (Some' k x) layers has elsewhere = layers_none x layers has elsewhere

module _ {D St : Type 0} (view : D → View St) (how : Opening) (known : Option (List ℕ → List ℕ))
    (statuses : Option (List ℕ → FileStatus)) (from : List ℕ) (file : ℕ × ℕ) (format : ImageFormat)
    (x : FormatAccess D) where
  one_source :
      (known_ : Option (List ℕ → List ℕ)) (statuses_ : Option (List ℕ → FileStatus))
      → IfSome known_ (λ files. IsFormatBy how.format from (files from) format)
      → IfSome known_ (λ files. HasFiles view how.accepted files from format x)
      → IfSome statuses_ (λ s. IsElsewhere view s file x)
      → IsNoSource how known_ statuses_ from file
  one_source None statuses_ by has elsewhere = tt
  one_source (Some files) None by has elsewhere = tt
  one_source (Some files) (Some s) by has elsewhere =
      (format, has.0, by, has.1, layers_none s file view x has.0 has.2 elsewhere)

  -- such a file isn't one of an opened image
  pub no_source :
      {A E : Type 0} (r : Result A E)
      → IfSome known (λ files. IsFormatBy how.format from (files from) format)
      → IfSome known (λ files. HasFiles view how.accepted files from format x)
      → OnOk r (IfSome statuses (λ s. IsElsewhere view s file x))
      → OnOk r (IsNoSource how known statuses from file)
  no_source (Ok a) by has elsewhere = one_source known statuses by has elsewhere
  no_source (Err e) by has elsewhere = tt

-- where nothing is there, it is elsewhere; and what is there is by what it is
module _ {D St : Type 0} (view : D → View St) (x : FormatAccess D) (path : List ℕ) where
  pub none_there :
      (statuses : Option (List ℕ → FileStatus)) (around : Option Around) → IfSome around (λ a. a.there path ≡ false)
      → IsElsewhereAt view statuses around path x
  none_there statuses None none = tt
  none_there statuses (Some a) none = λ yes. absurd (true≢false (sym yes ∙ none))

  pub told_there :
      (known : Option (List ℕ → FileStatus)) (there : FileStatus) (around : Option Around)
      → IfSome known (λ status_of. there ≡ status_of path)
      → IfSome known (λ s. IsElsewhere view s (identity there) x)
      → IsElsewhereAt view known around path x
  told_there known there None told elsewhere = tt
  told_there None there (Some a) told elsewhere = λ yes. tt
  told_there (Some s) there (Some a) told elsewhere = λ yes.
      subst (λ (f : FileStatus). IsElsewhere view s (identity f) x) told elsewhere

  pub is_there :
      {A E : Type 0} (statuses : Option (List ℕ → FileStatus)) (r : Result A E) (there : FileStatus)
      (around : Option Around) → IfSome statuses (λ status_of. there ≡ status_of path)
      → OnOk r (IfSome statuses (λ s. IsElsewhere view s (identity there) x))
      → OnOk r (IsElsewhereAt view statuses around path x)
  is_there statuses (Ok a) there around told elsewhere = told_there statuses there around told elsewhere
  is_there statuses (Err e) there around told elsewhere = tt

-- what a path leads to isn't one of the files of an opened image
module _ {D St : Type 0} (view : D → View St) (how : Opening) (known : Option (List ℕ → List ℕ))
    (from to : List ℕ) (format : ImageFormat) (x : FormatAccess D) where
  pub source_at :
      (statuses : Option (List ℕ → FileStatus)) (around : Option Around)
      → IfSome known (λ files. IsFormatBy how.format from (files from) format)
      → IfSome known (λ files. HasFiles view how.accepted files from format x)
      → IsElsewhereAt view statuses around to x → IsNoSourceAt how known statuses around from to
  source_at statuses None by has elsewhere = tt
  source_at None (Some a) by has elsewhere = λ yes. tt
  source_at (Some s) (Some a) by has elsewhere = λ yes.
      one_source view how known (Some s) from (identity (s to)) format x known (Some s) by has (elsewhere yes)

-- what holds in any case holds where nothing is refused
pub in_any_case : {A E : Type 0} (r : Result A E) (P : Type 0) → P → OnOk r P
in_any_case (Ok a) P p = p
in_any_case (Err e) P p = tt

-- what is none of the files of an image once an unfinished file is removed, or isn't there, was none
-- of them before
pub outside_first :
    {A E : Type 0} (r : Result A E)
    (IsSo : Option (List ℕ → FileStatus) → Option (List ℕ → List ℕ) → Option Around → Type 0)
    (statuses mid : Option (List ℕ → FileStatus)) (old cleared : Option (List ℕ → List ℕ))
    (before left : Option Around)
    → IsUntouched statuses mid old cleared before left ⊎ IsSo statuses old before
    → OnOk r (IsSo mid cleared left) → OnOk r (IsSo statuses old before)
outside_first (Err e) IsSo statuses mid old cleared before left tested so = tt
outside_first (Ok a) IsSo statuses mid old cleared before left tested so = ⊎_elim
    (λ (s, f, a). subst (λ (y : Option (List ℕ → FileStatus)). IsSo y old before) s
    (subst (λ (y : Option (List ℕ → List ℕ)). IsSo mid y before) f
    (subst (λ (y : Option Around). IsSo mid cleared y) a so)))
    (λ was. was)
    tested

-- what an unfinished file isn't, by what it is
module _ (known : Option (List ℕ → List ℕ)) (statuses : Option (List ℕ → FileStatus)) (status : FileStatus) where
  pub apart :
      (how : Opening) (left_overs : Option (List ℕ → FileStatus)) (from to : List ℕ)
      → IfSome left_overs (λ left_of. status ≡ left_of to)
      → IsNoSource how known statuses from (identity status)
      → IsApart how known statuses left_overs from to
  apart how None from to is none = tt
  apart how (Some left_of) from to is none =
      subst (λ (s : FileStatus). IsNoSource how known statuses from (identity s)) is none

  pub apart_below :
      (c : Create) (below : Option Backing) (left_overs : Option (List ℕ → FileStatus))
      → IfSome left_overs (λ left_of. status ≡ left_of c.target.now)
      → IsNoSourceBelow c below known statuses (identity status)
      → IsApartBelow c below known statuses left_overs
  apart_below c below None is none = tt
  apart_below c below (Some left_of) is none =
      subst (λ (s : FileStatus). IsNoSourceBelow c below known statuses (identity s)) is none

-- the same of the layer below a new image
pub no_source_below :
    {A E : Type 0} (r : Result A E) (c : Create) (b : Backing) (path : List ℕ) (how : Opening)
    (known : Option (List ℕ → List ℕ)) (statuses : Option (List ℕ → FileStatus)) (file : ℕ × ℕ)
    → path ≡ path_beside c.target.now b.file.now → how ≡ how_by (Some b.format) c.opening
    → OnOk r (IsNoSource how known statuses path file)
    → OnOk r (IsNoSourceBelow c (Some b) known statuses file)
no_source_below r c b path how known statuses file e f h =
    subst (λ (o : Opening). OnOk r (IsNoSource o known statuses (path_beside c.target.now b.file.now) file)) f
    (subst (λ (p : List ℕ). OnOk r (IsNoSource how known statuses p file)) e h)

-- nor is what its path leads to
pub no_source_at_below :
    {A E : Type 0} (r : Result A E) (c : Create) (b : Backing) (path : List ℕ) (how : Opening)
    (known : Option (List ℕ → List ℕ)) (statuses : Option (List ℕ → FileStatus)) (around : Option Around)
    → path ≡ path_beside c.target.now b.file.now → how ≡ how_by (Some b.format) c.opening
    → OnOk r (IsNoSourceAt how known statuses around path c.target.now)
    → OnOk r (IsNoSourceAtBelow c (Some b) known statuses around)
no_source_at_below r c b path how known statuses around e f h =
    subst (λ (o : Opening). OnOk r (IsNoSourceAt o known statuses around (path_beside c.target.now b.file.now) c.target.now)) f
    (subst (λ (p : List ℕ). OnOk r (IsNoSourceAt how known statuses around p c.target.now)) e h)
