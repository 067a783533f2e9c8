-- The files that commands make, from what is put into them.
-- SPDX-License-Identifier: MIT
use Rattle.std.proofs.Common.{◌≡◌, ℕ, Bool, true, false, List, [], Option, Some, None, Result, Ok, Err, length, OnOk, IsOk, IfSome, IsTrue, refl, sym, ap, subst, ◌∙◌}
use Rattle.std.specs.Prelude.{option_map}
use Rattle.std.specs.Int.{next_multiple_of}
use Rattle.std.specs.Prelude.{unwrap_or, replicate, ◌++◌, IfOk}
use Rattle.std.proofs.lemmas.List.{length-replicate}
use Rattle.imago_drivers.specs.Place.{Value, Byte}
use Rattle.imago_drivers.specs.View.{View}
use Rattle.imago_copy.specs.Appended.{IsAppended}
use Rattle.imago_words.specs.declared.command.Backing.{Backing}
use Rattle.imago_words.specs.declared.command.Create.{Create}
use Rattle.imago_words.specs.declared.settings.NewFormat.{NewFormat}
use Rattle.imago_words.specs.declared.settings.NewFormat.TheVariants as New
use Rattle.imago_words.specs.declared.settings.Settings.{Settings}
use Rattle.imago_access.specs.declared.access.FormatAccess.{FormatAccess}
use Rattle.imago_access.specs.Chain.{driver, tells_bytes}
use Rattle.imago_access.specs.Disk.{disk, value_at}
use Rattle.imago_qcow2_new.specs.declared.format.Format.{Format}
use Rattle.imago_qcow2_new.specs.declared.layout.Layout.{Layout}
use Rattle.imago_qcow2_new.specs.Layout.{IsLayoutOf, StoresNothing, StoresAll, file_length, size_of}
use Rattle.imago_qcow2_new.specs.Image.{IsNewFile, IsNewFileIn}
use Rattle.imago_qcow2_new.specs.Names.{HasNoNames}
use Rattle.imago_qcow2_new.specs.Space.{StoresData}
use Rattle.imago_images.specs.declared.format.ImageFormat.{ImageFormat}
use Rattle.imago_images.specs.Formats.{IsFormatBy}
use Rattle.imago_images.specs.Images.{IsImageIn}
use Rattle.imago_images.specs.declared.opening.Opening.{Opening}
use Rattle.imago_file.specs.Names.{path_beside}
use Rattle.imago_disk.specs.Shows.{HasSize}
use Rattle.imago_img_files.specs.Openings.{how_by}
use Rattle.imago_img_files.specs.Files.{Around, begun, ended, with_file, IsMade, IsWhole}
use Rattle.imago_img_disks.specs.NewFiles.{HasNamesBelow, IsCopyBy, IsEmptyFile, IsFilledWith, IsNewImage, IsNewlyMade, IsQcow2Copy, IsAboveImage, IsPlanned, IsSizeBelow, IsSizeBy, IsLayoutFor, IsLayoutForImage, format_by}
use Rattle.imago_disk.proofs.Shown.{shows_disk, disk_length}
use Rattle.imago_img_disks.proofs.Disks.{image_sized, begun_ended, on_ok}
use Rattle.imago_img_disks.proofs.OneDisk.{one_disk}

pub then : {A E : Type 0} {P Q : Type 0} (r : Result A E) → (P → Q) → OnOk r P → OnOk r Q
then (Ok x) f h = f h
then (Err e) f h = tt

pub always : {A E : Type 0} {P : Type 0} (r : Result A E) → P → OnOk r P
always (Ok x) h = h
always (Err e) h = tt

-- what is so anyway is so of the files
pub anyway : {A E : Type 0} (P : Type 0) (r : Result A E) (known : Option (List ℕ → List ℕ))
    → OnOk r P → OnOk r (IfSome known (λ files. P))
anyway P (Ok x) None h = tt
anyway P (Ok x) (Some files) h = h
anyway P (Err e) known h = tt

-- a file that was begun for a length was begun for each number that it is
pub made_as : (known : Option (List ℕ → List ℕ)) (made : Option (List ℕ × ℕ)) (to : List ℕ) (n m : ℕ)
    → n ≡ m → IfSome known (λ files. made ≡ Some (to, n)) → IfSome known (λ files. made ≡ Some (to, m))
made_as known made to n m e h = subst (λ (k : ℕ). IfSome known (λ files. made ≡ Some (to, k))) e h

-- A file is begun, which changes no other, filled, and then ended.
module _ (IsSo : (List ℕ → List ℕ) → List ℕ → Type 0) (known mid : Option (List ℕ → List ℕ))
    (to : List ℕ) (size : ℕ) (made later : Option (List ℕ × ℕ)) (old put : Option (List ℕ))
    {E : Type 0} (filled : Result (Unit {0}) E) (same : mid ≡ known) (kept : later ≡ made)
    (empty : IfSome known (λ files. old ≡ Some []))
    (is : IfSome known (λ files. made ≡ Some (to, size)))
    (h : IfSome old (λ there. there ≡ []) → OnOk filled (IfSome mid (λ files. IsFilledWith (IsSo files) size old put))) where
  filled_in : (files : List ℕ → List ℕ) → known ≡ Some files
      → OnOk filled ((file : List ℕ) × (put ≡ Some file) × IsSo files file × (length file ≡ size))
  filled_in files e =
      let first : old ≡ Some [] = subst (λ (k : Option (List ℕ → List ℕ)). IfSome k (λ fs. old ≡ Some [])) e empty in
      let none : IfSome old (λ there. there ≡ []) = subst (λ (o : Option (List ℕ)). IfSome o (λ there. there ≡ [])) (sym first) refl in
      let there : OnOk filled (IfSome mid (λ fs. IsFilledWith (IsSo fs) size (Some []) put)) =
      subst (λ (o : Option (List ℕ)). OnOk filled (IfSome mid (λ fs. IsFilledWith (IsSo fs) size o put))) first (h none) in
      subst (λ (k : Option (List ℕ → List ℕ)). OnOk filled (IfSome k (λ fs. IsFilledWith (IsSo fs) size (Some []) put))) (same ∙ e) there

  made_for : (files : List ℕ → List ℕ) → known ≡ Some files → later ≡ Some (to, size)
  made_for files e = kept ∙ subst (λ (k : Option (List ℕ → List ℕ)). IfSome k (λ fs. made ≡ Some (to, size))) e is

  whole_in : (k : Option (List ℕ → List ℕ)) → known ≡ k → OnOk filled (IfSome k (λ files. IsWhole later put))
  whole_in None e = always filled tt
  whole_in (Some files) e = then filled
      (λ (file, there, so, long).
      let whole : IsWhole (Some (to, size)) put = subst (λ (o : Option (List ℕ)). IsWhole (Some (to, size)) o) (sym there) long in
      subst (λ (m : Option (List ℕ × ℕ)). IsWhole m put) (sym (made_for files e)) whole)
      (filled_in files e)

  pub whole_new : OnOk filled (IfSome mid (λ files. IsWhole later put))
  whole_new = subst (λ (k : Option (List ℕ → List ℕ)). OnOk filled (IfSome k (λ files. IsWhole later put))) (sym same) (whole_in known refl)

  module _ (replace : Bool) (new : Option (List ℕ → List ℕ)) (before begins after : Option Around)
      (began : begins ≡ option_map begun before) (free : replace ≡ false → IfSome before (λ a. a.there to ≡ false)) where
    made_in : (k : Option (List ℕ → List ℕ)) → known ≡ k → IsOk filled
        → IfSome later (λ m. IsMade mid new m.0 put)
        → IfSome later (λ m. after ≡ option_map (with_file m.0) (option_map ended begins))
        → IsNewlyMade IsSo replace k new before after to
    made_in None e ok finished there = tt
    made_in (Some files) e ok finished there =
        let (file, has, so, long) = on_ok filled _ ok (filled_in files e) in
        let at : IsMade mid new to put = subst (λ (m : Option (List ℕ × ℕ)). IfSome m (λ n. IsMade mid new n.0 put)) (made_for files e) finished in
        let here : IsMade (Some files) new to put = subst (λ (k : Option (List ℕ → List ℕ)). IsMade k new to put) (same ∙ e) at in
        let around : after ≡ option_map (with_file to) (option_map ended begins) =
        subst (λ (m : Option (List ℕ × ℕ)). IfSome m (λ n. after ≡ option_map (with_file n.0) (option_map ended begins))) (made_for files e) there in (
          file,
          so,
          subst (λ (o : Option (List ℕ)). IsMade (Some files) new to o) has here,
          around ∙ ap (λ (a : Option Around). option_map (with_file to) (option_map ended a)) began ∙ ap (option_map (with_file to)) (begun_ended before),
          free,
        )

    pub made_new : {F : Type 0} (done : Result (Unit {0}) F) → OnOk done (IsOk filled)
        → OnOk done (IfSome later (λ m. IsMade mid new m.0 put))
        → OnOk done (IfSome later (λ m. after ≡ option_map (with_file m.0) (option_map ended begins)))
        → OnOk done (IsNewlyMade IsSo replace known new before after to)
    made_new (Err _) ok finished there = tt
    made_new (Ok _) ok finished there = made_in known refl ok finished there

-- what is so of the bytes of a new file
pub newly_made : (P Q : (List ℕ → List ℕ) → List ℕ → Type 0) (known : Option (List ℕ → List ℕ))
    → IfSome known (λ files. (file : List ℕ) → P files file → Q files file)
    → {A E : Type 0} (r : Result A E) (replace : Bool) (new : Option (List ℕ → List ℕ)) (before after : Option Around)
    (to : List ℕ) → OnOk r (IsNewlyMade P replace known new before after to)
    → OnOk r (IsNewlyMade Q replace known new before after to)
newly_made P Q known f (Err _) replace new before after to h = tt
newly_made P Q None f (Ok _) replace new before after to h = tt
newly_made P Q (Some files) f (Ok _) replace new before after to (file, so, made, around, free) = (file, f file so, made, around, free)

each_of : (known : Option (List ℕ → List ℕ)) (P : (List ℕ → List ℕ) → Type 0)
    → ((files : List ℕ → List ℕ) → P files) → IfSome known P
each_of None P f = tt
each_of (Some files) P f = f files

module _ (how : Opening) (from : List ℕ) where
  -- a layout for the disk of an opened image
  pub layout_there : {D St A E : Type 0} (view : D → View St) (format : Format) (all : Bool) (known : Option (List ℕ → List ℕ))
      (shape : ImageFormat) (x : FormatAccess D) (layout : A → Layout) (r : Result A E)
      → IfSome known (λ files. IsFormatBy how.format from (files from) shape)
      → IfSome known (λ files. IsImageIn view how files from shape x)
      → IfOk r (λ l. IsLayoutOf format (view (driver x)).size (layout l)) → IfOk r (λ l. HasNoNames (layout l))
      → (all ≡ true → IfOk r (λ l. StoresAll (layout l)))
      → (all ≡ false → IsTrue (tells_bytes view x) → IfOk r (λ l. StoresData (layout l).clusters (value_at (disk view x))))
      → IfOk r (λ l. IfSome known (λ files. IsLayoutForImage how from format all files (layout l)))
  layout_there view format all known shape x layout (Err e) by image is none whole some = tt
  layout_there view format all None shape x layout (Ok l) by image is none whole some = tt
  layout_there view format all (Some files) shape x layout (Ok l) by image is none whole some =
      let long : (view (driver x)).size ≡ length (disk view x) = disk_length view x (view (driver x)).size refl in (
        disk view x,
        shows_disk view how files from shape x by image,
        (subst (λ (n : ℕ). IsLayoutOf format n (layout l)) long is, none, (λ e. some e image.2.0), whole),
      )

  -- a copy by a layout is one in the layout's format
  pub copy_in : (format : Format) (all : Bool) (l : Layout) (known : Option (List ℕ → List ℕ))
      → IfSome known (λ files. IsLayoutForImage how from format all files l)
      → IfSome known (λ files. (file : List ℕ) → IsCopyBy how from l files file
      → IsQcow2Copy how from format all files file)
  copy_in format all l None h = tt
  copy_in format all l (Some files) (d, shows, is) = λ file (e, shown, rounded, new).
      let same : d ≡ e = one_disk how files from d e shows shown in
      (e, shown, (l, subst (λ (x : List Value). IsLayoutFor format all x l) same is, new))

  module _ {D St : Type 0} (view : D → View St) where
    -- what was put into a target is a copy
    pub copied : (l : Layout) (known : Option (List ℕ → List ℕ)) (format : ImageFormat)
        (x : FormatAccess D) (old new : Option (List ℕ))
        → IfSome known (λ files. IsFormatBy how.format from (files from) format)
        → IfSome known (λ files. IsImageIn view how files from format x)
        → size_of l ≡ next_multiple_of (view (driver x)).size 512
        → (IsTrue (tells_bytes view x) → IsNewFileIn l (value_at (disk view x)) old new)
        → IfSome known (λ files. IsFilledWith (IsCopyBy how from l files) (file_length l) old new)
    copied l None format x old new by image rounded put = tt
    copied l (Some files) format x None new by image rounded put = tt
    copied l (Some files) format x (Some had) new by image rounded put =
        let (file, is, made) = put image.2.0 in
        let long : (view (driver x)).size ≡ length (disk view x) = disk_length view x (view (driver x)).size refl in (
          file,
          is,
          (disk view x, shows_disk view how files from format x by image, rounded ∙ ap (λ n. next_multiple_of n 512) long, made),
          made.written.len,
        )

-- a new file is what a target was filled with
pub filled_new : (l : Layout) (values : ℕ → Value) (old new : Option (List ℕ)) → IsNewFileIn l values old new
    → IsFilledWith (IsNewFile l values) (file_length l) old new
filled_new l values None new h = tt
filled_new l values (Some had) new (file, is, made) = (file, is, made, made.written.len)

pub filled_zeroes : (count : ℕ) (old new : Option (List ℕ)) → IfSome old (λ there. there ≡ [])
    → IsAppended old new (replicate count 0)
    → IsFilledWith (λ file. file ≡ replicate count 0) count old new
filled_zeroes count None new empty put = tt
filled_zeroes count (Some had) new empty put =
    let is : had ++ replicate count 0 ≡ replicate count 0 = ap (λ (x : List ℕ). x ++ replicate count 0) empty in
    (had ++ replicate count 0, put, is, ap length is ∙ length-replicate count 0)

-- the file of a new image
pub new_image : (c : Create) (size : ℕ) (known : Option (List ℕ → List ℕ)) (format : NewFormat) → c.format ≡ format
    → IfSome known (λ files. IsPlanned c files size)
    → IfSome known (λ files. (file : List ℕ) → IsEmptyFile format c.backing size file → IsNewImage c files file)
new_image c size None format e sized = tt
new_image c size (Some files) format e sized = λ file is.
    (size, sized, subst (λ (f : NewFormat). IsEmptyFile f c.backing size file) (sym e) is)

pub sized_by : (c : Create) (said : Option ℕ) (below : ℕ) (known : Option (List ℕ → List ℕ))
    → IfSome known (λ files. IsSizeBelow c c.backing files below)
    → IfSome known (λ files. IsSizeBy c said files (unwrap_or said below))
sized_by c said below None h = tt
sized_by c None below (Some files) h = h
sized_by c (Some size) below (Some files) h = refl

-- what is below is an image, whose size is told
pub above_image : (c : Create) (b : Option Backing) (below : ℕ) (known : Option (List ℕ → List ℕ))
    → IfSome known (λ files. IsSizeBelow c b files below) → IfSome known (λ files. IsAboveImage c b files)
above_image c b below None h = tt
above_image c None below (Some files) h = tt
above_image c (Some b) below (Some files) h = image_sized (how_by (Some b.format) c.opening) files (path_beside c.target.now b.file.now) below h

pub planned_so : (c : Create) (size : ℕ) (known : Option (List ℕ → List ℕ))
    → IfSome known (λ files. IsSizeBy c c.size files size) → IfSome known (λ files. IsAboveImage c c.backing files)
    → IfSome known (λ files. IsPlanned c files size)
planned_so c size None h k = tt
planned_so c size (Some files) h k = (h, k)

-- the size of the layer below, by its path and how it is opened
pub below_sized : (c : Create) (b : Backing) (path : List ℕ) (how : Opening) (known : Option (List ℕ → List ℕ))
    {E : Type 0} (r : Result ℕ E) → path ≡ path_beside c.target.now b.file.now → how ≡ how_by (Some b.format) c.opening
    → IfOk r (λ size. IfSome known (λ files. HasSize how files path size))
    → IfOk r (λ size. IfSome known (λ files. IsSizeBelow c (Some b) files size))
below_sized c b path how known r e f h =
    subst (λ (o : Opening). IfOk r (λ size. IfSome known (λ files. HasSize o files (path_beside c.target.now b.file.now) size))) f
    (subst (λ (p : List ℕ). IfOk r (λ size. IfSome known (λ files. HasSize how files p size))) e h)

pub empty_by : (settings : Settings) (below : Option Backing) (size : ℕ) (l : Layout)
    → IsLayoutOf (format_by settings) size l → HasNamesBelow below l
    → (settings.preallocated ≡ false → StoresNothing l) → (settings.preallocated ≡ true → StoresAll l) → (known : Option (List ℕ → List ℕ))
    → IfSome known (λ files. (file : List ℕ) → IsNewFile l (λ _. Byte 0) file
    → IsEmptyFile (New.Qcow2 settings) below size file)
empty_by settings below size l is names none all known = each_of known _ (λ files file made. (l, is, names, none, all, made))
