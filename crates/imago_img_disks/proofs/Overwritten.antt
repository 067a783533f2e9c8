-- What is put over a file that is there: the disk of an image, or its first bytes.
-- SPDX-License-Identifier: MIT
use Rattle.std.proofs.Common.{◌≡◌, ℕ, ◌≤◌, inl, inr, ⊎_elim, min, List, [], map, Option, Some, None, Result, Ok, Err, length, OnOk, OnErr, IfSome, IsTrue, refl, sym, ap, subst, ◌∙◌, arith}
use Rattle.std.proofs.lemmas.List.{append-nil, length-map, length-take}
use Rattle.imago_drivers.specs.Place.{Byte}
use Rattle.imago_drivers.specs.View.{View}
use Rattle.imago_access.specs.declared.access.FormatAccess.{FormatAccess}
use Rattle.imago_access.specs.Chain.{tells_bytes}
use Rattle.imago_access.specs.Disk.{disk}
use Rattle.imago_copy.specs.Copies.{IsDiskPartlyPut}
use Rattle.imago_images.specs.declared.format.ImageFormat.{ImageFormat}
use Rattle.imago_images.specs.declared.opening.Opening.{Opening}
use Rattle.imago_images.specs.Formats.{IsFormatBy}
use Rattle.imago_images.specs.Images.{IsImageIn}
use Rattle.imago_img_files.specs.Files.{IsOverwritten}
use Rattle.imago_disk.specs.Shows.{ShowsDisk, HasSize}
use Rattle.imago_img_disks.specs.Disks.{IsDiskAppended, IsBegunDisk, IsDiskPartlyAppended, IsConvertedOver, IsPartlyConvertedOver}
use Rattle.imago_disk.proofs.Shown.{shows_disk}
use Rattle.imago_img_disks.proofs.Disks.{disk_sized}

-- what holds anyway holds where there is a refusal
pub on_refusal : {A E : Type 0} (r : Result A E) (P : Type 0) → P → OnErr r P
on_refusal (Ok x) P h = tt
on_refusal (Err e) P h = h

module _ (how : Opening) where
  -- its first bytes are no more
  begun_sized : (files : List ℕ → List ℕ) (path : List ℕ) (size : ℕ) (bytes : List ℕ)
      → HasSize how files path size → IsBegunDisk how files path bytes
      → length bytes ≤ size
  begun_sized files path size bytes sized begun = ⊎_elim
      (λ (none : bytes ≡ []).
      let zero : length bytes ≡ 0 = ap length none in
      omega (arith, zero))
      (λ (d, shows, are).
      let all : length d ≡ size = disk_sized how files path size d sized shows in
      let some : length bytes ≡ min (length bytes) (length d) = sym (length-map bytes Byte) ∙ ap length are ∙ length-take (length bytes) d in
      omega (arith, all, some))
      begun

  -- nothing was put behind what was there
  pub nothing_appended : (known : Option (List ℕ → List ℕ)) (path : List ℕ) (s : Option (List ℕ))
      → IsDiskPartlyAppended how known path s s
  nothing_appended None path s = tt
  nothing_appended (Some files) path None = tt
  nothing_appended (Some files) path (Some old) =
      ([], inl refl, ap (λ (z : List ℕ). Some z) (sym (append-nil old)))

  -- nothing was put over a file
  pub nothing_over : (known new : Option (List ℕ → List ℕ)) (from to : List ℕ) → new ≡ known
      → IsPartlyConvertedOver how known new from to
  nothing_over None new from to e = tt
  nothing_over (Some files) new from to e =
      let least : 0 ≤ length (files to) = omega arith in
      ([], inl refl, least, (files, e, refl, λ other differs. refl))

  module _ {D St : Type 0} (view : D → View St) where
    -- the first bytes of a disk that was copied in part were appended
    pub partly_appended :
        (known : Option (List ℕ → List ℕ)) (path : List ℕ) (format : ImageFormat)
        (x : FormatAccess D) (old new : Option (List ℕ))
        → IfSome known (λ files. IsFormatBy how.format path (files path) format)
        → IfSome known (λ files. IsImageIn view how files path format x)
        → (IsTrue (tells_bytes view x) → IsDiskPartlyPut (disk view x) old new)
        → IsDiskPartlyAppended how known path old new
    partly_appended None path format x old new by image put = tt
    partly_appended (Some files) path format x None new by image put = tt
    partly_appended (Some files) path format x (Some old) new by image put =
        let (bytes, are, then) = put image.2.0 in
        let shown : ShowsDisk how files path (disk view x) = shows_disk view how files path format x by image in
        (bytes, inr (disk view x, shown, are), then)

  -- The calls that writing over a file makes: it is opened, which changes no file, filled, and then
  -- closed.
  module _ {E : Type 0} (known mid new : Option (List ℕ → List ℕ)) (from to : List ℕ) (size : ℕ)
      (made later : Option (List ℕ × ℕ)) (old put : Option (List ℕ)) (filled : Result (Unit {0}) E)
      (same : mid ≡ known) (kept : later ≡ made)
      (sized : IfSome known (λ files. HasSize how files from size))
      (fits : IfSome known (λ files. size ≤ length (files to)))
      (empty : IfSome known (λ files. old ≡ Some []))
      (opened : IfSome known (λ files. made ≡ Some (to, length (files to))))
      (closed : IfSome later (λ m. IsOverwritten mid new m.0 put)) where
    -- it is closed over that path
    closed_there : (files : List ℕ → List ℕ) → known ≡ Some files
        → IsOverwritten (Some files) new to put
    closed_there files is =
        let there : made ≡ Some (to, length (files to)) = subst (λ (k : Option (List ℕ → List ℕ)). IfSome k (λ fs. made ≡ Some (to, length (fs to)))) is opened in
        let over : IsOverwritten mid new to put = subst (λ (m : Option (List ℕ × ℕ)). IfSome m (λ n. IsOverwritten mid new n.0 put)) (kept ∙ there) closed in
        subst (λ (k : Option (List ℕ → List ℕ)). IsOverwritten k new to put) (same ∙ is) over

    whole_over : (k : Option (List ℕ → List ℕ)) → known ≡ k
        → IsDiskAppended how k from old put
        → IsConvertedOver how k new from to
    whole_over None is h = tt
    whole_over (Some files) is h =
        let first : old ≡ Some [] = subst (λ (k : Option (List ℕ → List ℕ)). IfSome k (λ fs. old ≡ Some [])) is empty in
        let (bytes, has, then) = subst (λ (o : Option (List ℕ)). IsDiskAppended how (Some files) from o put) first h in
        let has_size : HasSize how files from size = subst (λ (k : Option (List ℕ → List ℕ)). IfSome k (λ fs. HasSize how fs from size)) is sized in
        let room : size ≤ length (files to) = subst (λ (k : Option (List ℕ → List ℕ)). IfSome k (λ fs. size ≤ length (fs to))) is fits in
        let all : length bytes ≡ size = sym (length-map bytes Byte) ∙ disk_sized how files from size (map Byte bytes) has_size has in (
          bytes,
          has,
          omega (arith, all, room),
          subst (λ (o : Option (List ℕ)). IsOverwritten (Some files) new to o) then (closed_there files is),
        )

    part_over : (k : Option (List ℕ → List ℕ)) → known ≡ k
        → IsDiskPartlyAppended how k from old put
        → IsPartlyConvertedOver how k new from to
    part_over None is h = tt
    part_over (Some files) is h =
        let first : old ≡ Some [] = subst (λ (k : Option (List ℕ → List ℕ)). IfSome k (λ fs. old ≡ Some [])) is empty in
        let (bytes, begun, then) = subst (λ (o : Option (List ℕ)). IsDiskPartlyAppended how (Some files) from o put) first h in
        let has_size : HasSize how files from size = subst (λ (k : Option (List ℕ → List ℕ)). IfSome k (λ fs. HasSize how fs from size)) is sized in
        let room : size ≤ length (files to) = subst (λ (k : Option (List ℕ → List ℕ)). IfSome k (λ fs. size ≤ length (fs to))) is fits in
        let most : length bytes ≤ size = begun_sized files from size bytes has_size begun in (
          bytes,
          begun,
          omega (arith, most, room),
          subst (λ (o : Option (List ℕ)). IsOverwritten (Some files) new to o) then (closed_there files is),
        )

    pub written_over : OnOk filled (IsDiskAppended how mid from old put)
        → OnOk filled (IsConvertedOver how known new from to)
    written_over h = each filled h
      where
        each : (r : Result (Unit {0}) E) → OnOk r (IsDiskAppended how mid from old put) → OnOk r (IsConvertedOver how known new from to)
        each (Err _) k = tt
        each (Ok _) k = whole_over known refl (subst (λ (m : Option (List ℕ → List ℕ)). IsDiskAppended how m from old put) same k)

    pub partly_over : OnErr filled (IsDiskPartlyAppended how mid from old put)
        → OnErr filled (IsPartlyConvertedOver how known new from to)
    partly_over h = each filled h
      where
        each : (r : Result (Unit {0}) E) → OnErr r (IsDiskPartlyAppended how mid from old put) → OnErr r (IsPartlyConvertedOver how known new from to)
        each (Ok _) k = tt
        each (Err _) k = part_over known refl (subst (λ (m : Option (List ℕ → List ℕ)). IsDiskPartlyAppended how m from old put) same k)

-- where the file that is opened has a path, the one that is closed has it
pub still_there : (known mid : Option (List ℕ → List ℕ)) {A : Type 0} (before after : Option A)
    (there : A → List ℕ → Type 0) (to : List ℕ) (size : (List ℕ → List ℕ) → ℕ)
    (made later : Option (List ℕ × ℕ)) → mid ≡ known → after ≡ before → later ≡ made
    → IfSome known (λ files. made ≡ Some (to, size files)) → IfSome before (λ a. there a to)
    → IfSome mid (λ _. IfSome after (λ a. IfSome later (λ m. there a m.0)))
still_there known mid before after there to size made later same around kept opened is =
    subst (λ (k : Option (List ℕ → List ℕ)). IfSome k (λ _. IfSome after (λ a. IfSome later (λ m. there a m.0)))) (sym same)
    (subst (λ (b : Option _). IfSome known (λ _. IfSome b (λ a. IfSome later (λ m. there a m.0)))) (sym around)
    (each known before opened is))
  where
    each : (k : Option (List ℕ → List ℕ)) (b : Option _) → IfSome k (λ files. made ≡ Some (to, size files)) → IfSome b (λ a. there a to)
        → IfSome k (λ _. IfSome b (λ a. IfSome later (λ m. there a m.0)))
    each None b o t = tt
    each (Some files) None o t = tt
    each (Some files) (Some a) o t = subst (λ (m : Option (List ℕ × ℕ)). IfSome m (λ n. there a n.0)) (sym (kept ∙ o)) t
