-- Refusals, passed on.
-- SPDX-License-Identifier: MIT
use Rattle.std.proofs.Common.{◌≡◌, ℕ, ◌+◌, ◌⊎◌, Bool, true, false, not, List, Option, Some, None, Result, Ok, Err, IfErr, IfSome}
use Rattle.std.proofs.Common.{refl, sym, ap, ◌∙◌, subst, length, inl, inr, IsOk, IsErr, IsTrue, MatchResult, IsSome}
use Rattle.std.specs.Path.{PathStartsWith}
use Rattle.imago_storage.specs.Error.{IsExtRefusal}
use Rattle.imago_storage.specs.Features.{Features}
use Rattle.imago_storage.specs.Bytes.{bytes_at}
use Rattle.imago_qcow2.specs.Header.{header_of}
use Rattle.imago_qcow2.specs.declared.fault.OpenFault.{OpenFault}
use Rattle.imago_qcow2.specs.Fault.{error_of, by_fault}
use Rattle.imago_qcow2.specs.Limit.{TablesNeedMore}
use Rattle.imago_storage.specs.declared.error.Error.{Error}
use Rattle.imago_storage.specs.declared.error.Error.TheVariants as E
use Rattle.imago_drivers.specs.Reasons.{none as without, allowed}
use Rattle.imago_qcow2.specs.Opening.{IsRefusedOpening, TablesWrap, open_reasons}
use Rattle.imago_storage.specs.Features.{IsAlignedRequest, MayRunOut}
use Rattle.imago_storage.specs.Padding.{Wraps}
use Rattle.imago_images.specs.declared.failure.OpenError.{OpenError}
use Rattle.imago_images.specs.declared.failure.Reason.{Reason}
use Rattle.imago_images.specs.HostBytes.{HasBytes}
use Rattle.imago_images.proofs.PartSteps.{told_same}
use Rattle.imago_images.specs.FolderParts.{IsBounded, IsBeyond, IsWithin}
use Rattle.imago_images.specs.BackingNames.{file_named}
use Rattle.imago_images.specs.Layers.{SaysBacking}
use Rattle.imago_images.specs.Refusals.{IsRefused, IsBySystem, IsBySystemOr, IsByDriver, IsUnread, IsProtocol, IsByQcow2, IsUnopenedBy, IsUnopened}
use Rattle.imago_images.specs.Gate.{folder_asked, IsLetThrough, IsInside}
use Rattle.imago_images.specs.declared.opening.OtherFiles.{OtherFiles}
use Rattle.imago_images.specs.declared.opening.OtherFiles.TheVariants as Others

-- by a reason that says less
pub weaker :
    (path : List ℕ) (A B : Reason → Type 0) → ((reason : Reason) → A reason → B reason)
    → (e : OpenError) → IsRefused path A e → IsRefused path B e
weaker path A B h (OpenError.OfFile named reason) (is, a) = (is, h reason a)
weaker path A B h OpenError.Memory t = tt

-- by one reason, of which that holds
pub refused_for :
    (path : List ℕ) (why : Reason → Type 0) (reason : Reason) → why reason
    → (e : OpenError) → IsRefused path (λ told. told ≡ reason) e → IsRefused path why e
refused_for path why reason holds e h =
    weaker path (λ told. told ≡ reason) why
    (λ told is. subst (λ (r : Reason). why r) (sym is) holds) e h

-- by the path's other spelling
pub same_path :
    (path other : List ℕ) (why : Reason → Type 0) → path ≡ other → (e : OpenError)
    → IsRefused path why e → IsRefused other why e
same_path path other why is e h = subst (λ (p : List ℕ). IsRefused p why e) is h

pub by_system :
    (path : List ℕ) (why : Reason → Type 0) → ((answer : _) → why (Reason.System answer))
    → (e : OpenError) → IsRefused path IsBySystem e → IsRefused path why e
by_system path why holds e h =
    weaker path IsBySystem why (λ r by. subst (λ (x : Reason). why x) (sym by.1) (holds by.0)) e h

pub by_driver :
    (path : List ℕ) (why : Reason → Type 0) → ((error : _) → why (Reason.Image error))
    → (e : OpenError) → IsRefused path IsByDriver e → IsRefused path why e
by_driver path why holds e h =
    weaker path IsByDriver why (λ r by. subst (λ (x : Reason). why x) (sym by.1) (holds by.0)) e h

-- by the name that a file has of the one below it
pub by_name :
    (path bytes name : List ℕ) (limit : Option ℕ) → SaysBacking bytes (Some name) → (e : OpenError)
    → IsRefused path (λ r. IsByDriver r ⊎ IsProtocol name r) e → IsRefused path (IsUnopened limit bytes) e
by_name path bytes name limit says e h =
    weaker path (λ r. IsByDriver r ⊎ IsProtocol name r) (IsUnopened limit bytes) holds e h
  where
    holds : (r : Reason) → IsByDriver r ⊎ IsProtocol name r → IsUnopened limit bytes r
    holds r (inl by) = subst (λ (x : Reason). IsUnopened limit bytes x) (sym by.1) (inr (inr (name, says)))
    holds r (inr (told, is, text, none)) = subst (λ (x : Reason). IsUnopened limit bytes x) (sym is) (
      subst (λ (n : List ℕ). SaysBacking bytes (Some n)) (sym text) says,
      ap file_named text ∙ none,
    )

-- by the host's answer, or that one of a driver or a storage
pub by_cause :
    (path : List ℕ) (why : Reason → Type 0) (cause : Error) → ((answer : _) → why (Reason.System answer))
    → why (Reason.Image cause) → (e : OpenError) → IsRefused path (IsBySystemOr cause) e → IsRefused path why e
by_cause path why cause system driver e h = weaker path (IsBySystemOr cause) why holds e h
  where
    holds : (r : Reason) → IsBySystemOr cause r → why r
    holds r (inl by) = subst (λ (x : Reason). why x) (sym by.1) (system by.0)
    holds r (inr is) = subst (λ (x : Reason). why x) (sym is) driver

-- where that answer is one of a storage's
pub unread_by :
    (path : List ℕ) (cause : Error) → IsExtRefusal cause → (e : OpenError)
    → IsRefused path (IsBySystemOr cause) e → IsRefused path IsUnread e
unread_by path cause ext e h = by_cause path IsUnread cause (λ answer. tt) ext e h

-- by a file that isn't read
pub by_read :
    (path : List ℕ) (why : Reason → Type 0) → ((answer : _) → why (Reason.System answer))
    → ((error : Error) → IsExtRefusal error → why (Reason.Image error))
    → (e : OpenError) → IsRefused path IsUnread e → IsRefused path why e
by_read path why system driver e h = weaker path IsUnread why holds e h
  where
    holds : (r : Reason) → IsUnread r → why r
    holds (Reason.System answer) t = system answer
    holds (Reason.Image error) ext = driver error ext
    holds (Reason.Header fault) never = absurd never
    holds (Reason.TablesTooLarge most) never = absurd never
    holds (Reason.L1TooLong told) never = absurd never
    holds (Reason.DiskTooLong size most) never = absurd never
    holds Reason.Sparse never = absurd never
    holds (Reason.Recognised found) never = absurd never
    holds (Reason.Another said found) never = absurd never
    holds (Reason.TwoFormats found other) never = absurd never
    holds (Reason.BackingOutside name) never = absurd never
    holds (Reason.BackingNotPermitted name) never = absurd never
    holds (Reason.BackingProtocol name) never = absurd never
    holds (Reason.BackingFormat name) never = absurd never
    holds (Reason.Loop told) never = absurd never
    holds (Reason.TooManyBelow told) never = absurd never
    holds (Reason.Outside name) never = absurd never
    holds (Reason.NotPermitted name) never = absurd never
    holds Reason.OnlyRead never = absurd never
    holds Reason.NotAFile never = absurd never

pub each_read :
    {T : Type 0} (r : Result T OpenError) (path : List ℕ) (why : Reason → Type 0)
    → ((answer : _) → why (Reason.System answer))
    → ((error : Error) → IsExtRefusal error → why (Reason.Image error))
    → IfErr r (IsRefused path IsUnread) → IfErr r (IsRefused path why)
each_read (Ok x) path why system driver h = tt
each_read (Err e) path why system driver h = by_read path why system driver e h

-- by an answer of a driver that was passed on
pub by_answer :
    {T : Type 0} (answer : Result T Error) (r : Result T OpenError) (path : List ℕ) (P : Error → Type 0)
    (why : Reason → Type 0) → MatchResult answer (λ x. r ≡ Ok x) (λ _. IsErr r)
    → IfErr answer (λ cause. IfErr r (IsRefused path (λ told. told ≡ Reason.Image cause)))
    → IfErr answer P → ((cause : Error) → P cause → why (Reason.Image cause))
    → IfErr r (IsRefused path why)
by_answer {T} (Ok x) r path P why given told p holds =
    subst (λ (q : Result T OpenError). IfErr q (IsRefused path why)) (sym given) tt
by_answer (Err cause) (Ok x) path P why given told p holds = tt
by_answer (Err cause) (Err e) path P why given told p holds =
    refused_for path why (Reason.Image cause) (holds cause p) e told

-- the reasons of a storage's that a driver passes on
pub ext_reasons :
    (cause : Error → Type 0) → ((x : Error) → cause x → x ≡ Error.WrapAround) → (device memory : Type 0) (e : Error)
    → allowed (record without { cause = cause; device = device; memory = memory }) e → IsExtRefusal e
ext_reasons cause wraps device memory E.ReadOnly h = absurd h
ext_reasons cause wraps device memory E.BeyondDisk h = absurd h
ext_reasons cause wraps device memory E.RangeOverflow h = absurd h
ext_reasons cause wraps device memory E.WrapAround h = inl refl
ext_reasons cause wraps device memory E.InvalidData h = inl (wraps Error.InvalidData h)
ext_reasons cause wraps device memory E.Unsupported h = inl (wraps Error.Unsupported h)
ext_reasons cause wraps device memory E.NoAccess h = inl (wraps Error.NoAccess h)
ext_reasons cause wraps device memory E.Device h = inr (inl refl)
ext_reasons cause wraps device memory E.Memory h = inr (inr refl)
ext_reasons cause wraps device memory E.ForeignMapping h = absurd h
ext_reasons cause wraps device memory E.Denied h = absurd h
ext_reasons cause wraps device memory E.NotFound h = absurd h

-- a refusal of the qcow2 driver, by the bytes of its file
pub by_opening :
    (f : Features) (own held : List ℕ) (e : Error) → IsTrue f.tells_bytes → own ≡ held
    → IsRefusedOpening f own e → IsByQcow2 held e
by_opening f own held e tells is h = subst (λ (bytes : List ℕ). IsByQcow2 bytes e) is (either (h.1 tells))
  where
    either : (header_of own (length own) ≡ Err e) ⊎ allowed (open_reasons f own) e → IsByQcow2 own e
    either (inl fault) = inr (inl fault)
    either (inr reasons) = inl (ext_reasons
        (λ x. (x ≡ Error.WrapAround) × (Wraps f 0 112 ⊎ (IsOk (header_of own (length own)) × TablesWrap f own)))
        (λ x h. h.0)
        (f.is_reliable ≡ false)
        (IsOk (header_of own (length own)) ⊎ (IsAlignedRequest f 0 112 → MayRunOut f.read_memory (length own) (0 + 112))
        ⊎ MayRunOut f.other_memory 0 0) e reasons)

-- the same where a host tells what the file has
pub qcow2_out :
    {S : Type 0} (features : S → Features) (bytes : S → List ℕ) (known : Option (List ℕ → List ℕ))
    (path : List ℕ) (limit : Option ℕ) (s : S) (cause : Error) (e : OpenError)
    → IsRefusedOpening (features s) (bytes s) cause
    → IfSome known (λ files. IsByQcow2 (files path) cause → IsRefused path (IsUnopened limit (files path)) e)
    → IfSome known (λ files. HasBytes features bytes (files path) s
    → IsRefused path (IsUnopened limit (files path)) e)
qcow2_out features bytes None path limit s cause e why h = tt
qcow2_out features bytes (Some files) path limit s cause e why h =
    λ told. h (by_opening (features s) (bytes s) (files path) cause told.0 told.1 why)

-- and where what the host or the driver answered is told
pub answer_out :
    (P : List ℕ → Error → Type 0) (known : Option (List ℕ → List ℕ)) (path : List ℕ) (cause : Error) (e : OpenError)
    → IsRefused path (IsBySystemOr cause) e → (limit : Option ℕ)
    → IfSome known (λ files. P (files path) cause → IsRefused path (IsUnopenedBy (P (files path)) limit (files path)) e)
answer_out P None path cause e h limit = tt
answer_out P (Some files) path cause e h limit =
    λ by. by_cause path (IsUnopenedBy (P (files path)) limit (files path)) cause (λ answer. tt) by e h

-- the fault of a header, by what was read of its file
pub header_out :
    (P : List ℕ → Error → Type 0) (known : Option (List ℕ → List ℕ)) (path head : List ℕ) (count : ℕ) (fault : _) (e : OpenError)
    → IfSome known (λ files. head ≡ bytes_at (files path) 0 (length head)) → length head ≡ 112
    → IfSome known (λ files. count ≡ length (files path)) → header_of head count ≡ Err (error_of fault)
    → IsRefused path (λ told. told ≡ Reason.Header fault) e → (cause : Error) → (limit : Option ℕ)
    → IfSome known (λ files. P (files path) cause → IsRefused path (IsUnopenedBy (P (files path)) limit (files path)) e)
header_out P None path head count fault e read long size at h cause limit = tt
header_out P (Some files) path head count fault e read long size at h cause limit = λ by.
    let is : head ≡ bytes_at (files path) 0 112 = read ∙ ap (bytes_at (files path) 0) long in
    refused_for path (IsUnopenedBy (P (files path)) limit (files path)) (Reason.Header fault)
    (ap (λ (xs : List ℕ). header_of xs (length (files path))) (sym is)
    ∙ ap (header_of head) (sym size) ∙ at) e h

-- whatever the driver answered
pub told_out :
    (known : Option (List ℕ → List ℕ)) (path : List ℕ) (limit : Option ℕ) (e : OpenError)
    → IfSome known (λ files. Unit {0} → IsRefused path (IsUnopenedBy (λ error. Unit {0}) limit (files path)) e)
    → IfSome known (λ files. IsRefused path (IsUnopenedBy (λ error. Unit {0}) limit (files path)) e)
told_out None path limit e h = tt
told_out (Some files) path limit e h = h tt

-- what follows of each host that tells what its files have
pub where_held :
    (known : Option (List ℕ → List ℕ)) (P Q : (List ℕ → List ℕ) → Type 0)
    → IfSome known P → ((files : List ℕ → List ℕ) → P files → Q files) → IfSome known Q
where_held None P Q h k = tt
where_held (Some files) P Q h k = k files h

pub both_held :
    (known : Option (List ℕ → List ℕ)) (P Q R : (List ℕ → List ℕ) → Type 0)
    → IfSome known P → IfSome known Q → ((files : List ℕ → List ℕ) → P files → Q files → R files)
    → IfSome known R
both_held None P Q R h i k = tt
both_held (Some files) P Q R h i k = k files h i

pub not_false : (b : Bool) → not b ≡ false → b ≡ true
not_false true e = refl
not_false false e = let none : ⊥ = cc e in absurd none

-- what stands out of bounds leads out of the folder
pub leads_out :
    (reals : Option (List ℕ → List ℕ)) (image path : List ℕ) (bounds : Option (List ℕ))
    → IsBounded reals image bounds → IsBeyond reals path bounds
    → IfSome reals (λ real. PathStartsWith (real path) (real (folder_asked image)) → ⊥)
leads_out None image path bounds b beyond = tt
leads_out (Some real) image path None b beyond = absurd beyond
leads_out (Some real) image path (Some folder) b beyond =
    λ within. beyond (subst (λ (f : List ℕ). PathStartsWith (real path) f) (sym b) within)

-- what is let through stands inside, where no link leads out of bounds
pub stands_inside :
    (reals : Option (List ℕ → List ℕ)) (others : OtherFiles) (image path : List ℕ) (bounds : Option (List ℕ))
    → IsLetThrough others image path → (others ≡ Others.InFolder → IsWithin reals path bounds)
    → (others ≡ Others.InFolder → IsSome bounds) → IsBounded reals image bounds → IsInside reals others image path
stands_inside reals Others.None image path bounds through within some b = absurd through
stands_inside reals Others.InFolder image path None through within some b =
    let s : IsSome {T = List ℕ} None = some refl in let none : ⊥ = cc s in absurd none
stands_inside None Others.InFolder image path (Some folder) through within some b = tt
stands_inside (Some real) Others.InFolder image path (Some folder) through within some b =
    subst (λ (f : List ℕ). PathStartsWith (real path) f) b (within refl)
stands_inside reals Others.Any image path bounds through within some b = tt

-- what the driver refused where the tables are limited
pub driver_fault :
    (P : Error → Type 0) (Q : Type 0) (fault : OpenFault) (cause : Error) → fault ≡ OpenFault.Driver cause
    → by_fault P Q fault → P cause
driver_fault P Q fault cause is h = subst (λ (f : OpenFault). by_fault P Q f) is h

-- a qcow2 file whose tables are larger than the limit
pub too_large :
    {S : Type 0} (features : S → Features) (bytes : S → List ℕ) (known : Option (List ℕ → List ℕ))
    (path : List ℕ) (s : S) (most : ℕ) (e : OpenError) (driver : Error → Type 0) (fault : OpenFault)
    → fault ≡ OpenFault.TablesTooLarge
    → by_fault driver (TablesNeedMore (features s) (bytes s) (Some most)) fault
    → IsRefused path (λ told. told ≡ Reason.TablesTooLarge most) e
    → IfSome known (λ files. HasBytes features bytes (files path) s
    → IsRefused path (IsUnopened (Some most) (files path)) e)
too_large features bytes None path s most e driver fault is need h = tt
too_large features bytes (Some files) path s most e driver fault is need h = λ told.
    let needs : TablesNeedMore (features s) (bytes s) (Some most) =
    subst (λ (f : OpenFault). by_fault driver (TablesNeedMore (features s) (bytes s) (Some most)) f) is need in
    refused_for path (IsUnopened (Some most) (files path)) (Reason.TablesTooLarge most)
    (refl, (features s, told.0, subst (λ (b : List ℕ). TablesNeedMore (features s) b (Some most)) told.1 needs)) e h

-- a layer that isn't opened, over the bytes of the host's own file
pub layer_refused :
    {T S : Type 0} (features : S → Features) (bytes : S → List ℕ) (known : Option (List ℕ → List ℕ))
    (path : List ℕ) (limit : Option ℕ) (s file : S) (r : Result T OpenError) → s ≡ file
    → ((most : Option ℕ) (held : List ℕ) → HasBytes features bytes held s
    → IfErr r (IsRefused path (IsUnopened most held)))
    → IfErr r (λ e. IfSome known (λ files. HasBytes features bytes (files path) file
    → IsRefused path (IsUnopened limit (files path)) e))
layer_refused features bytes known path limit s file (Ok x) is h = tt
layer_refused features bytes None path limit s file (Err e) is h = tt
layer_refused features bytes (Some files) path limit s file (Err e) is h =
    λ told. h limit (files path) (told_same features bytes (files path) s file is told)
