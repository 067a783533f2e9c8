-- How long the disk of a file is, by its header.
-- SPDX-License-Identifier: MIT
use Rattle.std.proofs.Common.{◌≡◌, ℕ, ◌+◌, ◌*◌, ◌<◌, ◌≤◌, List, length, slice_index, Err, refl, sym, ap, ◌∙◌, arith, inl, inr, subst}
use Rattle.std.proofs.Common.{◌^◌, ◌⊎◌, false, Option, Result, Ok, IfOk, IfErr, IsOk}
use Rattle.std.proofs.lemmas.Bool.Decides.{nat_tests}
use Rattle.std.proofs.lemmas.List.FromFn.{get_or-map-range_with_len}
use Rattle.imago_storage.specs.Bytes.{bytes_at}
use Rattle.imago_qcow2.specs.declared.header.Header.{Header}
use Rattle.imago_qcow2.specs.Numbers.{be32, be64}
use Rattle.imago_qcow2.specs.Header.{header_of, IsSound}
use Rattle.imago_qcow2.specs.Entry.{disk_size}
use Rattle.imago_qcow2.specs.Fault.{error_of}
use Rattle.imago_qcow2.specs.Limit.{IsWithin, l1_length}
use Rattle.imago_qcow2.proofs.HeaderSteps.{same32, same64}
use Rattle.imago_storage.specs.declared.error.Error.{Error}
use Rattle.imago_storage.specs.declared.error.Error.TheVariants as E
use Rattle.imago_storage.specs.Error.{IsExtRefusal}
use Rattle.imago_vmdk.specs.declared.line.Accepted.{Accepted}
use Rattle.imago_vmdk.specs.declared.line.Extent.{Extent}
use Rattle.imago_vmdk.specs.Reading.{reading_of, is_length, GivesOrMemory}
use Rattle.imago_images.specs.declared.failure.OpenError.{OpenError}
use Rattle.imago_images.specs.declared.failure.Reason.{Reason}
use Rattle.imago_images.specs.declared.format.ImageFormat.{ImageFormat}
use Rattle.imago_images.specs.declared.format.ImageFormat.TheVariants.{Vmdk, Qcow2}
use Rattle.imago_images.specs.Layers.{size_by}
use Rattle.imago_images.specs.Longest.{IsOverLimit, IsSizeUnknown, IsTooLong, IsTooLarge, HasShortL1}
use Rattle.imago_images.specs.Refusals.{IsRefused, IsBySystemOr, IsUnread}
use Rattle.imago_images.proofs.RefusalSteps.{refused_for, weaker, by_cause, by_read}

-- a number of the first 112 bytes is that of the file
pub head_byte : (bytes : List ℕ) (i : ℕ) → i < 112 → slice_index (bytes_at bytes 0 112) i ≡ slice_index bytes i
head_byte bytes i lt =
    let e : 0 + i ≡ i = omega arith in
    get_or-map-range_with_len (slice_index bytes) 0 112 i (0 + i) 0 lt refl ∙ ap (slice_index bytes) e

pub size_in_head :
    (bytes head : List ℕ) (file : ℕ) (h : Header) → head ≡ bytes_at bytes 0 112 → IsSound head file h
    → h.size ≡ disk_size bytes
size_in_head bytes head file h read sound =
    sound.size ∙ ap (λ (xs : List ℕ). be64 xs 24) read
    ∙ same64 bytes (bytes_at bytes 0 112) (head_byte bytes) 24 (omega arith)

-- its fault is why the size isn't told
pub faulty_head :
    (path bytes head : List ℕ) (n : ℕ) (fault : _) (e : OpenError) → head ≡ bytes_at bytes 0 112
    → n ≡ length bytes → header_of head n ≡ Err (error_of fault)
    → IsRefused path (λ told. told ≡ Reason.Header fault) e → (accepted : Accepted)
    → IsRefused path (IsSizeUnknown accepted Qcow2 bytes) e
faulty_head path bytes head n fault e read size at h accepted =
    refused_for path (IsSizeUnknown accepted Qcow2 bytes) (Reason.Header fault)
    (refl, ap (λ (xs : List ℕ). header_of xs (length bytes)) (sym read) ∙ ap (header_of head) (sym size) ∙ at) e h

-- a refused read is one
pub unknown_by_read :
    (path bytes : List ℕ) (accepted : Accepted) (format : ImageFormat) (e : OpenError) → IsRefused path IsUnread e
    → IsRefused path (IsSizeUnknown accepted format bytes) e
unknown_by_read path bytes accepted format e h =
    by_read path (IsSizeUnknown accepted format bytes) (λ answer. tt) (λ error ext. inl ext) e h

pub unknown_by_cause :
    (path bytes : List ℕ) (accepted : Accepted) (format : ImageFormat) (cause : Error) → IsExtRefusal cause
    → (e : OpenError) → IsRefused path (IsBySystemOr cause) e
    → IsRefused path (IsSizeUnknown accepted format bytes) e
unknown_by_cause path bytes accepted format cause ext e h =
    by_cause path (IsSizeUnknown accepted format bytes) cause (λ answer. tt) (inl ext) e h

pub unknown_by_length :
    {T : Type 0} (r : Result T OpenError) (path bytes : List ℕ) (accepted : Accepted) (format : ImageFormat)
    → IfErr r (IsRefused path IsUnread) → IfErr r (IsRefused path (IsSizeUnknown accepted format bytes))
unknown_by_length (Ok x) path bytes accepted format h = tt
unknown_by_length (Err e) path bytes accepted format h = unknown_by_read path bytes accepted format e h

-- a descriptor that is too long isn't read
pub text_too_long : (accepted : Accepted) (bytes : List ℕ) → 2 ^ 21 < length bytes → reading_of accepted bytes ≡ Err E.InvalidData
unfolding reading_of
text_too_long accepted bytes long =
    let out : is_length (length bytes) ≡ false = grind (arith, nat_tests, long) in rw out refl

pub long_text :
    (path bytes : List ℕ) (accepted : Accepted) (n : ℕ) (e : OpenError) → n ≡ length bytes → 2 ^ 21 < n
    → IsRefused path (λ told. told ≡ Reason.Image E.InvalidData) e
    → IsRefused path (IsSizeUnknown accepted Vmdk bytes) e
long_text path bytes accepted n e is long h =
    refused_for path (IsSizeUnknown accepted Vmdk bytes) (Reason.Image E.InvalidData)
    (inr (refl, text_too_long accepted bytes (subst (λ (k : ℕ). 2 ^ 21 < k) is long))) e h

-- the text of one that was read is refused
pub text_refused :
    {V : Type 0} (view : V → List (Extent (List ℕ)) × ℕ) (path bytes text : List ℕ) (accepted : Accepted)
    (r : Result V Error) (cause : Error) (e : OpenError) → r ≡ Err cause → text ≡ bytes
    → GivesOrMemory view r (reading_of accepted text)
    → IsRefused path (λ told. told ≡ Reason.Image cause) e
    → IsRefused path (IsSizeUnknown accepted Vmdk bytes) e
text_refused {V} view path bytes text accepted r cause e is same gives h =
    refused_for path (IsSizeUnknown accepted Vmdk bytes) (Reason.Image cause) (either here) e h
  where
    here : (reading_of accepted bytes ≡ Err cause) ⊎ ((cause ≡ E.Memory) × IsOk (reading_of accepted bytes))
    here = subst (λ (xs : List ℕ). (reading_of accepted xs ≡ Err cause) ⊎ ((cause ≡ E.Memory) × IsOk (reading_of accepted xs))) same
        (subst (λ (q : Result V Error). GivesOrMemory view q (reading_of accepted text)) is gives)

    either : (reading_of accepted bytes ≡ Err cause) ⊎ ((cause ≡ E.Memory) × IsOk (reading_of accepted bytes))
        → IsSizeUnknown accepted Vmdk bytes (Reason.Image cause)
    either (inl fault) = inr (refl, fault)
    either (inr never) = inl (inr (inr never.0))

-- a disk whose size isn't told is refused as one that is too long
pub long_unknown :
    (path bytes : List ℕ) (longest : Option ℕ) (accepted : Accepted) (format : ImageFormat) (e : OpenError)
    → IsRefused path (IsSizeUnknown accepted format bytes) e
    → IsRefused path (IsTooLong longest accepted format bytes) e
long_unknown path bytes longest accepted format e h =
    weaker path (IsSizeUnknown accepted format bytes) (IsTooLong longest accepted format bytes) (λ r u. inr u) e h

-- and so is one whose size is over the limit
pub long_over :
    {T : Type 0} (path bytes : List ℕ) (longest : Option ℕ) (accepted : Accepted) (format : ImageFormat)
    (size : ℕ) (r : Result T OpenError) → size ≡ size_by accepted format bytes
    → IfErr r (IsRefused path (IsOverLimit longest size))
    → IfErr r (IsRefused path (IsTooLong longest accepted format bytes))
long_over path bytes longest accepted format size (Ok x) is h = tt
long_over path bytes longest accepted format size (Err e) is h =
    weaker path (IsOverLimit longest size) (IsTooLong longest accepted format bytes)
    (λ r o. inl (subst (λ (n : ℕ). IsOverLimit longest n r) is o)) e h

pub long_within :
    {T : Type 0} (longest : Option ℕ) (size other : ℕ) (r : Result T OpenError) → size ≡ other
    → IfOk r (λ _. IsWithin longest size) → IfOk r (λ _. IsWithin longest other)
long_within longest size other r is h = subst (λ (n : ℕ). IfOk r (λ _. IsWithin longest n)) is h

-- the L1 table is as long as the first bytes say
pub l1_in_head : (bytes head : List ℕ) (n : ℕ) → head ≡ bytes_at bytes 0 112 → n ≡ l1_length head → n ≡ l1_length bytes
l1_in_head bytes head n read is =
    let count : be32 (bytes_at bytes 0 112) 36 ≡ be32 bytes 36 = same32 bytes (bytes_at bytes 0 112) (head_byte bytes) 36 (omega arith) in
    is ∙ ap l1_length read ∙ ap (λ (k : ℕ). 8 * k) count

-- a disk that is too long is refused as a file that is too large, and so is one whose L1 table is
pub large_long :
    (path bytes : List ℕ) (longest : Option ℕ) (accepted : Accepted) (format : ImageFormat) (e : OpenError)
    → IsRefused path (IsTooLong longest accepted format bytes) e
    → IsRefused path (IsTooLarge longest accepted format bytes) e
large_long path bytes longest accepted format e h =
    weaker path (IsTooLong longest accepted format bytes) (IsTooLarge longest accepted format bytes) (λ r long. inl long) e h

pub large_unknown :
    (path bytes : List ℕ) (longest : Option ℕ) (accepted : Accepted) (format : ImageFormat) (e : OpenError)
    → format ≡ Qcow2 → IsRefused path (IsSizeUnknown accepted Qcow2 bytes) e
    → IsRefused path (IsTooLarge longest accepted format bytes) e
large_unknown path bytes longest accepted format e is h =
    large_long path bytes longest accepted format e (long_unknown path bytes longest accepted format e
    (subst (λ (f : ImageFormat). IsRefused path (IsSizeUnknown accepted f bytes) e) (sym is) h))

pub large_l1 :
    (path bytes : List ℕ) (longest : Option ℕ) (accepted : Accepted) (format : ImageFormat) (n : ℕ) (e : OpenError)
    → format ≡ Qcow2 → n ≡ l1_length bytes → 2 ^ 25 < n
    → IsRefused path (λ told. told ≡ Reason.L1TooLong n) e
    → IsRefused path (IsTooLarge longest accepted format bytes) e
large_l1 path bytes longest accepted format n e qcow2 is long h =
    refused_for path (IsTooLarge longest accepted format bytes) (Reason.L1TooLong n)
    (inr (qcow2, is, long)) e h

pub short_l1 : (format : ImageFormat) (bytes : List ℕ) (n : ℕ) → format ≡ Qcow2 → n ≡ l1_length bytes → n ≤ 2 ^ 25 → HasShortL1 format bytes
short_l1 format bytes n qcow2 is short =
    let here : HasShortL1 Qcow2 bytes = subst (λ (k : ℕ). k ≤ 2 ^ 25) is short in
    subst (λ (f : ImageFormat). HasShortL1 f bytes) (sym qcow2) here
