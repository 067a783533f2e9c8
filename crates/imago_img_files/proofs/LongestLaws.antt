-- That a disk is too long is told by its file's head.
-- SPDX-License-Identifier: MIT
use Rattle.std.proofs.Common.{◌≡◌, ℕ, ◌+◌, ◌<◌, ◌⊎◌, List, length, Err, refl, sym, ap, ◌∙◌, subst, inl, inr, arith}
use Rattle.std.specs.Prelude.{slice_index}
use Rattle.std.proofs.lemmas.List.FromFn.{get_or-map-range_with_len}
use Rattle.imago_storage.specs.declared.error.Error.{Error}
use Rattle.imago_storage.specs.Error.{IsExtRefusal}
use Rattle.imago_storage.specs.Bytes.{bytes_at}
use Rattle.imago_vmdk.specs.declared.line.Accepted.{Accepted}
use Rattle.imago_vmdk.specs.Reading.{reading_of}
use Rattle.imago_qcow2.specs.Numbers.{be64}
use Rattle.imago_qcow2.specs.Header.{header_of}
use Rattle.imago_qcow2.specs.Entry.{disk_size}
use Rattle.imago_qcow2.specs.Fault.{error_of}
use Rattle.imago_qcow2.proofs.HeaderSteps.{same64}
use Rattle.imago_images.specs.declared.failure.Reason.{Reason}
use Rattle.imago_images.specs.declared.format.ImageFormat.{ImageFormat}
use Rattle.imago_images.specs.declared.format.ImageFormat.TheVariants.{Raw, Vmdk, Qcow2}
use Rattle.imago_images.specs.Extents.{size_read}
use Rattle.imago_images.specs.Layers.{size_by}
use Rattle.imago_images.specs.Longest.{IsOverLimit, IsSizeUnknown}
use Rattle.imago_img_files.specs.Openings.{HasSameHead, TooLongByHead}

-- the size that a header says is one of its bytes
head_byte : (bytes : List ℕ) (i : ℕ) → i < 112 → slice_index (bytes_at bytes 0 112) i ≡ slice_index bytes i
head_byte bytes i lt =
    let e : 0 + i ≡ i = omega arith in
    get_or-map-range_with_len (slice_index bytes) 0 112 i (0 + i) 0 lt refl ∙ ap (slice_index bytes) e

size_in_head : (bytes : List ℕ) → be64 (bytes_at bytes 0 112) 24 ≡ disk_size bytes
size_in_head bytes = same64 bytes (bytes_at bytes 0 112) (head_byte bytes) 24 (omega arith)

same_size :
    (accepted : Accepted) (format : ImageFormat) (one other : List ℕ) → HasSameHead format one other
    → size_by accepted format one ≡ size_by accepted format other
same_size accepted Raw one other same = same
same_size accepted Vmdk one other same = ap (λ (xs : List ℕ). size_read (reading_of accepted xs)) same
same_size accepted Qcow2 one other same =
    sym (size_in_head one) ∙ ap (λ (xs : List ℕ). be64 xs 24) same.1 ∙ size_in_head other

module _ (accepted : Accepted) (format : ImageFormat) (one other : List ℕ) (same : HasSameHead format one other) where
  by_header :
      (error : Error) → format ≡ Qcow2 → header_of (bytes_at one 0 112) (length one) ≡ Err error
      → header_of (bytes_at other 0 112) (length other) ≡ Err error
  by_header error is h =
      let alike : HasSameHead Qcow2 one other = subst (λ (f : ImageFormat). HasSameHead f one other) is same in
      subst (λ (xs : List ℕ). header_of xs (length other) ≡ Err error) alike.1
      (subst (λ (n : ℕ). header_of (bytes_at one 0 112) n ≡ Err error) alike.0 h)

  by_text :
      (error : Error) → IsExtRefusal error ⊎ ((format ≡ Vmdk) × (reading_of accepted one ≡ Err error))
      → IsExtRefusal error ⊎ ((format ≡ Vmdk) × (reading_of accepted other ≡ Err error))
  by_text error (inl ext) = inl ext
  by_text error (inr (is, h)) =
      let alike : HasSameHead Vmdk one other = subst (λ (f : ImageFormat). HasSameHead f one other) is same in
      inr (is, subst (λ (xs : List ℕ). reading_of accepted xs ≡ Err error) alike h)

  unknown : (r : Reason) → IsSizeUnknown accepted format one r → IsSizeUnknown accepted format other r
  unknown (Reason.System answer) h = tt
  unknown (Reason.Image error) h = by_text error h
  unknown (Reason.Header fault) h = (h.0, by_header (error_of fault) h.0 h.1)
  unknown (Reason.TablesTooLarge most) h = absurd h
  unknown (Reason.L1TooLong told) h = absurd h
  unknown (Reason.DiskTooLong size most) h = absurd h
  unknown Reason.Sparse h = absurd h
  unknown (Reason.Recognised found) h = absurd h
  unknown (Reason.Another said found) h = absurd h
  unknown (Reason.TwoFormats found other) h = absurd h
  unknown (Reason.BackingOutside name) h = absurd h
  unknown (Reason.BackingNotPermitted name) h = absurd h
  unknown (Reason.BackingProtocol name) h = absurd h
  unknown (Reason.BackingFormat name) h = absurd h
  unknown (Reason.Loop told) h = absurd h
  unknown (Reason.TooManyBelow told) h = absurd h
  unknown (Reason.Outside name) h = absurd h
  unknown (Reason.NotPermitted name) h = absurd h
  unknown Reason.OnlyRead h = absurd h
  unknown Reason.NotAFile h = absurd h

pub too_long_by_head : TooLongByHead
too_long_by_head longest accepted format one other reason same (inl over) =
    inl (subst (λ (n : ℕ). IsOverLimit longest n reason) (same_size accepted format one other same) over)
too_long_by_head longest accepted format one other reason same (inr h) = inr (unknown accepted format one other same reason h)
