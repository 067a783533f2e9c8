-- What is safe to hand on opens: each refusal that tells of the file is denied by what is so of it.
-- SPDX-License-Identifier: MIT
use Rattle.std.proofs.Common.{◌≡◌, ℕ, zero, suc, ◌+◌, ◌*◌, ◌^◌, ◌<◌, ◌≤◌, ◌⊎◌, Bool, true, false, List, [], ◌∷◌, length, Option, Some, None, Result, Ok, Err, IfErr, IfSome, IsErr, MatchResult, IsTrue, refl, sym, ap, ◌∙◌, subst, inl, inr, arith}
use Rattle.std.specs.Prelude.{IsOk, slice_index}
use Rattle.std.proofs.lemmas.List.FromFn.{get_or-map-range_with_len}
use Rattle.imago_storage.specs.declared.error.Error.{Error}
use Rattle.imago_storage.specs.Error.{IsExtRefusal}
use Rattle.imago_storage.specs.Features.{Features}
use Rattle.imago_storage.specs.Bytes.{IsReadAt, bytes_at}
use Rattle.imago_vmdk.specs.Reading.{reading_of}
use Rattle.imago_qcow2.specs.declared.entry.L2Table.{L2Table}
use Rattle.imago_qcow2.specs.declared.entry.L2Table.TheVariants as T
use Rattle.imago_qcow2.specs.declared.header.Header.{Header}
use Rattle.imago_qcow2.specs.Numbers.{be64}
use Rattle.imago_qcow2.specs.Header.{header_of}
use Rattle.imago_qcow2.specs.Entry.{cluster_length, l1_start, table_of}
use Rattle.imago_qcow2.specs.Fault.{error_of}
use Rattle.imago_qcow2.specs.Limit.{has_offset, with_offset, with_table, table_offsets, IsWithin, TablesNeedMore, l1_length}
use Rattle.imago_qcow2.specs.Opening.{table_count}
use Rattle.imago_qcow2.specs.Tables.{says_entry, header_cluster, header_tables, AreEntriesRead}
use Rattle.imago_qcow2.proofs.NumberSteps.{read64}
use Rattle.imago_qcow2.proofs.HeaderSteps.{header_same}
use Rattle.imago_images.specs.declared.failure.OpenError.{OpenError}
use Rattle.imago_images.specs.declared.failure.Reason.{Reason}
use Rattle.imago_images.specs.declared.files.FileStatus.{FileStatus}
use Rattle.imago_images.specs.declared.format.ImageFormat.{ImageFormat}
use Rattle.imago_images.specs.declared.format.ImageFormat.TheVariants.{Raw, Vmdk, Qcow2}
use Rattle.imago_images.specs.declared.opening.Opening.{Opening}
use Rattle.imago_images.specs.declared.opening.OtherFiles.{OtherFiles}
use Rattle.imago_images.specs.declared.opening.OtherFiles.TheVariants as Others
use Rattle.imago_formats.specs.declared.signature.Signature.{Signature}
use Rattle.imago_images.specs.Alone.{HasOneFormat, IsOfAnother}
use Rattle.imago_images.specs.Chains.{GoesDown, IsLayerRefused, IsChainRefused, IsImageRefused}
use Rattle.imago_images.specs.Formats.{told_format, IsFormatBy}
use Rattle.imago_images.specs.Layers.{SaysBacking, size_by}
use Rattle.imago_images.specs.Longest.{IsNoLonger, IsOverLimit, IsSizeUnknown, IsTooLong, IsTooLarge, HasLongL1}
use Rattle.imago_images.specs.Refusals.{IsRefused, IsBySystem, IsUnread, IsUnseen, IsUnknown, IsUnopened, IsByQcow2, HasLargerTables}
use Rattle.imago_formats.specs.Signatures.{signature_of, other_signature_of}
use Rattle.imago_img_files.specs.declared.failure.Failure.{Failure}
use Rattle.imago_img_files.specs.Openings.{most_memory}
use Rattle.imago_img_files.specs.Failures.{IsOfHost, IsHostRefusal, IsHostFailure}
use Rattle.imago_img_checks.specs.Vetted.{named_by, named_tables, AreSafeTables, IsSafeQcow2, IsSafeAs, IsVetted, VettedOpens, VettedIsSeen, IsSeenAs}
use Rattle.imago_img_checks.specs.VettedParts.{is_of_file, is_told, IsTold}
use Rattle.imago_img_checks.proofs.VetSteps.{named_same, cluster_moved, count_moved, start_moved}

-- what is said of the reason of a refusal
host_refusal :
    (path : List ℕ) (why : Reason → Type 0) → ((r : Reason) → why r → IsOfHost r)
    → (e : OpenError) → IsRefused path why e → IsHostRefusal e
host_refusal path why k (OpenError.OfFile named r) h = k r h.1
host_refusal path why k OpenError.Memory h = tt

by_system : (r : Reason) → IsBySystem r → IsOfHost r
by_system r by = subst IsOfHost (sym by.1) tt

unseen : (statuses : Option (List ℕ → FileStatus)) (path : List ℕ) (r : Reason) → IsUnseen statuses path r → IsOfHost r
unseen statuses path (Reason.System answer) h = tt
unseen statuses path (Reason.Image error) h = absurd h
unseen statuses path (Reason.Header fault) h = absurd h
unseen statuses path (Reason.TablesTooLarge most) h = absurd h
unseen statuses path (Reason.L1TooLong told) h = absurd h
unseen statuses path (Reason.DiskTooLong size most) h = absurd h
unseen statuses path Reason.Sparse h = absurd h
unseen statuses path (Reason.Recognised found) h = absurd h
unseen statuses path (Reason.Another said found) h = absurd h
unseen statuses path (Reason.TwoFormats found other) h = absurd h
unseen statuses path (Reason.BackingOutside name) h = absurd h
unseen statuses path (Reason.BackingNotPermitted name) h = absurd h
unseen statuses path (Reason.BackingProtocol name) h = absurd h
unseen statuses path (Reason.BackingFormat name) h = absurd h
unseen statuses path (Reason.Loop told) h = absurd h
unseen statuses path (Reason.TooManyBelow told) h = absurd h
unseen statuses path (Reason.Outside name) h = absurd h
unseen statuses path (Reason.NotPermitted name) h = absurd h
unseen statuses path Reason.OnlyRead h = absurd h
unseen statuses path Reason.NotAFile h = tt

unread : (r : Reason) → IsUnread r → IsOfHost r
unread (Reason.System answer) h = tt
unread (Reason.Image error) h = h
unread (Reason.Header fault) h = absurd h
unread (Reason.TablesTooLarge most) h = absurd h
unread (Reason.L1TooLong told) h = absurd h
unread (Reason.DiskTooLong size most) h = absurd h
unread Reason.Sparse h = absurd h
unread (Reason.Recognised found) h = absurd h
unread (Reason.Another said found) h = absurd h
unread (Reason.TwoFormats found other) h = absurd h
unread (Reason.BackingOutside name) h = absurd h
unread (Reason.BackingNotPermitted name) h = absurd h
unread (Reason.BackingProtocol name) h = absurd h
unread (Reason.BackingFormat name) h = absurd h
unread (Reason.Loop told) h = absurd h
unread (Reason.TooManyBelow told) h = absurd h
unread (Reason.Outside name) h = absurd h
unread (Reason.NotPermitted name) h = absurd h
unread Reason.OnlyRead h = absurd h
unread Reason.NotAFile h = absurd h

-- a file has one format, and that isn't told
same_format : (a : Result ImageFormat Signature) (x y : ImageFormat) → a ≡ Ok x → a ≡ Ok y → y ≡ x
same_format a x y h k = cc (h, k)

unknown :
    (said : Option ImageFormat) (path bytes : List ℕ) (format : ImageFormat) → IsFormatBy said path bytes format
    → (r : Reason) → IsUnknown said path bytes r → IsOfHost r
unknown said path bytes format is r (inl h) = unread r h
unknown said path bytes format is r (inr (found, told, why)) = let never : ⊥ = cc (is, told) in absurd never

-- a file is of one format, and of another one too
one_alone :
    (said : Option ImageFormat) (found : Signature) (bytes : List ℕ) → HasOneFormat said (Some found) bytes
    → other_signature_of found bytes ≡ None
one_alone None found bytes one = one
one_alone (Some Raw) found bytes one = absurd one
one_alone (Some Vmdk) found bytes one = one
one_alone (Some Qcow2) found bytes one = one

two_formats :
    (said : Option ImageFormat) (o : Option Signature) (bytes : List ℕ) (found other : Signature)
    → HasOneFormat said o bytes → o ≡ Some found → other_signature_of found bytes ≡ Some other → ⊥
two_formats said o bytes found other one is two =
    let alone = one_alone said found bytes (subst (λ (x : Option Signature). HasOneFormat said x bytes) is one) in
    let never : ⊥ = cc (alone, two) in never

said_raw :
    (said : Option ImageFormat) (o : Option Signature) (bytes : List ℕ) (format : ImageFormat) (found : Signature)
    → HasOneFormat said o bytes → said ≡ Some format → format ≡ Raw → o ≡ Some found → ⊥
said_raw said o bytes format found one is raw told =
    subst (λ (x : Option Signature). HasOneFormat (Some Raw) x bytes) told
    (subst (λ (f : ImageFormat). HasOneFormat (Some f) o bytes) raw
    (subst (λ (x : Option ImageFormat). HasOneFormat x o bytes) is one))

another :
    (others : OtherFiles) (said : Option ImageFormat) (bytes : List ℕ) → HasOneFormat said (signature_of bytes) bytes
    → (r : Reason) → IsOfAnother others said bytes r → IsOfHost r
another others said bytes one (Reason.System answer) h = tt
another others said bytes one (Reason.Image error) h = h
another others said bytes one (Reason.Header fault) h = absurd h
another others said bytes one (Reason.TablesTooLarge most) h = absurd h
another others said bytes one (Reason.L1TooLong told) h = absurd h
another others said bytes one (Reason.DiskTooLong size most) h = absurd h
another others said bytes one Reason.Sparse h = absurd h
another others said bytes one (Reason.Recognised found) h = absurd h
another others said bytes one (Reason.Another format found) (none, is, raw, told) =
    absurd (said_raw said (signature_of bytes) bytes format found one is raw told)
another others said bytes one (Reason.TwoFormats found other) (none, is, two) =
    absurd (two_formats said (signature_of bytes) bytes found other one is two)
another others said bytes one (Reason.BackingOutside name) h = absurd h
another others said bytes one (Reason.BackingNotPermitted name) h = absurd h
another others said bytes one (Reason.BackingProtocol name) h = absurd h
another others said bytes one (Reason.BackingFormat name) h = absurd h
another others said bytes one (Reason.Loop told) h = absurd h
another others said bytes one (Reason.TooManyBelow told) h = absurd h
another others said bytes one (Reason.Outside name) h = absurd h
another others said bytes one (Reason.NotPermitted name) h = absurd h
another others said bytes one Reason.OnlyRead h = absurd h
another others said bytes one Reason.NotAFile h = absurd h

-- a header that is accepted has no fault
module _ (bytes : List ℕ) (ok : IsOk (header_of bytes (length bytes))) where
  accepted_not : (r : Result Header Error) (error : Error) → r ≡ Err error → IsOk r → ⊥
  accepted_not r error is h =
      let wrong : IsOk {T = Header} (Err error) = subst (λ (x : Result Header Error). IsOk x) is h in
      let none : ⊥ = cc wrong in none

  no_fault : (error : Error) → header_of bytes (length bytes) ≡ Err error → ⊥
  no_fault error is = accepted_not (header_of bytes (length bytes)) error is ok

  begins : (i : ℕ) → i < 112 → slice_index (bytes_at bytes 0 112) i ≡ slice_index bytes i
  begins i lt =
      let e : 0 + i ≡ i = omega arith in
      get_or-map-range_with_len (slice_index bytes) 0 112 i (0 + i) 0 lt refl ∙ ap (slice_index bytes) e

  no_fault_read : (error : Error) → header_of (bytes_at bytes 0 112) (length bytes) ≡ Err error → ⊥
  no_fault_read error is =
      no_fault error (sym (header_same bytes (bytes_at bytes 0 112) begins (length bytes)) ∙ is)

-- a file below is named, or it isn't
no_name :
    (bytes name : List ℕ) → SaysBacking bytes None → SaysBacking bytes (Some name) → ⊥
no_name bytes name (inl none) some = omega (arith, none, some.0)
no_name bytes name (inr none) some = omega (arith, none, some.1)

-- the tables that are loaded are no more than those that are named
fewer : (t : L2Table) (offsets : List ℕ) → length (with_table t offsets) ≤ length offsets + named_by t
fewer T.Absent offsets = omega arith
fewer (T.Stored at) offsets = either (has_offset at offsets) refl
  where
    either : (b : Bool) → has_offset at offsets ≡ b → length (with_offset at offsets) ≤ length offsets + 1
    either true is = rw is (omega arith)
    either false is = rw is (omega arith)
fewer T.Invalid offsets = omega arith

few_offsets :
    (bytes : List ℕ) (cluster : ℕ) (entries : List ℕ) (n : ℕ)
    → length (table_offsets bytes cluster entries n) ≤ named_tables (says_entry bytes cluster entries) n
unfolding table_offsets
few_offsets bytes cluster entries zero = omega arith
few_offsets bytes cluster entries (suc n) =
    let before = few_offsets bytes cluster entries n in
    let one = fewer (says_entry bytes cluster entries n) (table_offsets bytes cluster entries n) in
    omega (arith, before, one)

module _ (f : Features) (bytes : List ℕ) (tells : IsTrue f.tells_bytes) (most : ℕ) (safe : AreSafeTables most bytes) where
  small_tables : TablesNeedMore f bytes (Some most) → ⊥
  small_tables (h, accepted, more) = either more
    where
      r : IsReadAt bytes 0 accepted.head
      r = accepted.is_head.read tells

      len : 112 ≤ length accepted.head
      len = omega (arith, accepted.is_head.len)

      cluster : header_cluster h ≡ cluster_length bytes
      cluster = accepted.sound.cluster ∙ cluster_moved bytes accepted.head r len

      start : h.l1_start ≡ l1_start bytes
      start = accepted.sound.start ∙ start_moved bytes accepted.head r len

      count : header_tables h ≡ table_count bytes
      count = let size = accepted.sound.size in let c = accepted.sound.cluster in
          rw (size, c) (count_moved bytes accepted.head r len)

      either : (most < 8 * header_tables h) ⊎ ((entries : List ℕ)
          × AreEntriesRead f bytes h.l1_start (header_tables h) entries
          × (most < 8 * header_tables h + header_cluster h * length (table_offsets bytes (header_cluster h) entries (header_tables h)))) → ⊥
      either (inl beyond) = omega (arith, count, beyond, safe.few)
      either (inr (entries, read, beyond)) =
          let same : (i : ℕ) → i < header_tables h → says_entry bytes (header_cluster h) entries i ≡ table_of bytes i =
          λ i below.
          let e : be64 entries (8 * i) ≡ be64 bytes (l1_start bytes + 8 * i) =
          read64 bytes entries h.l1_start (read.read tells) (8 * i) (omega (arith, read.len, below))
          ∙ ap (λ x. be64 bytes (x + 8 * i)) start in
          rw (cluster, e) refl in
          let few = few_offsets bytes (header_cluster h) entries (header_tables h) in
          let named : named_tables (says_entry bytes (header_cluster h) entries) (header_tables h) ≡ named_tables (table_of bytes) (table_count bytes) =
          named_same (says_entry bytes (header_cluster h) entries) (table_of bytes) (header_tables h) same ∙ ap (named_tables (table_of bytes)) count in
          no_more (length (table_offsets bytes (header_cluster h) entries (header_tables h)))
          (named_tables (table_of bytes) (table_count bytes)) (header_tables h) (table_count bytes) (header_cluster h) (cluster_length bytes) most
          count cluster (subst (λ n. length (table_offsets bytes (header_cluster h) entries (header_tables h)) ≤ n) named few) safe.few beyond
        where
          no_more : (loaded named n m c k most : ℕ) → n ≡ m → c ≡ k → loaded ≤ named → 8 * m + k * named ≤ most
              → most < 8 * n + c * loaded → ⊥
          no_more loaded named n m c k most is same few within beyond =
              let more : k * loaded ≤ k * named = grind (arith, few) in
              omega (arith, is, more, within, subst (λ x. most < 8 * n + x * loaded) same beyond)

-- a qcow2 file that is safe
module _ (limit : Option ℕ) (bytes : List ℕ) (safe : IsSafeQcow2 (most_memory limit) bytes) where
  by_qcow2 : (error : Error) → IsByQcow2 bytes error → IsExtRefusal error
  by_qcow2 error (inl ext) = ext
  by_qcow2 error (inr (inl fault)) = absurd (no_fault bytes safe.header error fault)
  by_qcow2 error (inr (inr (name, says))) = absurd (no_name bytes name safe.alone says)

  too_large : (most : ℕ) → limit ≡ Some most → HasLargerTables bytes most → ⊥
  too_large most is (f, tells, more) =
      let within : most_memory limit ≡ most = ap most_memory is in
      small_tables f bytes tells most (subst (λ n. AreSafeTables n bytes) within safe.tables) more

  unopened : (r : Reason) → IsUnopened limit bytes r → IsOfHost r
  unopened (Reason.System answer) h = tt
  unopened (Reason.Image error) h = by_qcow2 error h
  unopened (Reason.Header fault) h = absurd (no_fault_read bytes safe.header (error_of fault) h)
  unopened (Reason.TablesTooLarge most) h = absurd (too_large most h.0 h.1)
  unopened (Reason.L1TooLong told) h = absurd h
  unopened (Reason.DiskTooLong size most) h = absurd h
  unopened Reason.Sparse h = absurd h
  unopened (Reason.Recognised found) h = absurd h
  unopened (Reason.Another said found) h = absurd h
  unopened (Reason.TwoFormats found other) h = absurd h
  unopened (Reason.BackingOutside name) h = absurd h
  unopened (Reason.BackingNotPermitted name) h = absurd h
  unopened (Reason.BackingProtocol name) h = absurd (no_name bytes _ safe.alone h.0)
  unopened (Reason.BackingFormat name) h = absurd (no_name bytes h.0.0 safe.alone h.0.1)
  unopened (Reason.Loop told) h = absurd h
  unopened (Reason.TooManyBelow told) h = absurd h
  unopened (Reason.Outside name) h = absurd h
  unopened (Reason.NotPermitted name) h = absurd h
  unopened Reason.OnlyRead h = absurd h
  unopened Reason.NotAFile h = absurd h

-- what the size of a disk isn't told for
module _ (how : Opening) (bytes : List ℕ) where
  safe_qcow2 : (format : ImageFormat) → format ≡ Qcow2 → IsSafeAs how bytes format → IsSafeQcow2 (most_memory how.tables) bytes
  safe_qcow2 format is safe = subst (λ (f : ImageFormat). IsSafeAs how bytes f) is safe

  safe_vmdk : (format : ImageFormat) → format ≡ Vmdk → IsSafeAs how bytes format → ⊥
  safe_vmdk format is safe = subst (λ (f : ImageFormat). IsSafeAs how bytes f) is safe

  module _ (format : ImageFormat) (safe : IsSafeAs how bytes format) where
    size_by_text : (error : Error) → IsExtRefusal error ⊎ ((format ≡ Vmdk) × (reading_of how.accepted bytes ≡ Err error)) → IsExtRefusal error
    size_by_text error (inl ext) = ext
    size_by_text error (inr (is, fault)) = absurd (safe_vmdk format is safe)

    size_unknown : (r : Reason) → IsSizeUnknown how.accepted format bytes r → IsOfHost r
    size_unknown (Reason.System answer) h = tt
    size_unknown (Reason.Image error) h = size_by_text error h
    size_unknown (Reason.Header fault) h = absurd (no_fault_read bytes (safe_qcow2 format h.0 safe).header (error_of fault) h.1)
    size_unknown (Reason.TablesTooLarge most) h = absurd h
    size_unknown (Reason.L1TooLong told) h = absurd h
    size_unknown (Reason.DiskTooLong size most) h = absurd h
    size_unknown Reason.Sparse h = absurd h
    size_unknown (Reason.Recognised found) h = absurd h
    size_unknown (Reason.Another said found) h = absurd h
    size_unknown (Reason.TwoFormats found other) h = absurd h
    size_unknown (Reason.BackingOutside name) h = absurd h
    size_unknown (Reason.BackingNotPermitted name) h = absurd h
    size_unknown (Reason.BackingProtocol name) h = absurd h
    size_unknown (Reason.BackingFormat name) h = absurd h
    size_unknown (Reason.Loop told) h = absurd h
    size_unknown (Reason.TooManyBelow told) h = absurd h
    size_unknown (Reason.Outside name) h = absurd h
    size_unknown (Reason.NotPermitted name) h = absurd h
    size_unknown Reason.OnlyRead h = absurd h
    size_unknown Reason.NotAFile h = absurd h

    over_limit : (size : ℕ) → IsWithin how.longest size → (r : Reason) → IsOverLimit how.longest size r → IsOfHost r
    over_limit size within (Reason.System answer) h = absurd h
    over_limit size within (Reason.Image error) h = absurd h
    over_limit size within (Reason.Header fault) h = absurd h
    over_limit size within (Reason.TablesTooLarge most) h = absurd h
    over_limit size within (Reason.L1TooLong told) h = absurd h
    over_limit size within (Reason.DiskTooLong told most) h =
        let most_is : size ≤ most = subst (λ (o : Option ℕ). IsWithin o size) h.0 within in
        let never : ⊥ = omega (arith, most_is, h.2) in absurd never
    over_limit size within Reason.Sparse h = absurd h
    over_limit size within (Reason.Recognised found) h = absurd h
    over_limit size within (Reason.Another said found) h = absurd h
    over_limit size within (Reason.TwoFormats found other) h = absurd h
    over_limit size within (Reason.BackingOutside name) h = absurd h
    over_limit size within (Reason.BackingNotPermitted name) h = absurd h
    over_limit size within (Reason.BackingProtocol name) h = absurd h
    over_limit size within (Reason.BackingFormat name) h = absurd h
    over_limit size within (Reason.Loop told) h = absurd h
    over_limit size within (Reason.TooManyBelow told) h = absurd h
    over_limit size within (Reason.Outside name) h = absurd h
    over_limit size within (Reason.NotPermitted name) h = absurd h
    over_limit size within Reason.OnlyRead h = absurd h
    over_limit size within Reason.NotAFile h = absurd h

    long_l1 : (r : Reason) → HasLongL1 format bytes r → IsOfHost r
    long_l1 (Reason.L1TooLong told) h =
        let held : l1_length bytes ≤ 2 ^ 25 = (safe_qcow2 format h.0 safe).tables.held in
        let never : ⊥ = omega (arith, held, h.1, h.2) in absurd never
    long_l1 (Reason.System answer) h = absurd h
    long_l1 (Reason.Image error) h = absurd h
    long_l1 (Reason.Header fault) h = absurd h
    long_l1 (Reason.TablesTooLarge most) h = absurd h
    long_l1 (Reason.DiskTooLong size most) h = absurd h
    long_l1 Reason.Sparse h = absurd h
    long_l1 (Reason.Recognised found) h = absurd h
    long_l1 (Reason.Another said found) h = absurd h
    long_l1 (Reason.TwoFormats found other) h = absurd h
    long_l1 (Reason.BackingOutside name) h = absurd h
    long_l1 (Reason.BackingNotPermitted name) h = absurd h
    long_l1 (Reason.BackingProtocol name) h = absurd h
    long_l1 (Reason.BackingFormat name) h = absurd h
    long_l1 (Reason.Loop told) h = absurd h
    long_l1 (Reason.TooManyBelow told) h = absurd h
    long_l1 (Reason.Outside name) h = absurd h
    long_l1 (Reason.NotPermitted name) h = absurd h
    long_l1 Reason.OnlyRead h = absurd h
    long_l1 Reason.NotAFile h = absurd h

    too_long : IsNoLonger how.longest how.accepted format bytes → (r : Reason) → IsTooLong how.longest how.accepted format bytes r → IsOfHost r
    too_long within r (inl over) = over_limit (size_by how.accepted format bytes) within r over
    too_long within r (inr unknown) = size_unknown r unknown

    larger : IsNoLonger how.longest how.accepted format bytes → (r : Reason) → IsTooLarge how.longest how.accepted format bytes r → IsOfHost r
    larger within r (inl long) = too_long within r long
    larger within r (inr long) = long_l1 r long

module _ (how : Opening) (files : List ℕ → List ℕ) (statuses : Option (List ℕ → FileStatus)) (reals : Option (List ℕ → List ℕ))
    (others : OtherFiles) (path : List ℕ) where
  -- no way goes down from a file that is safe
  no_way : (format : ImageFormat) (next : List ℕ) → IsSafeAs how (files path) format → GoesDown files path format next → ⊥
  no_way format next safe (is, (name, file, says, named, beside)) =
      no_name (files path) name (safe_qcow2 how (files path) format is safe).alone says

  layer : (format : ImageFormat) → IsSafeAs how (files path) format → (e : OpenError)
      → IsLayerRefused files statuses reals others how path format e → IsHostRefusal e
  layer Raw safe e h = host_refusal path IsUnread unread e h
  layer Qcow2 safe e h = host_refusal path (IsUnopened how.tables (files path)) (unopened how.tables (files path) safe) e h
  layer Vmdk safe e h = absurd safe

  chain : (format : ImageFormat) (above : List (ℕ × ℕ)) (down : List (List ℕ)) → IsSafeAs how (files path) format → (e : OpenError)
      → IsChainRefused files statuses reals others how above path format down e → IsHostRefusal e
  chain format above [] safe e (inl h) = layer format safe e h
  chain format above [] safe e (inr (next, goes, rest)) = absurd (no_way format next safe goes)
  chain format above (next ∷ down) safe e (goes, through, rest) = absurd (no_way format next safe goes)

-- what is told of a file is no refusal of the host's
pub told_not_host : (e : OpenError) → IsTold e → IsHostRefusal e → ⊥
told_not_host (OpenError.OfFile named r) told host = reason r told host
  where
    error_told : (error : Error) → is_of_file error ≡ true → IsExtRefusal error → ⊥
    error_told error is (inl same) = let here = subst (λ (x : Error). is_of_file x ≡ true) same is in let never : ⊥ = cc here in never
    error_told error is (inr (inl same)) = let here = subst (λ (x : Error). is_of_file x ≡ true) same is in let never : ⊥ = cc here in never
    error_told error is (inr (inr same)) = let here = subst (λ (x : Error). is_of_file x ≡ true) same is in let never : ⊥ = cc here in never

    reason : (r : Reason) → is_told r ≡ true → IsOfHost r → ⊥
    reason (Reason.System answer) is host = let never : ⊥ = cc is in never
    reason (Reason.Image error) is host = error_told error is host
    reason (Reason.Header fault) is host = host
    reason (Reason.TablesTooLarge most) is host = host
    reason (Reason.L1TooLong told) is host = host
    reason (Reason.DiskTooLong size most) is host = host
    reason Reason.Sparse is host = host
    reason (Reason.Recognised found) is host = host
    reason (Reason.Another said found) is host = host
    reason (Reason.TwoFormats found other) is host = host
    reason (Reason.BackingOutside name) is host = host
    reason (Reason.BackingNotPermitted name) is host = host
    reason (Reason.BackingProtocol name) is host = host
    reason (Reason.BackingFormat name) is host = host
    reason (Reason.Loop told) is host = host
    reason (Reason.TooManyBelow told) is host = host
    reason (Reason.Outside name) is host = host
    reason (Reason.NotPermitted name) is host = host
    reason Reason.OnlyRead is host = host
    reason Reason.NotAFile is host = let never : ⊥ = cc is in never
told_not_host OpenError.Memory told host = told

pub another_host :
    (others : OtherFiles) (said : Option ImageFormat) (path bytes : List ℕ) (e : OpenError)
    → IsRefused path (IsOfAnother others said bytes) e → HasOneFormat said (signature_of bytes) bytes → IsHostRefusal e
another_host others said path bytes e h one =
    host_refusal path (IsOfAnother others said bytes) (another others said bytes one) e h

pub unknown_host :
    (said : Option ImageFormat) (path bytes : List ℕ) (e : OpenError)
    → IsRefused path (IsUnknown said path bytes) e → (format : ImageFormat) → IsFormatBy said path bytes format → IsHostRefusal e
unknown_host said path bytes e h format is =
    host_refusal path (IsUnknown said path bytes) (unknown said path bytes format is) e h

pub too_long_host :
    (how : Opening) (path bytes : List ℕ) (format : ImageFormat) (e : OpenError)
    → IsRefused path (IsTooLong how.longest how.accepted format bytes) e
    → IsSafeAs how bytes format → IsNoLonger how.longest how.accepted format bytes → IsHostRefusal e
too_long_host how path bytes format e h safe short =
    host_refusal path (IsTooLong how.longest how.accepted format bytes) (too_long how bytes format safe short) e h

too_large_host :
    (how : Opening) (path bytes : List ℕ) (format : ImageFormat) (e : OpenError)
    → IsRefused path (IsTooLarge how.longest how.accepted format bytes) e
    → IsSafeAs how bytes format → IsNoLonger how.longest how.accepted format bytes → IsHostRefusal e
too_large_host how path bytes format e h safe short =
    host_refusal path (IsTooLarge how.longest how.accepted format bytes) (larger how bytes format safe short) e h

-- a vetted file is safe as an image of the format that it has
module _ (how : Opening) (path bytes : List ℕ) (vetted : IsVetted how path bytes) (format : ImageFormat)
    (is : IsFormatBy how.format path bytes format) where
  same : vetted.format ≡ format
  same = same_format (told_format how.format path bytes) format vetted.format is vetted.is_format

  pub safe_as : IsSafeAs how bytes format
  safe_as = subst (λ (f : ImageFormat). IsSafeAs how bytes f) same vetted.safe

  pub seen_as : IsSeenAs path bytes format
  seen_as = subst (λ (f : ImageFormat). IsSeenAs path bytes f) same vetted.seen

  pub short_as : IsNoLonger how.longest how.accepted format bytes
  short_as = subst (λ (f : ImageFormat). IsNoLonger how.longest how.accepted f bytes) same vetted.longest

pub vetted_is_seen : VettedIsSeen
vetted_is_seen how path bytes vetted = vetted.seen

pub vetted_opens : VettedOpens
vetted_opens how files statuses reals path e none vetted h = either h
  where
    safe_in : (format : ImageFormat) → IsFormatBy how.format path (files path) format → IsSafeAs how (files path) format
    safe_in format is = safe_as how path (files path) vetted format is

    short_in : (format : ImageFormat) → IsFormatBy how.format path (files path) format → IsNoLonger how.longest how.accepted format (files path)
    short_in format is = short_as how path (files path) vetted format is

    either : IsImageRefused false files statuses reals how.other_files how how.format path e → IsHostRefusal e
    either (inl h) = host_refusal path (IsUnseen statuses path) (unseen statuses path) e h
    either (inr (inl h)) = unknown_host how.format path (files path) e h vetted.format vetted.is_format
    either (inr (inr (inl (format, is, (file, has, (down, h)))))) =
        chain how files statuses reals how.other_files path format (file ∷ []) down (safe_in format is) e h
    either (inr (inr (inr (inl h)))) = another_host how.other_files how.format path (files path) e h vetted.one
    either (inr (inr (inr (inr (format, is, h))))) =
        too_large_host how path (files path) format e h (safe_in format is) (short_in format is)

-- the same of the opening of an image, whose refusal is told as a failure
pub opened_vetted :
    {T : Type 0} (known : Option (List ℕ → List ℕ)) (statuses : Option (List ℕ → FileStatus))
    (reals : Option (List ℕ → List ℕ)) (how : Opening) (path : List ℕ) (answer : Result T OpenError) (r : Result T Failure)
    → how.other_files ≡ Others.None
    → IfErr answer (λ e. IfSome known (λ files. IsImageRefused false files statuses reals how.other_files how how.format path e))
    → MatchResult answer (λ x. r ≡ Ok x) (λ _. IsErr r)
    → IfErr answer (λ e. IfErr r (λ failure. IsHostRefusal e → IsHostFailure failure))
    → IfErr r (λ failure. IfSome known (λ files. IsVetted how path (files path) → IsHostFailure failure))
opened_vetted {T} known statuses reals how path (Ok x) r none refused given told =
    subst (λ (q : Result T Failure). IfErr q (λ failure. IfSome known (λ files. IsVetted how path (files path) → IsHostFailure failure)))
    (sym given) tt
opened_vetted known statuses reals how path (Err e) (Ok x) none refused given told = tt
opened_vetted None statuses reals how path (Err e) (Err failure) none refused given told = tt
opened_vetted (Some files) statuses reals how path (Err e) (Err failure) none refused given told = λ vetted.
    told (vetted_opens how files statuses reals path e none vetted refused)
