-- What a list of calls does to the disk as a flat list.
-- SPDX-License-Identifier: MIT

use Rattle.std.specs.Prelude.{◌≡◌, ℕ, ◌+◌, ◌<◌, ◌≤◌, ◌⊎◌, ◌&&◌, not, Bool, List, [], ◌∷◌, length}
use Rattle.std.specs.Prelude.{take, IfOk, IfErr}
use Rattle.imago_storage.specs.declared.error.Error.{Error}
use Rattle.imago_drivers.specs.Place.{Value, Byte, Unreadable}
use Rattle.imago_drivers.specs.LayerBelow.{IsUnreadableIn}
use Rattle.imago_access.specs.declared.mapping.Mapping.{Mapping}
use Rattle.imago_access.specs.declared.mapping.Mapping.TheVariants as M
use Rattle.imago_access.specs.declared.run.Call.{Call}
use Rattle.imago_access.specs.declared.run.Call.TheVariants as C
use Rattle.imago_access.specs.declared.run.Reply.{Reply}
use Rattle.imago_access.specs.declared.run.Reply.TheVariants as R
use Rattle.imago_access.specs.Resolved.{IsEndOfImage}
use Rattle.imago_access.specs.Writing.{shown_length}
use Rattle.imago_access.specs.Runs.{Answers, told_done, told_mapping, told_data, told_prepared}
use Rattle.imago_access.specs.Disk.{value_at, IsExtended, IsPartOf, WritesDisk, ZeroesDisk}
use Rattle.imago_access.specs.Disk.{DiscardsOfDisk, ResizesDisk, IsUnspecifiedIn, IsGivenBack}
use Rattle.imago_access.specs.Disk.{IsTestRefusal, IsOverwritten, IsFilledIn, IsPartlyFilled}

-- the call is done, and what it answers is so, or it is refused, and the refusal is so
abbrev pub DoneOrRefused : {T : Type 0} → (T → Reply) → Reply → (T → Type 0) → (Error → Type 0)
    → Type 0
DoneOrRefused told r done refused = Answers told r (λ result. IfOk result done
    × IfErr result refused)

-- the reply to a read: the part of the list that was asked for, or a refusal, as invalid data or
-- for no access where a value there is
abbrev pub IsDataOf : List Value → ℕ → ℕ → Reply → Type 0
IsDataOf xs o n r = DoneOrRefused R.Data r (λ bytes. IsPartOf xs o n bytes.items)
    (λ e. (e ≡ Error.InvalidData) ⊎ (e ≡ Error.NoAccess) → IsUnreadableIn (value_at xs) o n e)

-- a value that a mapping names: zero, or a byte; for special bytes also the refusal of one that is
-- faulty
abbrev pub IsMappedTo : Mapping → Value → Type 0
IsMappedTo (M.Zero explicit) v = v ≡ Byte 0
IsMappedTo (M.Raw layer storage offset writable) v = (b : ℕ) × (v ≡ Byte b)
IsMappedTo (M.Special layer offset) v = ((b : ℕ) × (v ≡ Byte b))
    ⊎ (v ≡ Unreadable Error.InvalidData)
IsMappedTo M.Eof v = ⊥

-- A mapping of at most n values of the list from o on, and how many they are: each is what it
-- names.
pub record IsMappedPart (xs : List Value) (o n : ℕ) (m : Mapping × ℕ) : Type 0 where
  pub within : m.1 ≤ n
  pub names : (k : ℕ) → k < m.1 → IsMappedTo m.0 (value_at xs (o + k))
  -- it is empty at an end or where nothing was asked for, alone; past the list it is the end
  pub empty : m.1 ≡ 0 → IsEndOfImage m.0 ⊎ (n ≡ 0)
  pub past : length xs ≤ o → IsEndOfImage m.0

-- the reply to a request for a mapping: values of the list are what it names, or the first one
-- can't be read
abbrev pub IsMappingOf : List Value → ℕ → ℕ → Reply → Type 0
IsMappingOf xs o n r = DoneOrRefused told_mapping r (IsMappedPart xs o n)
    (λ e. (e ≡ Error.InvalidData) ⊎ (e ≡ Error.NoAccess) → value_at xs o ≡ Unreadable e)

-- the reply to a call that leaves the list, done or refused
abbrev pub IsSame : List Value → Reply → List Value → Type 0
IsSame xs r ys = DoneOrRefused told_done r (λ u. ys ≡ xs) (λ e. ys ≡ xs)

-- a zero write or discard to zero: zeroes are spliced in, or, where it is refused, each value of
-- the range may be zero
abbrev pub IsZeroStep : List Value → ℕ → ℕ → Reply → List Value → Type 0
IsZeroStep xs o n r ys = Answers told_done r (λ result. ZeroesDisk xs o n result ys)

-- another discard, with what it leaves: the same where it is done and where it is refused past its
-- tests
abbrev pub IsDiscardStep : List Value → ℕ → ℕ → Type 0 → Reply → List Value → Type 0
IsDiscardStep xs o n left r ys = Answers told_done r
    (λ result. DiscardsOfDisk xs o n left result ys)

-- a mapping of at most n values is as long: at least one, none for none
abbrev pub IsPart : ℕ → ℕ → Type 0
IsPart n c = (c ≤ n) × (0 < n → 0 < c)

-- a data mapping: the part that it answers, or, refused, the range may be overwritten
abbrev pub IsDataStep : List Value → ℕ → ℕ → Bool → Reply → List Value → Type 0
IsDataStep xs o n overwrite r ys = DoneOrRefused told_data r
    (λ m. (o + n ≤ length xs) × IsPart n m.2 × IsOverwritten overwrite xs o m.2 ys)
    (λ e. IsOverwritten overwrite xs o n ys × (IsTestRefusal xs o n e → ys ≡ xs))

-- a write through a prepared mapping: of one that is cancelled and has a state nothing shows
abbrev pub IsPreparedStep : List Value → ℕ → ℕ → Bool → List ℕ → Bool → Reply → List Value → Type 0
IsPreparedStep xs o n overwrite bytes commit r ys = DoneOrRefused told_prepared r
    (λ m. (o + n ≤ length xs) × IsPart n m.0 × IsFilledIn (overwrite && not m.1) xs o
    (shown_length commit m) bytes ys)
    (λ e. IsPartlyFilled overwrite xs o n bytes e ys)

-- A call on the list xs, with that reply, may leave the list ys. `below` is what offsets show that
-- are left to the layers below.
abbrev pub IsFlatStep : (ℕ → Value) → List Value → Call → Reply → List Value → Type 0
IsFlatStep below xs (C.Read o n) r ys = (ys ≡ xs) × IsDataOf xs o n r
IsFlatStep below xs (C.Write o bytes) r ys = Answers told_done r
    (λ result. WritesDisk xs o bytes.items result ys)
IsFlatStep below xs (C.WriteZeroes o n) r ys = IsZeroStep xs o n r ys
IsFlatStep below xs (C.DiscardToZero o n) r ys = IsZeroStep xs o n r ys
IsFlatStep below xs (C.DiscardToAny o n) r ys = IsDiscardStep xs o n (IsUnspecifiedIn xs o n ys) r
    ys
IsFlatStep below xs (C.DiscardToBacking o n) r ys = IsDiscardStep xs o n
    (IsGivenBack below xs o n ys) r ys
IsFlatStep below xs (C.EnsureData o n overwrite) r ys = IsDataStep xs o n overwrite r ys
IsFlatStep below xs (C.Prepared o n overwrite bytes commit) r ys = IsPreparedStep xs o n overwrite
    bytes.items commit r ys
IsFlatStep below xs (C.Resize n mode) r ys = Answers told_done r
    (λ result. ResizesDisk xs (IsExtended mode below n (take n xs) ys) result ys)
IsFlatStep below xs (C.ResizeGrow n mode) r ys = Answers told_done r
    (λ result. ResizesDisk xs (IsExtended mode below n xs ys) result ys)
IsFlatStep below xs (C.ResizeShrink n) r ys = Answers told_done r
    (λ result. ResizesDisk xs (ys ≡ take n xs) result ys)
IsFlatStep below xs C.Size r ys = (ys ≡ xs) × (r ≡ R.Size (length xs))
IsFlatStep below xs (C.GetMapping o n) r ys = (ys ≡ xs) × IsMappingOf xs o n r
IsFlatStep below xs C.Flush r ys = IsSame xs r ys
IsFlatStep below xs C.Sync r ys = IsSame xs r ys
IsFlatStep below xs C.InvalidateCache r ys = IsSame xs r ys

-- There are lists, one more than calls, from the first to the last, with a step between each and
-- the next.
abbrev pub IsFlatHistory : (ℕ → Value) → List Value → List Call → List Reply → List Value → Type 0
IsFlatHistory below xs [] [] zs = zs ≡ xs
IsFlatHistory below xs (call ∷ calls) (reply ∷ replies) zs = (ys : List Value)
    × IsFlatStep below xs call reply ys × IsFlatHistory below ys calls replies zs
IsFlatHistory below xs [] (reply ∷ replies) zs = ⊥
IsFlatHistory below xs (call ∷ calls) [] zs = ⊥
