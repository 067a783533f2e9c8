-- SPDX-License-Identifier: MIT
use Rattle.std.specs.Prelude.{◌≡◌, ◌≢◌, ℕ, ◌+◌, ◌-◌, ◌%◌, ◌<◌, ◌≤◌, ◌⊎◌, ◌↔◌, false, List, length}
use Rattle.std.specs.Prelude.{replicate, Result, IsTrue, OnOk, OnErr, IfErr, IsErrOf, IsOk}
use Rattle.imago_storage.specs.declared.error.Error.{Error}
use Rattle.imago_storage.specs.Bytes.{splice, zero_extended, OldOrNew, WriteOutcome, IsReadAt}
use Rattle.imago_storage.specs.Bytes.{SameOutside}
use Rattle.imago_storage.specs.Error.{IsDeviceOrMemory, IsPureRefusal, IsExtRefusal}
use Rattle.imago_storage.specs.Faults.{CountsFaults}
use Rattle.imago_storage.specs.Features.{Features, ZeroSupport, InPlace, AsData, IsAlignedRequest}
use Rattle.imago_storage.specs.Features.{IsAlignedTo, MayRunOut, OthersMayRunOut, MayBeUnsupported}
use Rattle.imago_storage.specs.Features.{RequestMayRunOut}
use Rattle.imago_storage.specs.Features.{ZeroesMayRunOut, len_align}
use Rattle.imago_storage.specs.IoCount.{IoCount, IsWriteWork, AddsAtMost}
use Rattle.imago_storage.specs.Maintenance.{Maintenance, IsDiscarded}
use Rattle.imago_storage.specs.Steps.{write_steps, IsMadeInSteps}
use Rattle.imago_storage.specs.Padding.{padded_end, Wraps, aligned_start, aligned_end, RangeWraps}
use Rattle.imago_storage.specs.Zeroes.{HasZeroed, MayWrap, FitsZeroes, IsZeroedInParts}
use Rattle.imago_storage.specs.Zeroes.{IsAlignedZeroing}
use Rattle.imago_storage.specs.declared.options.ZeroKind.{ZeroKind}

-- No byte, no feature, and not the count of faults changed: what callers see is as it was.
pub record ShowsNoChange {S : Type 0} (features_of : S → Features) (bytes_of : S → List ℕ)
    (faults_of : S → ℕ) (old new : S) : Type 0 where
  pub bytes : bytes_of new ≡ bytes_of old
  pub features : features_of new ≡ features_of old
  pub faults : faults_of new ≡ faults_of old

-- A zero write of n bytes was refused as unsupported: the storage may refuse it so, and shows no
-- change.
pub record IsUnsupportedZeroing {S : Type 0} (features_of : S → Features) (bytes_of : S → List ℕ)
    (faults_of : S → ℕ) (z : ZeroSupport) (n : ℕ) (old new : S) : Type 0 where
  pub offered : MayBeUnsupported z (features_of old).mem_align n
  pub unchanged : ShowsNoChange features_of bytes_of faults_of old new

-- Everything that is promised of a call, one record for each kind of which there are several. A
-- storage is seen by its ghost members.

-- A read of any range, of n bytes into a buffer.
pub record IsRangeRead (f : Features) (stored : List ℕ) (at n : ℕ) (buffer : List ℕ)
    (result : Result (Unit {0}) Error) : Type 0 where
  pub empty : n ≡ 0 → IsOk result
  pub bytes : IsTrue f.tells_bytes → OnOk result (IsReadAt stored at buffer)
  pub wraps : IsErrOf result Error.WrapAround ↔ Wraps f at n
  pub only : IfErr result IsExtRefusal
  pub device : IsErrOf result Error.Device → f.is_reliable ≡ false
  pub memory : IsErrOf result Error.Memory → IsAlignedRequest f at n
      → MayRunOut f.read_memory (length stored) (at + n)

-- A write of any range.
pub record IsRangeWrite {S : Type 0} (features_of : S → Features) (bytes_of : S → List ℕ)
    (faults_of : S → ℕ) (work_of : S → IoCount) (calls : Maintenance S) (at : ℕ) (source : List ℕ)
    (old new : S) (result : Result (Unit {0}) Error) : Type 0 where
  pub empty : length source ≡ 0 → IsOk result × (new ≡ old)
  pub written : 0 < length source → WriteOutcome (features_of old).keeps_data (bytes_of old)
      (splice (zero_extended (bytes_of old) (padded_end (features_of old) at (length source))) at
      source) (bytes_of new) result
  pub wraps : IsErrOf result Error.WrapAround ↔ Wraps (features_of old) at (length source)
  pub unchanged : IsErrOf result Error.WrapAround → new ≡ old
  pub features : features_of new ≡ features_of old
  pub work : IsWriteWork (features_of old) at (length source) (work_of old) (work_of new)
  pub direct : IsAlignedRequest (features_of old) at (length source)
      → AddsAtMost 0 0 1 (length source) (work_of old) (work_of new)
  pub early : IsErrOf result Error.Memory
      → (¬ RequestMayRunOut (features_of old) (length (bytes_of old))
      (padded_end (features_of old) at (length source))) → new ≡ old
  pub only : IfErr result IsExtRefusal
  pub cause : CountsFaults (features_of old).is_reliable (faults_of old) (faults_of new) result
  pub memory : IsErrOf result Error.Memory → IsAlignedRequest (features_of old) at (length source)
      → MayRunOut (features_of old).write_memory (length (bytes_of old)) (at + length source)
  -- its steps were made; or nothing, where there is no memory for a block
  pub performed : 0 < length source → (¬ Wraps (features_of old) at (length source))
      → IsMadeInSteps features_of bytes_of calls (len_align (features_of old))
      (write_steps (features_of old) at source) old new result
      ⊎ ((¬ IsAlignedRequest (features_of old) at (length source)) × (new ≡ old)
      × IsErrOf result Error.Memory)

-- A zero write of any range, of that kind, by how the storage zeroes.
pub record IsRangeZeroing {S : Type 0} (features_of : S → Features) (bytes_of : S → List ℕ)
    (faults_of : S → ℕ) (work_of : S → IoCount) (calls : Maintenance S) (kind : ZeroKind)
    (z : ZeroSupport) (at n : ℕ) (old new : S) (result : Result (Unit {0}) Error) : Type 0 where
  pub empty : n ≡ 0 → IsOk result × (new ≡ old)
  pub written : 0 < n → HasZeroed (features_of old) (bytes_of old) at n (bytes_of new) result
  pub wraps : 0 < n → RangeWraps (features_of old).zero_align at n → IsErrOf result Error.WrapAround
      × (new ≡ old)
  pub may_wrap : IsErrOf result Error.WrapAround → MayWrap (features_of old) z at n
  pub fits : 0 < n → OnOk result (FitsZeroes (features_of old) z at n)
  pub features : features_of new ≡ features_of old
  pub only : IfErr result IsExtRefusal
  pub cause : CountsFaults (features_of old).is_reliable (faults_of old) (faults_of new) result
  pub memory : IsErrOf result Error.Memory → IsAlignedTo (features_of old).zero_align at n
      → z ≡ InPlace → MayRunOut (features_of old).zero_memory (length (bytes_of old)) (at + n)
  pub early : IsErrOf result Error.Memory
      → (¬ ZeroesMayRunOut (features_of old) (length (bytes_of old))
      (at + n + (len_align (features_of old) - 1)))
      → ShowsNoChange features_of bytes_of faults_of old new
  pub performed : 0 < n → (¬ RangeWraps (features_of old).zero_align at n)
      → IsZeroedInParts features_of bytes_of calls work_of (features_of old) kind at n old new
      result

-- A discard of any range, which is made of its aligned part.
pub record IsRangeDiscard {S : Type 0} (features_of : S → Features) (bytes_of : S → List ℕ)
    (faults_of : S → ℕ) (calls : Maintenance S) (at n : ℕ) (old new : S)
    (result : Result (Unit {0}) Error) : Type 0 where
  pub bytes : SameOutside (aligned_start (features_of old).discard_align at)
      (aligned_end (features_of old).discard_align at n
      - aligned_start (features_of old).discard_align at) (bytes_of old) (bytes_of new)
  pub wraps : IsErrOf result Error.WrapAround ↔ RangeWraps (features_of old).discard_align at n
  pub unchanged : IsErrOf result Error.WrapAround → new ≡ old
  pub performed : (¬ RangeWraps (features_of old).discard_align at n)
      → aligned_start (features_of old).discard_align at
      < aligned_end (features_of old).discard_align at n
      → IsDiscarded calls (aligned_start (features_of old).discard_align at)
      (aligned_end (features_of old).discard_align at n
      - aligned_start (features_of old).discard_align at) old new result
  pub nothing : aligned_end (features_of old).discard_align at n
      ≤ aligned_start (features_of old).discard_align at → new ≡ old
  pub nothing_asked : (¬ RangeWraps (features_of old).discard_align at n)
      → aligned_end (features_of old).discard_align at n
      ≤ aligned_start (features_of old).discard_align at → IsOk result
  pub features : features_of new ≡ features_of old
  pub only : IfErr result IsExtRefusal
  pub cause : CountsFaults (features_of old).is_reliable (faults_of old) (faults_of new) result
  pub memory : IsErrOf result Error.Memory → OthersMayRunOut (features_of old)

-- An aligned zero write of that kind, in place or else as data, by how the storage zeroes.
pub record IsPureZeroing {S : Type 0} (features_of : S → Features) (bytes_of : S → List ℕ)
    (faults_of : S → ℕ) (work_of : S → IoCount) (calls : Maintenance S) (kind : ZeroKind)
    (z : ZeroSupport) (at n : ℕ) (old new : S) (result : Result (Unit {0}) Error) : Type 0 where
  pub written : WriteOutcome (features_of old).keeps_data (bytes_of old)
      (splice (bytes_of old) at (replicate n 0)) (bytes_of new) result
  pub torn : z ≡ InPlace
      → OnErr result (OldOrNew (bytes_of old) (splice (bytes_of old) at (replicate n 0))
      (bytes_of new))
  pub atomic : z ≡ InPlace → IsTrue (features_of old).atomic
      → OnErr result (bytes_of new ≡ bytes_of old)
  pub features : features_of new ≡ features_of old
  pub only : IfErr result IsPureRefusal
  pub offered : IsErrOf result Error.Unsupported → MayBeUnsupported z (features_of old).mem_align n
  pub refused : z ≡ AsData → n % (features_of old).mem_align ≢ 0 → IsErrOf result Error.Unsupported
  pub cause : CountsFaults (features_of old).is_reliable (faults_of old) (faults_of new) result
  pub memory : IsErrOf result Error.Memory → z ≡ InPlace → MayRunOut (features_of old).zero_memory
      (length (bytes_of old)) (at + n)
  pub early : IsErrOf result Error.Memory → z ≢ InPlace
      → (¬ MayRunOut (features_of old).write_memory (length (bytes_of old)) (at + n))
      → ShowsNoChange features_of bytes_of faults_of old new
  pub unchanged : IsErrOf result Error.Unsupported
      → ShowsNoChange features_of bytes_of faults_of old new
  pub performed : IsAlignedZeroing features_of bytes_of calls work_of (features_of old) kind at n
      old new result

-- A flush, a sync, a wait for writes or an invalidation, each of which is that relation.
pub record IsMaintained {S : Type 0} (features_of : S → Features) (bytes_of : S → List ℕ)
    (faults_of : S → ℕ) (relation : S → S → Result (Unit {0}) Error → Type 0) (old new : S)
    (result : Result (Unit {0}) Error) : Type 0 where
  pub unchanged : bytes_of new ≡ bytes_of old
  pub features : features_of new ≡ features_of old
  pub only : IfErr result IsDeviceOrMemory
  pub cause : CountsFaults (features_of old).is_reliable (faults_of old) (faults_of new) result
  pub memory : IsErrOf result Error.Memory → OthersMayRunOut (features_of old)
  pub performed : relation old new result
