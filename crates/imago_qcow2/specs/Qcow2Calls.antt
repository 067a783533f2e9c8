-- SPDX-License-Identifier: MIT
use Rattle.std.specs.Prelude.{◌≡◌, ℕ, ◌+◌, ◌/◌, ◌<◌, ◌⊎◌, Bool, List, length, IsTrue}
use Rattle.std.specs.Prelude.{Result, Ok, Err, IsOk, IsErr, Option, None, refl}
use Rattle.std.proofs.Common.{⊎_elim}
use Rattle.imago_storage.specs.declared.error.Error.{Error}
use Rattle.imago_storage.specs.declared.error.Error.TheVariants.{ForeignMapping, Unsupported}
use Rattle.imago_storage.specs.Bytes.{IsReadAt}
use Rattle.imago_storage.specs.Calls.{IsRangeRead}
use Rattle.imago_storage.specs.Features.{Features}
use Rattle.imago_storage.specs.Maintenance.{IsNothing}
use Rattle.imago_drivers.specs.LayerBelow.{LayerBelow}
use Rattle.imago_drivers.specs.Place.{IsIn}
use Rattle.imago_drivers.specs.Reasons.{allowed}
use Rattle.imago_drivers.specs.CallRelations.{Calls, IsEnsuredInParts, any_calls, IsNotOffered}
use Rattle.imago_drivers.specs.CallRelations.{IsIdleCommit}
use Rattle.imago_drivers.specs.declared.mapping.Ticket.{Ticket}
use Rattle.imago_inflate.specs.declared.fault.InflateError.{InflateError}
use Rattle.imago_inflate.specs.Inflate.{inflated}
use Rattle.imago_qcow2.specs.declared.entry.GuestCluster.{GuestCluster}
use Rattle.imago_qcow2.specs.declared.entry.GuestCluster.TheVariants as C
use Rattle.imago_qcow2.specs.declared.header.Compression.{Compression}
use Rattle.imago_qcow2.specs.Compressed.{fault_in}
use Rattle.imago_qcow2.specs.Entry.{GuestDisk}
use Rattle.imago_qcow2.specs.Opening.{read_reasons}

-- a read of the file: what a read of that range gives of its bytes, and refuses
abbrev pub IsFileRead : Features → List ℕ → ℕ → ℕ → Result (Unit {0}) Error → Type 0
IsFileRead f bytes o n result = (buffer : List ℕ) × IsRangeRead f bytes o n buffer result

-- These were read as the n bytes of a stream from an offset of the file on: they are its bytes,
-- where it tells these.
pub record IsStreamRead (f : Features) (bytes : List ℕ) (at n : ℕ) (stream : List ℕ) : Type 0 where
  pub len : length stream ≡ n
  pub read : IsTrue f.tells_bytes → IsReadAt bytes at stream

-- A read of a guest cluster of that length, if it is compressed: its stream was read, and what was
-- read is sound. Or it is refused: as unsupported, if it isn't compressed; as the file's read is, or
-- for memory; or as invalid data, since the stream was read and is faulty.
abbrev pub IsClusterRead : Features → List ℕ → ℕ → GuestCluster → Result (Unit {0}) Error → Type 0
IsClusterRead f bytes length (C.Compressed at n) (Ok done) = (stream : List ℕ)
    × IsStreamRead f bytes at n stream × IsOk (inflated stream length)
IsClusterRead f bytes length (C.Compressed at n) (Err e) = allowed (read_reasons f at n) e
    ⊎ ((e ≡ Error.InvalidData) × ((stream : List ℕ) × IsStreamRead f bytes at n stream
    × IsErr (inflated stream length)))
IsClusterRead f bytes length _ result = result ≡ Err Unsupported

-- The fault of a guest cluster of that length: of one that is compressed that of its stream, as it
-- was read; another has none.
abbrev pub IsClusterFault : Features → List ℕ → ℕ → GuestCluster → Option InflateError → Type 0
IsClusterFault f bytes length (C.Compressed at n) fault = (stream : List ℕ)
    × IsStreamRead f bytes at n stream × (fault ≡ fault_in (inflated stream length))
IsClusterFault f bytes length _ fault = fault ≡ None

-- Why that isn't known: the guest cluster is compressed otherwise than by deflate, or its stream
-- can't be read.
abbrev pub IsFaultUnknown : Features → Compression → GuestCluster → Error → Type 0
IsFaultUnknown f by (C.Compressed at n) e = ((e ≡ Unsupported) × (by ≡ Compression.Zstd))
    ⊎ allowed (read_reasons f at n) e
IsFaultUnknown f by _ e = ⊥

-- compressed clusters of the disk are deflated, and the offset lies in it
pub record MayUnpack (disk : GuestDisk) (p : ℕ) : Type 0 where
  pub deflated : disk.compression ≡ Compression.Deflate
  pub inside : p < disk.size

-- the read of the guest cluster that an offset of the disk lies in
abbrev pub IsReadOf : Features → List ℕ → GuestDisk → ℕ → Result (Unit {0}) Error → Type 0
IsReadOf f bytes disk p result = MayUnpack disk p
    × IsClusterRead f bytes disk.cluster (disk.clusters (p / disk.cluster)) result

-- A read of the guest cluster that an offset lies in, or of its first bytes from there on.
abbrev pub IsFirstRead : Features → List ℕ → GuestDisk → ℕ → Result ℕ Error → Type 0
IsFirstRead f bytes disk o (Ok n) = (i : ℕ) → i < n → IsReadOf f bytes disk (o + i) (Ok tt)
IsFirstRead f bytes disk o (Err e) = IsReadOf f bytes disk o (Err e)

-- A read of n compressed bytes from an offset on. Each of the guest clusters that these lie in was
-- read; or it is refused as one of them is, or as unsupported, since none can be read so.
abbrev pub IsSpecialRead : Features → List ℕ → GuestDisk → ℕ → ℕ → Result (Unit {0}) Error → Type 0
IsSpecialRead f bytes disk o n (Ok done) = (p : ℕ) → IsIn o n p
    → IsReadOf f bytes disk p (Ok done)
IsSpecialRead f bytes disk o n (Err e) = (p : ℕ) × IsIn o n p × (IsReadOf f bytes disk p (Err e)
    ⊎ ((e ≡ Unsupported) × (MayUnpack disk p → ⊥)))

-- a data mapping is refused as its preparing is
pub ensured_by_parts : {Self : Type 0} (below : LayerBelow) (o n : ℕ) (overwrite : Bool)
    (old new : Self) (result : Result (ℕ × ℕ × ℕ) Error)
    → IsEnsuredInParts {St = Ticket} (λ below o n overwrite. IsNotOffered) IsIdleCommit below o n
    overwrite old new result → IsNotOffered old new result
ensured_by_parts below o n overwrite old new (Ok r) p = let no = p.2.1 in let z : ⊥ = cc in absurd z
ensured_by_parts below o n overwrite old new (Err e) p = ⊎_elim
    (λ q. let same = q.1 in let is : e ≡ Unsupported = cc in (q.0, rw is refl))
    (λ q. let no = q.2.1 in let z : ⊥ = cc in absurd z)
    p

-- What the calls of an image are, by the features and the bytes of its file, and its disk. It can't
-- be written to: a call that would change something is refused, and no call changes the driver.
abbrev pub qcow2_calls : {Self : Type 0} → (Self → Features) → (Self → List ℕ)
    → (Self → GuestDisk) → Calls Self Ticket
qcow2_calls features bytes disk = record any_calls {
  read = λ index o n self result. IsFileRead (features self) (bytes self) o n result;
  read_special = λ o n self result. IsSpecialRead (features self) (bytes self) (disk self) o n
      result;
  put = λ index source o. IsNotOffered;
  zeroed = λ o n. IsNotOffered;
  discarded_to_zero = λ o n. IsNotOffered;
  discarded_to_any = λ o n. IsNotOffered;
  discarded_to_backing = λ o n. IsNotOffered;
  prepared = λ below o n overwrite. IsNotOffered;
  filled = λ m source at old new result. (new ≡ old) × (result ≡ Err ForeignMapping);
  committed = IsIdleCommit;
  cancelled = λ m old new. new ≡ old;
  ensured = λ below o n overwrite. IsNotOffered;
  by_parts = ensured_by_parts;
  grown = λ n mode below. IsNotOffered;
  cut = λ n. IsNotOffered;
  flushed = IsNothing;
  synced = IsNothing;
  invalidated = IsNothing;
}
