-- SPDX-License-Identifier: MIT
use Rattle.std.specs.Prelude.{◌≡◌, ℕ, ◌+◌, ◌*◌, ◌^◌, ◌⊎◌, Bool, ◌&&◌, List, [], ◌∷◌, map, length, take}
use Rattle.std.specs.Prelude.{Option, Some, None, Result, Ok, Err, IsOk, nat_lt, if◌then◌else◌}
use Rattle.std.specs.Prelude.{codes, IsTrue}
use Rattle.std.proofs.Common.{ap, sym, ◌∙◌}
use Rattle.std.specs.List.{sum_by}
use Rattle.imago_storage.specs.declared.error.Error.{Error}
use Rattle.imago_storage.specs.declared.error.Error.TheVariants.{InvalidData, Unsupported, Memory}
use Rattle.imago_vmdk.specs.Text.{lines_of, is_text}
use Rattle.imago_vmdk.specs.Line.{◌>>=◌, verdict_of, Gives}
use Rattle.imago_vmdk.specs.declared.line.Accepted.{Accepted}
use Rattle.imago_vmdk.specs.declared.line.Extent.{Extent}
use Rattle.imago_vmdk.specs.declared.line.Line.{Line}

-- what all lines say, or the first fault among them
abbrev pub all_ok : List (Result (Line (List ℕ)) Error) → Result (List (Line (List ℕ))) Error
all_ok [] = Ok []
all_ok (verdict ∷ verdicts) = do
  line ← verdict
  lines ← all_ok verdicts
  Ok (line ∷ lines)

-- what the lines of a descriptor say, each by itself
abbrev pub lines_say : Accepted → List (List ℕ) → Result (List (Line (List ℕ))) Error
lines_say accepted lines = all_ok (map (verdict_of accepted) lines)

-- the last version, or that one where there is none
abbrev pub last_version : ℕ → List (Line (List ℕ)) → ℕ
last_version n [] = n
last_version n (Line.Nothing ∷ lines) = last_version n lines
last_version n (Line.Extent e ∷ lines) = last_version n lines
last_version n (Line.Version m ∷ lines) = last_version m lines
last_version n (Line.Setting ∷ lines) = last_version n lines

abbrev pub extents_in : List (Line (List ℕ)) → List (Extent (List ℕ))
extents_in [] = []
extents_in (Line.Nothing ∷ lines) = extents_in lines
extents_in (Line.Extent e ∷ lines) = e ∷ extents_in lines
extents_in (Line.Version m ∷ lines) = extents_in lines
extents_in (Line.Setting ∷ lines) = extents_in lines

-- an extent's length, in sectors of 512 bytes and in bytes
abbrev pub sectors_of : {N : Type 0} → Extent N → ℕ
sectors_of (Extent.Zero sectors) = sectors
sectors_of (Extent.NoAccess sectors) = sectors
sectors_of (Extent.Flat sectors name offset writable vmfs) = sectors

abbrev pub size_of : {N : Type 0} → Extent N → ℕ
size_of extent = sectors_of extent * 512

abbrev pub is_version : ℕ → Bool
is_version n = nat_lt 0 n && nat_lt n 4

-- the number, where it fits 64 bits
abbrev pub fitting : ℕ → Option ℕ
fitting n = if nat_lt n (2 ^ 64) then Some n else None

-- the extents one after the other, and the size of their disk, if that fits
abbrev pub disk_of : List (Extent (List ℕ)) → Option ℕ → Result (List (Extent (List ℕ)) × ℕ) Error
disk_of extents None = Err InvalidData
disk_of extents (Some size) = Ok (extents, size)

-- what lines say together of which none is a fault: the last version is known, and the size fits
unfoldable pub disk_in : List (Line (List ℕ)) → Result (List (Extent (List ℕ)) × ℕ) Error
disk_in lines = if is_version (last_version 0 lines) then disk_of (extents_in lines)
    (fitting (sum_by size_of (extents_in lines))) else Err Unsupported

-- the parts of that which a function finds by itself: the last version and the size, the size
-- alone, and the extents
abbrev pub found_in : List (Line (List ℕ)) → ℕ × Option ℕ
found_in lines = (last_version 0 lines, fitting (sum_by size_of (extents_in lines)))

abbrev pub survey_of : Accepted → List (List ℕ) → Result (ℕ × Option ℕ) Error
survey_of accepted lines = lines_say accepted lines >>= λ ls. Ok (found_in ls)

-- what one line adds: its version counts from then on, and its extent comes behind those before
abbrev pub version_with : {N : Type 0} → ℕ → Line N → ℕ
version_with n Line.Nothing = n
version_with n (Line.Extent e) = n
version_with n (Line.Version m) = m
version_with n Line.Setting = n

abbrev pub size_in : {N : Type 0} → Line N → ℕ
size_in Line.Nothing = 0
size_in (Line.Extent e) = size_of e
size_in (Line.Version m) = 0
size_in Line.Setting = 0

abbrev pub extent_in : Line (List ℕ) → List (Extent (List ℕ))
extent_in Line.Nothing = []
extent_in (Line.Extent e) = e ∷ []
extent_in (Line.Version m) = []
extent_in Line.Setting = []

-- these are the extents that are kept, unless memory was refused
abbrev pub AreKept : {V : Type 0} → (V → List (Extent (List ℕ))) → Option V → List (Extent (List ℕ))
    → Type 0
AreKept view None extents = Unit {0}
AreKept view (Some v) extents = view v ≡ extents

-- what a function answers for the size, once the version and the size are found, is what the lines
-- give
abbrev pub GivesSize : ℕ → Option ℕ → Result ℕ Error → Type 0
GivesSize version size result = (r : Result (List (Line (List ℕ))) Error)
    → (r >>= λ ls. Ok (found_in ls)) ≡ Ok (version, size)
    → Gives (λ n. n) result ((r >>= disk_in) >>= λ disk. Ok disk.1)

abbrev pub extents_of : Accepted → List (List ℕ) → Result (List (Extent (List ℕ))) Error
extents_of accepted lines = lines_say accepted lines >>= λ ls. Ok (extents_in ls)

-- a descriptor may be that long, in bytes: from 4 bytes to 2 MiB
abbrev pub is_length : ℕ → Bool
is_length n = nat_lt 3 n && nat_lt n (2 ^ 21 + 1)

-- the first bytes of another kind of VMDK file
abbrev pub is_sparse : List ℕ → Bool
is_sparse bytes = is_text (take 4 bytes) (codes "KDMV")

-- what a descriptor's bytes say: the extents, and the size of the disk in bytes
unfoldable pub reading_of : Accepted → List ℕ → Result (List (Extent (List ℕ)) × ℕ) Error
reading_of accepted bytes =
    if is_length (length bytes) then
    (if is_sparse bytes then Err Unsupported else (lines_say accepted (lines_of bytes) >>= disk_in))
    else Err InvalidData

-- A text that was read from a storage with these bytes: it is as long as they are, and where the
-- storage tells its bytes, it is these.
pub record IsTextOf (tells : Bool) (stored text : List ℕ) : Type 0 where
  pub as_long : length text ≡ length stored
  pub told : IsTrue tells → text ≡ stored

-- the reading of a descriptor's text that was read from a storage with these bytes
abbrev pub IsReadingOf : Accepted → Bool → List ℕ → Result (List (Extent (List ℕ)) × ℕ) Error
    → Type 0
IsReadingOf accepted tells stored reading = (text : List ℕ) × IsTextOf tells stored text
    × (reading_of accepted text ≡ reading)

-- where the storage tells its bytes, it is the reading of these
pub told_reading : (accepted : Accepted) (tells : Bool) (stored : List ℕ)
    (reading : Result (List (Extent (List ℕ)) × ℕ) Error)
    → IsReadingOf accepted tells stored reading → IsTrue tells
    → reading_of accepted stored ≡ reading
told_reading accepted tells stored reading (text, read, says) told =
    ap (reading_of accepted) (sym (read.told told)) ∙ says

-- What a function that takes memory answers, seen so, is what the definition gives, or want of
-- memory where that is no refusal.
abbrev pub GivesOrMemory : {X Y : Type 0} → (X → Y) → Result X Error → Result Y Error → Type 0
GivesOrMemory view (Ok x) wanted = wanted ≡ Ok (view x)
GivesOrMemory view (Err e) wanted = (wanted ≡ Err e) ⊎ ((e ≡ Memory) × IsOk wanted)
