-- The view of an image: its places, and what its calls may be refused for and answer.
-- SPDX-License-Identifier: MIT
use Rattle.std.specs.Prelude.{◌≡◌, ℕ, ◌+◌, ◌-◌, ◌/◌, ◌<◌, ◌≤◌, ◌⊎◌, Bool, true, false, List, length}
use Rattle.std.specs.Prelude.{None}
use Rattle.imago_storage.specs.declared.error.Error.{Error}
use Rattle.imago_storage.specs.declared.error.Error.TheVariants as E
use Rattle.imago_storage.specs.Features.{Features, IsAlignedRequest, MayRunOut}
use Rattle.imago_storage.specs.Padding.{Wraps}
use Rattle.imago_drivers.specs.declared.format.Format.TheVariants as Format
use Rattle.imago_drivers.specs.declared.mapping.ShallowMapping.{ShallowMapping}
use Rattle.imago_drivers.specs.declared.mapping.Ticket.{Ticket}
use Rattle.imago_drivers.specs.Operation.{Operation, Map, Read, Write, Zero, DiscardToZero}
use Rattle.imago_drivers.specs.Operation.{DiscardToAny, DiscardToBacking, Grow, Shrink, Flush}
use Rattle.imago_drivers.specs.Place.{Value, Place, Special, IsIn, PlacesStandAt, own_values}
use Rattle.imago_drivers.specs.LayerBelow.{IsUnreadableIn}
use Rattle.imago_drivers.specs.Mapping.{Names}
use Rattle.imago_drivers.specs.Laws.{IsRefusedIn}
use Rattle.imago_drivers.specs.Ranges.{HasWrappingPart}
use Rattle.imago_drivers.specs.Causes.{Causes}
use Rattle.imago_drivers.specs.View.{View}
use Rattle.imago_qcow2.specs.declared.entry.GuestCluster.{GuestCluster}
use Rattle.imago_qcow2.specs.declared.header.Compression.{Compression}
use Rattle.imago_qcow2.specs.declared.header.Compression.TheVariants as By
use Rattle.imago_qcow2.specs.Entry.{GuestDisk, disk_place, disk_of}
use Rattle.imago_qcow2.specs.Tables.{LoadedImage, loaded_disk}

-- A mapping of m bytes is the longest one at o where n are asked for: it goes as far as is asked
-- for, or as the disk does, or it is one byte too short for no mapping, since none names the place
-- at o and the one behind these bytes.
pub record IsLongest (place : ℕ → Place) (size o n m : ℕ) : Type 0 where
  pub asked : m ≤ n
  pub inside : m ≤ size - o
  pub ends : (m ≡ n) ⊎ (m ≡ size - o)
      ⊎ ((mapping : ShallowMapping) → Names mapping 0 (place o) → Names mapping m (place (o + m))
      → ⊥)

-- a mapping names so many places from o on
abbrev pub NamesFirst : (ℕ → Place) → ℕ → ShallowMapping → ℕ → Type 0
NamesFirst place o mapping n = (i : ℕ) → i < n → Names mapping i (place (o + i))

-- and not the next one, unless so many are all that are asked for
abbrev pub StopsAt : (ℕ → Place) → ℕ → ShallowMapping → ℕ → ℕ → Type 0
StopsAt place o mapping most n = (n ≡ most) ⊎ (Names mapping n (place (o + n)) → ⊥)

-- a place of the range is compressed
abbrev pub IsCompressedIn : (ℕ → Place) → ℕ → ℕ → Type 0
IsCompressedIn place o n = (p : ℕ) × IsIn o n p × ((b : Value) × (x : ℕ)
    × (place p ≡ Special b x))

-- a request for the stream of a compressed cluster that the range touches wraps around
abbrev pub StreamWraps : Features → GuestDisk → ℕ → ℕ → Type 0
StreamWraps f disk o n = (p : ℕ) × IsIn o n p × ((at : ℕ) × (count : ℕ)
    × (disk.clusters (p / disk.cluster) ≡ GuestCluster.Compressed at count) × Wraps f at count)

-- a range of places that stand in the file one after the other, where a request for them wraps
-- around
abbrev pub ReadWraps : Features → (ℕ → Place) → ℕ → ℕ → Type 0
ReadWraps f place from count = (start : ℕ) × PlacesStandAt place 0 start count from
    × Wraps f start count

-- A mapping is refused for an invalid entry. So is a read, and for a compressed cluster that is
-- faulty, for one where such aren't deflated, and for a wrap-around at the file.
abbrev pub qcow2_cause : Features → GuestDisk → (ℕ → Place) → Causes
qcow2_cause f disk place Map o n E.InvalidData = IsRefusedIn place o n Error.InvalidData
qcow2_cause f disk place Read o n E.InvalidData =
    IsUnreadableIn (own_values place) o n Error.InvalidData
qcow2_cause f disk place Read o n E.Unsupported = (disk.compression ≡ Compression.Zstd)
    × IsCompressedIn place o n
qcow2_cause f disk place Read o n E.WrapAround =
    HasWrappingPart (ReadWraps f place) o n ⊎ StreamWraps f disk o n
qcow2_cause f disk place _ o n _ = ⊥

-- a read takes none where no place is compressed and, if the places stand in the file in one piece,
-- the request there is aligned, and the storage takes none for it
abbrev pub ReadTakesNone : Features → ℕ → (ℕ → Place) → ℕ → ℕ → Type 0
ReadTakesNone f file place o n = (IsCompressedIn place o n → ⊥)
    × ((start : ℕ) → PlacesStandAt place 0 start n o
    → IsAlignedRequest f start n × (MayRunOut f.read_memory file (start + n) → ⊥))

abbrev pub qcow2_no_memory : Features → ℕ → (ℕ → Place) → Operation → ℕ → ℕ → Type 0
qcow2_no_memory f file place Read o n = ReadTakesNone f file place o n
qcow2_no_memory f file place _ o n = Unit {0}

-- which part a mapping is for
abbrev pub qcow2_answers : (ℕ → Place) → ℕ → Operation → ℕ → ℕ → ℕ → ℕ → Type 0
qcow2_answers place size Map o n q m = IsLongest place size o n m
qcow2_answers place size _ o n q m = Unit {0}

-- one mapping names the whole range, which lies in the disk
abbrev pub IsOneMapping : (ℕ → Place) → ℕ → ℕ → ℕ → Type 0
IsOneMapping place size o n = (o + n ≤ size)
    × ((mapping : ShallowMapping) × ((i : ℕ) → i < n → Names mapping i (place (o + i))))

abbrev pub qcow2_whole : (ℕ → Place) → ℕ → Operation → ℕ → ℕ → Type 0
qcow2_whole place size Read o n = IsOneMapping place size o n
qcow2_whole place size _ o n = ⊥

-- whether compressed clusters are read
abbrev pub is_read : Compression → Bool
is_read By.Deflate = true
is_read By.Zstd = false

-- what is offered: mappings, and the reads that follow them, but no read of bytes that are
-- compressed otherwise than by deflate
abbrev pub qcow2_offers : Compression → Operation → Bool
qcow2_offers by Map = true
qcow2_offers by Flush = true
qcow2_offers by Write = false
qcow2_offers by Read = is_read by
qcow2_offers by Zero = false
qcow2_offers by DiscardToZero = false
qcow2_offers by DiscardToAny = false
qcow2_offers by DiscardToBacking = false
qcow2_offers by (Grow mode) = false
qcow2_offers by Shrink = false

-- the disk with these places, whose file has these bytes, in a storage of these features
abbrev pub view_with : Features → List ℕ → GuestDisk → (ℕ → Place) → View Ticket
view_with f bytes disk place = record {
  abilities = record {
    format = Format.Qcow2;
    is_writable = false;
    takes_backing = true;
    is_reliable = f.is_reliable;
    keeps_data = f.tells_bytes;
    tells_bytes = f.tells_bytes;
    zero_granularity = None;
    offers = qcow2_offers disk.compression;
    block = 1;
  };
  size = disk.size;
  place = place;
  fault_count = 0;
  stores = record { count = 1; bytes = λ index. bytes; features = λ index. f };
  special = own_values place;
  limits = record {
    cause = qcow2_cause f disk place;
    copies = λ op o n p. ⊥;
    no_memory = qcow2_no_memory f (length bytes) place;
    commit_memory = ⊥;
    whole = qcow2_whole place disk.size;
    answers = qcow2_answers place disk.size;
    longest = λ op o n index. 0;
  };
  pending = None;
}

-- the disk, whose file has these bytes, in a storage of these features
abbrev pub file_view : Features → List ℕ → GuestDisk → View Ticket
file_view f bytes disk = view_with f bytes disk (disk_place f.tells_bytes bytes disk)

-- the disk by the bytes of its file alone
abbrev pub qcow2_view : Features → List ℕ → View Ticket
qcow2_view f bytes = file_view f bytes (disk_of bytes)

-- The disk by what was loaded of the file. It is the one above where the storage tells its bytes.
abbrev pub loaded_view : Features → List ℕ → LoadedImage → View Ticket
loaded_view f bytes loaded = file_view f bytes (loaded_disk loaded)
