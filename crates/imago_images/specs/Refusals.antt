-- Why files aren't opened for an image: whose fault it is, and what holds there.
-- SPDX-License-Identifier: MIT
use Rattle.std.specs.Prelude.{◌≡◌, ◌≢◌, ℕ, ◌⊎◌, true, false, List, Option, Some, None}
use Rattle.std.specs.Prelude.{Ok, Err, IfSome, IsTrue, String, length}
use Rattle.std.specs.Global.{Global}
use Rattle.std.specs.Path.{PathStartsWith}
use Rattle.std.specs.String.{string_bytes}
use Rattle.std.specs.declared.io.Error.{Error as IoError}
use Rattle.imago_storage.specs.declared.error.Error.{Error}
use Rattle.imago_storage.specs.Error.{IsExtRefusal}
use Rattle.imago_storage.specs.Features.{Features}
use Rattle.imago_file.specs.Names.{lies_below}
use Rattle.imago_qcow2.specs.Backing.{format_of}
use Rattle.imago_qcow2.specs.Fault.{error_of}
use Rattle.imago_qcow2.specs.Header.{header_of}
use Rattle.imago_qcow2.specs.Limit.{TablesNeedMore}
use Rattle.imago_storage.specs.Bytes.{bytes_at}
use Rattle.imago_vmdk.specs.declared.line.Accepted.{Accepted}
use Rattle.imago_vmdk.specs.declared.line.Extent.{Extent}
use Rattle.imago_vmdk.specs.Reading.{reading_of}
use Rattle.imago_images.specs.declared.failure.OpenError.{OpenError}
use Rattle.imago_images.specs.declared.failure.Reason.{Reason}
use Rattle.imago_images.specs.declared.files.FileKind.TheVariants as Kind
use Rattle.imago_images.specs.declared.files.FileStatus.{FileStatus}
use Rattle.imago_images.specs.declared.format.ImageFormat.{ImageFormat}
use Rattle.imago_images.specs.declared.format.ImageFormat.TheVariants as Format
use Rattle.imago_images.specs.declared.gate.Named.{Named}
use Rattle.imago_images.specs.declared.opening.OtherFiles.{OtherFiles}
use Rattle.imago_images.specs.declared.opening.OtherFiles.TheVariants as Others
use Rattle.imago_formats.specs.declared.signature.Signature.{Signature}
use Rattle.imago_formats.specs.declared.signature.Signature.TheVariants as Of
use Rattle.imago_images.specs.BackingNames.{file_named}
use Rattle.imago_images.specs.Extents.{HasFlat}
use Rattle.imago_images.specs.Formats.{format_named, told_format}
use Rattle.imago_images.specs.Gate.{folder_path, folder_asked}
use Rattle.imago_images.specs.Layers.{SaysBacking}
use Rattle.imago_images.specs.Way.{is_among}

-- A refusal names the file of that path, and this holds of its reason. Where memory was refused,
-- nothing is said.
abbrev pub IsRefused : List ℕ → (Reason → Type 0) → OpenError → Type 0
IsRefused path why (OpenError.OfFile named reason) = (string_bytes named ≡ path) × why reason
IsRefused path why OpenError.Memory = Unit {0}

-- the host's answer
abbrev pub IsBySystem : Reason → Type 0
IsBySystem reason = (answer : IoError) × (reason ≡ Reason.System answer)

-- an answer of the format's driver
abbrev pub IsByDriver : Reason → Type 0
IsByDriver reason = (error : Error) × (reason ≡ Reason.Image error)

-- the host's answer, or that one of a driver or a storage
abbrev pub IsBySystemOr : Error → Reason → Type 0
IsBySystemOr error reason = IsBySystem reason ⊎ (reason ≡ Reason.Image error)

-- The host's answer, or one that a storage gives whatever its bytes are: it failed, memory was
-- refused, or a request passes the greatest offset.
abbrev pub IsUnread : Reason → Type 0
IsUnread (Reason.System answer) = Unit {0}
IsUnread (Reason.Image error) = IsExtRefusal error
IsUnread reason = ⊥

-- The file of a path isn't looked at: the host's answer, or it has no bytes at offsets, where the
-- host tells what its files are.
abbrev pub IsUnseen : Option (List ℕ → FileStatus) → List ℕ → Reason → Type 0
IsUnseen statuses path (Reason.System answer) = Unit {0}
IsUnseen statuses path Reason.NotAFile =
    IfSome statuses (λ status_of. (status_of path).kind ≡ Kind.Other)
IsUnseen statuses path reason = ⊥

-- The file of a path, which has that format, isn't opened for writing: only raw images are, or it
-- isn't looked at or opened, or the driver refuses it.
abbrev pub IsUnwritten :
    Option (List ℕ → FileStatus) → List ℕ → ImageFormat → Reason → Type 0
IsUnwritten statuses path format Reason.OnlyRead = format ≢ Format.Raw
IsUnwritten statuses path format (Reason.Image error) = IsExtRefusal error
IsUnwritten statuses path format reason = IsUnseen statuses path reason

-- Why a file isn't opened that is said to have that format, or isn't, and is recognised as that: a
-- sparse VMDK image has its own reason.
abbrev pub reason_for : Option ImageFormat → Signature → Reason
reason_for None Of.Sparse = Reason.Sparse
reason_for (Some Format.Vmdk) Of.Sparse = Reason.Sparse
reason_for None found = Reason.Recognised found
reason_for (Some said) found = Reason.Another said found

-- The format of the file of a path isn't told: the file isn't read, or it is recognised as
-- something that it isn't opened as.
abbrev pub IsUnknown : Option ImageFormat → List ℕ → List ℕ → Reason → Type 0
IsUnknown said path bytes reason = IsUnread reason
    ⊎ ((found : Signature) × (told_format said path bytes ≡ Err found)
    × (reason ≡ reason_for said found))

-- a file stands among those above it
abbrev pub IsInCircle : List (ℕ × ℕ) → ℕ × ℕ → Reason → Type 0
IsInCircle above file (Reason.Loop told) = is_among above file ≡ true
IsInCircle above file reason = ⊥

-- a file below one isn't opened any more
abbrev pub IsTooDeep : Reason → Type 0
IsTooDeep (Reason.TooManyBelow told) = Unit {0}
IsTooDeep reason = ⊥

-- A path leads out of an image's folder: by its text, or by links, where the host tells which paths
-- its files have without them.
abbrev pub IsOutside : Option (List ℕ → List ℕ) → List ℕ → List ℕ → Type 0
IsOutside reals image path = (lies_below (folder_path image) path ≡ false)
    ⊎ IfSome reals (λ real. PathStartsWith (real path) (real (folder_asked image)) → ⊥)

-- a path isn't let through: none is, or it leads out of the folder
abbrev pub IsOut : Option (List ℕ → List ℕ) → OtherFiles → List ℕ → List ℕ → Type 0
IsOut reals Others.None image path = Unit {0}
IsOut reals Others.InFolder image path = IsOutside reals image path
IsOut reals Others.Any image path = ⊥

-- The file of a path, which an image names as that, isn't let through: no other files are, or it
-- lies outside of the image's folder where only those in it are.
abbrev pub IsKeptOut :
    Named → Option (List ℕ → List ℕ) → OtherFiles → List ℕ → List ℕ → Reason → Type 0
IsKeptOut Named.Extents reals others image path (Reason.NotPermitted named) =
    (string_bytes named ≡ path) × (others ≡ Others.None)
IsKeptOut Named.Extents reals others image path (Reason.Outside named) =
    (string_bytes named ≡ path) × (others ≡ Others.InFolder) × IsOutside reals image path
IsKeptOut Named.Backing reals others image path (Reason.BackingNotPermitted named) =
    (string_bytes named ≡ path) × (others ≡ Others.None)
IsKeptOut Named.Backing reals others image path (Reason.BackingOutside named) =
    (string_bytes named ≡ path) × (others ≡ Others.InFolder) × IsOutside reals image path
IsKeptOut named reals others image path reason = ⊥

-- The file of a path, which an image names as that, isn't handed out: the image's fault, where it
-- isn't let through, or its own.
abbrev pub IsNotHandedOut :
    Named → Option (List ℕ → FileStatus) → Option (List ℕ → List ℕ) → OtherFiles → List ℕ → List ℕ
    → OpenError → Type 0
IsNotHandedOut named statuses reals others image path e =
    IsRefused image (IsKeptOut named reals others image path) e
    ⊎ IsRefused path (IsUnseen statuses path) e

-- a qcow2 file with these bytes names a file below it
abbrev pub NamesBelow : List ℕ → Type 0
NamesBelow bytes = (name : List ℕ) × SaysBacking bytes (Some name)

-- a qcow2 file says that the one below it has a format of this name, which none of the formats has
abbrev pub SaysOtherFormat : List ℕ → List ℕ → Type 0
SaysOtherFormat bytes name = (at : ℕ) × (count : ℕ) × (format_of bytes ≡ Ok (Some (at, count)))
    × (bytes_at bytes at count ≡ name) × (format_named name ≡ None)

-- the tables of a qcow2 file, read from a storage that tells these bytes, have more bytes than that
abbrev pub HasLargerTables : List ℕ → ℕ → Type 0
HasLargerTables bytes most =
    (f : Features) × IsTrue f.tells_bytes × TablesNeedMore f bytes (Some most)

-- a name that a qcow2 file has of the one below it stands for no file
abbrev pub IsProtocol : List ℕ → Reason → Type 0
IsProtocol name reason = (told : String Global) × (reason ≡ Reason.BackingProtocol told)
    × (string_bytes told ≡ name) × (file_named name ≡ None)

-- A driver doesn't open a qcow2 file with these bytes, and this is its answer: the file isn't read,
-- or it is what the fault of its header is answered by, or the file names one below it, whose name
-- or format can't be told.
abbrev pub IsByQcow2 : List ℕ → Error → Type 0
IsByQcow2 bytes error = IsExtRefusal error ⊎ (header_of bytes (length bytes) ≡ Err error)
    ⊎ NamesBelow bytes

-- A qcow2 file with these bytes isn't opened within that limit on its tables, if there is one: its
-- header has that fault, its tables are larger than the limit, which is told, or the driver refuses
-- it, whose answers are such. Or it names a file below it, by a protocol, or says another format of
-- that file.
abbrev pub IsUnopenedBy : (Error → Type 0) → Option ℕ → List ℕ → Reason → Type 0
IsUnopenedBy driver limit bytes (Reason.Header fault) =
    header_of (bytes_at bytes 0 112) (length bytes) ≡ Err (error_of fault)
IsUnopenedBy driver limit bytes (Reason.TablesTooLarge most) =
    (limit ≡ Some most) × HasLargerTables bytes most
IsUnopenedBy driver limit bytes (Reason.BackingProtocol told) =
    SaysBacking bytes (Some (string_bytes told)) × (file_named (string_bytes told) ≡ None)
IsUnopenedBy driver limit bytes (Reason.BackingFormat name) =
    NamesBelow bytes × SaysOtherFormat bytes (string_bytes name)
IsUnopenedBy driver limit bytes (Reason.Image error) = driver error
IsUnopenedBy driver limit bytes (Reason.System answer) = Unit {0}
IsUnopenedBy driver limit bytes reason = ⊥

-- the same where a driver's answer tells of these bytes
abbrev pub IsUnopened : Option ℕ → List ℕ → Reason → Type 0
IsUnopened limit bytes reason = IsUnopenedBy (IsByQcow2 bytes) limit bytes reason

-- A descriptor with these bytes, in the file of a path, has a FLAT extent in the file of another.
abbrev pub HasExtentIn : Accepted → List ℕ → List ℕ → List ℕ → Type 0
HasExtentIn accepted bytes path other = (extents : List (Extent (List ℕ))) × (size : ℕ)
    × (reading_of accepted bytes ≡ Ok (extents, size))
    × HasFlat extents path other

-- A driver doesn't open a descriptor with these bytes, in the file of a path, and this is its
-- answer: the file isn't read, or its text can't be, or the file of an extent isn't opened.
abbrev pub IsByVmdk : Accepted → List ℕ → List ℕ → Error → Type 0
IsByVmdk accepted bytes path error = IsExtRefusal error ⊎ (reading_of accepted bytes ≡ Err error)
    ⊎ ((other : List ℕ) × HasExtentIn accepted bytes path other)

-- it isn't opened, for that answer or the host's
abbrev pub IsUndescribed : Accepted → List ℕ → List ℕ → Reason → Type 0
IsUndescribed accepted bytes path (Reason.Image error) = IsByVmdk accepted bytes path error
IsUndescribed accepted bytes path (Reason.System answer) = Unit {0}
IsUndescribed accepted bytes path reason = ⊥
