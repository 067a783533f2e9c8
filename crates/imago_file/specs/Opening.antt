-- What it is to open a file as a storage, and to create one.
-- SPDX-License-Identifier: MIT
use Rattle.std.specs.Prelude.{◌≡◌, ℕ, ◌⊎◌, Bool, true, false, List, length, Option, Some, None}
use Rattle.std.specs.Prelude.{is_some, IfSome, IsTrue, Result, Ok, Err}
use Rattle.std.specs.IoError.{error_kind}
use Rattle.std.specs.declared.io.Error.{Error as IoError}
use Rattle.std.specs.declared.io.ErrorKind.{ErrorKind}
use Rattle.std.specs.declared.io.ErrorKind.TheVariants as Kind
use Rattle.imago_storage.specs.declared.error.Error.{Error}
use Rattle.imago_storage.specs.declared.error.Error.TheVariants as E
use Rattle.imago_storage.specs.Features.{Features}
use Rattle.imago_storage.specs.Options.{OpenOptions, CreateOptions}
use Rattle.imago_file.specs.FileCalls.{FileCalls, IsSizeSet}
use Rattle.imago_file.specs.Features.{file_features}

-- What an opening or a creation of a file is: a relation of its path, whether it is to be writable
-- or to replace another one, the host before, the host after, and the answer.
abbrev pub FileOpening : Type 0 → Type 0 → Type 1
FileOpening Host File = List ℕ → Bool → Host → Host → Result File IoError → Type 0

-- nothing is said of it
abbrev pub any_opening : {Host File : Type 0} → FileOpening Host File
any_opening path flag old new answer = Unit {0}

-- The storage of a file: it has that very file, and is seen so.
pub record IsStorageOf {S File : Type 0} (file_of : S → File) (features_of : S → Features)
    (bytes_of : S → List ℕ) (contents_of : File → Option (List ℕ)) (calls : FileCalls File)
    (name : Option (List ℕ)) (writable : Bool) (file : File) (storage : S) : Type 0 where
  pub has : file_of storage ≡ file
  pub features : features_of storage ≡ file_features name writable (is_some (contents_of file))
  pub bytes : IfSome (contents_of file) (λ held. bytes_of storage ≡ held)
  pub measured : calls.measured file (Ok (length (bytes_of storage)))

-- The first of these: the options ask for direct access, which isn't offered, or name no file, or
-- there is no memory for the name.
abbrev pub IsNotAsked : OpenOptions → IoError → Type 0
IsNotAsked options cause = ((options.direct ≡ true) × (error_kind cause ≡ Kind.Unsupported))
    ⊎ ((options.direct ≡ false) × (options.filename ≡ None)
    × (error_kind cause ≡ Kind.InvalidInput))
    ⊎ ((options.direct ≡ false) × IsTrue (is_some options.filename)
    × (error_kind cause ≡ Kind.OutOfMemory))

-- the file that the options name, through the host's cache
abbrev pub IsAsked : OpenOptions → List ℕ → Type 0
IsAsked options name = (options.direct ≡ false) × (options.filename ≡ Some name)

-- That file was opened, and is the storage's.
pub record IsOpened {Host File S : Type 0} (opened : FileOpening Host File)
    (is_storage : Option (List ℕ) → Bool → File → S → Type 0) (options : OpenOptions)
    (old new : Host) (storage : S) : Type 0 where
  pub name : List ℕ
  pub asked : IsAsked options name
  pub file : File
  pub made : opened name options.writable old new (Ok file)
  pub storage_is : is_storage (Some name) options.writable file storage

-- That file wasn't opened, or didn't tell its length.
pub record IsNotOpened {Host File : Type 0} (opened : FileOpening Host File)
    (calls : FileCalls File) (options : OpenOptions) (old new : Host) (cause : IoError) : Type 0
  where
    pub name : List ℕ
    pub asked : IsAsked options name
    pub refused : opened name options.writable old new (Err cause)
        ⊎ ((file : File) × opened name options.writable old new (Ok file)
        × calls.measured file (Err cause))

-- an opening by options: one call of the host, or none
abbrev pub IsFileOpening : {Host File S : Type 0} → FileOpening Host File → FileCalls File
    → (Option (List ℕ) → Bool → File → S → Type 0) → OpenOptions → Host → Host → Result S IoError
    → Type 0
IsFileOpening opened calls is_storage options old new (Ok storage) =
    IsOpened opened is_storage options old new storage
IsFileOpening opened calls is_storage options old new (Err cause) =
    ((new ≡ old) × IsNotAsked options cause) ⊎ IsNotOpened opened calls options old new cause

-- A file of that name was created, got the size, and is the storage's.
pub record IsCreated {Host File S : Type 0} (created : FileOpening Host File)
    (calls : FileCalls File) (is_storage : Option (List ℕ) → Bool → File → S → Type 0)
    (options : CreateOptions) (old new : Host) (storage : S) : Type 0 where
  pub name : List ℕ
  pub asked : IsAsked options.to_open name
  pub empty : File
  pub made : created name options.overwrite old new (Ok empty)
  pub file : File
  pub sized : IsSizeSet calls 0 options.size options.mode empty file (Ok tt)
  pub storage_is : is_storage (Some name) true file storage

-- It wasn't created, didn't get the size, or didn't tell its length.
pub record IsNotCreated {Host File : Type 0} (created : FileOpening Host File)
    (calls : FileCalls File) (options : CreateOptions) (old new : Host) (cause : IoError) : Type 0
  where
    pub name : List ℕ
    pub asked : IsAsked options.to_open name
    pub refused : created name options.overwrite old new (Err cause)
        ⊎ ((empty : File) × (file : File) × created name options.overwrite old new (Ok empty)
        × (IsSizeSet calls 0 options.size options.mode empty file (Err cause)
        ⊎ (IsSizeSet calls 0 options.size options.mode empty file (Ok tt)
        × calls.measured file (Err cause))))

-- a creation by options: one call of the host, or none
abbrev pub IsFileCreation : {Host File S : Type 0} → FileOpening Host File → FileCalls File
    → (Option (List ℕ) → Bool → File → S → Type 0) → CreateOptions → Host → Host → Result S IoError
    → Type 0
IsFileCreation created calls is_storage options old new (Ok storage) =
    IsCreated created calls is_storage options old new storage
IsFileCreation created calls is_storage options old new (Err cause) =
    ((new ≡ old) × IsNotAsked options.to_open cause)
    ⊎ IsNotCreated created calls options old new cause

-- what the refusal of an opening or a creation is as an image's error, by its kind
abbrev pub opening_error : ErrorKind → Error
opening_error Kind.NotFound = E.NotFound
opening_error Kind.NotADirectory = E.NotFound
opening_error Kind.PermissionDenied = E.Denied
opening_error Kind.ReadOnlyFilesystem = E.Denied
opening_error Kind.AlreadyExists = E.Denied
opening_error Kind.InvalidInput = E.InvalidData
opening_error Kind.InvalidFilename = E.InvalidData
opening_error Kind.IsADirectory = E.InvalidData
opening_error Kind.Unsupported = E.Unsupported
opening_error Kind.OutOfMemory = E.Memory
opening_error _ = E.Device
