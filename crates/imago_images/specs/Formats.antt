-- The formats of images in files: their names, and which one a file is taken to have.
-- SPDX-License-Identifier: MIT
use Rattle.std.specs.Prelude.{◌≡◌, ℕ, List, Option, Some, None, Result, Ok, Err}
use Rattle.std.specs.Prelude.{codes, nat_eq, if◌then◌else◌, ◌||◌}
use Rattle.std.specs.List.{ends_with}
use Rattle.std.specs.Str.{bytes_eq}
use Rattle.imago_qcow2.specs.Backing.{format_of}
use Rattle.imago_storage.specs.Bytes.{bytes_at}
use Rattle.imago_images.specs.declared.format.ImageFormat.{ImageFormat}
use Rattle.imago_images.specs.declared.format.ImageFormat.TheVariants.{Raw, Vmdk, Qcow2}
use Rattle.imago_formats.specs.declared.signature.Signature.{Signature}
use Rattle.imago_formats.specs.declared.signature.Signature.TheVariants as Of
use Rattle.imago_formats.specs.Signatures.{signature_of}

-- the format of that name, if one has it: 'file' is an old name of raw
unfoldable pub format_named : List ℕ → Option ImageFormat
format_named name =
    if bytes_eq name (codes "raw") || bytes_eq name (codes "file") then Some Raw else
    (if bytes_eq name (codes "vmdk") then Some Vmdk else
    (if bytes_eq name (codes "qcow2") then Some Qcow2 else None))

-- the name by which a command line and qcow2 headers know a format
unfoldable pub name_of : ImageFormat → List ℕ
name_of Raw = codes "raw"
name_of Vmdk = codes "vmdk"
name_of Qcow2 = codes "qcow2"

-- the format that the name of a file ends in, if it does
unfoldable pub format_by_name : List ℕ → Option ImageFormat
format_by_name path =
    if ends_with nat_eq path (codes ".raw") then Some Raw else
    (if ends_with nat_eq path (codes ".vmdk") then Some Vmdk else None)

-- A file that begins as a qcow2 image is taken for one, unless its name ends in '.raw'. A guest can
-- write such a beginning into a raw disk.
abbrev pub qcow2_by_name : Option ImageFormat → Result ImageFormat Signature
qcow2_by_name (Some Raw) = Err Of.Qcow2
qcow2_by_name name = Ok Qcow2

-- A file that begins as a descriptor is taken for a VMDK image only if its name ends in '.vmdk'.
abbrev pub descriptor_by_name : Option ImageFormat → Result ImageFormat Signature
descriptor_by_name (Some Vmdk) = Ok Vmdk
descriptor_by_name name = Err Of.Descriptor

-- What a file is taken for by what its name ends in and what it is recognised as: what isn't
-- recognised is raw, and all that is neither a qcow2 image nor a descriptor isn't taken for any.
abbrev pub taken_for : Option ImageFormat → Option Signature → Result ImageFormat Signature
taken_for name None = Ok Raw
taken_for name (Some Of.Qcow2) = qcow2_by_name name
taken_for name (Some Of.Descriptor) = descriptor_by_name name
taken_for name (Some other) = Err other

-- What a file is that is said to be a descriptor: one that is recognised as something else isn't.
abbrev pub vmdk_unless : Option Signature → Result ImageFormat Signature
vmdk_unless None = Ok Vmdk
vmdk_unless (Some Of.Descriptor) = Ok Vmdk
vmdk_unless (Some Of.OtherDescriptor) = Ok Vmdk
vmdk_unless (Some other) = Err other

-- the same of a qcow2 image
abbrev pub qcow2_unless : Option Signature → Result ImageFormat Signature
qcow2_unless None = Ok Qcow2
qcow2_unless (Some Of.Qcow2) = Ok Qcow2
qcow2_unless (Some other) = Err other

-- What a file is that is said to have a format, by what it is recognised as: any file is raw where
-- that is said.
abbrev pub said_for : ImageFormat → Option Signature → Result ImageFormat Signature
said_for Raw found = Ok Raw
said_for Vmdk found = vmdk_unless found
said_for Qcow2 found = qcow2_unless found

-- The format of the file of a path with these bytes, or what it is recognised as instead: the one
-- that is said, or else the one that it is taken for.
abbrev pub told_format : Option ImageFormat → List ℕ → List ℕ → Result ImageFormat Signature
told_format (Some said) path bytes = said_for said (signature_of bytes)
told_format None path bytes = taken_for (format_by_name path) (signature_of bytes)

-- the file of a path has that format
abbrev pub IsFormatBy : Option ImageFormat → List ℕ → List ℕ → ImageFormat → Type 0
IsFormatBy said path bytes format = told_format said path bytes ≡ Ok format

-- what a qcow2 file says of the format of the one below it: nothing, or the name that its header
-- extension for that has
abbrev pub SaysFormat : List ℕ → Option ImageFormat → Type 0
SaysFormat bytes None = format_of bytes ≡ Ok None
SaysFormat bytes (Some format) = (at : ℕ) × (count : ℕ)
    × (format_of bytes ≡ Ok (Some (at, count)))
    × (format_named (bytes_at bytes at count) ≡ Some format)

-- the format of the lower one of two files, which has that path, is the one that the upper one
-- says, or else the one that it is taken for itself
abbrev pub IsFormatBelow : List ℕ → List ℕ → List ℕ → ImageFormat → Type 0
IsFormatBelow upper path lower format =
    (said : Option ImageFormat) × SaysFormat upper said × IsFormatBy said path lower format
