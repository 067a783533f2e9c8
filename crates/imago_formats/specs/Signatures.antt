-- What the files of each format begin or end with, and what a file is recognised as by that.
-- SPDX-License-Identifier: MIT
use Rattle.std.specs.Prelude.{ℕ, ◌-◌, Bool, true, false, List, [], ◌∷◌, ◌++◌, length, take, drop}
use Rattle.std.specs.Prelude.{min, Option, Some, None, option_map, codes, nat_eq, nat_lt, not}
use Rattle.std.specs.Prelude.{◌&&◌, ◌||◌}
use Rattle.std.specs.Prelude.{if◌then◌else◌}
use Rattle.std.specs.List.{find}
use Rattle.std.specs.Option.{option_or}
use Rattle.std.specs.Str.{bytes_eq, str_eq_ignore_ascii_case}
use Rattle.imago_vmdk.specs.Probe.{probe_of}
use Rattle.imago_storage.specs.Bytes.{bytes_at}
use Rattle.imago_formats.specs.declared.signature.Mark.{Mark}
use Rattle.imago_formats.specs.declared.signature.Signature.{Signature}
use Rattle.imago_formats.specs.declared.signature.Signature.TheVariants as Of

-- Files of a format have these bytes at an offset of a block, where letters may be of either case
-- or not.
pub record Known : Type 0 where
  pub signature : Signature
  pub offset : ℕ
  pub text : List ℕ
  pub any_case : Bool

-- what is known of a mark of the table
abbrev pub known : Mark → Known
known m = record {
  signature = m.signature;
  offset = m.offset;
  text = m.bytes.now;
  any_case = m.any_case;
}

-- bytes that stand at an offset as they are
abbrev exact : Signature → ℕ → List ℕ → Known
exact signature offset text =
    record { signature = signature; offset = offset; text = text; any_case = false }

-- a text that stands at the beginning, in letters of either case
abbrev in_any_case : Signature → List ℕ → Known
in_any_case signature text =
    record { signature = signature; offset = 0; text = text; any_case = true }

-- What stands in the first 512 bytes of a file of each format; what comes first here counts. The
-- magic number of qcow is 'QFI' and 251, and the version follows it, of 4 bytes. A byte order mark
-- is 239, 187, 191.
abbrev pub first_marks : List Known
first_marks =
    exact Of.Qcow1 0 (81 ∷ 70 ∷ 73 ∷ 251 ∷ 0 ∷ 0 ∷ 0 ∷ 1 ∷ [])
    ∷ exact Of.Qcow2 0 (81 ∷ 70 ∷ 73 ∷ 251 ∷ [])
    ∷ exact Of.Descriptor 0 (codes "# Disk DescriptorFile")
    ∷ in_any_case Of.OtherDescriptor (codes "# disk descriptorfile")
    ∷ in_any_case Of.OtherDescriptor (239 ∷ 187 ∷ 191 ∷ codes "# disk descriptorfile")
    ∷ exact Of.Sparse 0 (codes "KDMV")
    ∷ exact Of.Sparse 0 (codes "COWD")
    ∷ exact Of.Vhdx 0 (codes "vhdxfile")
    ∷ exact Of.Vhd 0 (codes "conectix")
    ∷ exact Of.Vdi 64 (127 ∷ 16 ∷ 218 ∷ 190 ∷ [])
    ∷ exact Of.Qed 0 (81 ∷ 69 ∷ 68 ∷ 0 ∷ [])
    ∷ exact Of.Parallels 0 (codes "WithoutFreeSpace")
    ∷ exact Of.Parallels 0 (codes "WithouFreSpacExt")
    ∷ exact Of.Luks 0 (76 ∷ 85 ∷ 75 ∷ 83 ∷ 186 ∷ 190 ∷ [])
    ∷ exact Of.Bochs 0 (codes "Bochs Virtual HD Image" ++ 0 ∷ [])
    ∷ exact Of.Cloop 0 (codes "#!/bin/sh" ++ 10 ∷ codes "#V2.0 Format" ++ 10
    ∷ codes "modprobe cloop")
    ∷ exact Of.Tar 257 (codes "ustar")
    ∷ exact Of.Gzip 0 (31 ∷ 139 ∷ [])
    ∷ exact Of.Bzip2 0 (codes "BZh")
    ∷ exact Of.Xz 0 (253 ∷ 55 ∷ 122 ∷ 88 ∷ 90 ∷ 0 ∷ [])
    ∷ exact Of.Zstd 0 (40 ∷ 181 ∷ 47 ∷ 253 ∷ [])
    ∷ exact Of.Zip 0 (80 ∷ 75 ∷ 3 ∷ 4 ∷ [])
    ∷ []

-- what stands in the last 512 bytes
abbrev pub last_marks : List Known
last_marks = exact Of.Vhd 0 (codes "conectix") ∷ exact Of.Dmg 0 (codes "koly") ∷ []

-- whether a text is that of a mark
abbrev pub is_text_of : Known → List ℕ → Bool
is_text_of mark text =
    if mark.any_case then str_eq_ignore_ascii_case text mark.text else bytes_eq text mark.text

-- whether a mark stands in a block; in one that ends before the mark's end it doesn't
abbrev pub stands : List ℕ → Known → Bool
stands block mark = is_text_of mark (take (length mark.text) (drop mark.offset block))

-- The number of the format that a signature is of: two of one format have the same.
abbrev pub format_number : Signature → ℕ
format_number Of.Qcow2 = 0
format_number Of.Qcow1 = 0
format_number Of.Descriptor = 1
format_number Of.OtherDescriptor = 1
format_number Of.Sparse = 1
format_number Of.Qed = 2
format_number Of.Vdi = 3
format_number Of.Vhd = 4
format_number Of.Vhdx = 5
format_number Of.Parallels = 6
format_number Of.Luks = 7
format_number Of.Dmg = 8
format_number Of.Tar = 9
format_number Of.Gzip = 10
format_number Of.Bzip2 = 11
format_number Of.Xz = 12
format_number Of.Zstd = 13
format_number Of.Zip = 14
format_number Of.Iso = 15
format_number Of.Bochs = 16
format_number Of.Cloop = 17

-- whether a signature is of another format than that one, if there is one
abbrev pub is_beside : Option Signature → Signature → Bool
is_beside None found = true
is_beside (Some other) found = not (nat_eq (format_number other) (format_number found))

-- whether a mark stands in a block, and isn't of the format that is passed over
abbrev pub counts : Option Signature → List ℕ → Known → Bool
counts besides block mark = stands block mark && is_beside besides mark.signature

-- what the first of these marks tells that counts in a block
abbrev pub found_first : Option Signature → List Known → List ℕ → Option Signature
found_first besides marks block = option_map (λ m. m.signature) (find (counts besides block) marks)

-- what a text tells without a mark: a descriptor, where a version of VMDK descriptors that is known
-- stands in it
abbrev pub told_by_text : Option Signature → List ℕ → Option Signature
told_by_text besides block =
    if is_beside besides Of.OtherDescriptor && probe_of block then Some Of.OtherDescriptor else None

-- what the first block of a file tells, and the last one, besides that one, if there is one
unfoldable pub told_by_first : Option Signature → List ℕ → Option Signature
told_by_first besides block =
    option_or (found_first besides first_marks block) (told_by_text besides block)

unfoldable pub told_by_last : Option Signature → List ℕ → Option Signature
told_by_last besides block = found_first besides last_marks block

-- the first 512 bytes of a file, or all of them where it is shorter
abbrev pub first_block : List ℕ → List ℕ
first_block bytes = bytes_at bytes 0 (min (length bytes) 512)

-- the last 512 bytes of a file; one that is shorter has no such block
abbrev pub last_block : List ℕ → List ℕ
last_block bytes =
    if nat_lt (length bytes) 512 then [] else bytes_at bytes (length bytes - 512) 512

-- what a file is recognised as: by its first block, or else by its last one
abbrev pub signature_of : List ℕ → Option Signature
signature_of bytes =
    option_or (told_by_first None (first_block bytes)) (told_by_last None (last_block bytes))

-- whether a file of that format may not be an ISO 9660 image too: one of qcow2 or of VMDK
abbrev pub excludes_iso : Signature → Bool
excludes_iso found = nat_eq (format_number found) 0 || nat_eq (format_number found) 1

-- the mark of an ISO 9660 image stands behind the first byte of its sector 16, of 2048 bytes each
abbrev pub has_iso_mark : List ℕ → Bool
has_iso_mark bytes = bytes_eq (bytes_at bytes 32769 5) (codes "CD001")

abbrev pub iso_beside : Signature → List ℕ → Option Signature
iso_beside found bytes = if excludes_iso found && has_iso_mark bytes then Some Of.Iso else None

-- What a file is recognised as besides that, as another format: by its first block, its last one, or
-- where an ISO 9660 image has its mark.
abbrev pub other_signature_of : Signature → List ℕ → Option Signature
other_signature_of found bytes =
    option_or (told_by_first (Some found) (first_block bytes))
    (option_or (told_by_last (Some found) (last_block bytes)) (iso_beside found bytes))
