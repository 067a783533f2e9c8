-- The probes of QEMU 7.2, and which format it takes a file for whose format isn't said.
-- SPDX-License-Identifier: MIT
use Rattle.std.specs.Prelude.{ℕ, ◌-◌, Bool, false, List, [], ◌∷◌, ◌++◌, length, drop}
use Rattle.std.specs.Prelude.{Option, Some, None, nat_eq, nat_lt, ◌&&◌, ◌||◌, codes}
use Rattle.std.specs.List.{filter}
use Rattle.std.specs.Str.{bytes_eq}
use Rattle.imago_formats.specs.declared.probe.Probed.{Probed}
use Rattle.imago_formats.specs.declared.probe.Probed.TheVariants as As
use Rattle.imago_formats.specs.Bytes.{head, stands, be32}
use Rattle.imago_formats.specs.Text.{sees_descriptor}

-- 'QFI' and 251, with which files of qcow and qcow2 begin
abbrev pub qfi : List ℕ
qfi = 81 ∷ 70 ∷ 73 ∷ 251 ∷ []

-- block/qcow2.c, qcow2_probe: the version behind the mark is 2 or more
abbrev pub sees_qcow2 : List ℕ → Bool
sees_qcow2 head = stands 0 qfi head && nat_lt 1 (be32 4 head)

-- block/qcow.c, qcow_probe: the version behind the mark is 1
abbrev pub sees_qcow1 : List ℕ → Bool
sees_qcow1 head = stands 0 qfi head && nat_eq (be32 4 head) 1

-- block/qed.c, bdrv_qed_probe: 'QED' and a zero
abbrev pub sees_qed : List ℕ → Bool
sees_qed head = stands 0 (codes "QED" ++ 0 ∷ []) head

-- block/vdi.c, vdi_probe: the mark stands behind a text of 64 bytes
abbrev pub sees_vdi : List ℕ → Bool
sees_vdi head = stands 64 (127 ∷ 16 ∷ 218 ∷ 190 ∷ []) head

-- block/vhdx.c, vhdx_probe
abbrev pub sees_vhdx : List ℕ → Bool
sees_vhdx head = stands 0 (codes "vhdxfile") head

-- block/vpc.c, vpc_probe
abbrev pub sees_vpc : List ℕ → Bool
sees_vpc head = stands 0 (codes "conectix") head

-- block/vmdk.c, vmdk_probe: a mark of the sparse files of VMware, or a text
abbrev pub sees_vmdk : List ℕ → Bool
sees_vmdk head =
    stands 0 (codes "KDMV") head || stands 0 (codes "COWD") head || sees_descriptor head

-- block/parallels.c, parallels_probe: one of two marks, and version 2 in 4 bytes, the lowest first
abbrev pub sees_parallels : List ℕ → Bool
sees_parallels head =
    (stands 0 (codes "WithoutFreeSpace") head || stands 0 (codes "WithouFreSpacExt") head)
    && stands 16 (2 ∷ 0 ∷ 0 ∷ 0 ∷ []) head

-- crypto/block-luks.c, qcrypto_block_luks_has_format: 'LUKS', 186 and 190, and version 1 in 2
-- bytes, the highest first
abbrev pub sees_luks : List ℕ → Bool
sees_luks head = stands 0 (76 ∷ 85 ∷ 75 ∷ 83 ∷ 186 ∷ 190 ∷ []) head && stands 6 (0 ∷ 1 ∷ []) head

-- block/bochs.c, bochs_probe: three texts, which end with zeroes, and one of two versions: 0x20000
-- and 0x10000 in 4 bytes, the lowest first
abbrev pub sees_bochs : List ℕ → Bool
sees_bochs head =
    stands 0 (codes "Bochs Virtual HD Image" ++ 0 ∷ []) head
    && stands 32 (codes "Redolog" ++ 0 ∷ []) head && stands 48 (codes "Growing" ++ 0 ∷ []) head
    && (stands 64 (0 ∷ 0 ∷ 2 ∷ 0 ∷ []) head || stands 64 (0 ∷ 0 ∷ 1 ∷ 0 ∷ []) head)

-- the script with which a file of cloop begins
abbrev cloop_script : List ℕ
cloop_script = codes "#!/bin/sh" ++ 10 ∷ codes "#V2.0 Format" ++ 10
    ∷ codes "modprobe cloop file=$0 && mount -r -t iso9660 /dev/cloop $1" ++ 10 ∷ []

-- block/cloop.c, cloop_probe
abbrev pub sees_cloop : List ℕ → Bool
sees_cloop head = stands 0 cloop_script head

-- block/dmg.c, dmg_probe: the name has more than 4 bytes, and ends in '.dmg'
abbrev pub has_dmg_name : List ℕ → Bool
has_dmg_name name = nat_lt 4 (length name) && bytes_eq (drop (length name - 4) name) (codes ".dmg")

-- whether a format's probe sees it in a file of that name with that head
abbrev pub sees : List ℕ → List ℕ → Probed → Bool
sees name head As.Raw = false
sees name head As.Qcow2 = sees_qcow2 head
sees name head As.Qcow1 = sees_qcow1 head
sees name head As.Qed = sees_qed head
sees name head As.Vdi = sees_vdi head
sees name head As.Vhdx = sees_vhdx head
sees name head As.Vpc = sees_vpc head
sees name head As.Vmdk = sees_vmdk head
sees name head As.Parallels = sees_parallels head
sees name head As.Luks = sees_luks head
sees name head As.Bochs = sees_bochs head
sees name head As.Cloop = sees_cloop head
sees name head As.Dmg = has_dmg_name name

-- The formats whose probes answer 100, and those whose probes answer 2, which count where none of
-- the others is seen. That of raw answers 1.
abbrev pub marked : List Probed
marked = As.Qcow2 ∷ As.Qcow1 ∷ As.Qed ∷ As.Vdi ∷ As.Vhdx ∷ As.Vpc ∷ As.Vmdk ∷ As.Parallels ∷ As.Luks
    ∷ As.Bochs ∷ []

abbrev pub weak : List Probed
weak = As.Cloop ∷ As.Dmg ∷ []

-- The only format that is seen; where none is, raw. Of two, it isn't said here which one counts.
abbrev pub the_only : List Probed → Option Probed
the_only [] = Some As.Raw
the_only (found ∷ []) = Some found
the_only (found ∷ other ∷ others) = None

-- Those of these formats that are seen, and where there is none, what the weak ones tell.
abbrev pub strongest : List Probed → List Probed → List Probed
strongest [] others = others
strongest (found ∷ seen) others = found ∷ seen

-- block.c, bdrv_probe_all: which format a file of that name with that head is taken for
unfoldable pub probed : List ℕ → List ℕ → Option Probed
probed name head =
    the_only (strongest (filter (sees name head) marked) (filter (sees name head) weak))

-- block.c, find_image_format: which format a file of that name with these bytes is taken for, where
-- its format isn't said. An empty file is raw.
abbrev pub taken_by_qemu : List ℕ → List ℕ → Option Probed
taken_by_qemu name [] = Some As.Raw
taken_by_qemu name (b ∷ bytes) = probed name (head (b ∷ bytes))
