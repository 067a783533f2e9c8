-- The header of a new file.
-- SPDX-License-Identifier: MIT
use Rattle.std.specs.Prelude.{ℕ, ◌+◌, ◌-◌, ◌*◌, if◌then◌else◌, nat_lt, nat_eq, ◌^◌}
use Rattle.imago_qcow2_new.specs.declared.format.Version.{Version}
use Rattle.imago_qcow2_new.specs.declared.format.Version.TheVariants as V
use Rattle.imago_qcow2_new.specs.declared.header.NewHeader.{NewHeader}
use Rattle.imago_qcow2.specs.Numbers.{be64}

-- how many words the header has, and the version's number
abbrev pub words_of : Version → ℕ
words_of V.Two = 9
words_of V.Three = 14

abbrev pub number_of : Version → ℕ
number_of V.Two = 2
number_of V.Three = 3

-- where the backing file's name begins, or 0 where there is none
abbrev pub name_start : NewHeader → ℕ
name_start h = if nat_eq h.names.count 0 then 0 else 8 * words_of h.version + h.names.start

-- The header's words: the magic number and the version; where the backing file's name begins; its
-- length, and the base 2 logarithm of a cluster's length; the disk's size; no encryption, and the
-- number of L1 entries; where these begin, and where the table of reference counts does; how many
-- clusters that has, and no snapshots. Version 3 also has: no feature; counts of 16 bits, and the
-- header's length, 112 bytes; deflate.
unfoldable pub field_word : NewHeader → ℕ → ℕ
field_word h w =
    if nat_eq w 0 then 0x514649fb00000000 + number_of h.version else
    (if nat_eq w 1 then name_start h else
    (if nat_eq w 2 then h.names.count * 2 ^ 32 + h.cluster_bits else
    (if nat_eq w 3 then h.size else
    (if nat_eq w 4 then h.l1_count else
    (if nat_eq w 5 then h.l1_start else
    (if nat_eq w 6 then h.counts_start else
    (if nat_eq w 7 then h.counts_clusters * 2 ^ 32 else
    (if nat_eq w 12 then 0x400000070 else 0))))))))

-- the words of the header's cluster: behind the header are the names
abbrev pub header_word : NewHeader → ℕ → ℕ
header_word h w =
    if nat_lt w (words_of h.version) then field_word h w
    else be64 h.names.bytes.items (8 * (w - words_of h.version))
