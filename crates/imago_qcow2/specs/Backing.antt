-- What the header says of the backing file: its name, and the name of its format.
-- SPDX-License-Identifier: MIT
use Rattle.std.specs.Prelude.{◌≡◌, ℕ, zero, suc, ◌+◌, ◌-◌, ◌<◌, ◌≤◌, false, List, length, min}
use Rattle.std.specs.Prelude.{Option, Some, None, Result, Ok, Err, if◌then◌else◌, nat_lt, nat_eq}
use Rattle.std.specs.Prelude.{◌⊎◌, IsTrue}
use Rattle.std.specs.Int.{next_multiple_of}
use Rattle.std.specs.declared.vec.Vec.{Vec}
use Rattle.std.specs.declared.alloc.Global.{Global}
use Rattle.imago_storage.specs.declared.error.Error.{Error}
use Rattle.imago_storage.specs.Bytes.{IsReadAt}
use Rattle.imago_storage.specs.Features.{Features}
use Rattle.imago_storage.specs.Padding.{Wraps}
use Rattle.imago_drivers.specs.Reasons.{Reasons, none, allowed}
use Rattle.imago_qcow2.specs.declared.header.Header.{Header}
use Rattle.imago_qcow2.specs.Numbers.{be32, be64}
use Rattle.imago_qcow2.specs.Header.{own_length}
use Rattle.imago_qcow2.specs.Entry.{cluster_length}

-- the name of the backing file, which the header has the offset and the length of; there is none
-- where the offset is 0
abbrev pub IsBackingName : List ℕ → Option (Vec ℕ Global) → Type 0
IsBackingName bytes None = be64 bytes 8 ≡ 0
IsBackingName bytes (Some name) = (0 < be64 bytes 8) × (length name.items ≡ be32 bytes 16)
    × IsReadAt bytes (be64 bytes 8) name.items

-- the type of the header extension that holds the name of the backing file's format
abbrev pub backing_format : ℕ
backing_format = 0xe2792aca

-- Header extensions stand one behind the other: the number of the type, the length of what is held,
-- and that, up to a multiple of 8 bytes. Each lies before the end. Type 0 ends them. Of those for
-- the format of the backing file the last one counts: this finds where it holds the name, and how
-- long that is; `found` where there is none. So many steps are enough.
abbrev pub format_by : ℕ → List ℕ → Option (ℕ × ℕ) → ℕ → ℕ → Result (Option (ℕ × ℕ)) Error
format_by zero bytes found at end = Ok found
format_by (suc steps) bytes found at end =
    if nat_lt at end then
    (if nat_lt (end - at) (8 + be32 bytes (at + 4)) then Err Error.InvalidData else
    (if nat_eq (be32 bytes at) 0 then Ok found else
    format_by steps bytes
    (if nat_eq (be32 bytes at) backing_format then Some (at + 8, be32 bytes (at + 4)) else found)
    (at + (8 + next_multiple_of (be32 bytes (at + 4)) 8)) end))
    else Ok found

-- each extension takes 8 bytes at least
unfoldable pub format_from : List ℕ → Option (ℕ × ℕ) → ℕ → ℕ → Result (Option (ℕ × ℕ)) Error
format_from bytes found at end = format_by (end - at) bytes found at end

-- they stand behind the header, in the first cluster, before the backing file's name
abbrev pub extensions_end : List ℕ → ℕ
extensions_end bytes = if nat_eq (be64 bytes 8) 0 then cluster_length bytes
    else min (cluster_length bytes) (be64 bytes 8)

unfoldable pub format_of : List ℕ → Result (Option (ℕ × ℕ)) Error
format_of bytes = format_from bytes None (own_length bytes) (extensions_end bytes)

-- the name of the backing file's format
abbrev pub IsFormatName : List ℕ → Option (Vec ℕ Global) → Type 0
IsFormatName bytes None = format_of bytes ≡ Ok None
IsFormatName bytes (Some name) = (at : ℕ) × (format_of bytes ≡ Ok (Some (at, length name.items)))
    × IsReadAt bytes at name.items

-- The same by a header that says this, over a storage that need not tell its bytes: the name of the
-- backing file is as long as the header says.
abbrev pub IsBackingNameRead : Features → List ℕ → Header → Option (Vec ℕ Global) → Type 0
IsBackingNameRead f bytes h None = h.name_start ≡ 0
IsBackingNameRead f bytes h (Some name) = (0 < h.name_start) × (length name.items ≡ h.name_length)
    × (IsTrue f.tells_bytes → IsReadAt bytes h.name_start name.items)

-- why header extensions can't be read: a request for bytes of one before that end wraps around, the
-- device isn't reliable, or memory
abbrev pub extension_reasons : Features → ℕ → Reasons
extension_reasons f end = record none {
  cause = λ e. (e ≡ Error.WrapAround) × ((at : ℕ) × (n : ℕ) × (at + n ≤ end + 8) × Wraps f at n);
  device = f.is_reliable ≡ false;
  memory = Unit {0};
}

-- Why the name of the backing file's format isn't given: an extension that was read passes the end,
-- as it does by the bytes of the file where the storage tells these, or extensions can't be read.
abbrev pub IsFormatRefusal : Features → ℕ → Result (Option (ℕ × ℕ)) Error → Error → Type 0
IsFormatRefusal f cluster says e =
    ((e ≡ Error.InvalidData) × (IsTrue f.tells_bytes → says ≡ Err e))
    ⊎ allowed (extension_reasons f cluster) e
