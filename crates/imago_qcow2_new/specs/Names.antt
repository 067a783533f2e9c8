-- The names of a layer below, as they stand behind the header.
-- SPDX-License-Identifier: MIT
use Rattle.std.specs.Prelude.{◌≡◌, ℕ, ◌+◌, ◌-◌, ◌%◌, ◌<◌, List, [], ◌++◌, length, replicate}
use Rattle.std.specs.Prelude.{slice_index}
use Rattle.std.specs.Prelude.{Option, Some, None}
use Rattle.std.specs.Int.{w32, to_be_bytes}
use Rattle.std.specs.declared.vec.Vec.{Vec}
use Rattle.std.specs.declared.alloc.Global.{Global}
use Rattle.imago_qcow2.specs.Backing.{IsBackingName, IsFormatName}
use Rattle.imago_qcow2_check.specs.Known.{IsKnown}
use Rattle.imago_qcow2_new.specs.declared.format.Backing.{Backing}
use Rattle.imago_qcow2_new.specs.declared.names.Names.{Names}
use Rattle.imago_qcow2_new.specs.declared.layout.Layout.{Layout}

-- how many zeroes stand behind a name of so many bytes: up to a multiple of 8 bytes, and then those
-- of the extension that ends all
abbrev pub padding : ℕ → ℕ
padding n = (8 - n % 8) % 8 + 8

-- the extension that has the name of the format: its type, the name's length, and the name; and the
-- one that ends all
abbrev pub extension : List ℕ → List ℕ
extension format =
    ((to_be_bytes w32 0xe2792aca ++ to_be_bytes w32 (length format)) ++ format)
    ++ replicate (padding (length format)) 0

-- These names stand behind the header: the extension, and the file's name.
pub record AreNames (file format : List ℕ) (n : Names) : Type 0 where
  pub bytes : n.bytes.items ≡ extension format ++ file
  pub start : n.start ≡ length (extension format)
  pub count : n.count ≡ length file

-- each is a byte
abbrev pub AreBytes : List ℕ → Type 0
AreBytes xs = (i : ℕ) → slice_index xs i < 256

-- the same of a layer below, if there is one
abbrev pub AreNamesOf : Option Backing → Names → Type 0
AreNamesOf None n = (n.bytes.items ≡ []) × (n.count ≡ 0)
AreNamesOf (Some b) n = AreNames b.file.now b.format.now n × AreBytes n.bytes.items

-- the names of a layout, and that it has none
abbrev pub HasNames : Layout → List ℕ → List ℕ → Type 0
HasNames l name format = AreNames name format l.header.names × AreBytes l.header.names.bytes.items

abbrev pub HasNoNames : Layout → Type 0
HasNoNames l = (l.header.names.bytes.items ≡ []) × (l.header.names.count ≡ 0)

-- the names of a layout are those of that layer below, or it has none
abbrev pub HasNamesOf : Option Backing → Layout → Type 0
HasNamesOf backing l = AreNamesOf backing l.header.names

-- What a file says of a layer below, by the reader's definitions: the name of its file, and that of
-- its format.
pub record NamesBelow (file_name format_name file : List ℕ) : Type 0 where
  pub name : (v : Vec ℕ Global) → v.items ≡ file_name → IsBackingName file (Some v)
  pub format : (v : Vec ℕ Global) → v.items ≡ format_name → IsFormatName file (Some v)

-- It names these, and everything in it that may use clusters is known.
pub record IsNamed (file_name format_name file : List ℕ) : Type 0 where
  pub names : NamesBelow file_name format_name file
  pub known : IsKnown file
