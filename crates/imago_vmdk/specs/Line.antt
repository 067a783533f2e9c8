-- SPDX-License-Identifier: MIT
use Rattle.std.specs.Prelude.{◌≡◌, ℕ, ◌-◌, Bool, true, false, ◌&&◌, ◌||◌, List, [], ◌∷◌, length}
use Rattle.std.specs.Prelude.{take, Option, Some, None, Result, Ok, Err, nat_lt, nat_eq, ◌==◌}
use Rattle.std.specs.Prelude.{if◌then◌else◌, codes, slice_index}
use Rattle.std.specs.Str.{trim}
use Rattle.std.specs.List.{starts_with}
use Rattle.imago_storage.specs.declared.error.Error.{Error}
use Rattle.imago_storage.specs.declared.error.Error.TheVariants.{InvalidData, Unsupported}
use Rattle.imago_vmdk.specs.Text.{utf8_of, words_of, cut_at, number_of, is_text}
use Rattle.imago_vmdk.specs.declared.line.Accepted.{Accepted}
use Rattle.imago_vmdk.specs.declared.line.Access.{Access}
use Rattle.imago_vmdk.specs.declared.line.Extent.{Extent}
use Rattle.imago_vmdk.specs.declared.line.Line.{Line}

-- a descriptor may contain nothing besides the lines that every reading of one accepts
abbrev pub nothing_accepted : Accepted
nothing_accepted = record { unknown_keys = false; vmfs = false }

-- or lines whose keys aren't known, if these are accepted
abbrev pub keys_accepted : Bool → Accepted
keys_accepted accept = record { unknown_keys = accept; vmfs = false }

-- or VMFS extents
abbrev pub vmfs_accepted : Accepted
vmfs_accepted = record { unknown_keys = false; vmfs = true }

-- go on with a value, unless there is a refusal
infixl 10 ◌>>=◌
abbrev pub ◌>>=◌ : {A B : Type 0} → Result A Error → (A → Result B Error) → Result B Error
(Ok x) >>= f = f x
(Err e) >>= f = Err e

-- no value is a refusal: the data is invalid
abbrev pub or_invalid : {A : Type 0} → Option A → Result A Error
or_invalid None = Err InvalidData
or_invalid (Some x) = Ok x

-- an extent, or a line, under another form of its file name
abbrev pub extent_with : {N M : Type 0} → (N → M) → Extent N → Extent M
extent_with f (Extent.Zero sectors) = Extent.Zero sectors
extent_with f (Extent.NoAccess sectors) = Extent.NoAccess sectors
extent_with f (Extent.Flat sectors name offset writable vmfs) = Extent.Flat sectors (f name) offset
    writable vmfs

abbrev pub line_with : {N M : Type 0} → (N → M) → Line N → Line M
line_with f Line.Nothing = Line.Nothing
line_with f (Line.Extent e) = Line.Extent (extent_with f e)
line_with f (Line.Version n) = Line.Version n
line_with f Line.Setting = Line.Setting

-- what a function answers, seen so, is what the definition gives
abbrev pub Gives : {X Y : Type 0} → (X → Y) → Result X Error → Result Y Error → Type 0
Gives view (Ok x) wanted = wanted ≡ Ok (view x)
Gives view (Err e) wanted = wanted ≡ Err e

-- the word that makes a line an extent
unfoldable pub access_of : List ℕ → Option Access
access_of word = if is_text word (codes "RW") then Some Access.ReadWrite else
    (if is_text word (codes "RDONLY") then Some Access.ReadOnly else
    (if is_text word (codes "NOACCESS") then Some Access.NoAccess else None))

-- The offset in sectors, from the words behind the file name. A FLAT extent has one or none there,
-- and a VMFS extent always begins where its file does: nothing may stand there.
abbrev pub offset_of : Bool → List (List ℕ) → Result ℕ Error
offset_of vmfs [] = Ok 0
offset_of true (word ∷ words) = Err InvalidData
offset_of false (word ∷ words) = or_invalid (number_of 64 word)

-- an extent that stands in a file, VMFS or FLAT: three words, a name in double quotes, and the
-- offset; the name is trimmed
unfoldable pub flat_of : Bool → Bool → ℕ → List ℕ → Result (Extent (List ℕ)) Error
flat_of vmfs writable sectors text = do
  opening ← or_invalid (cut_at 34 text)
  closing ← or_invalid (cut_at 34 opening.1)
  offset ← offset_of vmfs (words_of closing.1)
  if length (words_of opening.0) == 3 then
      Ok (Extent.Flat sectors (trim closing.0) offset writable vmfs)
      else Err InvalidData

-- an extent that may be read, by the words behind the sector count: the first is its type, and one
-- that isn't accepted is as unsupported as one that isn't known
unfoldable pub typed_of : Accepted → Bool → ℕ → List (List ℕ) → List ℕ
    → Result (Extent (List ℕ)) Error
typed_of accepted writable sectors [] text = Err InvalidData
typed_of accepted writable sectors (word ∷ words) text =
    if is_text word (codes "ZERO") then Ok (Extent.Zero sectors) else
    (if is_text word (codes "FLAT") then flat_of false writable sectors text else
    (if is_text word (codes "VMFS") && accepted.vmfs then flat_of true writable sectors text else
    Err Unsupported))

-- an extent of that many sectors, by the words behind the sector count
unfoldable pub sized_of : Accepted → Access → ℕ → List (List ℕ) → List ℕ
    → Result (Extent (List ℕ)) Error
sized_of accepted Access.NoAccess sectors words text = Ok (Extent.NoAccess sectors)
sized_of accepted Access.ReadOnly sectors words text = typed_of accepted false sectors words text
sized_of accepted Access.ReadWrite sectors words text = typed_of accepted true sectors words text

-- an extent, by the words behind the first; the first word alone says nothing
unfoldable pub extent_of : Accepted → Access → List (List ℕ) → List ℕ
    → Result (Line (List ℕ)) Error
extent_of accepted first [] text = Ok Line.Nothing
extent_of accepted first (word ∷ words) text = do
  sectors ← or_invalid (number_of 64 word)
  extent ← sized_of accepted first sectors words text
  Ok (Line.Extent extent)

-- the text's last byte has that value
abbrev pub ends_in : ℕ → List ℕ → Bool
ends_in c text = nat_lt 0 (length text) && (slice_index text (length text - 1) == c)

-- a text without the pair of double quotes round it, if it has one
unfoldable pub unquoted : List ℕ → List ℕ
unquoted [] = []
unquoted (b ∷ bs) = if (b == 34) && ends_in 34 bs then take (length bs - 1) bs else b ∷ bs

abbrev pub is_setting : List ℕ → Bool
is_setting key = (is_text key (codes "CID") || is_text key (codes "parentCID"))
    || is_text key (codes "createType")

abbrev pub is_geometry : List ℕ → Bool
is_geometry key = (is_text key (codes "ddb.geometry.sectors")
    || is_text key (codes "ddb.geometry.heads")) || is_text key (codes "ddb.geometry.cylinders")

-- a key and its value; where keys that aren't known are accepted, they say nothing
unfoldable pub setting_of : Accepted → List ℕ → List ℕ → Result (Line (List ℕ)) Error
setting_of accepted key value =
    if is_text key (codes "version") then
    (or_invalid (number_of 32 value) >>= λ n. Ok (Line.Version n)) else
    (if is_setting key then Ok Line.Setting else
    (if is_text key (codes "parentFileNameHint") then Err Unsupported else
    (if is_geometry key then (or_invalid (number_of 64 (unquoted value)) >>= λ n. Ok Line.Setting)
    else
    (if accepted.unknown_keys || starts_with nat_eq key (codes "ddb.") then Ok Line.Nothing else
    Err InvalidData))))

-- a line that is no extent, once it is cut at the first equals sign
abbrev pub pair_of : Accepted → Option (List ℕ × List ℕ) → Result (Line (List ℕ)) Error
pair_of accepted None = Ok Line.Nothing
pair_of accepted (Some p) = setting_of accepted (trim p.0) (trim p.1)

-- a line, by what its first word says, and the words behind that one
abbrev pub worded_of : Accepted → Option Access → List (List ℕ) → List ℕ
    → Result (Line (List ℕ)) Error
worded_of accepted None words text = pair_of accepted (cut_at 61 text)
worded_of accepted (Some first) words text = extent_of accepted first words text

-- a trimmed text, by its words; an empty one, and one that begins with a number sign, is skipped
unfoldable pub text_of : Accepted → List (List ℕ) → List ℕ → Result (Line (List ℕ)) Error
text_of accepted [] text = Ok Line.Nothing
text_of accepted (first ∷ words) text = if slice_index text 0 == 35 then Ok Line.Nothing else
    worded_of accepted (access_of first) words text

-- the verdict of a line, which looks at no other one
unfoldable pub verdict_of : Accepted → List ℕ → Result (Line (List ℕ)) Error
verdict_of accepted bytes = do
  text ← or_invalid (utf8_of bytes)
  text_of accepted (words_of (trim text)) (trim text)
