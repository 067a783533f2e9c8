-- The rows in which `map` tells where the bytes of a disk stand.
-- SPDX-License-Identifier: MIT
use Rattle.std.specs.Prelude.{◌≡◌, ◌++◌, ◌+◌, ◌<◌, ℕ, Bool, true, false, List, [], ◌∷◌, Option, None, Some, codes, length}
use Rattle.std.specs.Io.KnownBytes.{Appends}
use Rattle.imago_access.specs.Disk.{value_at}
use Rattle.imago_disk.specs.Shows.{ShowsDisk}
use Rattle.imago_images.specs.declared.opening.Opening.{Opening}
use Rattle.imago_drivers.specs.Place.{Value, Byte}
use Rattle.imago_img_disks.specs.declared.lines.LineKind.{LineKind}
use Rattle.std.specs.Prelude.{option_map}
use Rattle.imago_access.specs.Target.{Target}
use Rattle.imago_copy.specs.declared.layers.LayerRun.{LayerRun}
use Rattle.imago_copy.specs.declared.runs.Kind.TheVariants as K
use Rattle.imago_copy.specs.LayerRuns.{IsLayerRunAt}
use Rattle.imago_img_disks.specs.declared.lines.Line.{Line}
use Rattle.imago_img_disks.specs.Lines.{line, object}

-- Bytes of a disk from an offset on, all of one kind: of a layer of that depth, or, where no layer has
-- them, of the last that leaves them to the one below. Those that stand in a file have its name there,
-- as it is printed, and from which offset on.
pub record Row : Type 0 where
  pub start : ℕ
  pub count : ℕ
  pub depth : ℕ
  pub kind : LineKind
  pub place : Option (List ℕ × ℕ)

-- a row as a line of columns, or as a JSON object
abbrev pub row_text : Bool → Row → List ℕ
row_text false r = line r.start r.count r.kind r.place
row_text true r = object r.start r.count r.depth r.kind r.place

-- what parts a row from the one before, if that isn't the first one
abbrev pub gap : Bool → Bool → List ℕ
gap true false = codes ",\n"
gap true true = []
gap false first = []

-- rows one behind the other
abbrev pub rows_text : Bool → Bool → List Row → List ℕ
rows_text json first [] = []
rows_text json first (r ∷ rs) = gap json first ++ (row_text json r ++ rows_text json false rs)

-- what stands before the rows, and behind them
abbrev pub heading : Bool → List ℕ
heading false =
    codes "start                length               kind offset               file\n"
heading true = codes "["

abbrev pub ending : Bool → List ℕ
ending false = []
ending true = codes "]\n"

-- rows join from one offset to another, and none is empty
abbrev pub Join : ℕ → List Row → ℕ → Type 0
Join p [] q = p ≡ q
Join p (r ∷ rs) q = (r.start ≡ p) × (0 < r.count) × Join (p + r.count) rs q

-- a row is of zeroes that stand in no file
abbrev pub IsZeroRow : LineKind → Option (List ℕ × ℕ) → Type 0
IsZeroRow LineKind.Zero None = Unit {0}
IsZeroRow LineKind.Absent place = Unit {0}
IsZeroRow kind place = ⊥

-- each of these rows that is of zeroes which stand in no file is of zeroes of the disk
abbrev pub AreZero : (ℕ → Value) → List Row → Type 0
AreZero value [] = Unit {0}
AreZero value (r ∷ rs) =
    (IsZeroRow r.kind r.place → (i : ℕ) → i < r.count → value (r.start + i) ≡ Byte 0)
    × AreZero value rs

-- whether what comes behind these rows is the first one
abbrev pub first_behind : Bool → List Row → Bool
first_behind first [] = first
first_behind first (r ∷ rs) = false

-- rows from one offset to another were printed behind others
pub record HasRows (json first now_first : Bool) (value : ℕ → Value) (p q : ℕ)
    (had has : Option (List ℕ)) : Type 0 where
  pub rows : List Row
  pub joined : Join p rows q
  pub zero : AreZero value rows
  pub told : Appends had has (rows_text json first rows)
  pub behind : now_first ≡ first_behind first rows

-- This text tells where all bytes of a disk of that size stand: rows that join from its start to its
-- end. Where one says that bytes are zero and stand in no file, they are.
pub record TellsRows (json : Bool) (value : ℕ → Value) (size : ℕ) (text : List ℕ) : Type 0 where
  pub rows : List Row
  pub joined : Join 0 rows size
  pub zero : AreZero value rows
  pub whole : text ≡ heading json ++ (rows_text json true rows ++ ending json)

-- runs of zeroes are zeroes of the disk
abbrev pub ShowsZeroes : (ℕ → Target) → (ℕ → Value) → Type 0
ShowsZeroes leads value = (p : ℕ) (r : LayerRun) → IsLayerRunAt leads p r → r.run.kind ≡ K.Zero
    → (i : ℕ) → i < r.run.count → value (p + i) ≡ Byte 0

-- the row that a line has
abbrev pub row_of : Line → Row
row_of l = record {
  start = l.start;
  count = l.length;
  depth = l.depth;
  kind = l.kind;
  place = option_map (λ at. (at.0.now, at.1)) l.place;
}

-- This text tells where the bytes of the disk stand that the image of a path has, by how it is
-- opened: rows that join from its start to its end. Where one says that bytes are zero and stand in no
-- file, they are.
abbrev pub TellsMap : Opening → Bool → (List ℕ → List ℕ) → List ℕ → List ℕ → Type 0
TellsMap how json files path text = (disk : List Value) × ShowsDisk how files path disk
    × TellsRows json (value_at disk) (length disk) text
