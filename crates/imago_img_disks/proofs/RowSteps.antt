-- Rows that are printed one behind the other.
-- SPDX-License-Identifier: MIT
use Rattle.std.proofs.Common.{◌≡◌, ℕ, ◌+◌, ◌<◌, ◌≤◌, ◌++◌, ◌∷◌, [], Bool, true, false, List, Option, None, Some, refl, sym, ap, ◌∙◌, subst, arith}
use Rattle.std.specs.Prelude.{IfSome, length, if◌then◌else◌}
use Rattle.imago_drivers.specs.View.{View}
use Rattle.imago_access.specs.declared.access.FormatAccess.{FormatAccess}
use Rattle.imago_access.specs.Chain.{driver, disk_value}
use Rattle.imago_access.specs.Disk.{disk, value_at}
use Rattle.imago_access.proofs.DiskLists.{listed_at}
use Rattle.imago_images.specs.declared.format.ImageFormat.{ImageFormat}
use Rattle.imago_images.specs.declared.opening.Opening.{Opening}
use Rattle.imago_images.specs.Formats.{IsFormatBy}
use Rattle.imago_images.specs.Images.{IsImageIn}
use Rattle.imago_disk.proofs.Shown.{shows_disk, disk_length}
use Rattle.imago_access.specs.Target.{Target, target}
use Rattle.imago_copy.specs.declared.layers.LayerRun.{LayerRun}
use Rattle.imago_copy.specs.LayerRuns.{AreLayerRuns}
use Rattle.imago_copy.specs.Runs.{IsRunAt}
use Rattle.imago_copy.specs.declared.runs.Kind.TheVariants as K
use Rattle.imago_img_disks.specs.declared.lines.Line.{Line}
use Rattle.imago_copy.proofs.EndSteps.{zero_kind}
use Rattle.std.specs.Io.KnownBytes.{Appends}
use mathlib.Core.List.{append_assoc, append-nil}
use Rattle.imago_drivers.specs.Place.{Value, Byte}
use Rattle.imago_img_disks.specs.declared.lines.LineKind.{LineKind}
use Rattle.imago_img_files.specs.Printed.{HasPrinted}
use Rattle.imago_img_files.proofs.PrintedSteps.{appends_both}
use Rattle.imago_img_disks.specs.Rows.{Row, HasRows, TellsMap, TellsRows, Join, AreZero, IsZeroRow, ShowsZeroes, row_of, rows_text, row_text, gap, first_behind, heading, ending}

-- rows behind others
join_both : (p q r : ℕ) (xs ys : List Row) → Join p xs q → Join q ys r → Join p (xs ++ ys) r
join_both p q r [] ys h k = subst (λ (n : ℕ). Join n ys r) (sym h) k
join_both p q r (x ∷ xs) ys (at, some, rest) k = (at, some, join_both (p + x.count) q r xs ys rest k)

zero_both : (value : ℕ → Value) (xs ys : List Row) → AreZero value xs → AreZero value ys → AreZero value (xs ++ ys)
zero_both value [] ys h k = k
zero_both value (x ∷ xs) ys h k = (h.0, zero_both value xs ys h.1 k)

text_both : (json first : Bool) (xs ys : List Row) → rows_text json first (xs ++ ys) ≡ rows_text json first xs ++ rows_text json (first_behind first xs) ys
text_both json first [] ys = refl
text_both json first (x ∷ xs) ys =
    let rest : rows_text json false (xs ++ ys) ≡ rows_text json false xs ++ rows_text json false ys = text_both json false xs ys ∙ ap (λ (b : Bool). rows_text json false xs ++ rows_text json b ys) (behind_later xs) in
    let t = row_text json x in
    let z = gap json first in
    ap (λ (l : List ℕ). z ++ (t ++ l)) rest
    ∙ ap (λ (l : List ℕ). z ++ l) (sym (append_assoc t (rows_text json false xs) (rows_text json false ys)))
    ∙ sym (append_assoc z (t ++ rows_text json false xs) (rows_text json false ys))
  where
    behind_later : (zs : List Row) → first_behind false zs ≡ false
    behind_later [] = refl
    behind_later (z ∷ zs) = refl

behind_both : (first : Bool) (xs ys : List Row) → first_behind first (xs ++ ys) ≡ first_behind (first_behind first xs) ys
behind_both first [] ys = refl
behind_both first (x ∷ xs) [] = refl
behind_both first (x ∷ xs) (y ∷ ys) = refl

module _ (json : Bool) (value : ℕ → Value) where
  -- no rows were printed
  pub no_rows : (first : Bool) (p : ℕ) (a : Option (List ℕ)) → HasRows json first first value p p a a
  no_rows first p a = record { rows = []; joined = refl; zero = tt; told = nothing a; behind = refl }
    where
      nothing : (a : Option (List ℕ)) → Appends a a []
      nothing None = tt
      nothing (Some xs) = sym (append-nil xs)

  -- rows were printed, and then others
  pub both_rows : (f g h : Bool) (p q r : ℕ) (a b c : Option (List ℕ)) → HasRows json f g value p q a b → HasRows json g h value q r b c
      → HasRows json f h value p r a c
  both_rows f g h p q r a b c x y =
      let told : rows_text json f x.rows ++ rows_text json g y.rows ≡ rows_text json f (x.rows ++ y.rows)
      = ap (λ (k : Bool). rows_text json f x.rows ++ rows_text json k y.rows) x.behind ∙ sym (text_both json f x.rows y.rows) in
      record {
        rows = x.rows ++ y.rows;
        joined = join_both p q r x.rows y.rows x.joined y.joined;
        zero = zero_both value x.rows y.rows x.zero y.zero;
        told = subst (λ (t : List ℕ). Appends a c t) told (appends_both a b c _ _ x.told y.told);
        behind = y.behind ∙ ap (λ (k : Bool). first_behind k y.rows) x.behind ∙ sym (behind_both f x.rows y.rows);
      }

  -- one row was printed
  pub one_row : (f g : Bool) (row : Row) (p q : ℕ) (a b : Option (List ℕ)) → g ≡ false → row.start ≡ p → 0 < row.count → p + row.count ≡ q
      → (IsZeroRow row.kind row.place → (i : ℕ) → i < row.count → value (row.start + i) ≡ Byte 0)
      → Appends a b (rows_text json f (row ∷ [])) → HasRows json f g value p q a b
  one_row f g row p q a b behind at some end zero told = record {
    rows = row ∷ [];
    joined = (at, some, end);
    zero = (zero, tt);
    told = told;
    behind = behind;
  }

  -- all was told
  pub all_rows : (f : Bool) (size : ℕ) (a b c d : Option (List ℕ)) → Appends a b (heading json) → HasRows json true f value 0 size b c
      → Appends c d (ending json) → HasPrinted (TellsRows json value size) a d
  all_rows f size a b c d begun x ended =
      let text = heading json ++ (rows_text json true x.rows ++ ending json) in
      let same : heading json ++ rows_text json true x.rows ++ ending json ≡ text = append_assoc (heading json) (rows_text json true x.rows) (ending json) in (
        text,
        subst (λ (t : List ℕ). Appends a d t) same (appends_both a c d _ _ (appends_both a b c _ _ begun x.told) ended),
        record { rows = x.rows; joined = x.joined; zero = x.zero; whole = refl },
      )

-- one row, and what parts it from the one before
pub one_text : (json first : Bool) (row : Row) (a b c : Option (List ℕ)) → Appends a b (gap json first) → Appends b c (row_text json row)
    → Appends a c (rows_text json first (row ∷ []))
one_text json first row a b c h k =
    subst (λ (t : List ℕ). Appends a c (gap json first ++ t)) (sym (append-nil (row_text json row))) (appends_both a b c _ _ h k)

-- bytes that stand in a file aren't zeroes in no file
pub in_file : (is_data : Bool) (kind : LineKind) (place : List ℕ × ℕ) → kind ≡ (if is_data then LineKind.Data else LineKind.Zero) → IsZeroRow kind (Some place) → ⊥
in_file true LineKind.Data place e z = z
in_file true LineKind.Zero place e z = z
in_file true LineKind.Absent place e z = let n : ⊥ = cc in n
in_file true LineKind.Compressed place e z = z
in_file false LineKind.Data place e z = z
in_file false LineKind.Zero place e z = z
in_file false LineKind.Absent place e z = let n : ⊥ = cc in n
in_file false LineKind.Compressed place e z = z

-- runs end behind their start, and none are left at the end
pub runs_further : (leads : ℕ → Target) (p : ℕ) (rs : List LayerRun) (q : ℕ) → AreLayerRuns leads p rs q → p ≤ q
runs_further leads p [] q e = omega (arith, e)
runs_further leads p (r ∷ rs) q (is, rest) = let more = runs_further leads (p + r.run.count) rs q rest in omega (arith, more)

pub runs_end : (leads : ℕ → Target) (p : ℕ) (rs : List LayerRun) (q : ℕ) → length rs ≡ 0 → AreLayerRuns leads p rs q → p ≡ q
runs_end leads p [] q none e = e
runs_end leads p (r ∷ rs) q none h = let z : ⊥ = cc in absurd z

-- runs of zeroes are zeroes of the disk
pub zeroes_shown : {D St : Type 0} (view : D → View St) (x : FormatAccess D) → ShowsZeroes (target view x) (disk_value view x)
zeroes_shown view x p r is e i lt =
    let at : r.run.at ≡ p = is.0.0 in
    let zero : disk_value view x (r.run.at + i) ≡ Byte 0
    = zero_kind view x r.run e (subst (λ (n : ℕ). IsRunAt (target view x) n r.run) (sym at) is.0) i (omega arith) lt in
    subst (λ (n : ℕ). disk_value view x (n + i) ≡ Byte 0) at zero

-- a run was printed that stands at no offset of a file
pub placeless_row : (leads : ℕ → Target) (value : ℕ → Value) (p q : ℕ) (run : LayerRun) (kind : LineKind) (depth : ℕ) (l : Line)
    → l ≡ record { start = run.run.at; length = run.run.count; kind = kind; depth = depth; place = None }
    → (IsZeroRow kind None → run.run.kind ≡ K.Zero) → AreLayerRuns leads p (run ∷ []) q → ShowsZeroes leads value
    → (json f g : Bool) (a b : Option (List ℕ)) → g ≡ false → Appends a b (rows_text json f (row_of l ∷ [])) → HasRows json f g value p q a b
placeless_row leads value p q run kind depth l same zero (is, end) shows json f g a b behind told =
    let at : run.run.at ≡ p = is.0.0 in
    one_row json value f g (record { start = run.run.at; count = run.run.count; depth = depth; kind = kind; place = None }) p q a b behind at is.0.1 end
    (λ z i lt. subst (λ (n : ℕ). value (n + i) ≡ Byte 0) (sym at) (shows p run is (zero z) i lt))
    (subst (λ (x : Line). Appends a b (rows_text json f (row_of x ∷ []))) same told)

join_further : (p : ℕ) (rs : List Row) (q : ℕ) → Join p rs q → p ≤ q
join_further p [] q e = omega (arith, e)
join_further p (r ∷ rs) q (at, some, rest) = let more = join_further (p + r.count) rs q rest in omega (arith, more)

-- rows of a disk tell the same of another one that has the same values
module _ (value other : ℕ → Value) (size : ℕ) (same : (p : ℕ) → p < size → other p ≡ value p) where
  zero_moved : (p : ℕ) (rs : List Row) → Join p rs size → AreZero value rs → AreZero other rs
  zero_moved p [] j z = tt
  zero_moved p (r ∷ rs) (at, some, rest) z =
      let more = join_further (p + r.count) rs size rest in (
        (λ is i lt. same (r.start + i) (omega (arith, at, lt, more)) ∙ z.0 is i lt),
        zero_moved (p + r.count) rs rest z.1,
      )

  pub rows_moved : (json : Bool) (text : List ℕ) → TellsRows json value size text → TellsRows json other size text
  rows_moved json text t = record { rows = t.rows; joined = t.joined; zero = zero_moved 0 t.rows t.joined t.zero; whole = t.whole }

-- what was printed of an opened image tells where the bytes of its disk stand
pub map_told : {D St : Type 0} (view : D → View St) (how : Opening) (json : Bool) (known : Option (List ℕ → List ℕ)) (path text : List ℕ) (format : ImageFormat) (x : FormatAccess D)
    → IfSome known (λ files. IsFormatBy how.format path (files path) format)
    → IfSome known (λ files. IsImageIn view how files path format x)
    → TellsRows json (disk_value view x) (view (driver x)).size text
    → IfSome known (λ files. TellsMap how json files path text)
map_told view how json None path text format x by image told = tt
map_told view how json (Some files) path text format x by image told =
    let size = (view (driver x)).size in
    let d = disk view x in
    let long : size ≡ length d = disk_length view x size refl in (
      d,
      shows_disk view how files path format x by image,
      subst (λ (n : ℕ). TellsRows json (value_at d) n text) long
          (rows_moved (disk_value view x) (value_at d) size (λ p lt. listed_at (disk_value view x) size p (Byte 0) lt) json text told),
    )
