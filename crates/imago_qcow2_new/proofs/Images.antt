-- A new file, from what was put in.
-- SPDX-License-Identifier: MIT
use Rattle.std.proofs.Common.{◌≡◌, ℕ, ◌-◌, ◌*◌, ◌<◌, ◌≤◌, ⊎_elim, Bool, true, false, List, [], ◌++◌, length, get_or, replicate, Option, Some, None, IfSome, refl, sym, ap, subst, ◌∙◌, arith}
use Rattle.std.specs.Prelude.{if◌then◌else◌, slice_index}
use Rattle.std.proofs.lemmas.Bool.{cases_lt}
use Rattle.std.proofs.lemmas.List.FromFn.{length-map-range_with_len}
use Rattle.std.proofs.lemmas.List.{get_or_append_left, get_or-append_right, get_or_past, get_or-replicate, length-append, length-replicate}
use Rattle.imago_drivers.specs.Place.{Value, Byte}
use Rattle.imago_drivers.specs.View.{View}
use Rattle.imago_access.specs.declared.access.FormatAccess.{FormatAccess}
use Rattle.imago_access.specs.Chain.{disk_value, driver}
use Rattle.imago_access.specs.Disk.{disk, value_at}
use Rattle.imago_copy.specs.Appended.{IsAppended}
use Rattle.imago_qcow2_new.specs.declared.format.Format.{Format}
use Rattle.imago_qcow2_new.specs.declared.layout.Layout.{Layout}
use Rattle.imago_qcow2_new.specs.Layout.{IsLayoutOf, entry_value, heads}
use Rattle.imago_qcow2_new.specs.Space.{Fills, StoresData}
use Rattle.imago_qcow2_new.specs.Names.{HasNoNames}
use Rattle.imago_qcow2_new.specs.Image.{IsWritten, IsNewFile, IsNewFileIn, IsQcow2In}
use Rattle.imago_qcow2_new.specs.Extents.{Spot, spot}
use Rattle.imago_qcow2_new.proofs.ExtentSteps.{at_end}
use Rattle.imago_qcow2_new.proofs.FileSteps.{file_in}
use Rattle.imago_qcow2_new.proofs.Reading.{opens, size_is, shown_byte, lower_place}
use Rattle.imago_qcow2_new.proofs.NameSteps.{name_there, format_there, known_named, known_none, none_fit}
use Rattle.imago_qcow2_new.proofs.Valid.{faultless, used_once}

pub new_file : (l : Layout) (values : ℕ → Value) (file : List ℕ) → IsWritten l values file → IsNewFile l values file
new_file l values file is = record {
  written = is;
  opens = opens l values file is;
  shows = λ below none. record {
    size_is = size_is l values file is;
    bytes = λ p inside. shown_byte l values file is p inside below none;
  };
  left = λ none p inside out. lower_place l values file is p inside none out;
  named = λ name format has some. record {
    names = record {
      name = λ v same. name_there l values file is has.1 name format has.0 some v same;
      format = λ v same. format_there l values file is has.1 name format has.0 some v same;
    };
    known = known_named l values file is has.1 name format has.0 some;
  };
  known = λ has. known_none l values file is (none_fit l.header.names.bytes.items has.0) has.0 has.1;
  once = used_once l values file is;
  faultless = faultless l values file is;
}

pub image_in : (l : Layout) (values : ℕ → Value) (old one two new : Option (List ℕ)) → IfSome old (λ there. there ≡ []) → IsAppended old one (heads l)
    → Fills l.tables l.tables_start (entry_value l) one two (l.header.l1_count * l.cluster) → Fills l.clusters l.data_start values two new l.length
    → IsNewFileIn l values old new
image_in l values None one two new empty a b c = tt
image_in l values (Some had) one two new empty a b c =
    let (file, there, is) = file_in l values (Some had) one two new empty a b c in
    (file, there, new_file l values file is)

of_zeroes : (n i : ℕ) → get_or (replicate {A = ℕ} n 0) i 0 ≡ 0
of_zeroes n i = ⊎_elim
    (λ (lt : i < n). get_or-replicate n i 0 0 lt)
    (λ (ge : n ≤ i).
    let long : length (replicate {A = ℕ} n 0) ≡ n = length-replicate n 0 in
    get_or_past (replicate {A = ℕ} n 0) i 0 (omega (arith, ge, long)))
    (cases_lt i n)

zero_there : (had : List ℕ) (n p : ℕ) → length had ≤ p → slice_index (had ++ replicate n 0) p ≡ 0
zero_there had n p far = get_or-append_right had (replicate n 0) (length had) p 0 refl far
    ∙ of_zeroes n (p - length had)

if_same : (b : Bool) (x y : ℕ) → (b ≡ true → x ≡ y) → y ≡ (if b then x else y)
if_same true x y h = sym (h refl)
if_same false x y h = refl

-- the clusters of a disk of zeroes, where as many zeroes were appended as are stored
pub zeroes_fill : (l : Layout) (old new : Option (List ℕ)) → IsAppended old new (replicate l.clusters.stored 0)
    → Fills l.clusters l.data_start (λ _. Byte 0) old new l.length
zeroes_fill l None new put = tt
zeroes_fill l (Some had) new put = λ long.
    let e = l.clusters in
    let far = at_end e.unit e.end e.stored 0 0 e.extents.items e.ordered l.length l.clusters_inside in
    let all : (spot e.stored e.extents.items l.length).before ≡ e.stored = ap (λ (s : Spot). s.before) far in (
      had ++ replicate e.stored 0,
      put,
      record {
        kept = λ p lt. get_or_append_left had (replicate e.stored 0) 0 p (omega (arith, lt, long));
        inside = λ p lt. ap Byte (if_same (spot e.stored e.extents.items p).stored _ 0
            (λ st. zero_there had e.stored _ (omega (arith, long))));
        len = length-append had (replicate e.stored 0) ∙ (let r : length (replicate {A = ℕ} e.stored 0) ≡ e.stored = length-replicate e.stored 0 in omega (arith, long, r, all));
      },
    )

-- a file by a layout of an image is one of the image's disk
pub whole_in : {D St : Type 0} (view : D → View St) (x : FormatAccess D) (format : Format) (l : Layout)
    (old new : Option (List ℕ)) → IsLayoutOf format (view (driver x)).size l → HasNoNames l
    → StoresData l.clusters (value_at (disk view x)) → IsNewFileIn l (value_at (disk view x)) old new → IsQcow2In format (disk view x) old new
whole_in view x format l None new planned none sparse made = tt
whole_in view x format l (Some old) new planned none sparse (file, is, made) =
    let long : (view (driver x)).size ≡ length (disk view x) = sym (length-map-range_with_len (disk_value view x) 0 (view (driver x)).size) in
    (file, is, (l, subst (λ (n : ℕ). IsLayoutOf format n l) long planned, none, sparse, made))
