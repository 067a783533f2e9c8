-- What a file has, from what was put into it.
-- SPDX-License-Identifier: MIT
use Rattle.std.proofs.Common.{◌≡◌, ℕ, ◌+◌, ◌*◌, ◌/◌, ◌<◌, true, List, [], ◌++◌, length, Option, Some, None, IfSome, sym, ap, subst, ◌∙◌, arith}
use Rattle.std.specs.Prelude.{slice_index}
use Rattle.std.proofs.lemmas.List.FromFn.{length-map-range_with_len, get_or-map-range_with_len}
use Rattle.imago_drivers.specs.Place.{Value, Byte}
use Rattle.imago_copy.specs.Appended.{IsAppended}
use Rattle.imago_qcow2_new.specs.declared.extent.Extent.{Extent}
use Rattle.imago_qcow2_new.specs.declared.layout.Layout.{Layout}
use Rattle.imago_qcow2_new.specs.Extents.{AreExtents, Spot, spot}
use Rattle.imago_qcow2_new.specs.Words.{byte_of, words_from}
use Rattle.imago_qcow2_new.specs.Space.{byte_at, IsFilled, Fills}
use Rattle.imago_qcow2_new.specs.Layout.{heads, entry_value, head_word}
use Rattle.imago_qcow2_new.specs.Image.{IsWritten}
use Rattle.imago_qcow2_new.proofs.ExtentSteps.{grows, at_end}
use Rattle.imago_qcow2_new.proofs.Whole.{eight, whole_eight}
use Rattle.imago_qcow2_new.proofs.Appends.{same_if}

-- a stored byte is one of all that are
pub below_all : (unit end all : ℕ) (rs : List Extent) → AreExtents unit end all 0 0 rs → (p : ℕ) → (spot all rs p).stored ≡ true → (spot all rs p).before < all
below_all unit end all rs a p st =
    let g = grows unit end all 0 0 rs a p (p + (end + 1)) (omega arith) st in
    let e = at_end unit end all 0 0 rs a (p + (end + 1)) (omega arith) in
    let f : (spot all rs (p + (end + 1))).before ≡ all = ap (λ (s : Spot). s.before) e in
    omega (arith, g, f)

byte_same : {x y : ℕ} → Byte x ≡ Byte y → x ≡ y
byte_same e = cc

module _ (l : Layout) where
  pub per_cluster : 8 * (l.cluster / 8) ≡ l.cluster
  per_cluster = eight l.cluster l.header.cluster_bits l.power l.least

  pub heads_long : length (words_from (head_word l) 0 (l.tables_start / 8)) ≡ l.tables_start
  heads_long = length-map-range_with_len (byte_of (head_word l)) 0 (8 * (l.tables_start / 8)) ∙ whole_eight l.cluster l.tables_start per_cluster l.tables_whole

  pub tables_end : (had f2 : List ℕ) → IsFilled l.tables l.tables_start (entry_value l) had (l.header.l1_count * l.cluster) f2 → length f2 ≡ l.data_start
  tables_end had f2 h =
      let e = at_end l.tables.unit l.tables.end l.tables.stored 0 0 l.tables.extents.items l.tables.ordered (l.header.l1_count * l.cluster) l.tables_inside in
      let f : (spot l.tables.stored l.tables.extents.items (l.header.l1_count * l.cluster)).before ≡ l.tables.stored = ap (λ (s : Spot). s.before) e in
      h.len ∙ ap (λ x. l.tables_start + x) f ∙ sym l.data_at

  module _ (values : ℕ → Value) (f2 f3 : List ℕ) (first : IsFilled l.tables l.tables_start (entry_value l) (heads l) (l.header.l1_count * l.cluster) f2)
      (second : IsFilled l.clusters l.data_start values f2 l.length f3) where
    table_byte : (p : ℕ) → byte_at l.tables_start f3 (spot l.tables.stored l.tables.extents.items p) ≡ byte_at l.tables_start f2 (spot l.tables.stored l.tables.extents.items p)
    table_byte p =
        let s : Spot = spot l.tables.stored l.tables.extents.items p in
        same_if s.stored (slice_index f3 (l.tables_start + s.before)) (slice_index f2 (l.tables_start + s.before)) 0
        (λ st. let b = below_all l.tables.unit l.tables.end l.tables.stored l.tables.extents.items l.tables.ordered p st in
        second.kept (l.tables_start + s.before) (omega (arith, b, l.data_at)))

    pub assembled : IsWritten l values f3
    assembled = record {
      len =
          let e = at_end l.clusters.unit l.clusters.end l.clusters.stored 0 0 l.clusters.extents.items l.clusters.ordered l.length l.clusters_inside in
          let f : (spot l.clusters.stored l.clusters.extents.items l.length).before ≡ l.clusters.stored = ap (λ (s : Spot). s.before) e in
          second.len ∙ ap (λ x. l.data_start + x) f ∙ sym l.end_at;
      head = λ p lt.
          let in_words : p < 8 * (l.tables_start / 8) = (let x = whole_eight l.cluster l.tables_start per_cluster l.tables_whole in omega (arith, x, lt)) in
          second.kept p (omega (arith, lt, l.data_at)) ∙ first.kept p lt ∙ get_or-map-range_with_len (byte_of (head_word l)) 0 (8 * (l.tables_start / 8)) p p 0 in_words (omega arith);
      tables = λ p lt. table_byte p ∙ sym (byte_same (first.inside p lt));
      clusters = second.inside;
    }

-- a new file, from what was put in
pub file_in : (l : Layout) (values : ℕ → Value) (old one two new : Option (List ℕ)) → IfSome old (λ there. there ≡ []) → IsAppended old one (heads l)
    → Fills l.tables l.tables_start (entry_value l) one two (l.header.l1_count * l.cluster) → Fills l.clusters l.data_start values two new l.length
    → IfSome old (λ there. (file : List ℕ) × (new ≡ Some file) × IsWritten l values file)
file_in l values None one two new empty a b c = tt
file_in l values (Some had) one two new empty a b c =
    let is : one ≡ Some (heads l) = a ∙ ap (λ (x : List ℕ). Some (x ++ heads l)) empty in
    let (f2, there, first) = subst (λ (x : Option (List ℕ)). Fills l.tables l.tables_start (entry_value l) x two (l.header.l1_count * l.cluster)) is b (heads_long l) in
    let (f3, holds, second) = subst (λ (x : Option (List ℕ)). Fills l.clusters l.data_start values x new l.length) there c (tables_end l (heads l) f2 first) in
    (f3, holds, assembled l values f2 f3 first second)
