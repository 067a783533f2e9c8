-- L2 tables, put in one after the other.
-- SPDX-License-Identifier: MIT
use Rattle.std.proofs.Common.{◌≡◌, ℕ, ◌+◌, ◌*◌, ◌/◌, ◌%◌, ◌<◌, ◌≤◌, Bool, true, false, List, length, get_or, Option, sym, ap, ◌∙◌, arith}
use Rattle.std.specs.Int.{w64, to_be_bytes}
use Rattle.std.proofs.lemmas.List.FromFn.{length-map-range_with_len, get_or-map-range_with_len}
use Rattle.imago_drivers.specs.Place.{Byte, HasValues}
use Rattle.imago_copy.specs.Appended.{IsAppended}
use Rattle.imago_copy.proofs.Copies.{put_bytes}
use Rattle.imago_qcow2_new.specs.declared.layout.Layout.{Layout}
use Rattle.imago_qcow2_new.specs.Extents.{Spot, IsPart}
use Rattle.imago_qcow2_new.specs.Space.{spot_of, Fills, AreZero}
use Rattle.imago_qcow2_new.specs.Words.{byte_of, words_from}
use Rattle.imago_qcow2_new.specs.Layout.{table_word, entry_value}
use Rattle.imago_qcow2_new.proofs.Whole.{times_whole, times_eight}
use Rattle.imago_qcow2_new.proofs.ExtentSteps.{unit_part}
use Rattle.imago_qcow2_new.proofs.WordSteps.{zero_byte}
use Rattle.imago_qcow2_new.proofs.FileSteps.{per_cluster}
use Rattle.imago_qcow2_new.proofs.SpaceSteps.{stored_step, gap_step}

module _ (l : Layout) (table : ℕ) where
  part : IsPart l.tables.stored l.tables.extents.items (table * l.cluster) (record {
    is_stored = (spot_of l.tables (table * l.cluster)).stored;
    before = (spot_of l.tables (table * l.cluster)).before;
    count = l.tables.unit;
  })
  part = unit_part l.tables.unit l.tables.end l.tables.stored 0 0 l.tables.extents.items l.tables.ordered (table * l.cluster)
      (ap (λ u. (table * l.cluster) % u) l.tables_unit ∙ times_whole l.cluster table)

  whole : l.cluster ≤ l.tables.unit
  whole = omega (arith, l.tables_unit)

  begins : 8 * (table * (l.cluster / 8)) ≡ table * l.cluster
  begins = times_eight table l.cluster (per_cluster l)

  -- the words of a table are so many bytes, which are those of all tables there
  long : length (words_from (table_word l) (table * (l.cluster / 8)) (l.cluster / 8)) ≡ l.cluster
  long = length-map-range_with_len (byte_of (table_word l)) (8 * (table * (l.cluster / 8))) (8 * (l.cluster / 8)) ∙ per_cluster l

  shown_bytes : HasValues (entry_value l) (table * l.cluster) (words_from (table_word l) (table * (l.cluster / 8)) (l.cluster / 8))
  shown_bytes k lt =
      let all = long in
      let eight = per_cluster l in
      let inside : k < 8 * (l.cluster / 8) = omega (arith, lt, all, eight) in
      let at = begins in
      let place : 8 * (table * (l.cluster / 8)) + k ≡ table * l.cluster + k = omega (arith, at) in
      ap Byte (sym (get_or-map-range_with_len (byte_of (table_word l)) (8 * (table * (l.cluster / 8))) (8 * (l.cluster / 8)) k (table * l.cluster + k) 0 inside place))

  zero : l.gap ≡ 0 → ((i : ℕ) → i < l.cluster / 8 → table_word l (table * (l.cluster / 8) + i) ≡ l.gap) → AreZero (entry_value l) (table * l.cluster) l.cluster
  unfolding byte_of
  zero none empty i lt =
      let eight = per_cluster l in
      let at = begins in
      let place : (table * l.cluster + i) / 8 ≡ table * (l.cluster / 8) + i / 8 = omega (arith, at) in
      let inside : i / 8 < l.cluster / 8 = omega (arith, lt, eight) in
      let word : table_word l ((table * l.cluster + i) / 8) ≡ 0 = ap (table_word l) place ∙ empty (i / 8) inside ∙ none in
      ap Byte (ap (λ x. get_or (to_be_bytes w64 x) ((table * l.cluster + i) % 8) 0) word ∙ zero_byte ((table * l.cluster + i) % 8))

  pub stored_table : (first mid new : Option (List ℕ)) (b : Bool) (before : ℕ) → spot_of l.tables (table * l.cluster) ≡ record { stored = b; before = before } → b ≡ true
      → Fills l.tables l.tables_start (entry_value l) first mid (table * l.cluster)
      → IsAppended mid new (words_from (table_word l) (table * (l.cluster / 8)) (l.cluster / 8))
      → Fills l.tables l.tables_start (entry_value l) first new (table * l.cluster + l.cluster)
  stored_table first mid new b before is st h k =
      stored_step l.tables l.tables_start (entry_value l) (table * l.cluster) l.cluster _ part whole (ap (λ (s : Spot). s.stored) is ∙ st) first mid new h
      (put_bytes (entry_value l) (table * l.cluster) l.cluster mid new (words_from (table_word l) (table * (l.cluster / 8)) (l.cluster / 8)) long shown_bytes k)

  pub empty_table : (first mid : Option (List ℕ)) (b : Bool) (before : ℕ) → spot_of l.tables (table * l.cluster) ≡ record { stored = b; before = before } → b ≡ false
      → l.gap ≡ 0 → ((i : ℕ) → i < l.cluster / 8 → table_word l (table * (l.cluster / 8) + i) ≡ l.gap)
      → Fills l.tables l.tables_start (entry_value l) first mid (table * l.cluster)
      → Fills l.tables l.tables_start (entry_value l) first mid (table * l.cluster + l.cluster)
  empty_table first mid b before is st none empty h =
      gap_step l.tables l.tables_start (entry_value l) (table * l.cluster) l.cluster _ part whole (ap (λ (s : Spot). s.stored) is ∙ st) first mid h (zero none empty)
