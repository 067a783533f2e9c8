-- The bytes of pieces are what an image shows.
-- SPDX-License-Identifier: MIT
use Rattle.std.proofs.Common.{◌≡◌, ℕ, ◌+◌, ◌-◌, ◌<◌, ◌≤◌, ⊎_elim, List, [], ◌∷◌, ◌++◌, map, length, slice_index, get_or, refl, sym, ap, ◌∙◌, arith}
use Rattle.std.proofs.lemmas.Bool.{cases_lt}
use Rattle.std.proofs.lemmas.List.{same_lists, get_or-map, get_or_append_left, get_or-append_right, get_or-replicate, length-replicate, map-append, length-append, length-map}
use Rattle.std.proofs.lemmas.List.FromFn.{length-map-range_with_len, get_or-map-range_with_len}
use Rattle.imago_drivers.specs.Place.{Value, Byte, shown}
use Rattle.imago_access.specs.Disk.{values_from}
use Rattle.imago_access.specs.Target.{Target}
use Rattle.imago_access.proofs.DiskLists.{from_at, from_length}
use Rattle.imago_vmdk.specs.Disk.{with_bytes}
use Rattle.imago_plan.specs.declared.piece.Source.{Source}
use Rattle.imago_plan.specs.declared.piece.Source.TheVariants as S
use Rattle.imago_plan.specs.declared.piece.Piece.{Piece}
use Rattle.imago_plan.specs.Pieces.{Stands, Covers}
use Rattle.imago_plan.specs.PieceBytes.{source_bytes, plan_bytes}
use Rattle.imago_plan.specs.StoredBytes.{target_value}

values_append : (V : ℕ → Value) (o a b : ℕ) → values_from V o (a + b) ≡ values_from V o a ++ values_from V (o + a) b
values_append V o a b =
    let xs = values_from V o a in
    let ys = values_from V (o + a) b in
    let left : length xs ≡ a = from_length V o a in
    let right : length ys ≡ b = from_length V (o + a) b in
    let whole : length (values_from V o (a + b)) ≡ a + b = from_length V o (a + b) in
    same_lists _ _ (whole ∙ sym (length-append xs ys ∙ ap (λ (z : ℕ). z + length ys) left ∙ ap (λ (z : ℕ). a + z) right))
    (λ k d h.
    let lt : k < a + b = omega (arith, h, whole) in
    from_at V o (a + b) k d lt ∙ ⊎_elim
    (λ (inside : k < a). let at : k < length xs = omega (arith, inside, left) in sym (get_or_append_left xs ys d k at ∙ from_at V o a k d inside))
    (λ (behind : a ≤ k).
    let rest : k - a < b = omega (arith, lt, behind) in
    let is : o + a + (k - a) ≡ o + k = omega (arith, behind) in
    sym (get_or-append_right xs ys a k d left behind ∙ from_at V (o + a) b (k - a) d rest ∙ ap V is))
    (cases_lt k a))

module _ (bytes : ℕ → ℕ → List ℕ) where
  -- the i-th byte of a source
  abbrev pub source_byte : Source → ℕ → ℕ
  source_byte S.Zero i = 0
  source_byte (S.Stored from) i = slice_index (bytes from.layer from.storage) (from.offset + i)

  source_length : (s : Source) (n : ℕ) → length (source_bytes bytes s n) ≡ n
  source_length S.Zero n = length-replicate n 0
  source_length (S.Stored from) n = length-map-range_with_len (slice_index (bytes from.layer from.storage)) from.offset n

  source_at : (s : Source) (n k d : ℕ) → k < n → get_or (source_bytes bytes s n) k d ≡ source_byte s k
  source_at S.Zero n k d lt = get_or-replicate n k 0 d lt
  source_at (S.Stored from) n k d lt = get_or-map-range_with_len (slice_index (bytes from.layer from.storage)) from.offset n k (from.offset + k) d lt refl

  -- what stands somewhere is shown as the byte of the source
  pub stands_shown : (s : Source) (i : ℕ) (t : Target) → Stands s i t → target_value bytes t ≡ Byte (source_byte s i)
  stands_shown S.Zero i t h = ⊎_elim
      (λ z. ap (λ p. shown (λ (q : ℕ). Byte 0) (with_bytes (bytes t.depth) p)) z.1)
      (λ z. ap (λ p. shown (λ (q : ℕ). Byte 0) (with_bytes (bytes t.depth) p)) z)
      h
  stands_shown (S.Stored from) i t h =
      ap (λ p. shown (λ (q : ℕ). Byte 0) (with_bytes (bytes t.depth) p)) h.1.2 ∙ ap (λ (z : ℕ). Byte (slice_index (bytes z from.storage) (from.offset + i))) (sym h.0)

  -- the values of a piece are its bytes
  piece_values : (V : ℕ → Value) (o : ℕ) (piece : Piece) → ((i : ℕ) → i < piece.count → V (o + i) ≡ Byte (source_byte piece.source i)) → values_from V o piece.count ≡ map Byte (source_bytes bytes piece.source piece.count)
  piece_values V o piece h =
      let n : ℕ = piece.count in
      let bs : List ℕ = source_bytes bytes piece.source n in
      let left : length (values_from V o n) ≡ n = from_length V o n in
      let right : length bs ≡ n = source_length piece.source n in
      same_lists _ _ (left ∙ sym (length-map bs Byte ∙ right))
      (λ k d lt.
      let inside : k < n = omega (arith, lt, left) in
      let in_bytes : k < length bs = omega (arith, inside, right) in
      from_at V o n k d inside ∙ h k inside ∙ sym (get_or-map Byte bs k 0 d in_bytes ∙ ap Byte (source_at piece.source n k 0 inside)))

  covers_order : (leads : ℕ → Target) (from to : ℕ) (pieces : List Piece) → Covers leads from to pieces → from ≤ to
  covers_order leads from to [] h = omega (arith, h)
  covers_order leads from to (piece ∷ pieces) h = let more : from + piece.count ≤ to = covers_order leads (from + piece.count) to pieces h.1 in omega (arith, more)

  -- the bytes of pieces are the values of what stands there
  pub covered_values : (leads : ℕ → Target) (from to n : ℕ) (pieces : List Piece) → from + n ≡ to → Covers leads from to pieces
      → values_from (λ p. target_value bytes (leads p)) from n ≡ map Byte (plan_bytes bytes pieces)
  covered_values leads from to n [] e h =
      let none : n ≡ 0 = omega (arith, e, h) in
      ap (λ (z : ℕ). values_from (λ p. target_value bytes (leads p)) from z) none
  covered_values leads from to n (piece ∷ pieces) e h =
      let V : ℕ → Value = λ p. target_value bytes (leads p) in
      let m : ℕ = n - piece.count in
      let far : from + piece.count ≤ to = covers_order leads (from + piece.count) to pieces h.1 in
      let split : n ≡ piece.count + m = omega (arith, e, far) in
      let rest : from + piece.count + m ≡ to = omega (arith, e, far) in
      ap (λ (z : ℕ). values_from V from z) split
      ∙ values_append V from piece.count m
      ∙ ap (λ (z : List Value). z ++ values_from V (from + piece.count) m) (piece_values V from piece (λ i lt. stands_shown piece.source i (leads (from + i)) (h.0.2 i lt)))
      ∙ ap (λ (z : List Value). map Byte (source_bytes bytes piece.source piece.count) ++ z) (covered_values leads (from + piece.count) to m pieces rest h.1)
      ∙ sym (map-append Byte (source_bytes bytes piece.source piece.count) (plan_bytes bytes pieces))
