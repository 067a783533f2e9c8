-- What is put into a space of which some parts are stored.
-- SPDX-License-Identifier: MIT
use Rattle.std.proofs.Common.{◌≡◌, ℕ, ◌+◌, ◌-◌, ◌<◌, ◌≤◌, ⊎_elim, true, false, List, ◌++◌, length, Option, Some, None, refl, sym, ap, ◌∙◌, subst, arith}
use Rattle.std.specs.Prelude.{if◌then◌else◌, slice_index}
use Rattle.std.proofs.lemmas.Bool.{cases_lt}
use Rattle.std.proofs.lemmas.List.{get_or_append_left, get_or-append_right, length-append}
use Rattle.imago_drivers.specs.Place.{Value, Byte, HasValues}
use Rattle.imago_copy.specs.Copies.{IsPut}
use Rattle.imago_qcow2_new.specs.declared.extent.Part.{Part}
use Rattle.imago_qcow2_new.specs.declared.extents.Extents.{Extents}
use Rattle.imago_qcow2_new.specs.Extents.{spot, IsPart}
use Rattle.imago_qcow2_new.specs.Space.{byte_at, spot_of, IsFilled, Fills, AreZero}
use Rattle.imago_qcow2_new.proofs.ExtentSteps.{grows, at_start}
use Rattle.imago_qcow2_new.proofs.Appends.{same_if}

module _ (e : Extents) (start : ℕ) (values : ℕ → Value) where
  -- a space that is begun
  pub begun : (first : Option (List ℕ)) → Fills e start values first first 0
  begun None = tt
  begun (Some had) = λ long. (
    had,
    refl,
    record {
      kept = λ p lt. refl;
      inside = λ p lt. absurd (omega (arith, lt));
      len = (let none : (spot e.stored e.extents.items 0).before ≡ 0 = at_start e.unit e.end e.stored 0 0 e.extents.items e.ordered in omega (arith, long, none));
    },
  )

  module _ (at n : ℕ) (part : Part) (is : IsPart e.stored e.extents.items at part) (fits : n ≤ part.count) where
    -- where the next stored byte is to be, before and behind
    now_at : part.is_stored ≡ true → (spot_of e at).before ≡ part.before
    now_at st =
        let same : at + 0 ≡ at = omega arith in
        let r : (spot_of e (at + 0)).before ≡ (if part.is_stored then part.before + 0 else part.before) = is.reached 0 (omega arith) in
        let s : (if part.is_stored then part.before + 0 else part.before) ≡ part.before + 0 = rw st refl in
        sym (ap (λ x. (spot_of e x).before) same) ∙ r ∙ s ∙ (let z : part.before + 0 ≡ part.before = omega arith in z)

    then_at : part.is_stored ≡ true → (spot_of e (at + n)).before ≡ part.before + n
    then_at st = let s : (if part.is_stored then part.before + n else part.before) ≡ part.before + n = rw st refl in is.reached n fits ∙ s

    kept_at : part.is_stored ≡ false → (spot_of e (at + n)).before ≡ (spot_of e at).before
    kept_at st =
        let same : at + 0 ≡ at = omega arith in
        let s : (if part.is_stored then part.before + n else part.before) ≡ part.before = rw st refl in
        let z : (if part.is_stored then part.before + 0 else part.before) ≡ part.before = rw st refl in
        is.reached n fits ∙ s ∙ sym (sym (ap (λ x. (spot_of e x).before) same) ∙ is.reached 0 (omega arith) ∙ z)

    module _ (had file put : List ℕ) (len : length put ≡ n) (filled : IsFilled e start values had at file) where
      old_byte : (k : ℕ) → k < at → byte_at start (file ++ put) (spot_of e k) ≡ byte_at start file (spot_of e k)
      old_byte k lt = same_if (spot_of e k).stored (slice_index (file ++ put) (start + (spot_of e k).before)) (slice_index file (start + (spot_of e k).before)) 0
          (λ st. let g = grows e.unit e.end e.stored 0 0 e.extents.items e.ordered k at lt st in
          let reached = filled.len in
          get_or_append_left file put 0 (start + (spot_of e k).before) (omega (arith, g, reached)))

      new_byte : part.is_stored ≡ true → (k : ℕ) → k < n → byte_at start (file ++ put) (spot_of e (at + k)) ≡ slice_index put k
      new_byte st k lt =
          let kind : (spot_of e (at + k)).stored ≡ true = is.kind k (omega (arith, lt, fits)) ∙ st in
          let s : (if part.is_stored then part.before + k else part.before) ≡ part.before + k = rw st refl in
          let where_is : (spot_of e (at + k)).before ≡ part.before + k = is.reached k (omega (arith, lt, fits)) ∙ s in
          let first = now_at st in
          let reached = filled.len in
          let there : byte_at start (file ++ put) (spot_of e (at + k)) ≡ slice_index (file ++ put) (start + (spot_of e (at + k)).before) = rw kind refl in
          let far : length file ≤ start + (spot_of e (at + k)).before = omega (arith, where_is, first, reached) in
          let rest : start + (spot_of e (at + k)).before - length file ≡ k = omega (arith, where_is, first, reached) in
          there ∙ get_or-append_right file put (length file) (start + (spot_of e (at + k)).before) 0 refl far ∙ ap (slice_index put) rest

      -- stored bytes were put behind
      more : part.is_stored ≡ true → HasValues values at put → IsFilled e start values had (at + n) (file ++ put)
      more st shows = record {
        kept = λ p lt.
            let reached = filled.len in
            get_or_append_left file put 0 p (omega (arith, reached, lt)) ∙ filled.kept p lt;
        inside = λ p lt. ⊎_elim
            (λ (before : p < at). filled.inside p before ∙ ap Byte (sym (old_byte p before)))
            (λ (behind : at ≤ p).
            let k : ℕ = p - at in
            let place : at + k ≡ p = omega (arith, behind) in
            let inner : k < n = omega (arith, lt, behind) in
            ap values (sym place) ∙ shows k (omega (arith, inner, len)) ∙ ap Byte (sym (new_byte st k inner)) ∙ ap (λ x. Byte (byte_at start (file ++ put) (spot_of e x))) place)
            (cases_lt p at);
        len = (let there = then_at st in let first = now_at st in let reached = filled.len in length-append file put ∙ omega (arith, there, first, reached, len));
      }

    -- bytes that aren't stored are passed over
    less : (had file : List ℕ) → part.is_stored ≡ false → AreZero values at n → IsFilled e start values had at file → IsFilled e start values had (at + n) file
    less had file st zero filled = record {
      kept = filled.kept;
      inside = λ p lt. ⊎_elim
          (λ (before : p < at). filled.inside p before)
          (λ (behind : at ≤ p).
          let k : ℕ = p - at in
          let place : at + k ≡ p = omega (arith, behind) in
          let inner : k < n = omega (arith, lt, behind) in
          let kind : (spot_of e (at + k)).stored ≡ false = is.kind k (omega (arith, inner, fits)) ∙ st in
          let none : byte_at start file (spot_of e (at + k)) ≡ 0 = rw kind refl in
          ap values (sym place) ∙ zero k inner ∙ ap Byte (sym none) ∙ ap (λ x. Byte (byte_at start file (spot_of e x))) place)
          (cases_lt p at);
      len = (let there = kept_at st in let reached = filled.len in omega (arith, there, reached));
    }

    pub stored_step : part.is_stored ≡ true → (first mid new : Option (List ℕ)) → Fills e start values first mid at → IsPut values at n mid new → Fills e start values first new (at + n)
    stored_step st None mid new h k = tt
    stored_step st (Some had) mid new h k = λ long.
        let (file, there, filled) = h long in
        let (put, len, shows, holds) = subst (λ (z : Option (List ℕ)). IsPut values at n z new) there k in
        (file ++ put, holds, more had file put len filled st shows)

    pub gap_step : part.is_stored ≡ false → (first mid : Option (List ℕ)) → Fills e start values first mid at → AreZero values at n → Fills e start values first mid (at + n)
    gap_step st None mid h zero = tt
    gap_step st (Some had) mid h zero = λ long.
        let (file, there, filled) = h long in
        (file, there, less had file st zero filled)
