-- Header extensions, one after the other.
-- SPDX-License-Identifier: MIT
use Rattle.std.proofs.Common.{zero, suc, ◌≡◌, ℕ, ◌+◌, ◌-◌, ◌%◌, ◌<◌, ◌≤◌, Bool, true, false, nat_lt, nat_eq, List, length, refl, sym, ap, ◌∙◌, arith}
use Rattle.std.specs.Prelude.{if◌then◌else◌}
use Rattle.std.specs.Int.{next_multiple_of}
use Rattle.std.proofs.lemmas.Bool.Decides.{nat_tests}
use Rattle.imago_storage.specs.Bytes.{IsReadAt}
use Rattle.imago_qcow2.specs.Numbers.{be32}
use Rattle.imago_qcow2.specs.Header.{features_at, own_length}
use Rattle.imago_qcow2.specs.Backing.{extensions_end}
use Rattle.imago_qcow2.proofs.HeaderSteps.{same32, same64, head_same}
use Rattle.imago_qcow2_check.specs.Known.{bitmaps_type, is_known_type, known_by, known_from, IsKnown}
use Rattle.imago_qcow2_check.specs.Bitmaps.{extension_by, extension_from, bitmaps_extension}

module _ (bytes : List ℕ) (end : ℕ) where
  abbrev next : ℕ → ℕ
  next at = at + (8 + next_multiple_of (be32 bytes (at + 4)) 8)

  -- more steps than there are bytes change nothing
  steps_free : (a b at : ℕ) → end - at ≤ a → end - at ≤ b → known_by a bytes at end ≡ known_by b bytes at end
  steps_free zero zero at h k = refl
  steps_free zero (suc b) at h k = let t : nat_lt at end ≡ false = grind (arith, nat_tests) in rw t refl
  steps_free (suc a) zero at h k = let t : nat_lt at end ≡ false = grind (arith, nat_tests) in rw t refl
  steps_free (suc a) (suc b) at h k =
      ap (λ (x : Bool). if nat_lt at end then
      (if nat_eq (be32 bytes at) 0 then true else
      (if nat_lt (end - at) (8 + be32 bytes (at + 4)) then false else
      (if is_known_type (be32 bytes at) then x else false)))
      else true)
      (steps_free a b (next at) (omega (arith, h)) (omega (arith, k)))

  one_step : (at : ℕ) → known_from bytes at end ≡ known_by (suc (end - at)) bytes at end
  unfolding known_from
  one_step at = steps_free (end - at) (suc (end - at)) at (omega arith) (omega arith)

  rest_steps : (at : ℕ) → known_by (end - at) bytes (next at) end ≡ known_from bytes (next at) end
  unfolding known_from
  rest_steps at = steps_free (end - at) (end - next at) (next at) (omega arith) (omega arith)

  pub known_past : (at : ℕ) → end ≤ at → known_from bytes at end ≡ true
  known_past at h = let t : nat_lt at end ≡ false = grind (arith, nat_tests) in one_step at ∙ rw t refl

  module _ (at kind count : ℕ) (is_kind : kind ≡ be32 bytes at) (is_count : count ≡ be32 bytes (at + 4)) (below : at < end) where
    pub known_end : kind ≡ 0 → known_from bytes at end ≡ true
    known_end e =
        let t : nat_lt at end ≡ true = grind (arith, nat_tests) in
        let v : nat_eq (be32 bytes at) 0 ≡ true = grind (arith, nat_tests) in
        one_step at ∙ rw (t, v) refl

    pub known_goes_on : (then_at : ℕ) → then_at ≡ at + (8 + next_multiple_of count 8) → 8 + count ≤ end - at → (kind ≡ 0 → ⊥) → is_known_type kind ≡ true → known_from bytes then_at end ≡ known_from bytes at end
    known_goes_on then_at is h no_end known =
        let t : nat_lt at end ≡ true = grind (arith, nat_tests) in
        let u : nat_lt (end - at) (8 + be32 bytes (at + 4)) ≡ false = grind (arith, nat_tests) in
        let v : nat_eq (be32 bytes at) 0 ≡ false = grind (arith, nat_tests, no_end) in
        let w : is_known_type (be32 bytes at) ≡ true = ap is_known_type (sym is_kind) ∙ known in
        let e : known_by (suc (end - at)) bytes at end ≡ known_by (end - at) bytes (next at) end = rw (t, v, u, w) refl in
        let f : known_from bytes at end ≡ known_from bytes (next at) end = one_step at ∙ e ∙ rest_steps at in
        let g : then_at ≡ next at = rw is_count at is in
        ap (λ x. known_from bytes x end) g ∙ sym f

  -- the same of the last extension of bitmaps
  last_free : (a b found at : ℕ) → end - at ≤ a → end - at ≤ b → extension_by a bytes found at end ≡ extension_by b bytes found at end
  last_free zero zero found at h k = refl
  last_free zero (suc b) found at h k = let t : nat_lt at end ≡ false = grind (arith, nat_tests) in rw t refl
  last_free (suc a) zero found at h k = let t : nat_lt at end ≡ false = grind (arith, nat_tests) in rw t refl
  last_free (suc a) (suc b) found at h k =
      ap (λ (x : ℕ). if nat_lt at end then (if nat_eq (be32 bytes at) 0 then found else x) else found)
      (last_free a b (if nat_eq (be32 bytes at) bitmaps_type then at else found) (next at) (omega (arith, h)) (omega (arith, k)))

  last_step : (found at : ℕ) → extension_from bytes found at end ≡ extension_by (suc (end - at)) bytes found at end
  unfolding extension_from
  last_step found at = last_free (end - at) (suc (end - at)) found at (omega arith) (omega arith)

  last_rest : (found at : ℕ) → extension_by (end - at) bytes found (next at) end ≡ extension_from bytes found (next at) end
  unfolding extension_from
  last_rest found at = last_free (end - at) (end - next at) found (next at) (omega arith) (omega arith)

  pub last_past : (found at : ℕ) → end ≤ at → extension_from bytes found at end ≡ found
  last_past found at h = let t : nat_lt at end ≡ false = grind (arith, nat_tests) in last_step found at ∙ rw t refl

  module _ (found at kind count : ℕ) (is_kind : kind ≡ be32 bytes at) (is_count : count ≡ be32 bytes (at + 4)) (below : at < end) where
    pub last_end : kind ≡ 0 → extension_from bytes found at end ≡ found
    last_end e =
        let t : nat_lt at end ≡ true = grind (arith, nat_tests) in
        let v : nat_eq (be32 bytes at) 0 ≡ true = grind (arith, nat_tests) in
        last_step found at ∙ rw (t, v) refl

    pub last_goes_on : (then_at then_found : ℕ) → then_at ≡ at + (8 + next_multiple_of count 8) → then_found ≡ (if nat_eq kind bitmaps_type then at else found) → (kind ≡ 0 → ⊥) → extension_from bytes then_found then_at end ≡ extension_from bytes found at end
    last_goes_on then_at then_found is is_found no_end =
        let t : nat_lt at end ≡ true = grind (arith, nat_tests) in
        let v : nat_eq (be32 bytes at) 0 ≡ false = grind (arith, nat_tests, no_end) in
        let here = if nat_eq (be32 bytes at) bitmaps_type then at else found in
        let w : then_found ≡ here = is_found ∙ ap (λ (k : ℕ). if nat_eq k bitmaps_type then at else found) is_kind in
        let e : extension_by (suc (end - at)) bytes found at end ≡ extension_by (end - at) bytes here (next at) end = rw (t, v) refl in
        let f : extension_from bytes found at end ≡ extension_from bytes here (next at) end = last_step found at ∙ e ∙ last_rest here at in
        let g : then_at ≡ next at = rw is_count at is in
        ap (λ x. extension_from bytes then_found x end) g ∙ ap (λ x. extension_from bytes x (next at) end) w ∙ sym f

-- what the first bytes say, the file does
pub bitmaps_moved : (bytes head : List ℕ) (b : ℕ) → IsReadAt bytes 0 head → 112 ≤ length head
    → b ≡ (if nat_eq (features_at head 88 % 2) 0 then 0 else extension_from bytes 0 (own_length head) (extensions_end head)) → b ≡ bitmaps_extension bytes
unfolding bitmaps_extension features_at own_length
bitmaps_moved bytes head b r len x =
    let same = head_same bytes head r len in
    let v = same32 bytes head same 4 (omega arith) in
    let a = same64 bytes head same 88 (omega arith) in
    let o = same32 bytes head same 100 (omega arith) in
    let n = same64 bytes head same 8 (omega arith) in
    let c = same32 bytes head same 20 (omega arith) in
    rw (v, a, o, n, c) at x

pub known_moved : (bytes head : List ℕ) → IsReadAt bytes 0 head → 112 ≤ length head → features_at head 88 < 2 → known_from bytes (own_length head) (extensions_end head) ≡ true → IsKnown bytes
unfolding features_at own_length
known_moved bytes head r len f x =
    let same = head_same bytes head r len in
    let v = same32 bytes head same 4 (omega arith) in
    let a = same64 bytes head same 88 (omega arith) in
    let o = same32 bytes head same 100 (omega arith) in
    let n = same64 bytes head same 8 (omega arith) in
    let c = same32 bytes head same 20 (omega arith) in
    record { features = rw (v, a) at f; extensions = rw (v, o, n, c) at x }
