-- SPDX-License-Identifier: MIT
use Rattle.std.proofs.Common.{◌≡◌, ℕ, ◌+◌, ◌-◌, ◌*◌, ◌<◌, ◌≤◌, List, ◌++◌, length, arith, inl, inr, ◌∙◌, Result, Ok, Err, OnOk}
use Rattle.std.proofs.lemmas.List.{length-append, get_or_append_left, get_or-append_right}
use Rattle.std.proofs.lemmas.Bool.{cases_lt}
use Rattle.imago_storage.specs.Blocks.{IsInParts}
use Rattle.imago_storage.specs.Features.{Features}
use Rattle.imago_storage.specs.Bytes.{IsReadAt}
use Rattle.imago_storage.specs.declared.error.Error.{Error}

-- What is read on where a first part ends makes one read with it.
pub read_append : (stored : List ℕ) (at n : ℕ) (xs ys : List ℕ) → length xs ≡ n → IsReadAt stored at xs → IsReadAt stored (at + n) ys → IsReadAt stored at (xs ++ ys)
read_append stored at n xs ys e h k i lt = elim (cases_lt i n) [
  | inl l ↦ let m : i < length xs = omega arith in get_or_append_left xs ys 0 i m ∙ h i m
  | inr l ↦
      let m : i - n < length ys = omega (arith, length-append xs ys) in
      let q : at + n + (i - n) ≡ at + i = omega arith in
      let le : n ≤ i = omega arith in
      get_or-append_right xs ys n i 0 e le ∙ rw q at (k (i - n) m)
]

pub read_then : {T : Type 0} (result : Result T Error) (stored : List ℕ) (at n : ℕ) (xs ys : List ℕ) → length xs ≡ n → IsReadAt stored at xs → OnOk result (IsReadAt stored (at + n) ys) → OnOk result (IsReadAt stored at (xs ++ ys))
read_then (Ok _) stored at n xs ys e h k = read_append stored at n xs ys e h k
read_then (Err _) stored at n xs ys e h k = tt

-- of three blocks or more the first one holds a part of the request alone
pub first_is_part : {f : Features} {a at n start len : ℕ} → IsInParts f a at n start len → 2 * a < len → a - (at - start) < n
first_is_part {f} {a} {at} {n} {start} {len} r long = let small : len < at - start + n + a = rw r.is_block r.padded.small in omega (arith, small, long, r.some)
