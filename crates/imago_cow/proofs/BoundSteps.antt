-- SPDX-License-Identifier: MIT
use Rattle.std.proofs.Common.{zero, suc, ◌≡◌, ℕ, ◌+◌, ◌-◌, ◌*◌, ◌<◌, ◌≤◌, ◌⊎◌, ⊎_elim, Bool, true, List, length, None, ap, ◌∙◌, arith}
use Rattle.std.specs.Prelude.{slice_get}
use Rattle.std.proofs.lemmas.Bool.{cases_lt}
use Rattle.imago_drivers.specs.Operation.{Grow}
use Rattle.imago_drivers.specs.declared.format.PreallocateMode.{PreallocateMode}
use Rattle.imago_cow.specs.declared.table.GuestBlock.{GuestBlock}
use Rattle.imago_cow.specs.Table.{named_count}
use Rattle.imago_cow.specs.Guest.{IsExact, is_data, is_touched, number_of}
use Rattle.imago_cow.specs.GuestLaws.{number_more, number_longer, left_holds, right_holds, touched_by}
use Rattle.imago_cow.specs.Cow.{data_count, needs_data, guest_count, grown_until, has_waiting}
use Rattle.imago_cow.proofs.NumberSteps.{named_number}
use Rattle.imago_cow.proofs.WholeSteps.{times_more, times_next}

-- numbers that pass the test one after the other
pub number_run : (test : ℕ → Bool) (m d : ℕ) → ((i : ℕ) → m ≤ i → i < m + d → test i ≡ true) → number_of test m + d ≤ number_of test (m + d)
unfolding number_of
number_run test m zero all = let e : m + 0 ≡ m = omega arith in rw e (omega arith)
number_run test m (suc d) all =
    let r = number_run test m d (λ i h l. all i h (omega (arith, l))) in
    let t : test (m + d) ≡ true = all (m + d) (omega arith) (omega arith) in
    let e : m + suc d ≡ suc (m + d) = omega arith in
    rw (e, t) (omega (arith, r))

times_block : (b n : ℕ) → 0 < b → n ≤ n * b
times_block b zero h = omega arith
times_block b (suc n) h = let r = times_block b n h in let e : suc n * b ≡ n * b + b = omega arith in omega (arith, r, e, h)

-- a disk has no more guest blocks than bytes
pub few_blocks : (block new_size wanted : ℕ) → 0 < block → wanted * block < new_size + block → wanted ≤ new_size
few_blocks block new_size wanted positive near = ⊎_elim
    (λ over.
    let t = times_more block (new_size + 1) wanted (omega (arith, over)) in
    let u = times_block block new_size positive in
    absurd (omega (arith, t, u, near)))
    (λ under. under)
    (cases_lt new_size wanted)

-- Where a growth makes data of all new guest blocks, there are no more than it may use.
pub new_ones_fit : (block size : ℕ) (old now : List GuestBlock) (blocks : ℕ) (mode : PreallocateMode) (new_size wanted : ℕ) → 0 < block → IsExact size block old → size < new_size → grown_until block size mode (new_size + 0) ≡ new_size
    → length now ≡ length old → ((i : ℕ) → is_data (slice_get now i) ≡ true → (is_data (slice_get old i) ≡ true) ⊎ (is_touched block size new_size i ≡ true))
    → new_size ≤ wanted * block → wanted * block < new_size + block → length old ≤ wanted
    → named_count now + (wanted - length now) ≤ data_count block size old blocks None (Grow mode) new_size 0
new_ones_fit block size old now blocks mode new_size wanted positive exact grows until len named covers near more =
    let needs = needs_data block size old None (Grow mode) new_size 0 in
    let touched : (i : ℕ) → is_touched block size new_size i ≡ true → needs i ≡ true = λ i t. right_holds (is_data (slice_get old i)) _ (right_holds (has_waiting block None i) _ (ap (λ u. is_touched block size u i) until ∙ t)) in
    let here : (i : ℕ) → is_data (slice_get now i) ≡ true → needs i ≡ true = λ i d. ⊎_elim (λ was. left_holds (is_data (slice_get old i)) _ was) (λ t. touched i t) (named i d) in
    let first = number_more (λ i. is_data (slice_get now i)) needs (length now) (λ i h d. here i d) in
    let behind : (i : ℕ) → length now ≤ i → i < length now + (wanted - length now) → needs i ≡ true = λ i h l.
    touched i (touched_by block size new_size i (record {
      some = grows;
      begins = omega (arith, times_next block i wanted (omega (arith, l, more, len)), near);
      ends = omega (arith, times_more block (length old) i (omega (arith, h, len)), exact.covers, positive);
    })) in
    let run = number_run needs (length now) (wanted - length now) behind in
    let all : length now + (wanted - length now) ≡ wanted = omega (arith, more, len) in
    let run2 : number_of needs (length now) + (wanted - length now) ≤ number_of needs wanted = rw all at run in
    let few = few_blocks block new_size wanted positive near in
    let rest = number_longer needs wanted (guest_count block size old (Grow mode) new_size 0 - wanted) in
    let full : guest_count block size old (Grow mode) new_size 0 ≡ length old + new_size = ap (λ u. length old + u) until in
    let sum : guest_count block size old (Grow mode) new_size 0 - wanted + wanted ≡ guest_count block size old (Grow mode) new_size 0 = omega (arith, full, few) in
    let rest2 : number_of needs wanted ≤ number_of needs (guest_count block size old (Grow mode) new_size 0) = rw sum at rest in
    omega (arith, first, run2, rest2, named_number now)
