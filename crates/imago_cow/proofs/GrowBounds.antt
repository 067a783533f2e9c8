-- SPDX-License-Identifier: MIT
use Rattle.std.proofs.Common.{◌≡◌, ℕ, ◌+◌, ◌/◌, ◌%◌, ◌<◌, ◌≤◌, ⊎_elim, true, false, List, length, None, ap, arith}
use Rattle.std.specs.Prelude.{slice_get}
use Rattle.std.specs.Int.{next_multiple_of}
use Rattle.imago_storage.proofs.Padding.{next_multiple}
use Rattle.std.proofs.lemmas.Bool.{cases_lt}
use Rattle.std.proofs.lemmas.Nat.{div-add-mod'}
use Rattle.imago_drivers.specs.Operation.{Grow}
use Rattle.imago_drivers.specs.declared.format.PreallocateMode.{PreallocateMode}
use Rattle.imago_cow.specs.declared.table.GuestBlock.{GuestBlock}
use Rattle.imago_cow.specs.Table.{named_count}
use Rattle.imago_cow.specs.Guest.{IsExact, is_data, is_touched, number_of}
use Rattle.imago_cow.specs.GuestLaws.{number_longer, left_holds, right_holds, touched_at}
use Rattle.imago_cow.specs.Cow.{data_count, needs_data, guest_count, has_waiting, touched_until}
use Rattle.imago_cow.proofs.NumberSteps.{named_number, number_one_more}
use Rattle.imago_cow.proofs.WholeSteps.{times_more}

-- the cut guest block is the last one
pub cut_inside : (block size : ℕ) (old : List GuestBlock) → 0 < block → IsExact size block old → 0 < size % block → size / block < length old
cut_inside block size old positive exact cut =
    let e = div-add-mod' size block in
    ⊎_elim (λ under. under) (λ over. absurd (omega (arith, times_more block (length old) (size / block) over, exact.covers, e, cut))) (cases_lt (size / block) (length old))

-- with the cut guest block, in any mode that makes data of it
pub cut_fits : (block size : ℕ) (old : List GuestBlock) (blocks : ℕ) (mode : PreallocateMode) (new_size : ℕ) → 0 < block → IsExact size block old → 0 < size % block → is_data (slice_get old (size / block)) ≡ false → size < touched_until block size (Grow mode) new_size 0
    → named_count old + 1 ≤ data_count block size old blocks None (Grow mode) new_size 0
cut_fits block size old blocks mode new_size positive exact cut empty far =
    let needs = needs_data block size old None (Grow mode) new_size 0 in
    let inside = cut_inside block size old positive exact cut in
    let t : is_touched block size (touched_until block size (Grow mode) new_size 0) (size / block) ≡ true = touched_at block positive size (touched_until block size (Grow mode) new_size 0) size (omega arith) far in
    let a = number_one_more (λ i. is_data (slice_get old i)) needs (length old) (size / block) inside empty
    (right_holds (is_data (slice_get old (size / block))) _ (right_holds (has_waiting block None (size / block)) _ t)) (λ i d. left_holds (is_data (slice_get old i)) _ d) in
    let b = number_longer needs (length old) (touched_until block size (Grow mode) new_size 0) in
    let e : touched_until block size (Grow mode) new_size 0 + length old ≡ guest_count block size old (Grow mode) new_size 0 = omega arith in
    let c : number_of needs (length old) ≤ number_of needs (guest_count block size old (Grow mode) new_size 0) = rw e at b in
    omega (arith, a, c, named_number old)

-- zeroes are filled in up to the end of the cut guest block
pub zero_reaches : (block size new_size : ℕ) → 0 < block → 0 < size % block → size < new_size → size < touched_until block size (Grow PreallocateMode.Zero) new_size 0
zero_reaches block size new_size positive cut grows =
    let m = next_multiple size block positive in
    let after : size < next_multiple_of size block = ⊎_elim (λ under. under)
    (λ over.
    let e : next_multiple_of size block ≡ size = omega (arith, over) in
    let z : next_multiple_of size block % block ≡ size % block = ap (λ x. x % block) e in
    absurd (omega (arith, m, z, cut)))
    (cases_lt size (next_multiple_of size block)) in
    omega (arith, after, grows)
