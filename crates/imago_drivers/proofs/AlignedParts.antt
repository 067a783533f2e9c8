-- SPDX-License-Identifier: MIT
use Rattle.std.proofs.Common.{◌≡◌, ℕ, ◌+◌, ◌-◌, ◌%◌, ◌^◌, ◌<◌, ◌≤◌, ap, refl, Ok, Err, ⊎_elim, arith, subst, ◌∙◌}
use Rattle.std.proofs.Math.Nat.{mod_self, dvd-add, dvd_of_mod-eq-zero, mod-eq-zero_of_dvd}
use Rattle.std.specs.Prelude.{List, Result, Bool}
use Rattle.imago_storage.specs.declared.error.Error.{Error}
use Rattle.imago_storage.specs.Faults.{CountsFaults}
use Rattle.imago_storage.specs.Maintenance.{Maintenance, IsDiscarded}
use Rattle.imago_storage.specs.declared.options.ZeroKind.TheVariants.{Any}
use Rattle.imago_storage.specs.Features.{Features, IsAlignedTo}
use Rattle.imago_storage.specs.IoCount.{IoCount}
use Rattle.imago_storage.specs.Zeroes.{IsZeroedInParts}
use Rattle.imago_storage.specs.Bytes.{SameOutside}
use Rattle.imago_storage.specs.Padding.{aligned_start, aligned_end, RangeWraps, IsAlignedPart}
use Rattle.imago_drivers.specs.Ranges.{IsPartAlignedTo}
use Rattle.imago_drivers.specs.RawDiscards.{told_part, HasDiscarded, IsPartDiscarded, HasPartZeroed, IsPartZeroed}

start_whole : (align at : ℕ) → at % align ≡ 0 → aligned_start align at ≡ at
start_whole align at e = let s : align - at % align ≡ align = omega (arith, e) in let z : (align - at % align) % align ≡ 0 = rw s (mod_self align) in omega arith

end_whole : (align at n : ℕ) → at % align ≡ 0 → n % align ≡ 0 → aligned_end align at n ≡ at + n
end_whole align at n e h = let z : (at + n) % align ≡ 0 = mod-eq-zero_of_dvd align (dvd-add align (dvd_of_mod-eq-zero align e) (dvd_of_mod-eq-zero align h)) in omega arith

-- an aligned range is its own aligned part
pub whole_start : (align at n start end : ℕ) → IsAlignedPart align at n start end → IsAlignedTo align at n → start ≡ at
whole_start align at n start end p a = p.is_start ∙ start_whole align at a.start

pub whole_length : (align at n start end : ℕ) → IsAlignedPart align at n start end → IsAlignedTo align at n → end - start ≡ n
whole_length align at n start end p a = let s : start ≡ at = whole_start align at n start end p a in let e : end ≡ at + n = p.is_end ∙ end_whole align at n a.start a.whole in omega arith

-- a range in the address space that wraps around where it is rounded up has no aligned part
pub no_part : (align at n : ℕ) → at + n < 2 ^ 64 → RangeWraps align at n → IsPartAlignedTo align at n at 0
no_part align at n h w = record {
  len = ⊎_elim (λ a. absurd (omega arith)) (λ b. omega arith) w;
  start = λ z. absurd (omega arith);
}

-- the aligned part of a range doesn't wrap around
pub part_fits : (align at n start end : ℕ) → IsAlignedPart align at n start end → start < end → RangeWraps align start (end - start) → ⊥
part_fits align at n start end p l w =
    let a = p.aligned (omega arith) in
    let s : aligned_start align start ≡ start = start_whole align start a.start in
    ⊎_elim (λ x. omega (arith, a.ends)) (λ y. omega (arith, p.start_fits)) w

-- what stays outside the aligned part of a range's aligned part stays outside that part
pub outside_part : (align mine at n start end : ℕ) (old now : List ℕ) → mine ≡ align → IsAlignedPart mine at n start end → start < end
    → SameOutside (aligned_start align start) (aligned_end align start (end - start) - aligned_start align start) old now → SameOutside start (end - start) old now
outside_part align mine at n start end old now e p l x =
    let a : IsAlignedTo align start (end - start) = rw e at (p.aligned (omega arith)) in
    let s : aligned_start align start ≡ start = start_whole align start a.start in
    let w : aligned_end align start (end - start) ≡ start + (end - start) = end_whole align start (end - start) a.start a.whole in
    record { before = λ q h. x.before q (rw s h); behind = λ q h. x.behind q (rw (s, w) (omega arith)); same_length = x.same_length }

-- the aligned part of a range is that of an alignment that is the same
pub aligned_part_is : (align mine at n start end : ℕ) → mine ≡ align → IsAlignedPart mine at n start end → IsPartAlignedTo align at n start (end - start)
aligned_part_is align mine at n start end e p =
    let q : IsAlignedPart align at n start end = rw e at p in
    record { len = omega (arith, q.is_start, q.is_end); start = λ some. q.is_start }

-- what stays outside a part of a range stays outside the range
pub outside_more : (at n q m : ℕ) (old now : List ℕ) → at ≤ q → q + m ≤ at + n → SameOutside q m old now → SameOutside at n old now
outside_more at n q m old now a b x = record { before = λ p h. x.before p (omega (arith, a, h)); behind = λ p h. x.behind p (omega (arith, b, h)); same_length = x.same_length }

-- a refusal counts the same faults, whatever the call would have answered
pub same_faults : {T U : Type 0} (reliable : Bool) (before now : ℕ) (e : Error) → CountsFaults {T = T} reliable before now (Err e) → CountsFaults {T = U} reliable before now (Err e)
same_faults reliable before now e h = record { later = h.later; reliable = h.reliable; device = λ d. let is : e ≡ Error.Device = cc in h.device (ap (λ (x : Error). Err x) is) }

-- a discard of the aligned part of a range is that of the range
pub part_discarded : {S : Type 0} (calls : Maintenance S) (align mine at n start end : ℕ) (old new : S) (answer : Result Unit Error) (result : Result (ℕ × ℕ) Error) → mine ≡ align → IsAlignedPart mine at n start end → start < end
    → ((RangeWraps align start (end - start) → ⊥) → aligned_start align start < aligned_end align start (end - start) → IsDiscarded calls (aligned_start align start) (aligned_end align start (end - start) - aligned_start align start) old new answer)
    → result ≡ told_part start (end - start) answer → IsPartDiscarded calls align at n old new result
part_discarded calls align mine at n start end old new answer result e part l made told =
    let p : IsAlignedPart align at n start end = rw e at part in
    let a = p.aligned (omega (arith, l)) in
    let s : aligned_start align start ≡ start = start_whole align start a.start in
    let w : aligned_end align start (end - start) ≡ start + (end - start) = end_whole align start (end - start) a.start a.whole in
    let m : aligned_end align start (end - start) - aligned_start align start ≡ end - start = omega (arith, s, w) in
    let x = made (part_fits align at n start end p l) (omega (arith, s, w, l)) in
    let y : IsDiscarded calls (aligned_start align start) (end - start) old new answer = subst (λ (k : ℕ). IsDiscarded calls (aligned_start align start) k old new answer) m x in
    let z : IsDiscarded calls start (end - start) old new answer = subst (λ (k : ℕ). IsDiscarded calls k (end - start) old new answer) s y in
    let whole : HasDiscarded calls start (end - start) old new result = record { answer = answer; made = z; passed_on = told } in
    record {
      some = λ h. subst (λ (q : ℕ). HasDiscarded calls q (aligned_end align at n - q) old new result) p.is_start (subst (λ (q : ℕ). HasDiscarded calls start (q - start) old new result) p.is_end whole);
      none = λ h. absurd (omega (arith, h, l, p.is_start, p.is_end));
    }

-- a zero write of the aligned part of a range is that of the range
pub part_zeroed : {S : Type 0} (features_of : S → Features) (bytes_of : S → List ℕ) (calls : Maintenance S) (work_of : S → IoCount) (f : Features) (mine at n start end : ℕ) (old new : S) (answer : Result Unit Error) (result : Result (ℕ × ℕ) Error) → mine ≡ f.zero_align → IsAlignedPart mine at n start end → start < end
    → (0 < end - start → (RangeWraps f.zero_align start (end - start) → ⊥) → IsZeroedInParts features_of bytes_of calls work_of f Any start (end - start) old new answer)
    → result ≡ told_part start (end - start) answer → IsPartZeroed features_of bytes_of calls work_of f at n old new result
unfolding IsPartZeroed
part_zeroed features_of bytes_of calls work_of f mine at n start end old new answer result e part l made told =
    let p : IsAlignedPart f.zero_align at n start end = rw e at part in
    let whole : HasPartZeroed features_of bytes_of calls work_of f start (end - start) old new result = record { answer = answer; made = made (omega (arith, l)) (part_fits f.zero_align at n start end p l); passed_on = told } in (
      λ h. subst (λ (q : ℕ). HasPartZeroed features_of bytes_of calls work_of f q (aligned_end f.zero_align at n - q) old new result) p.is_start (subst (λ (q : ℕ). HasPartZeroed features_of bytes_of calls work_of f start (q - start) old new result) p.is_end whole),
      λ h. absurd (omega (arith, h, l, p.is_start, p.is_end)),
    )

-- a range without an aligned part needs none
pub nothing_zeroed : {S : Type 0} (features_of : S → Features) (bytes_of : S → List ℕ) (calls : Maintenance S) (work_of : S → IoCount) (f : Features) (at n : ℕ) (s : S) → aligned_end f.zero_align at n ≤ aligned_start f.zero_align at → IsPartZeroed features_of bytes_of calls work_of f at n s s (Ok (at, 0))
unfolding IsPartZeroed
nothing_zeroed features_of bytes_of calls work_of f at n s h = (λ l. absurd (omega (arith, l, h)), λ g. (refl, refl))

pub wraps_without_part : (align at n : ℕ) → at + n < 2 ^ 64 → RangeWraps align at n → aligned_end align at n ≤ aligned_start align at
wraps_without_part align at n h w = ⊎_elim (λ a. absurd (omega arith)) (λ b. omega arith) w
