-- SPDX-License-Identifier: MIT
use Rattle.std.proofs.Common.{◌≡◌, ℕ, ◌+◌, ◌-◌, ◌*◌, ◌/◌, ◌<◌, ◌≤◌, ⊎_elim, inl, inr, List, length, refl, arith}
use Rattle.std.proofs.lemmas.Bool.{cases_lt}
use Rattle.std.proofs.lemmas.Nat.{div-add-mod'}
use Rattle.std.proofs.Math.Nat.{mul-le-mul_right}
use Rattle.imago_cow.specs.declared.table.GuestBlock.{GuestBlock}
use Rattle.imago_cow.specs.Guest.{IsWholeBlock, IsWholePart, IsCleared, AreWholeCleared}
use Rattle.imago_cow.specs.GuestLaws.{rest_small}

-- products of a block's length
pub times_more : (block i k : ℕ) → i ≤ k → i * block ≤ k * block
times_more block i k h = mul-le-mul_right block h

pub times_next : (block i k : ℕ) → i < k → i * block + block ≤ k * block
times_next block i k h = let x : (i + 1) * block ≤ k * block = mul-le-mul_right block (omega arith) in omega (arith, x)

-- What is known of the first and the last whole guest block of a range.
pub record WholeRange (block size o n len first last : ℕ) : Type 0 where
  pub positive : 0 < block
  pub inside : o + n ≤ size
  pub covers : size ≤ len * block
  pub exact : len * block < size + block
  pub begins : o ≤ first * block
  pub near : first * block < o + block
  pub cut : o + n < size → (last * block ≤ o + n) × (o + n < last * block + block)
  pub all : size ≤ o + n → last ≡ len
  pub within : last ≤ len

module _ {block size o n len first last : ℕ} (w : WholeRange block size o n len first last) where
  pub from_first : (i : ℕ) → IsWholeBlock block size o n i → first ≤ i
  from_first i h = ⊎_elim
      (λ under. absurd (omega (arith, times_next block i first under, w.near, h.begins)))
      (λ over. over)
      (cases_lt i first)

  pub before_last : (i : ℕ) → i < len → IsWholeBlock block size o n i → i < last
  before_last i l h = ⊎_elim
      (λ under. under)
      (λ over. ⊎_elim
      (λ cut. let c = w.cut cut in absurd (⊎_elim (λ e. omega (arith, e, times_more block last i over, c.1)) (λ e. omega (arith, e, cut)) h.ends))
      (λ whole. absurd (omega (arith, w.all whole, over, l)))
      (cases_lt (o + n) size))
      (cases_lt i last)

  pub is_whole : (i : ℕ) → first ≤ i → i < last → IsWholeBlock block size o n i
  is_whole i h k = record {
    begins = omega (arith, w.begins, times_more block first i h);
    ends = ⊎_elim
        (λ cut. let c = w.cut cut in inl (omega (arith, c.0, times_next block i last k)))
        (λ whole. inr whole)
        (cases_lt (o + n) size);
  }

  block_holds : (p : ℕ) → (p / block * block ≤ p) × (p < p / block * block + block)
  block_holds p = let e = div-add-mod' p block in let r = rest_small block w.positive p in (omega (arith, e), omega (arith, e, r))

  pub place_known : (p : ℕ) → p < size → p / block < len
  place_known p h = ⊎_elim (λ under. under) (λ over. let b = block_holds p in absurd (omega (arith, times_more block len (p / block) over, w.covers, b.0))) (cases_lt (p / block) len)

  -- the blocks of a range are empty
  pub no_part : last ≤ first → IsWholePart block size o n o 0
  no_part h = record {
    inside = λ p i. absurd (omega (arith, i.0, i.1));
    all = λ p i v. absurd (omega (arith, h, from_first (p / block) v, before_last (p / block) (place_known p (omega (arith, i.1, w.inside))) v));
    none = λ e. refl;
  }

  some_part : (e : ℕ) → first < last → ((o + n < size) → e ≡ last * block) → (size ≤ o + n → e ≡ o + n) → IsWholePart block size o n (first * block) (e - first * block)
  some_part e h cut whole =
      let positive = w.positive in
      let ends : (i : ℕ) → first ≤ i → i < last → (p : ℕ) → p < i * block + block → p < size → p < e = λ i a b p lt small. ⊎_elim
      (λ c. omega (arith, cut c, times_next block i last b, lt))
      (λ c. omega (arith, whole c, small))
      (cases_lt (o + n) size) in
      let starts : first * block < e = ends first (omega arith) h (first * block) (omega arith)
      (⊎_elim (λ c. let x = w.cut c in omega (arith, x.0, times_next block first last h)) (λ c. omega (arith, w.exact, times_next block first len (omega (arith, h, w.all c)))) (cases_lt (o + n) size)) in
      record {
        inside = λ p i.
            let b = block_holds p in
            let below : p < e = omega (arith, i.1, starts) in
            let reach : e ≤ o + n = ⊎_elim (λ c. let x = w.cut c in omega (arith, cut c, x.0)) (λ c. omega (arith, whole c)) (cases_lt (o + n) size) in
            let known : p / block < len = place_known p (omega (arith, below, reach, w.inside)) in
            let a : first ≤ p / block = ⊎_elim (λ under. absurd (omega (arith, times_next block (p / block) first under, i.0, b.1))) (λ over. over) (cases_lt (p / block) first) in
            let l : p / block < last = ⊎_elim (λ under. under)
            (λ over. ⊎_elim (λ c. absurd (omega (arith, cut c, below, times_more block last (p / block) over, b.0))) (λ c. absurd (omega (arith, w.all c, over, known))) (cases_lt (o + n) size))
            (cases_lt (p / block) last) in
            let x : o ≤ p = omega (arith, i.0, w.begins) in
            let y : p < o + n = omega (arith, below, reach) in
            ((x, y), is_whole (p / block) a l);
        all = λ p i v.
            let b = block_holds p in
            let small : p < size = omega (arith, i.1, w.inside) in
            let a = from_first (p / block) v in
            let l = before_last (p / block) (place_known p small) v in
            let x : first * block ≤ p = omega (arith, times_more block first (p / block) a, b.0) in
            let y : p < first * block + (e - first * block) = omega (arith, ends (p / block) a l p (b.1) small, starts) in
            (x, y);
        none = λ z. absurd (omega (arith, starts, z));
      }

  pub cut_part : first < last → o + n < size → IsWholePart block size o n (first * block) (last * block - first * block)
  cut_part h c = some_part (last * block) h (λ x. refl) (λ x. absurd (omega (arith, c, x)))

  pub last_part : first < last → size ≤ o + n → IsWholePart block size o n (first * block) (o + n - first * block)
  last_part h c = some_part (o + n) h (λ x. absurd (omega (arith, c, x))) (λ x. refl)

  pub whole_cleared : (entry : GuestBlock) (old new : List GuestBlock) → len ≡ length old → IsCleared first last entry old new → AreWholeCleared block size o n entry old new
  whole_cleared entry old new e c = record {
    len = c.len;
    inside = λ i l h. c.inside i (from_first i h) (before_last i (omega (arith, e, l)) h);
    outside = λ i h. ⊎_elim (λ under. c.before i under) (λ over. ⊎_elim (λ under. absurd (h (is_whole i over under))) (λ past. c.behind i past) (cases_lt i last)) (cases_lt i first);
  }

  pub none_cleared : (entry : GuestBlock) (old : List GuestBlock) → len ≡ length old → last ≤ first → AreWholeCleared block size o n entry old old
  none_cleared entry old e h = record {
    len = refl;
    inside = λ i l v. absurd (omega (arith, h, from_first i v, before_last i (omega (arith, e, l)) v));
    outside = λ i v. refl;
  }
