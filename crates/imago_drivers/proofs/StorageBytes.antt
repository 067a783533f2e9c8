-- SPDX-License-Identifier: MIT
use Rattle.std.proofs.Common.{◌≡◌, ℕ, ◌+◌, ◌-◌, ◌<◌, ◌≤◌, ⊎_elim, inl, inr, Bool, true, false, List, length, replicate, get_or, max, arith, refl, ap, ◌∙◌}
use Rattle.std.proofs.lemmas.Bool.{cases_lt}
use Rattle.std.proofs.lemmas.List.{places, length-replicate}
use Rattle.std.specs.Prelude.{slice_index, Result, Ok, Err, OnOk, OnErr, IfErr, IsErrOf}
use Rattle.imago_storage.specs.declared.error.Error.{Error}
use Rattle.imago_storage.specs.Error.{IsExtRefusal, IsDeviceOrMemory}
use Rattle.imago_storage.specs.Bytes.{splice, zero_extended, OldOrNew}
use Rattle.imago_drivers.specs.Ranges.{HasBytes}

splice_inside : (xs : List ℕ) (at : ℕ) (new : List ℕ) (k : ℕ) → k < length new → get_or (splice xs at new) (at + k) 0 ≡ get_or new k 0
unfolding splice
splice_inside xs at new k h = grind (arith, places)

splice_before : (xs : List ℕ) (at : ℕ) (new : List ℕ) (p : ℕ) → p < at → get_or (splice xs at new) p 0 ≡ get_or xs p 0
unfolding splice
splice_before xs at new p h = grind (arith, places)

splice_behind : (xs : List ℕ) (at : ℕ) (new : List ℕ) (p : ℕ) → at + length new ≤ p → get_or (splice xs at new) p 0 ≡ get_or xs p 0
unfolding splice
splice_behind xs at new p h = grind (arith, places)

extended : (xs : List ℕ) (n p : ℕ) → get_or (zero_extended xs n) p 0 ≡ get_or xs p 0
extended xs n p = grind (arith, places)

-- a write: its bytes stand there, and all others stay
pub written_bytes : (old xs now : List ℕ) (at end : ℕ) → now ≡ splice (zero_extended old end) at xs → HasBytes false at (length xs) (λ k. slice_index xs k) old now
written_bytes old xs now at end e = record {
  inside = λ k h. inl (rw e (splice_inside (zero_extended old end) at xs k h));
  before = λ p h. rw e (splice_before (zero_extended old end) at xs p h ∙ extended old end p);
  behind = λ p h. rw e (splice_behind (zero_extended old end) at xs p h ∙ extended old end p);
}

-- a write makes a storage no longer than to the end that it is padded to
pub longest_write : (old xs : List ℕ) (at end now : ℕ) → at + length xs ≤ end → now ≤ length (splice (zero_extended old end) at xs) → now ≤ max (length old) end
unfolding splice
longest_write old xs at end now inside h = grind (arith, places)

same_byte : (old target now : List ℕ) (p : ℕ) → OldOrNew old target now → slice_index target p ≡ slice_index old p → slice_index now p ≡ slice_index old p
same_byte old target now p o e = ⊎_elim (λ a. a) (λ b. b ∙ e) (o.each p)

-- a refused write: each of its bytes is old or new, and all others stay
pub torn_bytes : (old xs now : List ℕ) (at end : ℕ) → OldOrNew old (splice (zero_extended old end) at xs) now → HasBytes true at (length xs) (λ k. slice_index xs k) old now
torn_bytes old xs now at end o = record {
  inside = λ k h. ⊎_elim (λ a. inr (refl, a)) (λ b. inl (b ∙ splice_inside (zero_extended old end) at xs k h)) (o.each (at + k));
  before = λ p h. same_byte old _ now p o (splice_before (zero_extended old end) at xs p h ∙ extended old end p);
  behind = λ p h. same_byte old _ now p o (splice_behind (zero_extended old end) at xs p h ∙ extended old end p);
}

zero_at : (n k : ℕ) → get_or (replicate {A = ℕ} n 0) k 0 ≡ 0
zero_at n k = grind (arith, places)

-- a zero write, with what it pads the storage by
pub zeroed_bytes : (old now : List ℕ) (at n end : ℕ) → now ≡ zero_extended (splice old at (replicate n 0)) end → HasBytes false at n (λ k. 0) old now
zeroed_bytes old now at n end e =
    let l : length (replicate {A = ℕ} n 0) ≡ n = length-replicate {A = ℕ} n 0 in
    record {
      inside = λ k h. inl (rw e (extended (splice old at (replicate n 0)) end (at + k) ∙ splice_inside old at (replicate n 0) k (omega arith) ∙ zero_at n k));
      before = λ p h. rw e (extended (splice old at (replicate n 0)) end p ∙ splice_before old at (replicate n 0) p h);
      behind = λ p h. rw e (extended (splice old at (replicate n 0)) end p ∙ splice_behind old at (replicate n 0) p (omega arith));
    }

pub torn_zeroes : (old now : List ℕ) (at n end : ℕ) → OldOrNew old (zero_extended (splice old at (replicate n 0)) end) now → HasBytes true at n (λ k. 0) old now
torn_zeroes old now at n end o =
    let l : length (replicate {A = ℕ} n 0) ≡ n = length-replicate {A = ℕ} n 0 in
    record {
      inside = λ k h. ⊎_elim (λ a. inr (refl, a)) (λ b. inl (b ∙ extended (splice old at (replicate n 0)) end (at + k) ∙ splice_inside old at (replicate n 0) k (omega arith) ∙ zero_at n k)) (o.each (at + k));
      before = λ p h. same_byte old _ now p o (extended (splice old at (replicate n 0)) end p ∙ splice_before old at (replicate n 0) p h);
      behind = λ p h. same_byte old _ now p o (extended (splice old at (replicate n 0)) end p ∙ splice_behind old at (replicate n 0) p (omega arith));
    }

-- zeroes in a part of a range are zeroes in the range, or nothing there
pub torn_in_range : (old now : List ℕ) (at n o c : ℕ) → o ≤ at → at + n ≤ o + c → HasBytes true at n (λ k. 0) old now → HasBytes true o c (λ k. 0) old now
torn_in_range old now at n o c h k b = record {
  inside = λ i l. ⊎_elim
      (λ below. inr (refl, b.before (o + i) below))
      (λ above. ⊎_elim
      (λ in_part. let e : at + (o + i - at) ≡ o + i = omega arith in let s : o + i - at < n = omega arith in rw e at (b.inside (o + i - at) s))
      (λ past. inr (refl, b.behind (o + i) past))
      (cases_lt (o + i) (at + n)))
      (cases_lt (o + i) at);
  before = λ p l. b.before p (omega arith);
  behind = λ p l. b.behind p (omega arith);
}

-- what is zero from an offset on stays so under a change before it
pub zero_behind : (torn : Bool) (at n size : ℕ) (byte : ℕ → ℕ) (old now : List ℕ) → at + n ≤ size → HasBytes torn at n byte old now
    → ((p : ℕ) → size ≤ p → slice_index old p ≡ 0) → (p : ℕ) → size ≤ p → slice_index now p ≡ 0
zero_behind torn at n size byte old now h b z p l = b.behind p (omega arith) ∙ z p l

-- what holds anyhow holds of a refusal
pub on_refusal : {T E : Type 0} (r : Result T E) (P : Type 0) → P → OnErr r P
on_refusal (Ok x) P h = tt
on_refusal (Err e) P h = h

-- a refusal of a request that isn't a wrap-around
pub no_wrap : {T : Type 0} (r : Result T Error) → IfErr r IsExtRefusal → (IsErrOf r Error.WrapAround → ⊥) → IfErr r IsDeviceOrMemory
no_wrap (Ok x) h w = tt
no_wrap (Err e) h w = ⊎_elim (λ a. absurd (w (ap (λ x. Err x) a))) (λ b. b) h

-- a write of no bytes that changes nothing, as a write
pub no_bytes : (torn : Bool) (at : ℕ) (xs old now : List ℕ) → length xs ≡ 0 → now ≡ old → HasBytes torn at (length xs) (λ k. slice_index xs k) old now
no_bytes torn at xs old now z e = record {
  inside = λ k h. absurd (omega arith);
  before = λ p h. rw e refl;
  behind = λ p h. rw e refl;
}

pub zero_behind_write : (torn : Bool) (at n size : ℕ) (byte : ℕ → ℕ) (old now : List ℕ) → (0 < n → at + n ≤ size) → HasBytes torn at n byte old now
    → ((p : ℕ) → size ≤ p → slice_index old p ≡ 0) → (p : ℕ) → size ≤ p → slice_index now p ≡ 0
zero_behind_write torn at n size byte old now h b z p l = ⊎_elim
    (λ some. b.behind p (omega (arith, h some)) ∙ z p l)
    (λ none. ⊎_elim (λ before. b.before p before ∙ z p l) (λ behind. b.behind p (omega arith) ∙ z p l) (cases_lt p at))
    (cases_lt 0 n)

-- what holds anyhow holds of a success
pub on_success : {T E : Type 0} (r : Result T E) (P : Type 0) → P → OnOk r P
on_success (Ok x) P h = h
on_success (Err e) P h = tt

-- a write, whatever its result: each of its bytes is old or new
pub either_bytes : {T : Type 0} (at n : ℕ) (byte : ℕ → ℕ) (old now : List ℕ) (r : Result T Error) → OnOk r (HasBytes false at n byte old now) → OnErr r (HasBytes true at n byte old now) → HasBytes true at n byte old now
either_bytes at n byte old now (Ok x) done torn = record {
  inside = λ k h. ⊎_elim (λ a. inl a) (λ b. let z : ⊥ = cc in absurd z) (done.inside k h);
  before = done.before;
  behind = done.behind;
}
either_bytes at n byte old now (Err e) done torn = torn

-- no request is refused as a foreign mapping
pub not_foreign : {T : Type 0} (r : Result T Error) → IfErr r IsExtRefusal → IsErrOf r Error.ForeignMapping → ⊥
not_foreign r h e =
    let x : IsExtRefusal Error.ForeignMapping = rw e at h in
    ⊎_elim (λ a. let z : ⊥ = cc in z) (λ b. ⊎_elim (λ a. let z : ⊥ = cc in z) (λ a. let z : ⊥ = cc in z) b) x
