-- SPDX-License-Identifier: MIT
use Rattle.std.proofs.Common.{◌≡◌, ℕ, ◌+◌, ◌-◌, ◌<◌, ◌≤◌, ◌⊎◌, ⊎_elim, inl, inr, Bool, true, false, List, [], ◌∷◌, length, replicate, get_or, max, if◌then◌else◌, arith, refl, ap, ◌∙◌, sym}
use Rattle.std.proofs.lemmas.Bool.{cases_lt}
use Rattle.std.proofs.lemmas.List.{places, length-replicate}
use Rattle.std.specs.Prelude.{slice_index, Result, Ok, Err, OnErr}
use Rattle.imago_storage.specs.Bytes.{splice, OldOrNew, WriteOutcome}
use Rattle.imago_storage.specs.declared.error.Error.{Error}
use Rattle.imago_test_storages.specs.declared.faulty.Tear.{Tear}
use Rattle.imago_test_storages.specs.declared.faulty.Tear.TheVariants.{Nothing, All, First, Odd}
use Rattle.imago_storage.specs.Features.{Features}
use Rattle.imago_test_storages.specs.Faulty.{is_new, has_grown, IsPlain, IsTorn, IsTornRequest}

splice_inside : (xs : List ℕ) (at : ℕ) (new : List ℕ) (k : ℕ) → k < length new → get_or (splice xs at new) (at + k) 0 ≡ get_or new k 0
unfolding splice
splice_inside xs at new k h = grind (arith, places)

splice_before : (xs : List ℕ) (at : ℕ) (new : List ℕ) (p : ℕ) → p < at → get_or (splice xs at new) p 0 ≡ get_or xs p 0
unfolding splice
splice_before xs at new p h = grind (arith, places)

splice_behind : (xs : List ℕ) (at : ℕ) (new : List ℕ) (p : ℕ) → at + length new ≤ p → get_or (splice xs at new) p 0 ≡ get_or xs p 0
unfolding splice
splice_behind xs at new p h = grind (arith, places)

pub splice_size : (xs : List ℕ) (at : ℕ) (new : List ℕ) → length (splice xs at new) ≡ max (length xs) (at + length new)
unfolding splice
splice_size xs at new = grind (arith, places)

-- nothing of the request is done yet
pub torn_start : (tear : Tear) (old : List ℕ) (at : ℕ) (new : ℕ → ℕ) (now : List ℕ) → ((p : ℕ) → slice_index now p ≡ slice_index old p) → IsTorn tear old at 0 new now
torn_start tear old at new now same = record { inside = λ k h. absurd (omega arith); before = λ p h. same p; behind = λ p h. same p }

-- a request that doesn't grow changes nothing
pub torn_nothing : (tear : Tear) (old : List ℕ) (at n : ℕ) (new : ℕ → ℕ) → has_grown tear ≡ false → IsTornRequest tear old at n new old
torn_nothing Nothing old at n new h = record { torn = record { inside = λ k l. refl; before = λ p l. refl; behind = λ p l. refl }; len = refl }
torn_nothing All old at n new h = absurd (cc)
torn_nothing (First m) old at n new h = absurd (cc)
torn_nothing Odd old at n new h = absurd (cc)

either : (b : Bool) → (b ≡ true) ⊎ (b ≡ false)
either true = inl refl
either false = inr refl

-- A request of n bytes of which k are done, on a storage that has grown.
pub record IsTearing (tear : Tear) (old : List ℕ) (at n k : ℕ) (new : ℕ → ℕ) (now : List ℕ) : Type 0 where
  pub torn : IsTorn tear old at k new now
  pub len : length now ≡ max (length old) (at + n)

module _ (tear : Tear) (old : List ℕ) (at k : ℕ) (new : ℕ → ℕ) (mid now : List ℕ) where
  -- a byte that stays
  pub torn_skipped : IsTorn tear old at k new mid → is_new tear k ≡ false → now ≡ mid → IsTorn tear old at (k + 1) new now
  torn_skipped t stays same = rw same (record {
    inside = λ j h. ⊎_elim
        (λ below. t.inside j below)
        (λ last. let e : j ≡ k = omega arith in rw (e, stays) (t.behind (at + k) (omega arith)))
        (cases_lt j k);
    before = t.before;
    behind = λ p h. t.behind p (omega arith);
  })

  -- a byte that is new
  pub torn_put : (byte : ℕ) → IsTorn tear old at k new mid → is_new tear k ≡ true → new k ≡ byte → now ≡ splice mid (at + k) (byte ∷ []) → IsTorn tear old at (k + 1) new now
  torn_put byte t taken is put =
      let one : length (byte ∷ []) ≡ 1 = refl in
      rw put (record {
        inside = λ j h. ⊎_elim
            (λ below. splice_before mid (at + k) (byte ∷ []) (at + j) (omega arith) ∙ t.inside j below)
            (λ last. let e : j ≡ k = omega arith in
            let here : get_or (splice mid (at + k) (byte ∷ [])) (at + k) 0 ≡ byte = ap (λ p. get_or (splice mid (at + k) (byte ∷ [])) p 0) (omega arith) ∙ splice_inside mid (at + k) (byte ∷ []) 0 (omega arith) in
            rw (e, taken) (here ∙ sym is))
            (cases_lt j k);
        before = λ p h. splice_before mid (at + k) (byte ∷ []) p (omega arith) ∙ t.before p h;
        behind = λ p h. splice_behind mid (at + k) (byte ∷ []) p (omega arith) ∙ t.behind p (omega arith);
      })

-- the next byte, whether it is new or not
pub torn_next : (tear : Tear) (old : List ℕ) (at n k : ℕ) (new : ℕ → ℕ) (mid now : List ℕ) (byte : ℕ) → k < n → IsTearing tear old at n k new mid → new k ≡ byte
    → (is_new tear k ≡ true → now ≡ splice mid (at + k) (byte ∷ [])) → (is_new tear k ≡ false → now ≡ mid) → IsTearing tear old at n (k + 1) new now
torn_next tear old at n k new mid now byte h t is put stays = ⊎_elim
    (λ taken. record {
      torn = torn_put tear old at k new mid now byte t.torn taken is (put taken);
      len = let one : length (byte ∷ []) ≡ 1 = refl in rw (put taken) (omega (arith, splice_size mid (at + k) (byte ∷ []), t.len));
    })
    (λ left. record { torn = torn_skipped tear old at k new mid now t.torn left (stays left); len = rw (stays left) t.len })
    (either (is_new tear k))

-- all of its bytes
pub torn_all : (tear : Tear) (old : List ℕ) (at n : ℕ) (new : ℕ → ℕ) (now : List ℕ) → has_grown tear ≡ true → IsTearing tear old at n n new now → IsTornRequest tear old at n new now
torn_all tear old at n new now h t = record { torn = t.torn; len = rw h t.len }

-- a byte that is new or stays is one of the two
either_byte : (taken : Bool) (x y z : ℕ) → z ≡ (if taken then x else y) → (z ≡ y) ⊎ (z ≡ x)
either_byte true x y z e = inr e
either_byte false x y z e = inl e

-- each byte is old or new, whatever the tear
pub torn_is_between : (tear : Tear) (old : List ℕ) (at : ℕ) (new now : List ℕ) → IsTorn tear old at (length new) (λ k. slice_index new k) now
    → length old ≤ length now → length now ≤ max (length old) (at + length new) → OldOrNew old (splice old at new) now
torn_is_between tear old at new now t low high = record {
  each = λ p. ⊎_elim
      (λ below. inl (t.before p below))
      (λ above. ⊎_elim
      (λ inside.
      let k = p - at in
      let e : at + k ≡ p = omega arith in
      let target : slice_index (splice old at new) p ≡ slice_index new k = ap (λ q. get_or (splice old at new) q 0) (sym e) ∙ splice_inside old at new k (omega arith) in
      let byte : slice_index now p ≡ (if is_new tear k then slice_index new k else slice_index old p) = rw e at (t.inside k (omega arith)) in
      ⊎_elim (λ was. inl was) (λ is. inr (is ∙ sym target)) (either_byte (is_new tear k) (slice_index new k) (slice_index old p) (slice_index now p) byte))
      (λ past. inl (t.behind p past))
      (cases_lt p (at + length new)))
      (cases_lt p at);
  no_shorter = low;
  no_longer = omega (arith, high, splice_size old at new);
}

-- the length that a request leaves is between
torn_between : (grown : Bool) (len end now : ℕ) → now ≡ (if grown then max len end else len) → (len ≤ now) × (now ≤ max len end)
torn_between true len end now e = (omega arith, omega arith)
torn_between false len end now e = (omega arith, omega arith)

-- so a refused write leaves each of its bytes old or new
pub torn_write : (tear : Tear) (old : List ℕ) (at : ℕ) (new now : List ℕ) → IsTornRequest tear old at (length new) (λ k. slice_index new k) now → OldOrNew old (splice old at new) now
torn_write tear old at new now t =
    let b = torn_between (has_grown tear) (length old) (at + length new) (length now) t.len in
    torn_is_between tear old at new now t.torn b.0 b.1

zero_at : (n k : ℕ) → get_or (replicate {A = ℕ} n 0) k 0 ≡ 0
zero_at n k = grind (arith, places)

-- and so does a refused zero write
pub torn_zeroes : (tear : Tear) (old : List ℕ) (at n : ℕ) (now : List ℕ) → IsTornRequest tear old at n (λ k. 0) now → OldOrNew old (splice old at (replicate n 0)) now
torn_zeroes tear old at n now t =
    let l : length (replicate {A = ℕ} n 0) ≡ n = length-replicate {A = ℕ} n 0 in
    torn_write tear old at (replicate n 0) now (rw l (record {
      torn = record { inside = λ k h. rw (zero_at n k) (t.torn.inside k h); before = t.torn.before; behind = t.torn.behind };
      len = t.len;
    }))

-- a refusal that leaves each byte old or new, as the outcome of a write
pub refused_outcome : {U : Type 0} (keeps : Bool) (old target now : List ℕ) (q : Result U Error) (e : Error) → q ≡ Err e → OldOrNew old target now → WriteOutcome keeps old target now q
refused_outcome keeps old target now q e is b = rw is (record { done = λ _. tt; len = tt; refused = λ _. b; no_shorter = b.no_shorter; no_longer = b.no_longer })

-- a refusal that changes nothing leaves each byte old
pub unchanged_write : (old : List ℕ) (at : ℕ) (new now : List ℕ) → now ≡ old → OldOrNew old (splice old at new) now
unchanged_write old at new now same = rw same (record { each = λ p. inl refl; no_shorter = omega arith; no_longer = omega (arith, splice_size old at new) })

-- what holds anyhow holds of a refusal
pub on_refusal : {T E : Type 0} (r : Result T E) (P : Type 0) → P → OnErr r P
on_refusal (Ok x) P h = tt
on_refusal (Err e) P h = h

-- the same features take every range as it is
pub still_plain : (f g : Features) → f ≡ g → IsPlain g → IsPlain f
still_plain f g same plain = rw same plain
