-- SPDX-License-Identifier: MIT
use Rattle.std.proofs.Common.{◌≡◌, ℕ, ◌+◌, ◌-◌, ◌<◌, ◌≤◌, ◌⊎◌, List, length, replicate, get_or, max, arith, inl, inr, ⊎_elim, refl, sym, ap, ◌∙◌, Result, Ok, Err, IsOk}
use Rattle.std.proofs.lemmas.List.{length-append, length-replicate, get_or-replicate, append-nil}
use Rattle.std.proofs.lemmas.Grind.{same_number_lists}
use Rattle.std.proofs.lemmas.Bool.{cases_lt}
use Rattle.imago_storage.specs.Bytes.{splice, zero_extended, OldOrNew, WriteOutcome}
use Rattle.imago_storage.specs.Features.{Features, len_align}
use Rattle.imago_storage.specs.Zeroes.{HasZeroed, ZeroedPart}
use Rattle.imago_storage.specs.declared.error.Error.{Error}
use Rattle.imago_storage.proofs.Outcomes.{WriteOutcome_unchanged, WriteOutcome_ok, WriteOutcome_refused, WriteOutcome_stopped, WriteOutcome_then, OnOk_map, OnErr_map}
use Rattle.imago_storage.proofs.Writes.{zero_extended_same, part_inside, part_before, part_after, length-part}
use Rattle.imago_storage.proofs.Splices.{length-splice, splice_inside, splice_before, splice_after}

-- the bytes with zeroes in a range, and up to an end at least
unfoldable pub zeroed : List ℕ → ℕ → ℕ → ℕ → List ℕ
zeroed xs at n end = zero_extended (splice xs at (replicate n 0)) end

pub zeroed_inside : (xs : List ℕ) (at n end p : ℕ) → at ≤ p → p < at + n → get_or (zeroed xs at n end) p 0 ≡ 0
unfolding zeroed
zeroed_inside xs at n end p h k = zero_extended_same (splice xs at (replicate n 0)) end p
    ∙ splice_inside xs at (replicate n 0) p h (omega (arith, length-replicate {A = ℕ} n 0)) ∙ get_or-replicate n (p - at) 0 0 (omega arith)

pub zeroed_before : (xs : List ℕ) (at n end p : ℕ) → p < at → get_or (zeroed xs at n end) p 0 ≡ get_or xs p 0
unfolding zeroed
zeroed_before xs at n end p h = zero_extended_same (splice xs at (replicate n 0)) end p ∙ splice_before xs at (replicate n 0) p h

pub zeroed_behind : (xs : List ℕ) (at n end p : ℕ) → at + n ≤ p → get_or (zeroed xs at n end) p 0 ≡ get_or xs p 0
unfolding zeroed
zeroed_behind xs at n end p h = zero_extended_same (splice xs at (replicate n 0)) end p ∙ splice_after xs at (replicate n 0) p (omega (arith, length-replicate {A = ℕ} n 0))

-- in the range 0, and elsewhere as before
pub zeroed_each : (xs : List ℕ) (at n end p : ℕ) → ((at ≤ p) × (p < at + n) × (get_or (zeroed xs at n end) p 0 ≡ 0)) ⊎ (((p < at) ⊎ (at + n ≤ p)) × (get_or (zeroed xs at n end) p 0 ≡ get_or xs p 0))
zeroed_each xs at n end p = elim (cases_lt p at) [
  | inl h ↦ inr (inl h, zeroed_before xs at n end p h)
  | inr h ↦ elim (cases_lt p (at + n)) [
    | inl k ↦ inl (h, k, zeroed_inside xs at n end p h k)
    | inr k ↦ inr (inr k, zeroed_behind xs at n end p k)
  ]
]

pub length-zeroed : (xs : List ℕ) (at n end : ℕ) → at + n ≤ end → length (zeroed xs at n end) ≡ max (length xs) end
unfolding zeroed
length-zeroed xs at n end h = omega (
  arith,
  length-splice xs at (replicate n 0),
  length-replicate {A = ℕ} n 0,
  length-append (splice xs at (replicate n 0)) (replicate (end - length (splice xs at (replicate n 0))) 0),
  length-replicate {A = ℕ} (end - length (splice xs at (replicate n 0))) 0,
)

-- each byte of a part of the zeroes is old or that of all the zeroes
part_each : (xs : List ℕ) (at n end a m e p : ℕ) → at ≤ a → a + m ≤ at + n
    → (get_or (zeroed xs a m e) p 0 ≡ get_or xs p 0) ⊎ (get_or (zeroed xs a m e) p 0 ≡ get_or (zeroed xs at n end) p 0)
part_each xs at n end a m e p low high = elim (zeroed_each xs a m e p) [
  | inl i ↦ inr (i.2 ∙ sym (zeroed_inside xs at n end p (omega (arith, i.0)) (omega (arith, i.1))))
  | inr o ↦ inl o.1
]

OldOrNew_part : (xs : List ℕ) (at n end a m e : ℕ) → at ≤ a → a + m ≤ at + n → a + m ≤ e → e ≤ end → at + n ≤ end → OldOrNew xs (zeroed xs at n end) (zeroed xs a m e)
OldOrNew_part xs at n end a m e low high fits below long = record {
  each = λ p. part_each xs at n end a m e p low high;
  no_shorter = omega (arith, length-zeroed xs a m e fits);
  no_longer = omega (arith, length-zeroed xs a m e fits, length-zeroed xs at n end long);
}

-- Two ranges that together make up a third one.
pub record Joins (a m b k at n : ℕ) : Type 0 where
  pub first_low : at ≤ a
  pub first_high : a + m ≤ at + n
  pub second_low : at ≤ b
  pub second_high : b + k ≤ at + n
  pub all : (p : ℕ) → at ≤ p → p < at + n → ((a ≤ p) × (p < a + m)) ⊎ ((b ≤ p) × (p < b + k))

twice_at : (xs : List ℕ) (a m e b k d at n end p : ℕ) → Joins a m b k at n
    → get_or (zeroed (zeroed xs a m e) b k d) p 0 ≡ get_or (zeroed xs at n end) p 0
twice_at xs a m e b k d at n end p j = elim (zeroed_each xs at n end p) [
  | inl i ↦ elim (zeroed_each (zeroed xs a m e) b k d p) [
    | inl s ↦ s.2 ∙ sym i.2
    | inr s ↦ elim (j.all p i.0 i.1) [
      | inl first ↦ s.1 ∙ zeroed_inside xs a m e p first.0 first.1 ∙ sym i.2
      | inr second ↦ zeroed_inside (zeroed xs a m e) b k d p second.0 second.1 ∙ sym i.2
    ]
  ]
  | inr o ↦ elim (zeroed_each (zeroed xs a m e) b k d p) [
    | inl s ↦ absurd (omega (arith, o.0, s.0, s.1, j.second_low, j.second_high))
    | inr s ↦ elim (zeroed_each xs a m e p) [
      | inl t ↦ absurd (omega (arith, o.0, t.0, t.1, j.first_low, j.first_high))
      | inr t ↦ s.1 ∙ t.1 ∙ sym o.1
    ]
  ]
]

-- zeroes in both ranges are zeroes in the third
twice : (xs : List ℕ) (a m e b k d at n end : ℕ) → Joins a m b k at n → a + m ≤ e → b + k ≤ d → at + n ≤ end → max e d ≡ end
    → zeroed (zeroed xs a m e) b k d ≡ zeroed xs at n end
twice xs a m e b k d at n end j first second long top = same_number_lists _ _
    (omega (arith, length-zeroed (zeroed xs a m e) b k d second, length-zeroed xs a m e first, length-zeroed xs at n end long, top))
    (λ p l. twice_at xs a m e b k d at n end p j)

-- A first range was zeroed, and then a second one: so is what they make up.
pub HasZeroed_then : {T U : Type 0} (f : Features) (old mid now : List ℕ) (a m b k at n : ℕ) (r : Result T Error) (x : T) (q : Result U Error)
    → HasZeroed f old a m mid r → r ≡ Ok x → HasZeroed f mid b k now q → Joins a m b k at n → (at + n ≤ a + m) ⊎ (at + n ≤ b + k) → HasZeroed f old at n now q
unfolding zeroed
HasZeroed_then f old mid now a m b k at n r x q w was v j reach =
    let e = max w.end v.end in
    let long : at + n ≤ e = omega (arith, reach, w.covers, v.covers) in
    record {
      end = e;
      covers = long;
      near = omega (arith, w.near, v.near, j.first_high, j.second_high);
      written = WriteOutcome_then f.keeps_data old (zeroed old a m w.end) mid (zeroed mid b k v.end) (zeroed old at n e) now r x q w.written was v.written
          (OldOrNew_part old at n e a m w.end j.first_low j.first_high w.covers (omega arith) long)
          (λ made. ap (λ xs. zeroed xs b k v.end) made ∙ twice old a m w.end b k v.end at n e j w.covers v.covers long refl)
          (λ size. omega (arith, size, length-zeroed mid b k v.end v.covers, length-zeroed old a m w.end w.covers, length-zeroed old at n e long));
    }

-- a success, under another name of it
pub HasZeroed_ok : {U : Type 0} (f : Features) (old now : List ℕ) (at n : ℕ) (q : Result U Error) → IsOk q → HasZeroed {T = Unit {0}} f old at n now (Ok tt) → HasZeroed f old at n now q
HasZeroed_ok f old now at n (Ok x) h w = record { end = w.end; covers = w.covers; near = w.near; written = WriteOutcome_ok _ _ _ _ _ tt x refl w.written }
HasZeroed_ok f old now at n (Err e) h w = absurd (cc)

-- A refusal on a part of the range is one on the range.
pub HasZeroed_refused : {T U : Type 0} (f : Features) (old now : List ℕ) (a m at n : ℕ) (r : Result T Error) (d : Error) (q : Result U Error) (e : Error)
    → HasZeroed f old a m now r → r ≡ Err d → q ≡ Err e → at ≤ a → a + m ≤ at + n → HasZeroed f old at n now q
unfolding zeroed
HasZeroed_refused f old now a m at n r d q e w was is low high =
    let end = max w.end (at + n) in
    record {
      end = end;
      covers = omega arith;
      near = omega (arith, w.near, w.covers);
      written = WriteOutcome_refused f.keeps_data old (zeroed old a m w.end) (zeroed old at n end) now r d q e was is
          (OldOrNew_part old at n end a m w.end low high w.covers (omega arith) (omega arith)) w.written;
    }

-- A part of the range was zeroed, and what came next was refused and changed nothing.
pub HasZeroed_stopped : {U : Type 0} (f : Features) (old now : List ℕ) (a m at n : ℕ) (q : Result U Error) (e : Error)
    → HasZeroed {T = Unit {0}} f old a m now (Ok tt) → q ≡ Err e → at ≤ a → a + m ≤ at + n → HasZeroed f old at n now q
unfolding zeroed
HasZeroed_stopped f old now a m at n q e w is low high =
    let end = max w.end (at + n) in
    record {
      end = end;
      covers = omega arith;
      near = omega (arith, w.near, w.covers);
      written = WriteOutcome_stopped f.keeps_data old (zeroed old a m w.end) (zeroed old at n end) now q e is
          (OldOrNew_part old at n end a m w.end low high w.covers (omega arith) (omega arith)) w.written;
    }

-- a first range, and then one right behind it
pub HasZeroed_next : {U : Type 0} (f : Features) (old mid now : List ℕ) (at m k : ℕ) (q : Result U Error)
    → HasZeroed {T = Unit {0}} f old at m mid (Ok tt) → HasZeroed f mid (at + m) k now q → HasZeroed f old at (m + k) now q
HasZeroed_next f old mid now at m k q w v = HasZeroed_then f old mid now at m (at + m) k at (m + k) (Ok tt) tt q w refl v
    (record { first_low = omega arith; first_high = omega arith; second_low = omega arith; second_high = omega arith; all = λ p l h. elim (cases_lt p (at + m)) [ inl a ↦ inl (l, a) | inr a ↦ inr (a, omega arith) ] })
    (inr (omega arith))

-- the same of a second one that may be empty
pub HasZeroed_behind : {U : Type 0} (f : Features) (old mid now : List ℕ) (at m from k : ℕ) (q : Result U Error) → at + m ≡ from
    → HasZeroed {T = Unit {0}} f old at m mid (Ok tt) → ZeroedPart f mid from k now q → HasZeroed f old at (m + k) now q
HasZeroed_behind f old mid now at m from k q is w v = elim (cases_lt 0 k) [
  | inl some ↦ HasZeroed_next f old mid now at m k q w (rw is (v.some some))
  | inr none ↦ let zero : k ≡ 0 = omega arith in
      let all : m + k ≡ m = omega arith in
      rw (all, (v.none zero).1) (HasZeroed_ok f old mid at m q (v.none zero).0 w)
]

-- a first range, and then one that may be empty, right before it
pub HasZeroed_before : {U : Type 0} (f : Features) (old mid now : List ℕ) (at k from m : ℕ) (q : Result U Error) → at + k ≡ from
    → HasZeroed {T = Unit {0}} f old from m mid (Ok tt) → ZeroedPart f mid at k now q → HasZeroed f old at (k + m) now q
HasZeroed_before f old mid now at k from m q is w v = elim (cases_lt 0 k) [
  | inl some ↦ HasZeroed_then f old mid now from m at k at (k + m) (Ok tt) tt q w refl (v.some some)
      (record { first_low = omega arith; first_high = omega arith; second_low = omega arith; second_high = omega arith; all = λ p l h. elim (cases_lt p (at + k)) [ inl a ↦ inr (l, a) | inr a ↦ inl (omega arith, omega arith) ] })
      (inl (omega arith))
  | inr none ↦ let zero : k ≡ 0 = omega arith in
      let all : k + m ≡ m = omega arith in
      let here : from ≡ at = omega arith in
      rw (all, (v.none zero).1) (HasZeroed_ok f old mid at m q (v.none zero).0 (rw here at w))
]

-- zeroes so far, of a range that may be empty, and the next ones behind them
pub ZeroedPart_next : {U : Type 0} (f : Features) (old mid now : List ℕ) (at m k : ℕ) (q : Result U Error) → 0 < k
    → ZeroedPart {T = Unit {0}} f old at m mid (Ok tt) → ZeroedPart f mid (at + m) k now q → HasZeroed f old at (m + k) now q
ZeroedPart_next f old mid now at m k q more so v = elim (cases_lt 0 m) [
  | inl some ↦ HasZeroed_behind f old mid now at m (at + m) k q refl (so.some some) v
  | inr none ↦ let zero : m ≡ 0 = omega arith in
      let here : at + m ≡ at = omega arith in
      let all : m + k ≡ k = omega arith in
      rw (← (so.none zero).1, all) (rw here at v.some more)
]

-- A refusal that changed nothing.
pub HasZeroed_unchanged : {U : Type 0} (f : Features) (old : List ℕ) (at n : ℕ) (q : Result U Error) (e : Error) → 0 < len_align f → q ≡ Err e → HasZeroed f old at n old q
unfolding zeroed
HasZeroed_unchanged f old at n q e p is = record {
  end = at + n;
  covers = omega arith;
  near = omega arith;
  written = WriteOutcome_unchanged f.keeps_data old (zeroed old at n (at + n)) q e is (omega (arith, length-zeroed old at n (at + n) (omega arith)));
}

zeroed_at_once : (xs : List ℕ) (at n : ℕ) → splice xs at (replicate n 0) ≡ zeroed xs at n (at + n)
unfolding zeroed
zeroed_at_once xs at n =
    let none : at + n - length (splice xs at (replicate n 0)) ≡ 0 = omega (arith, length-splice xs at (replicate n 0), length-replicate {A = ℕ} n 0) in
    rw none (sym (append-nil (splice xs at (replicate n 0))))

-- a zero write of the storage, to the range's end and no further
pub HasZeroed_pure : {U : Type 0} (f : Features) (old now : List ℕ) (at n : ℕ) (q : Result U Error) → 0 < len_align f
    → WriteOutcome f.keeps_data old (splice old at (replicate n 0)) now q → HasZeroed f old at n now q
unfolding zeroed
HasZeroed_pure f old now at n q p w = record {
  end = at + n;
  covers = omega arith;
  near = omega arith;
  written = rw (← zeroed_at_once old at n) w;
}

extended_first_at : (xs : List ℕ) (at n end p : ℕ) → get_or (splice (zero_extended xs end) at (replicate n 0)) p 0 ≡ get_or (zeroed xs at n end) p 0
extended_first_at xs at n end p = elim (zeroed_each xs at n end p) [
  | inl i ↦ part_inside xs at (replicate n 0) end p i.0 (omega (arith, i.1, length-replicate {A = ℕ} n 0)) ∙ get_or-replicate n (p - at) 0 0 (omega (arith, i.0, i.1)) ∙ sym i.2
  | inr o ↦ elim o.0 [
    | inl low ↦ part_before xs at (replicate n 0) end p low ∙ sym o.1
    | inr high ↦ part_after xs at (replicate n 0) end p (omega (arith, high, length-replicate {A = ℕ} n 0)) ∙ sym o.1
  ]
]

extended_first : (xs : List ℕ) (at n end : ℕ) → at + n ≤ end → splice (zero_extended xs end) at (replicate n 0) ≡ zeroed xs at n end
extended_first xs at n end h = same_number_lists _ _
    (omega (arith, length-part xs at (replicate n 0) end (omega (arith, length-replicate {A = ℕ} n 0)), length-zeroed xs at n end h))
    (λ p l. extended_first_at xs at n end p)

-- a write of zeroes as data, padded to an end
pub HasZeroed_written : {U : Type 0} (f : Features) (old now : List ℕ) (at n end : ℕ) (q : Result U Error) → at + n ≤ end → end < at + n + len_align f
    → WriteOutcome f.keeps_data old (splice (zero_extended old end) at (replicate n 0)) now q → HasZeroed f old at n now q
unfolding zeroed
HasZeroed_written f old now at n end q covers near w = record {
  end = end;
  covers = covers;
  near = near;
  written = rw (← extended_first old at n end covers) w;
}

-- The range was zeroed in part and refused, and then zeroed again.
again_at : (old mid : List ℕ) (at n e d end p : ℕ) → OldOrNew old (zeroed old at n e) mid
    → get_or (zeroed mid at n d) p 0 ≡ get_or (zeroed old at n end) p 0
again_at old mid at n e d end p b = elim (zeroed_each mid at n d p) [
  | inl i ↦ i.2 ∙ sym (zeroed_inside old at n end p i.0 i.1)
  | inr o ↦ o.1 ∙ elim (b.each p) [
    | inl same ↦ same ∙ elim o.0 [ inl low ↦ sym (zeroed_before old at n end p low) | inr high ↦ sym (zeroed_behind old at n end p high) ]
    | inr new ↦ new ∙ elim o.0 [ inl low ↦ zeroed_before old at n e p low ∙ sym (zeroed_before old at n end p low) | inr high ↦ zeroed_behind old at n e p high ∙ sym (zeroed_behind old at n end p high) ]
  ]
]

again_torn : (old mid now : List ℕ) (at n e d end p : ℕ) → OldOrNew old (zeroed old at n e) mid
    → (get_or now p 0 ≡ get_or mid p 0) ⊎ (get_or now p 0 ≡ get_or (zeroed mid at n d) p 0)
    → (get_or now p 0 ≡ get_or old p 0) ⊎ (get_or now p 0 ≡ get_or (zeroed old at n end) p 0)
again_torn old mid now at n e d end p b torn = elim torn [
  | inr new ↦ inr (new ∙ again_at old mid at n e d end p b)
  | inl same ↦ elim (b.each p) [
    | inl was ↦ inl (same ∙ was)
    | inr zero ↦ elim (zeroed_each old at n e p) [
      | inl i ↦ inr (same ∙ zero ∙ i.2 ∙ sym (zeroed_inside old at n end p i.0 i.1))
      | inr o ↦ inl (same ∙ zero ∙ o.1)
    ]
  ]
]

again_with : {T U : Type 0} (f : Features) (old mid now : List ℕ) (at n end : ℕ) (r : Result T Error) (e : Error) (q : Result U Error)
    → (w : HasZeroed f old at n mid r) → r ≡ Err e → (v : HasZeroed f mid at n now q) → at + n ≤ end → end < at + n + len_align f
    → max (length old) end ≡ max (length mid) v.end → HasZeroed f old at n now q
unfolding zeroed
again_with f old mid now at n end r e q w was v covers near top =
    let size : length (zeroed mid at n v.end) ≡ length (zeroed old at n end) = omega (arith, length-zeroed mid at n v.end v.covers, length-zeroed old at n end covers, top) in
    record {
      end = end;
      covers = covers;
      near = near;
      written = record {
        done = λ k. let b : OldOrNew old (zeroed old at n w.end) mid = rw was at (w.written.refused k) in
            let same : zeroed mid at n v.end ≡ zeroed old at n end = same_number_lists _ _ size (λ p l. again_at old mid at n w.end v.end end p b) in
            OnOk_map q (λ m. m ∙ same) (v.written.done k);
        len = OnOk_map q (λ m. m ∙ size) v.written.len;
        refused = λ k. let b : OldOrNew old (zeroed old at n w.end) mid = rw was at (w.written.refused k) in
            OnErr_map q (λ t. record { each = λ p. again_torn old mid now at n w.end v.end end p b (t.each p); no_shorter = omega (arith, b.no_shorter, t.no_shorter); no_longer = omega (arith, t.no_longer, size) }) (v.written.refused k);
        no_shorter = omega (arith, w.written.no_shorter, v.written.no_shorter);
        no_longer = omega (arith, v.written.no_longer, size);
      };
    }

pub HasZeroed_again : {T U : Type 0} (f : Features) (old mid now : List ℕ) (at n : ℕ) (r : Result T Error) (e : Error) (q : Result U Error)
    → HasZeroed f old at n mid r → r ≡ Err e → HasZeroed f mid at n now q → HasZeroed f old at n now q
unfolding zeroed
HasZeroed_again f old mid now at n r e q w was v =
    let long : length mid ≤ max (length old) w.end = omega (arith, w.written.no_longer, length-zeroed old at n w.end w.covers) in
    elim (cases_lt (length old) (length mid)) [
      | inl grew ↦ again_with f old mid now at n (max (length mid) v.end) r e q w was v (omega (arith, v.covers)) (omega (arith, v.near, w.near, long)) (omega arith)
      | inr same ↦ again_with f old mid now at n v.end r e q w was v v.covers v.near (omega (arith, w.written.no_shorter))
    ]

-- a range that was zeroed, or wasn't, leaves the list no shorter
pub ZeroedPart_longer : {T : Type 0} (f : Features) (old : List ℕ) (at n : ℕ) (now : List ℕ) (r : Result T Error) → ZeroedPart f old at n now r → length old ≤ length now
ZeroedPart_longer f old at n now r z =
    ⊎_elim (λ (some : 0 < n). (z.some some).written.no_shorter) (λ (none : n ≤ 0). let e = z.none (omega arith) in omega (arith, ap length e.1)) (cases_lt 0 n)
