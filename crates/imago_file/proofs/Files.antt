-- SPDX-License-Identifier: MIT
use Rattle.std.proofs.Common.{◌≡◌, ℕ, ◌+◌, ◌≤◌, List, length, replicate, max, arith, refl, ap, sym, ◌∙◌, Option, Some, None, Ok, Err, is_some, inl}
use Rattle.std.specs.Prelude.{IsOk, OnOk, OnErr}
use Rattle.std.proofs.lemmas.List.{length-replicate, places, same_lists}
use Rattle.imago_storage.specs.Bytes.{splice, OldOrNew, WriteOutcome}
use Rattle.imago_storage.specs.declared.error.Error.{Error}
use Rattle.imago_storage.proofs.Splices.{length-splice, OldOrNew_old, zeroes_read_zero}
use Rattle.imago_file.specs.FileCalls.{Answer}
use Rattle.imago_file.specs.Contents.{told_bytes, IsLong, spliced, sized, resized, IsCut, IsPartlyGrown}

pub told_length : (c : Option (List ℕ)) (len : ℕ) → IsLong c len → length (told_bytes c len) ≡ len
told_length None len l = length-replicate {A = ℕ} len 0
told_length (Some bytes) len l = l bytes refl

-- the length after a write is that of what is told
pub long_spliced : (c now : Option (List ℕ)) (len at n : ℕ) (new : List ℕ) → IsLong c len → now ≡ spliced c at new → n ≡ max len (at + length new) → IsLong now n
long_spliced None now len at n new l s e = λ x h. let z : ⊥ = cc in absurd z
long_spliced (Some bytes) now len at n new l s e = λ x h.
    let is : x ≡ splice bytes at new = cc in
    omega (arith, ap length is, length-splice bytes at new, l bytes refl, e)

outcome : (c : Option (List ℕ)) (len at : ℕ) (new : List ℕ) → IsLong c len
    → WriteOutcome {T = Unit {0}} (is_some c) (told_bytes c len) (splice (told_bytes c len) at new) (told_bytes (spliced c at new) (max len (at + length new))) (Ok tt)
outcome None len at new l =
    let was : length (replicate {A = ℕ} len 0) ≡ len = length-replicate {A = ℕ} len 0 in
    let is : length (replicate {A = ℕ} (max len (at + length new)) 0) ≡ max len (at + length new) = length-replicate {A = ℕ} (max len (at + length new)) 0 in
    let target : length (splice (replicate {A = ℕ} len 0) at new) ≡ max (length (replicate {A = ℕ} len 0)) (at + length new) = length-splice (replicate {A = ℕ} len 0) at new in
    record {
      done = λ k. let z : ⊥ = cc in absurd z;
      len = omega (arith, was, is, target);
      refused = λ k. tt;
      no_shorter = omega (arith, was, is);
      no_longer = omega (arith, was, is, target);
    }
outcome (Some bytes) len at new l =
    let target : length (splice bytes at new) ≡ max (length bytes) (at + length new) = length-splice bytes at new in
    record { done = λ k. refl; len = refl; refused = λ k. tt; no_shorter = omega (arith, target); no_longer = omega arith }

pub file_written : (c now : Option (List ℕ)) (len at n : ℕ) (new : List ℕ) → IsLong c len → now ≡ spliced c at new → n ≡ max len (at + length new)
    → WriteOutcome {T = Unit {0}} (is_some c) (told_bytes c len) (splice (told_bytes c len) at new) (told_bytes now n) (Ok tt)
file_written c now len at n new l s e = rw (s, e) (outcome c len at new l)

longer : (xs : List ℕ) (at : ℕ) (new : List ℕ) → length xs ≤ length (splice xs at new)
longer xs at new = omega (arith, length-splice xs at new)

-- a refusal that left what is told, and a length in between
pub file_kept : (c now : Option (List ℕ)) (len n at : ℕ) (new : List ℕ) → now ≡ c → len ≤ n → n ≤ max len (at + length new)
    → OldOrNew (told_bytes c len) (splice (told_bytes c len) at new) (told_bytes now n)
file_kept None now len n at new s least most =
    let was : length (replicate {A = ℕ} len 0) ≡ len = length-replicate {A = ℕ} len 0 in
    let is : length (replicate {A = ℕ} n 0) ≡ n = length-replicate {A = ℕ} n 0 in
    let target : length (splice (replicate {A = ℕ} len 0) at new) ≡ max (length (replicate {A = ℕ} len 0)) (at + length new) = length-splice (replicate {A = ℕ} len 0) at new in
    rw s (record {
      each = λ p. inl (zeroes_read_zero n p ∙ sym (zeroes_read_zero len p));
      no_shorter = omega (arith, was, is, least);
      no_longer = omega (arith, was, is, target, most);
    })
file_kept (Some bytes) now len n at new s least most = rw s (OldOrNew_old bytes (splice bytes at new) (longer bytes at new))

pub file_refused : (c now : Option (List ℕ)) (len n at : ℕ) (new : List ℕ) (e : Error) → now ≡ c → len ≤ n → n ≤ max len (at + length new)
    → WriteOutcome {T = Unit {0}} (is_some c) (told_bytes c len) (splice (told_bytes c len) at new) (told_bytes now n) (Err e)
file_refused c now len n at new e s least most =
    let kept : OldOrNew (told_bytes c len) (splice (told_bytes c len) at new) (told_bytes now n) = file_kept c now len n at new s least most in
    record { done = λ k. tt; len = tt; refused = λ k. kept; no_shorter = kept.no_shorter; no_longer = kept.no_longer }

-- where nothing is written, the length stays
pub same_length : (len at : ℕ) (new : List ℕ) → len ≤ max len (at + length new)
same_length len at new = omega arith

zeroes_behind : (bytes : List ℕ) (at n : ℕ) → length bytes ≤ at → splice (sized bytes at) at (replicate n 0) ≡ sized bytes (at + n)
unfolding splice
zeroes_behind bytes at n h = same_lists _ _ (grind (arith, places, h)) (λ k d lt. grind (arith, places, h))

cut_back : (bytes : List ℕ) (len at : ℕ) → length bytes ≡ len → len ≤ at → sized (sized bytes at) len ≡ bytes
cut_back bytes len at is h = same_lists _ _ (grind (arith, places, is, h)) (λ k d lt. grind (arith, places, is, h))

-- a length that was set is that of what is told
pub long_resized : (c now : Option (List ℕ)) (n : ℕ) → now ≡ resized c n → IsLong now n
long_resized None now n s = λ x h. let z : ⊥ = cc in absurd z
long_resized (Some bytes) now n s = λ x h.
    let is : x ≡ sized bytes n = cc in
    rw is (grind (arith, places))

pub resized_same : (c : Option (List ℕ)) (len : ℕ) → IsLong c len → c ≡ resized c len
resized_same None len l = refl
resized_same (Some bytes) len l =
    let is : length bytes ≡ len = l bytes refl in
    ap Some (same_lists bytes (sized bytes len) (grind (arith, places, is)) (λ k d h. grind (arith, places, is)))

-- zeroes written at the end of a growth by zeroes
pub resized_more : (c mid now : Option (List ℕ)) (len at n : ℕ) → IsLong c len → len ≤ at → mid ≡ resized c at → now ≡ spliced mid at (replicate n 0)
    → now ≡ resized c (at + n)
resized_more None mid now len at n l h m s = rw (s, m) refl
resized_more (Some bytes) mid now len at n l h m s =
    let is : length bytes ≡ len = l bytes refl in
    rw (s, m) (ap Some (zeroes_behind bytes at n (omega (arith, is, h))))

-- a growth that is cut back
pub resized_back : (c mid now : Option (List ℕ)) (len at : ℕ) → IsLong c len → len ≤ at → mid ≡ resized c at → now ≡ resized mid len → now ≡ c
resized_back None mid now len at l h m s = rw (s, m) refl
resized_back (Some bytes) mid now len at l h m s =
    let is : length bytes ≡ len = l bytes refl in
    rw (s, m) (ap Some (cut_back bytes len at is h))

sized_length : (bytes : List ℕ) (n : ℕ) → length (sized bytes n) ≡ n
sized_length bytes n = grind (arith, places)

-- a growth that is cut back, or a cut that is refused, which happens to no file that is told
pub cut_restores : (c mid now : Option (List ℕ)) (len : ℕ) (r : Answer) → IsLong c len → IsPartlyGrown c len mid
    → OnOk r (now ≡ resized mid len) → OnErr r (now ≡ mid) → IsCut mid len r → now ≡ c
cut_restores c mid now len (Ok t) l p made kept cut = resized_back c mid now len p.0 l p.1 p.2 made
cut_restores None mid now len (Err e) l p made kept cut = kept ∙ p.2
cut_restores (Some bytes) mid now len (Err e) l p made kept cut =
    let never : IsOk {T = Unit {0}} (Err e) = cut (sized bytes p.0) p.2 (rw (sized_length bytes p.0) p.1) in
    let z : ⊥ = cc in
    absurd z

-- the same, wherever the growth was refused
pub refused_restores : (c mid now : Option (List ℕ)) (len : ℕ) (growth r : Answer) → IsLong c len → OnErr growth (IsPartlyGrown c len mid)
    → OnOk r (now ≡ resized mid len) → OnErr r (now ≡ mid) → IsCut mid len r → OnErr growth (now ≡ c)
refused_restores c mid now len (Ok t) r l p made kept cut = tt
refused_restores c mid now len (Err e) r l p made kept cut = cut_restores c mid now len r l p made kept cut
