-- Header extensions, one after the other.
-- SPDX-License-Identifier: MIT
use Rattle.std.proofs.Common.{⊎_elim, inl, inr, zero, suc, ◌≡◌, ℕ, ◌+◌, ◌-◌, ◌<◌, ◌≤◌, true, false, nat_lt, nat_eq, min, List, Option, Some, None, Result, Ok, Err, refl, sym, ap, ◌∙◌, arith}
use Rattle.std.specs.Prelude.{if◌then◌else◌, IfSome, IsTrue, Bool}
use Rattle.std.specs.Int.{next_multiple_of}
use Rattle.std.proofs.lemmas.Bool.Decides.{nat_tests}
use Rattle.imago_storage.specs.declared.error.Error.{Error}
use Rattle.imago_storage.specs.declared.error.Error.TheVariants as E
use Rattle.imago_storage.specs.Features.{Features}
use Rattle.imago_drivers.specs.Reasons.{allowed}
use Rattle.imago_storage.specs.Bytes.{IsReadAt}
use Rattle.imago_qcow2.specs.Numbers.{be32, be64}
use Rattle.imago_qcow2.specs.Entry.{cluster_length}
use Rattle.imago_qcow2.specs.Header.{own_length}
use Rattle.imago_qcow2.specs.Opening.{read_reasons}
use Rattle.imago_qcow2.specs.Backing.{backing_format, format_by, format_from, extensions_end, format_of, extension_reasons, IsFormatRefusal}

-- where the last name of a format stands, behind an extension
abbrev then_found : Option (ℕ × ℕ) → ℕ → ℕ → ℕ → Option (ℕ × ℕ)
then_found found at kind count = if nat_eq kind backing_format then Some (at + 8, count) else found

either_inside : (here : Bool) (new found : Option (ℕ × ℕ)) (end : ℕ) → IfSome new (λ p. p.0 + p.1 ≤ end) → IfSome found (λ p. p.0 + p.1 ≤ end) → IfSome (if here then new else found) (λ p. p.0 + p.1 ≤ end)
either_inside true new found end a b = a
either_inside false new found end a b = b

-- it ends before the end
pub name_inside : (found : Option (ℕ × ℕ)) (at kind count end : ℕ) → at < end → 8 + count ≤ end - at → IfSome found (λ p. p.0 + p.1 ≤ end) → IfSome (then_found found at kind count) (λ p. p.0 + p.1 ≤ end)
name_inside found at kind count end below h inside =
    let new : at + 8 + count ≤ end = omega (arith, below, h) in
    either_inside (nat_eq kind backing_format) (Some (at + 8, count)) found end new inside

module _ (bytes : List ℕ) (end : ℕ) where
  abbrev next : ℕ → ℕ
  next at = at + (8 + next_multiple_of (be32 bytes (at + 4)) 8)

  abbrev here : Option (ℕ × ℕ) → ℕ → Option (ℕ × ℕ)
  here found at = then_found found at (be32 bytes at) (be32 bytes (at + 4))

  -- more steps than there are bytes change nothing
  steps_free : (a b : ℕ) (found : Option (ℕ × ℕ)) (at : ℕ) → end - at ≤ a → end - at ≤ b → format_by a bytes found at end ≡ format_by b bytes found at end
  steps_free zero zero found at h k = refl
  steps_free zero (suc b) found at h k = let t : nat_lt at end ≡ false = grind (arith, nat_tests) in rw t refl
  steps_free (suc a) zero found at h k = let t : nat_lt at end ≡ false = grind (arith, nat_tests) in rw t refl
  steps_free (suc a) (suc b) found at h k =
      ap (λ (x : Result (Option (ℕ × ℕ)) Error). if nat_lt at end then
      (if nat_lt (end - at) (8 + be32 bytes (at + 4)) then Err Error.InvalidData else
      (if nat_eq (be32 bytes at) 0 then Ok found else x))
      else Ok found)
      (steps_free a b (here found at) (next at) (omega (arith, h)) (omega (arith, k)))

  one_step : (found : Option (ℕ × ℕ)) (at : ℕ) → format_from bytes found at end ≡ format_by (suc (end - at)) bytes found at end
  unfolding format_from
  one_step found at = steps_free (end - at) (suc (end - at)) found at (omega arith) (omega arith)

  rest_steps : (found : Option (ℕ × ℕ)) (at : ℕ) → format_by (end - at) bytes found (next at) end ≡ format_from bytes found (next at) end
  unfolding format_from
  rest_steps found at = steps_free (end - at) (end - next at) found (next at) (omega arith) (omega arith)

  pub none_past : (found : Option (ℕ × ℕ)) (at : ℕ) → end ≤ at → format_from bytes found at end ≡ Ok found
  none_past found at h = let t : nat_lt at end ≡ false = grind (arith, nat_tests) in one_step found at ∙ rw t refl

  module _ (found : Option (ℕ × ℕ)) (at kind count : ℕ) (is_kind : kind ≡ be32 bytes at) (is_count : count ≡ be32 bytes (at + 4)) (below : at < end) where
    pub too_long : end - at < 8 + count → format_from bytes found at end ≡ Err Error.InvalidData
    too_long h =
        let t : nat_lt at end ≡ true = grind (arith, nat_tests) in
        let u : nat_lt (end - at) (8 + be32 bytes (at + 4)) ≡ true = grind (arith, nat_tests) in
        one_step found at ∙ rw (t, u) refl

    pub none_left : 8 + count ≤ end - at → kind ≡ 0 → format_from bytes found at end ≡ Ok found
    none_left h e =
        let t : nat_lt at end ≡ true = grind (arith, nat_tests) in
        let u : nat_lt (end - at) (8 + be32 bytes (at + 4)) ≡ false = grind (arith, nat_tests) in
        let v : nat_eq (be32 bytes at) 0 ≡ true = grind (arith, nat_tests) in
        one_step found at ∙ rw (t, u, v) refl

    pub goes_on : (now : Option (ℕ × ℕ)) (then_at : ℕ) → now ≡ then_found found at kind count → then_at ≡ at + (8 + next_multiple_of count 8) → 8 + count ≤ end - at → (kind ≡ 0 → ⊥) → format_from bytes now then_at end ≡ format_from bytes found at end
    goes_on now then_at is_now is h no_end =
        let t : nat_lt at end ≡ true = grind (arith, nat_tests) in
        let u : nat_lt (end - at) (8 + be32 bytes (at + 4)) ≡ false = grind (arith, nat_tests) in
        let v : nat_eq (be32 bytes at) 0 ≡ false = grind (arith, nat_tests, no_end) in
        let w : now ≡ here found at = is_now ∙ ap (λ (k : ℕ). then_found found at k count) is_kind ∙ ap (then_found found at (be32 bytes at)) is_count in
        let e : format_by (suc (end - at)) bytes found at end ≡ format_by (end - at) bytes (here found at) (next at) end = rw (t, u, v) refl in
        let f : format_from bytes found at end ≡ format_from bytes (here found at) (next at) end = one_step found at ∙ e ∙ rest_steps (here found at) at in
        let g : then_at ≡ next at = rw is_count at is in
        ap (λ x. format_from bytes now x end) g ∙ ap (λ x. format_from bytes x (next at) end) w ∙ sym f

-- a refused read of bytes of the first cluster is one of header extensions
pub inside_refused : (f : Features) (at n end : ℕ) (e : Error) → at + n ≤ end + 8 → allowed (read_reasons f at n) e → allowed (extension_reasons f end) e
inside_refused f at n end E.WrapAround h r = (refl, (at, n, h, r.1))
inside_refused f at n end E.Device h r = r
inside_refused f at n end E.Memory h r = r
inside_refused f at n end E.InvalidData h r = let z : ⊥ = cc (r.0) in absurd z
inside_refused f at n end E.Unsupported h r = let z : ⊥ = cc (r.0) in absurd z
inside_refused f at n end E.NoAccess h r = let z : ⊥ = cc (r.0) in absurd z
inside_refused f at n end E.ReadOnly h r = absurd r
inside_refused f at n end E.BeyondDisk h r = absurd r
inside_refused f at n end E.RangeOverflow h r = absurd r
inside_refused f at n end E.ForeignMapping h r = absurd r
inside_refused f at n end E.Denied h r = absurd r
inside_refused f at n end E.NotFound h r = absurd r

-- where the extensions stand, from what the image has of it
pub format_here : (bytes : List ℕ) (start end : ℕ) → start ≡ own_length bytes → end ≡ extensions_end bytes → format_from bytes None start end ≡ format_of bytes
unfolding format_of
format_here bytes start end a b = ap (λ x. format_from bytes None x end) a ∙ ap (format_from bytes None (own_length bytes)) b

-- extensions of a part of the first cluster are ones of it
wider : (f : Features) (end cluster : ℕ) (e : Error) → end ≤ cluster → allowed (extension_reasons f end) e → allowed (extension_reasons f cluster) e
wider f end cluster E.WrapAround h r = let y = r.1 in let inside = y.2 in (r.0, (y.0, y.1, omega (arith, inside, h), y.3))
wider f end cluster E.Device h r = r
wider f end cluster E.Memory h r = r
wider f end cluster E.InvalidData h r = let z : ⊥ = cc (r.0) in absurd z
wider f end cluster E.Unsupported h r = let z : ⊥ = cc (r.0) in absurd z
wider f end cluster E.NoAccess h r = let z : ⊥ = cc (r.0) in absurd z
wider f end cluster E.ReadOnly h r = absurd r
wider f end cluster E.BeyondDisk h r = absurd r
wider f end cluster E.RangeOverflow h r = absurd r
wider f end cluster E.ForeignMapping h r = absurd r
wider f end cluster E.Denied h r = absurd r
wider f end cluster E.NotFound h r = absurd r

-- why the format isn't found is why it isn't given
pub refusal_here : (f : Features) (bytes : List ℕ) (start end cluster : ℕ) (e : Error) → (IsTrue f.tells_bytes → start ≡ own_length bytes) → (IsTrue f.tells_bytes → end ≡ extensions_end bytes) → end ≤ cluster
    → IsFormatRefusal f end (format_from bytes None start end) e → IsFormatRefusal f cluster (format_of bytes) e
refusal_here f bytes start end cluster e a b inside h = ⊎_elim
    (λ x. inl (x.0, λ told. sym (format_here bytes start end (a told) (b told)) ∙ x.1 told))
    (λ x. inr (wider f end cluster e inside x))
    h

-- where the extensions end, by what the header says of the name
pub end_unnamed : (bytes : List ℕ) (name cluster : ℕ) → name ≡ be64 bytes 8 → cluster ≡ cluster_length bytes → name ≡ 0 → cluster ≡ extensions_end bytes
end_unnamed bytes name cluster is_name is_cluster none =
    let t : nat_eq (be64 bytes 8) 0 ≡ true = grind (arith, nat_tests) in rw t is_cluster

pub end_named : (bytes : List ℕ) (name cluster end : ℕ) → name ≡ be64 bytes 8 → cluster ≡ cluster_length bytes → (name ≡ 0 → ⊥) → end ≡ min cluster name → end ≡ extensions_end bytes
end_named bytes name cluster end is_name is_cluster some is =
    let t : nat_eq (be64 bytes 8) 0 ≡ false = grind (arith, nat_tests, some) in
    let e : end ≡ min (cluster_length bytes) (be64 bytes 8) = is ∙ ap (λ c. min c name) is_cluster ∙ ap (min (cluster_length bytes)) is_name in
    rw t e

-- the same bytes, by another name of where they were read
pub read_moved : (bytes buffer : List ℕ) (a b : ℕ) → a ≡ b → IsReadAt bytes a buffer → IsReadAt bytes b buffer
read_moved bytes buffer a b e r = rw (← e) r
