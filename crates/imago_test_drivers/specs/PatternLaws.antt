-- SPDX-License-Identifier: MIT
use Rattle.std.specs.Prelude.{◌≡◌, ℕ, ◌<◌, ◌≤◌, Bool, true, false, nat_lt, refl}
use Rattle.std.proofs.Common.{arith, sym, ◌∙◌, ⊎_elim}
use Rattle.std.proofs.lemmas.Bool.{cases_lt}
use Rattle.std.proofs.lemmas.Bool.Decides.{nat_tests}
use Rattle.imago_storage.specs.declared.error.Error.{Error}
use Rattle.imago_storage.specs.declared.error.Error.TheVariants as E
use Rattle.imago_test_drivers.specs.declared.pattern.Kind.{Kind}
use Rattle.imago_drivers.specs.Operation.{Operation, Read}
use Rattle.imago_drivers.specs.Place.{Value, Byte, Unreadable, Place, Stored, Special, Lower, Refused}
use Rattle.imago_drivers.specs.Place.{End}
use Rattle.imago_drivers.specs.Laws.{IsLawful, AreCauses, CauseBound}
use Rattle.imago_test_drivers.specs.Pattern.{pattern_at, pattern_place, pattern_byte, pattern_cause}
use Rattle.imago_test_drivers.specs.Pattern.{pattern_view, is_readable, takes_backing}

pub pattern_in : (kind : Kind) (size p : ℕ) → p < size → pattern_place kind size p
    ≡ pattern_at kind p
pattern_in kind size p h = let t : nat_lt p size ≡ true = grind (arith, nat_tests) in rw t refl

pub pattern_out : (kind : Kind) (size p : ℕ) → size ≤ p → pattern_place kind size p ≡ End
pattern_out kind size p h = let t : nat_lt p size ≡ false = grind (arith, nat_tests) in rw t refl

never_end : (kind : Kind) (p : ℕ) → pattern_at kind p ≡ End → ⊥
never_end Kind.Zeroes p e = let z : ⊥ = cc in z
never_end (Kind.Special b r) p e = let z : ⊥ = cc in z
never_end (Kind.Below w) p e = let z : ⊥ = cc in z

never_stored : (kind : Kind) (p b s o : ℕ) (w : Bool) → pattern_at kind p ≡ Stored b s o w → ⊥
never_stored Kind.Zeroes p b s o w e = let z : ⊥ = cc in z
never_stored (Kind.Special c r) p b s o w e = let z : ⊥ = cc in z
never_stored (Kind.Below v) p b s o w e = let z : ⊥ = cc in z

never_refused : (kind : Kind) (p : ℕ) (r : Error) → pattern_at kind p ≡ Refused r → ⊥
never_refused Kind.Zeroes p r e = let z : ⊥ = cc in z
never_refused (Kind.Special c v) p r e = let z : ⊥ = cc in z
never_refused (Kind.Below v) p r e = let z : ⊥ = cc in z

special_is : (kind : Kind) (p : ℕ) (b : Value) (o : ℕ) → pattern_at kind p ≡ Special b o
    → Byte (pattern_byte kind) ≡ b
special_is Kind.Zeroes p b o e = let z : ⊥ = cc in absurd z
special_is (Kind.Special c v) p b o e = let x : Byte c ≡ b = cc in x
special_is (Kind.Below v) p b o e = let z : ⊥ = cc in absurd z

never_faulty : (kind : Kind) (p o : ℕ) (e : Error) → pattern_at kind p ≡ Special (Unreadable e) o
    → ⊥
never_faulty kind p o e h = let x = special_is kind p (Unreadable e) o h in let z : ⊥ = cc in z

lower_is : (kind : Kind) (p q : ℕ) (w : Bool) → pattern_at kind p ≡ Lower q w
    → takes_backing kind ≡ true
lower_is Kind.Zeroes p q w e = let z : ⊥ = cc in absurd z
lower_is (Kind.Special c v) p q w e = let z : ⊥ = cc in absurd z
lower_is (Kind.Below v) p q w e = refl

unreadable_special : (kind : Kind) (p : ℕ) → is_readable kind ≡ false → (b : Value)
    × (x : ℕ) × (pattern_at kind p ≡ Special b x)
unreadable_special Kind.Zeroes p e = let z : ⊥ = cc in absurd z
unreadable_special (Kind.Special c v) p e = (Byte c, p, refl)
unreadable_special (Kind.Below v) p e = let z : ⊥ = cc in absurd z

module _ (kind : Kind) (size : ℕ) where
  -- a place of the disk is of its kind, or an end
  pub pattern_only : (p : ℕ) (x : Place) (P : Type 0) → pattern_place kind size p ≡ x
      → (pattern_at kind p ≡ x → P) → (x ≡ End → P) → P
  pattern_only p x P e inside past = ⊎_elim
      (λ below. inside (sym (pattern_in kind size p below) ∙ e))
      (λ above. past (sym e ∙ pattern_out kind size p above)) (cases_lt p size)

  pub pattern_refused : (p : ℕ) (r : Error) → pattern_place kind size p ≡ Refused r → ⊥
  pattern_refused p r e = pattern_only p _ _ e (never_refused kind p r) (λ x. let z : ⊥ = cc in z)

  pub pattern_lawful : IsLawful (pattern_view kind size)
  pattern_lawful = record {
    ends = λ p q h e. ⊎_elim
        (λ below. absurd (never_end kind p (sym (pattern_in kind size p below) ∙ e)))
        (λ above. pattern_out kind size q (omega arith)) (cases_lt p size);
    bounded = pattern_out kind size;
    stored = λ p b s o w e. absurd
        (pattern_only p _ _ e (never_stored kind p b s o w) (λ x. let z : ⊥ = cc in z));
    special = λ p b o e. pattern_only p _ _ e (special_is kind p b o) (λ x. let z : ⊥ = cc in
        absurd z);
    faulty = λ p o e h. absurd (pattern_only p _ _ h (never_faulty kind p o e)
        (λ x. let z : ⊥ = cc in z));
    lower = λ p q w e. pattern_only p _ _ e (lower_is kind p q w) (λ x. let z : ⊥ = cc in absurd z);
    own = λ p q b c s o w e g. absurd (pattern_only p _ _ e (never_stored kind p b s o true)
        (λ x. let z : ⊥ = cc in z));
    refused = λ p r e. absurd (pattern_refused p r e);
    told = λ keeps. keeps;
    granularity = λ e. let z : ⊥ = cc in z;
    blocks = λ e. let z : ⊥ = cc in z;
  }

  only_read : (op : Operation) (o n : ℕ) (e : Error) (P : Operation → Error → Type 0)
      → pattern_cause kind size op o n e → (pattern_cause kind size Read o n Error.Unsupported
      → P Read Error.Unsupported) → P op e
  only_read Read o n E.Unsupported P c h = h c
  only_read op o n e P c h = absurd c

  pub pattern_causes : AreCauses (pattern_view kind size)
  pattern_causes = record {
    part = λ op o n q m e h k c. only_read op q m e (λ t r. pattern_cause kind size t o n r) c
        (λ u. (u.0, let i = u.1 in (i.0, (omega (arith, i.1), omega (arith, i.1)), i.2)));
    part_copied = λ op o n q m p h k c. c;
    bound = λ op o n e c. only_read op o n e (λ t r. CauseBound (pattern_view kind size) t o n r) c
        (λ u. let i = u.1 in let s = unreadable_special kind i.0 u.0 in
        (u.0, (i.0, i.1, (s.0, s.1, pattern_in kind size i.0 i.2 ∙ s.2))));
    lends = λ op o n p c. absurd c;
  }
