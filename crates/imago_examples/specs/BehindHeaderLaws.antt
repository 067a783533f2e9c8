-- SPDX-License-Identifier: MIT
use Rattle.std.specs.Prelude.{◌≡◌, ℕ, ◌+◌, ◌<◌, ◌≤◌, Bool, true, false, List, slice_index, nat_lt}
use Rattle.std.specs.Prelude.{refl}
use Rattle.std.proofs.Common.{arith, sym, ◌∙◌, ⊎_elim}
use Rattle.std.proofs.lemmas.Bool.{cases_lt}
use Rattle.std.proofs.lemmas.Bool.Decides.{nat_tests}
use Rattle.imago.specs.DeclaredError.{Error}
use Rattle.imago.specs.Features.{Features, AreLawful}
use Rattle.imago.specs.Operation.{Operation, Read}
use Rattle.imago.specs.DeclaredError.TheVariants as E
use Rattle.imago.specs.Place.{Place, Stored, Special, Lower, Refused, End}
use Rattle.imago.specs.Laws.{IsLawful, AreCauses, CauseBound}
use Rattle.imago_examples.specs.BehindHeader.{behind_place, behind_cause, behind_header_view}

pub behind_in : (skip size : ℕ) (bytes : List ℕ) (p : ℕ) → p < size → behind_place skip size bytes p
    ≡ Stored (slice_index bytes (skip + p)) 0 (skip + p) false
behind_in skip size bytes p h = let t : nat_lt p size ≡ true = grind (arith, nat_tests) in rw t refl

pub behind_out : (skip size : ℕ) (bytes : List ℕ) (p : ℕ) → size ≤ p
    → behind_place skip size bytes p ≡ End
behind_out skip size bytes p h = let t : nat_lt p size ≡ false = grind (arith, nat_tests) in
    rw t refl

module _ (skip size : ℕ) (bytes : List ℕ) where
  only : (p : ℕ) (x : Place) (P : Type 0) → behind_place skip size bytes p ≡ x
      → (Stored (slice_index bytes (skip + p)) 0 (skip + p) false ≡ x → P) → (x ≡ End → P) → P
  only p x P e inside past = ⊎_elim (λ below. inside (sym (behind_in skip size bytes p below) ∙ e))
      (λ above. past (sym e ∙ behind_out skip size bytes p above)) (cases_lt p size)

  ends_of : (p q : ℕ) → p ≤ q → behind_place skip size bytes p ≡ End
      → behind_place skip size bytes q ≡ End
  ends_of p q h e = ⊎_elim
      (λ below. let x = behind_in skip size bytes p below in let z : ⊥ = cc in absurd z)
      (λ above. behind_out skip size bytes q (omega arith))
      (cases_lt p size)

  stored_of : (p b s o : ℕ) (w : Bool) → behind_place skip size bytes p ≡ Stored b s o w → (s < 1)
      × (slice_index bytes o ≡ b)
  stored_of p b s o w e = only p (Stored b s o w) ((s < 1) × (slice_index bytes o ≡ b)) e
      (λ x. let i : s ≡ 0 = cc in let j : skip + p ≡ o = cc in let k : slice_index bytes (skip + p)
      ≡ b = cc in let m : slice_index bytes o ≡ b = rw j at k in (omega (arith, i), m))
      (λ x. let z : ⊥ = cc in absurd z)

pub behind_header_lawful : (f : Features) (faults : ℕ) (bytes : List ℕ) (skip size : ℕ)
    → AreLawful f → IsLawful (behind_header_view f faults bytes skip size)
behind_header_lawful f faults bytes skip size lawful = record {
  ends = ends_of skip size bytes;
  bounded = behind_out skip size bytes;
  stored = stored_of skip size bytes;
  special = λ p b o e. absurd (only skip size bytes p _ _ e (λ x. let z : ⊥ = cc in z)
      (λ x. let z : ⊥ = cc in z));
  faulty = λ p o r e. absurd (only skip size bytes p _ _ e (λ x. let z : ⊥ = cc in z)
      (λ x. let z : ⊥ = cc in z));
  lower = λ p q w e. absurd
      (only skip size bytes p _ _ e (λ x. let z : ⊥ = cc in z) (λ x. let z : ⊥ = cc in z));
  own = λ p q b c s o w e g. absurd
      (only skip size bytes p _ _ e (λ x. let z : ⊥ = cc in z) (λ x. let z : ⊥ = cc in z));
  refused = λ p r e. absurd (only skip size bytes p _ _ e (λ x. let z : ⊥ = cc in z)
      (λ x. let z : ⊥ = cc in z));
  told = lawful.told;
  granularity = λ e. let z : ⊥ = cc in z;
  blocks = λ e. let z : ⊥ = cc in z;
}

only_read : (op : Operation) (o n : ℕ) (e : Error) (P : Operation → Error → Type 0)
    → behind_cause op o n e → P Read Error.WrapAround → P op e
only_read Read o n E.WrapAround P c h = h
only_read op o n e P c h = absurd c

pub behind_header_causes : (f : Features) (faults : ℕ) (bytes : List ℕ) (skip size : ℕ)
    → AreCauses (behind_header_view f faults bytes skip size)
behind_header_causes f faults bytes skip size = record {
  part = λ op o n q m e h k c. only_read op q m e (λ t r. behind_cause t o n r) c tt;
  part_copied = λ op o n q m p h k c. c;
  bound = λ op o n e c. only_read op o n e
      (λ t r. CauseBound (behind_header_view f faults bytes skip size) t o n r) c tt;
  lends = λ op o n p c. absurd c;
}
