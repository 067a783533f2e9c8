-- SPDX-License-Identifier: MIT
use Rattle.std.specs.Prelude.{◌≡◌, ◌≢◌, max, ℕ, ◌<◌, ◌≤◌, Bool, true, false, List, nat_lt, refl}
use Rattle.std.specs.Prelude.{Option}
use Rattle.std.proofs.Common.{arith, sym, ◌∙◌, ⊎_elim}
use Rattle.std.proofs.lemmas.Bool.{cases_lt}
use Rattle.std.proofs.lemmas.Bool.Decides.{nat_tests}
use Rattle.imago_storage.specs.declared.error.Error.{Error}
use Rattle.imago_storage.specs.declared.error.Error.TheVariants as E
use Rattle.imago_storage.specs.Features.{Features, AreLawful}
use Rattle.imago_test_drivers.specs.declared.copy_once.Waiting.{Waiting}
use Rattle.imago_drivers.specs.Operation.{Operation, Map, Read, Write, Zero, DiscardToZero}
use Rattle.imago_drivers.specs.Operation.{DiscardToAny, DiscardToBacking, Grow, Shrink, Flush}
use Rattle.imago_drivers.specs.Place.{Place, Lower, End}
use Rattle.imago_drivers.specs.Laws.{IsLawful, AreCauses, CauseBound}
use Rattle.imago_drivers.specs.RawLaws.{raw_lawful}
use Rattle.imago_test_drivers.specs.CopyOnce.{copy_place, copy_view, copy_cause, copy_offers}
use Rattle.imago_test_drivers.specs.CopyOnce.{copy_copies}

pub lower_in : (size : ℕ) (bytes : List ℕ) (p : ℕ) → p < size → copy_place false size bytes p
    ≡ Lower p false
lower_in size bytes p h = let t : nat_lt p size ≡ true = grind (arith, nat_tests) in rw t refl

pub lower_out : (size : ℕ) (bytes : List ℕ) (p : ℕ) → size ≤ p → copy_place false size bytes p ≡ End
lower_out size bytes p h = let t : nat_lt p size ≡ false = grind (arith, nat_tests) in rw t refl

module _ (size : ℕ) (bytes : List ℕ) where
  -- before the copy a place leads to the layer below or is an end
  pub lower_only : (p : ℕ) (x : Place) → copy_place false size bytes p ≡ x → (x ≡ Lower p false → ⊥)
      → (x ≡ End → ⊥) → ⊥
  lower_only p x e lower end = ⊎_elim (λ below. lower (sym e ∙ lower_in size bytes p below))
      (λ above. end (sym e ∙ lower_out size bytes p above)) (cases_lt p size)

  pub lower_ends : (p q : ℕ) → p ≤ q → copy_place false size bytes p ≡ End
      → copy_place false size bytes q ≡ End
  lower_ends p q h e = ⊎_elim (λ below. let x = lower_in size bytes p below in let z : ⊥ = cc in
      absurd z) (λ above. lower_out size bytes q (omega arith)) (cases_lt p size)

some_block : (size : ℕ) → max size 1 ≢ 0
some_block size e = omega (arith, e)

pub copy_lawful : (f : Features) (count : ℕ) (bytes : List ℕ) (size : ℕ) (copied : Bool)
    (w : Option Waiting) → AreLawful f → IsLawful (copy_view f count bytes size copied w)
copy_lawful f count bytes size true w l = let r = raw_lawful f count bytes size true l in record {
  ends = r.ends;
  bounded = r.bounded;
  stored = r.stored;
  special = r.special;
  faulty = r.faulty;
  lower = λ p q v e. refl;
  own = r.own;
  refused = r.refused;
  told = l.told;
  granularity = r.granularity;
  blocks = some_block size;
}
copy_lawful f count bytes size false w l = record {
  ends = lower_ends size bytes;
  bounded = lower_out size bytes;
  stored = λ p b s o v e. absurd (lower_only size bytes p _ e (λ x. let z : ⊥ = cc in z)
      (λ x. let z : ⊥ = cc in z));
  special = λ p b o e. absurd (lower_only size bytes p _ e (λ x. let z : ⊥ = cc in z)
      (λ x. let z : ⊥ = cc in z));
  faulty = λ p o e h. absurd (lower_only size bytes p _ h (λ x. let z : ⊥ = cc in z)
      (λ x. let z : ⊥ = cc in z));
  lower = λ p q v e. refl;
  own = λ p q b c s o v e g. absurd (lower_only size bytes p _ e (λ x. let z : ⊥ = cc in z)
      (λ x. let z : ⊥ = cc in z));
  refused = λ p r e. absurd (lower_only size bytes p _ e (λ x. let z : ⊥ = cc in z)
      (λ x. let z : ⊥ = cc in z));
  told = l.told;
  granularity = λ e. let z : ⊥ = cc in z;
  blocks = some_block size;
}

copy_only : (op : Operation) (o n : ℕ) (e : Error) (P : Error → Type 0) → copy_cause op o n e
    → P Error.WrapAround → (copy_offers op ≡ false → P Error.Unsupported) → P e
copy_only op o n E.WrapAround P c w u = w
copy_only op o n E.Unsupported P c w u = u c
copy_only op o n E.ReadOnly P c w u = absurd c
copy_only op o n E.BeyondDisk P c w u = absurd c
copy_only op o n E.RangeOverflow P c w u = absurd c
copy_only op o n E.InvalidData P c w u = absurd c
copy_only op o n E.NoAccess P c w u = absurd c
copy_only op o n E.Device P c w u = absurd c
copy_only op o n E.Memory P c w u = absurd c
copy_only op o n E.ForeignMapping P c w u = absurd c
copy_only op o n E.Denied P c w u = absurd c
copy_only op o n E.NotFound P c w u = absurd c

-- what a copy reads of the layer below doesn't hang on the range
copied_whole : (copied : Bool) (size : ℕ) (op : Operation) (o n q m p : ℕ)
    → copy_copies copied size op q m p → copy_copies copied size op o n p
copied_whole copied size Write o n q m p c = c
copied_whole copied size Map o n q m p c = c
copied_whole copied size Read o n q m p c = c
copied_whole copied size Zero o n q m p c = c
copied_whole copied size DiscardToZero o n q m p c = c
copied_whole copied size DiscardToAny o n q m p c = c
copied_whole copied size DiscardToBacking o n q m p c = c
copied_whole copied size (Grow mode) o n q m p c = c
copied_whole copied size Shrink o n q m p c = c
copied_whole copied size Flush o n q m p c = c

module _ (f : Features) (count : ℕ) (bytes : List ℕ) (size : ℕ) (copied : Bool) (w : Option Waiting)
  where
    lacking : (op : Operation) (o n : ℕ) → copy_offers op ≡ false
        → CauseBound (copy_view f count bytes size copied w) op o n Error.Unsupported
    lacking (Grow mode) o n c = (c, tt)
    lacking Shrink o n c = (c, tt)
    lacking Zero o n c = (c, tt)
    lacking DiscardToZero o n c = (c, tt)
    lacking DiscardToAny o n c = (c, tt)
    lacking DiscardToBacking o n c = (c, tt)
    lacking Map o n c = let z : ⊥ = cc in absurd z
    lacking Read o n c = let z : ⊥ = cc in absurd z
    lacking Write o n c = let z : ⊥ = cc in absurd z
    lacking Flush o n c = let z : ⊥ = cc in absurd z

    pub copy_causes : AreCauses (copy_view f count bytes size copied w)
    copy_causes = record {
      part = λ op o n q m e h k c. copy_only op q m e (λ r. copy_cause op o n r) c tt (λ u. u);
      part_copied = λ op o n q m p h k c. copied_whole copied size op o n q m p c;
      bound = λ op o n e c. copy_only op o n e
          (λ r. CauseBound (copy_view f count bytes size copied w) op o n r) c tt
          (λ u. lacking op o n u);
      lends = λ op o n p c. refl;
    }
