-- SPDX-License-Identifier: MIT
use Rattle.std.specs.Prelude.{◌≡◌, ℕ, ◌<◌, ◌≤◌, Bool, true, false, List, slice_index, nat_lt, refl}
use Rattle.std.proofs.Common.{arith, sym, ◌∙◌, ⊎_elim}
use Rattle.std.proofs.lemmas.Bool.{cases_lt}
use Rattle.std.proofs.lemmas.Bool.Decides.{nat_tests}
use Rattle.imago_storage.specs.declared.error.Error.{Error}
use Rattle.imago_storage.specs.declared.error.Error.TheVariants as E
use Rattle.imago_storage.specs.Features.{Features, AreLawful}
use Rattle.imago_drivers.specs.Operation.{Operation, Map, Read, Write, Zero, DiscardToZero}
use Rattle.imago_drivers.specs.Operation.{DiscardToAny, DiscardToBacking, Grow, Shrink, Flush}
use Rattle.imago_drivers.specs.Place.{Value, Unreadable, Place, Stored, Special, Lower, Refused}
use Rattle.imago_drivers.specs.Place.{End}
use Rattle.imago_drivers.specs.Laws.{IsLawful, AreCauses, CauseBound}
use Rattle.imago_drivers.specs.Raw.{raw_place, raw_view, raw_cause, raw_offers}

pub raw_in : (size : ℕ) (bytes : List ℕ) (p : ℕ) → p < size → raw_place size bytes p
    ≡ Stored (slice_index bytes p) 0 p true
raw_in size bytes p h = let t : nat_lt p size ≡ true = grind (arith, nat_tests) in rw t refl

pub raw_out : (size : ℕ) (bytes : List ℕ) (p : ℕ) → size ≤ p → raw_place size bytes p ≡ End
raw_out size bytes p h = let t : nat_lt p size ≡ false = grind (arith, nat_tests) in rw t refl

module _ (size : ℕ) (bytes : List ℕ) where
  pub raw_ends : (p q : ℕ) → p ≤ q → raw_place size bytes p ≡ End → raw_place size bytes q ≡ End
  raw_ends p q h e = ⊎_elim
      (λ below. let x = raw_in size bytes p below in let z : ⊥ = cc in absurd z)
      (λ above. raw_out size bytes q (omega arith))
      (cases_lt p size)

  -- a stored place of a raw image is that of its own offset
  pub raw_stored : (p b s o : ℕ) (w : Bool) → raw_place size bytes p ≡ Stored b s o w → (p < size)
      × (s ≡ 0) × (p ≡ o) × (slice_index bytes p ≡ b) × (w ≡ true)
  raw_stored p b s o w e = ⊎_elim
      (λ below. let x = raw_in size bytes p below in let y : s ≡ 0 = cc in let z : p ≡ o = cc in
      let t : slice_index bytes p ≡ b = cc in let u : w ≡ true = cc in (below, y, z, t, u))
      (λ above. let x = raw_out size bytes p above in let z : ⊥ = cc in absurd z)
      (cases_lt p size)

  -- nothing else stands in a raw image
  pub raw_other : (p : ℕ) (x : Place) → raw_place size bytes p ≡ x
      → ((b : ℕ) → x ≡ Stored b 0 p true → ⊥) → (x ≡ End → ⊥) → ⊥
  raw_other p x e stored end = ⊎_elim
      (λ below. stored (slice_index bytes p) (sym e ∙ raw_in size bytes p below))
      (λ above. end (sym e ∙ raw_out size bytes p above))
      (cases_lt p size)

  pub raw_special : (p : ℕ) (v : Value) (o : ℕ) → raw_place size bytes p ≡ Special v o → ⊥
  raw_special p v o e = raw_other p (Special v o) e (λ c x. let z : ⊥ = cc in z)
      (λ x. let z : ⊥ = cc in z)

  pub raw_lower : (p q : ℕ) (w : Bool) → raw_place size bytes p ≡ Lower q w → ⊥
  raw_lower p q w e = raw_other p (Lower q w) e (λ c x. let z : ⊥ = cc in z) (λ x. let z : ⊥ = cc in
      z)

  pub raw_refused : (p : ℕ) (r : Error) → raw_place size bytes p ≡ Refused r → ⊥
  raw_refused p r e = raw_other p (Refused r) e (λ c x. let z : ⊥ = cc in z) (λ x. let z : ⊥ = cc in
      z)

pub raw_lawful : (f : Features) (count : ℕ) (bytes : List ℕ) (size : ℕ) (w : Bool)
    → AreLawful f → IsLawful (raw_view f count bytes size w)
raw_lawful f count bytes size w lawful = record {
  ends = raw_ends size bytes;
  bounded = raw_out size bytes;
  stored = λ p b s o v e. let x = raw_stored size bytes p b s o v e in
      let y : s < 1 = omega (arith, x.1) in let z : slice_index bytes o ≡ b = rw (x.2) at (x.3) in
      (y, z);
  special = λ p v o e. absurd (raw_special size bytes p v o e);
  faulty = λ p o e h. absurd (raw_special size bytes p (Unreadable e) o h);
  lower = λ p q v e. absurd (raw_lower size bytes p q v e);
  own = λ p q b c s o v e g. let x = raw_stored size bytes p b s o true e in
      let y = raw_stored size bytes q c s o v g in (x.2) ∙ sym (y.2);
  refused = λ p r e. absurd (raw_refused size bytes p r e);
  told = lawful.told;
  granularity = λ e. let z : ⊥ = cc in z;
  blocks = λ e. let z : ⊥ = cc in z;
}

-- a raw image's causes are a wrap-around and what isn't offered
pub raw_only : (f : Features) (size : ℕ) (op : Operation) (o n : ℕ) (e : Error) (P : Error → Type 0)
    → raw_cause f size op o n e
    → (raw_cause f size op o n Error.WrapAround → P Error.WrapAround)
    → (raw_cause f size op o n Error.Unsupported → P Error.Unsupported) → P e
raw_only f size op o n E.WrapAround P c w u = w c
raw_only f size op o n E.Unsupported P c w u = u c
raw_only f size op o n E.ReadOnly P c w u = absurd c
raw_only f size op o n E.BeyondDisk P c w u = absurd c
raw_only f size op o n E.RangeOverflow P c w u = absurd c
raw_only f size op o n E.InvalidData P c w u = absurd c
raw_only f size op o n E.NoAccess P c w u = absurd c
raw_only f size op o n E.Device P c w u = absurd c
raw_only f size op o n E.Memory P c w u = absurd c
raw_only f size op o n E.ForeignMapping P c w u = absurd c
raw_only f size op o n E.Denied P c w u = absurd c
raw_only f size op o n E.NotFound P c w u = absurd c

module _ (f : Features) (count : ℕ) (bytes : List ℕ) (size : ℕ) (w : Bool) where
  lacking : (op : Operation) (o n : ℕ) → raw_offers f op ≡ false
      → CauseBound (raw_view f count bytes size w) op o n Error.Unsupported
  lacking (Grow mode) o n c = (c, tt)
  lacking Shrink o n c = (c, tt)
  lacking Zero o n c = (c, tt)
  lacking DiscardToZero o n c = (c, tt)
  lacking DiscardToAny o n c = (c, tt)
  lacking DiscardToBacking o n c = (c, tt)
  lacking Map o n c = let z : ⊥ = cc in absurd z
  lacking Read o n c = let z : ⊥ = cc in absurd z
  lacking Write o n c = let z : ⊥ = cc in absurd z
  lacking Flush o n c = let z : ⊥ = cc in absurd z

  pub raw_causes : AreCauses (raw_view f count bytes size w)
  raw_causes = record {
    part = λ op o n q m e h k c. raw_only f size op q m e (λ r. raw_cause f size op o n r) c
        (λ p. record {
          from = p.from;
          count = p.count;
          above = omega (arith, p.above);
          below = omega (arith, p.above, p.below);
          wraps = p.wraps;
        })
        (λ u. u);
    part_copied = λ op o n q m p h k c. c;
    bound = λ op o n e c. raw_only f size op o n e
        (λ r. CauseBound (raw_view f count bytes size w) op o n r) c (λ p. tt)
        (λ u. lacking op o n u);
    lends = λ op o n p c. absurd c;
  }
