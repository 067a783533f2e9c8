-- Extents that are opened one after the other.
-- SPDX-License-Identifier: MIT
use Rattle.std.proofs.Common.{◌≡◌, ℕ, zero, suc, ◌<◌, Bool, List, [], ◌∷◌, ◌++◌, length, map, take, get_or, refl, sym, ap, ◌∙◌, append_assoc, arith, inl, inr, ⊎_elim, Result, Ok, Err, IfOk, IfErr}
use Rattle.std.proofs.lemmas.List.{append-nil, length-append}
use Rattle.imago_storage.specs.declared.error.Error.{Error}
use Rattle.imago_storage.specs.Features.{Features}
use Rattle.imago_drivers.specs.Opening.{Opening}
use Rattle.imago_vmdk.specs.declared.line.Extent.{Extent}
use Rattle.imago_vmdk.specs.Line.{extent_with}
use Rattle.imago_vmdk.specs.Vmdk.{storages_of, storages_in}
use Rattle.imago_vmdk.specs.Opened.{Resolution, IsExtentOpened, IsExtentRefused, AreOpened, AreRefused}

module _ {N Gate S : Type 0} (opened : Opening Gate S) (resolved : Resolution N) (direct : Bool) where
  -- one extent more is opened
  pub opened_more : (es : List (Extent N)) (e : Extent N) (before between after : Gate) (storages own : List S) → AreOpened opened resolved direct es before between storages
      → IsExtentOpened opened resolved direct e between after own → AreOpened opened resolved direct (es ++ e ∷ []) before after (storages ++ own)
  opened_more [] e before between after storages own a h = (after, own, [], rw a.1 at h, (refl, refl), ap (λ s. s ++ own) a.0 ∙ sym (append-nil own))
  opened_more (x ∷ xs) e before between after storages own a h =
      (a.0, a.1, a.2 ++ own, a.3, opened_more xs e a.0 between after a.2 own a.4 h, ap (λ s. s ++ own) a.5 ∙ append_assoc a.1 a.2 own)

  -- the next extent isn't opened
  pub refused_here : (f : Features) (es : List (Extent N)) (i : ℕ) (e : Extent N) (before between after : Gate) (storages : List S) (r : Error) → i < length es → e ≡ get_or es i e
      → AreOpened opened resolved direct (take i es) before between storages → IsExtentRefused opened resolved direct f e between after r → AreRefused opened resolved direct f es before after r
  refused_here f [] i e before between after storages r some is a h = absurd (omega (arith, some))
  refused_here f (x ∷ xs) zero e before between after storages r some is a h = let same : e ≡ x = is in let at : between ≡ before = a.1 in inl (rw (same, at) at h)
  refused_here f (x ∷ xs) (suc i) e before between after storages r some is a h =
      inr (a.0, a.1, a.3, refused_here f xs i e a.0 between after a.2 r (omega (arith, some)) is a.4 h)

  one_counted : (e : Extent N) (before after : Gate) (own : List S) → IsExtentOpened opened resolved direct e before after own → length own ≡ storages_of e
  one_counted (Extent.Zero sectors) before after own h = rw h.0 refl
  one_counted (Extent.NoAccess sectors) before after own h = rw h.0 refl
  one_counted (Extent.Flat sectors name offset writable vmfs) before after own h = rw h.1.4 refl

  -- as many storages as there are FLAT extents
  pub all_counted : (es : List (Extent N)) (before after : Gate) (storages : List S) → AreOpened opened resolved direct es before after storages → length storages ≡ storages_in es
  all_counted [] before after storages a = rw a.0 refl
  all_counted (e ∷ es) before after storages a =
      rw (a.5, length-append a.1 a.2, one_counted e before a.0 a.1 a.3, all_counted es a.0 after a.2 a.4) refl

-- names under another form change nothing
module _ {N M Gate S : Type 0} (name : N → M) (opened : Opening Gate S) (resolved : Resolution M) (direct : Bool) where
  one_opened : (e : Extent N) (before after : Gate) (own : List S) → IsExtentOpened opened (λ n. resolved (name n)) direct e before after own → IsExtentOpened opened resolved direct (extent_with name e) before after own
  one_opened (Extent.Zero sectors) before after own h = h
  one_opened (Extent.NoAccess sectors) before after own h = h
  one_opened (Extent.Flat sectors n offset writable vmfs) before after own h = h

  pub all_opened : (es : List (Extent N)) (before after : Gate) (storages : List S) → AreOpened opened (λ n. resolved (name n)) direct es before after storages
      → AreOpened opened resolved direct (map (extent_with name) es) before after storages
  all_opened [] before after storages a = a
  all_opened (e ∷ es) before after storages a = (a.0, a.1, a.2, one_opened e before a.0 a.1 a.3, all_opened es a.0 after a.2 a.4, a.5)

  one_refused : (f : Features) (e : Extent N) (before after : Gate) (r : Error) → IsExtentRefused opened (λ n. resolved (name n)) direct f e before after r → IsExtentRefused opened resolved direct f (extent_with name e) before after r
  one_refused f (Extent.Zero sectors) before after r h = h
  one_refused f (Extent.NoAccess sectors) before after r h = h
  one_refused f (Extent.Flat sectors n offset writable vmfs) before after r h = h

  pub all_refused : (f : Features) (es : List (Extent N)) (before after : Gate) (r : Error) → AreRefused opened (λ n. resolved (name n)) direct f es before after r
      → AreRefused opened resolved direct f (map (extent_with name) es) before after r
  all_refused f [] before after r a = a
  all_refused f (e ∷ es) before after r a = ⊎_elim
      (λ h. inl (one_refused f e before after r h))
      (λ h. inr (h.0, h.1, one_opened e before h.0 h.1 h.2, all_refused f es h.0 after r h.3))
      a

  -- the same of what a function answers
  module _ {V : Type 0} (es : List (Extent N)) (before after : Gate) where
    pub answer_opened : (r : Result V Error) (items : V → List S) → IfOk r (λ v. AreOpened opened (λ n. resolved (name n)) direct es before after (items v)) → IfOk r (λ v. AreOpened opened resolved direct (map (extent_with name) es) before after (items v))
    answer_opened (Ok v) items a = all_opened es before after (items v) a
    answer_opened (Err e) items a = tt

    pub answer_counted : (r : Result V Error) (items : V → List S) → IfOk r (λ v. AreOpened opened (λ n. resolved (name n)) direct es before after (items v)) → IfOk r (λ v. length (items v) ≡ storages_in es)
    answer_counted (Ok v) items a = all_counted opened (λ n. resolved (name n)) direct es before after (items v) a
    answer_counted (Err e) items a = tt

    pub answer_refused : (f : Features) (r : Result V Error) → IfErr r (AreRefused opened (λ n. resolved (name n)) direct f es before after) → IfErr r (AreRefused opened resolved direct f (map (extent_with name) es) before after)
    answer_refused f (Ok v) a = tt
    answer_refused f (Err e) a = all_refused f es before after e a
