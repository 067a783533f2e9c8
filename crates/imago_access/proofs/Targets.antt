-- SPDX-License-Identifier: MIT
use Rattle.std.proofs.Common.{◌≡◌, ℕ, ◌+◌, ◌⊎◌, Bool, inl, inr, ⊎_elim, refl, ap, ◌∙◌}
use Rattle.imago_storage.specs.declared.error.Error.{Error}
use Rattle.imago_drivers.specs.Laws.{IsLawful}
use Rattle.imago_drivers.specs.Place.{Value, Byte, Unreadable, Place, Stored, Zeroed, Special, Lower, Refused, End, shown}
use Rattle.imago_drivers.specs.View.{View}
use Rattle.imago_access.specs.declared.access.FormatAccess.{FormatAccess, FormatAccess', Held-FormatAccess-backing, None', Some'}
use Rattle.imago_access.specs.declared.mapping.Mapping.{Mapping}
use Rattle.imago_access.specs.declared.mapping.Mapping.TheVariants as M
use Rattle.imago_access.specs.Chain.{disk_value, value_below}
use Rattle.imago_access.specs.Target.{Target, target, target_below, followed}
use Rattle.imago_access.specs.Resolved.{LeadsTo}
use Rattle.imago_access.specs.Histories.{IsMappedTo}

followed_shows : (below : ℕ → Value) (leads : ℕ → Target) → ((q : ℕ) → below q ≡ shown (λ (z : ℕ). Byte 0) (leads q).place) → (pl : Place) → shown below pl ≡ shown (λ (z : ℕ). Byte 0) (followed leads pl).place
followed_shows below leads h (Lower q w) = h q
followed_shows below leads h (Stored b s f w) = refl
followed_shows below leads h (Zeroed e) = refl
followed_shows below leads h (Special b f) = refl
followed_shows below leads h (Refused e) = refl
followed_shows below leads h End = refl

module _ {D St : Type 0} (view : D → View St) where
  mutual
    -- an image shows what stands where an offset leads
    pub target_shows : (x : FormatAccess D) (p : ℕ) → disk_value view x p ≡ shown (λ (z : ℕ). Byte 0) (target view x p).place
    target_shows (FormatAccess' below inner) p = followed_shows (value_below view below) (target_below view below) (target_below_shows below) ((view inner).place p)

    target_below_shows : (b : Held-FormatAccess-backing D) (q : ℕ) → value_below view b q ≡ shown (λ (z : ℕ). Byte 0) (target_below view b q).place
    target_below_shows None' q = refl
    target_below_shows (Some' k x) q = target_shows x q

-- special bytes that can't be read are invalid data, wherever they stand
abbrev pub IsFaultOf : Place → Type 0
IsFaultOf place = (o : ℕ) (e : Error) → place ≡ Special (Unreadable e) o → e ≡ Error.InvalidData

followed_faulty : (leads : ℕ → Target) → ((q : ℕ) → IsFaultOf (leads q).place) → (pl : Place) → IsFaultOf pl → IsFaultOf (followed leads pl).place
followed_faulty leads below (Lower q w) own = below q
followed_faulty leads below (Stored b s f w) own = own
followed_faulty leads below (Zeroed e) own = own
followed_faulty leads below (Special b f) own = own
followed_faulty leads below (Refused e) own = own
followed_faulty leads below End own = own

module _ {D St : Type 0} (view : D → View St) (lawful : (d : D) → IsLawful (view d)) where
  mutual
    pub target_faulty : (x : FormatAccess D) (p : ℕ) → IsFaultOf (target view x p).place
    target_faulty (FormatAccess' below inner) p = followed_faulty (target_below view below) (target_below_faulty below) ((view inner).place p) ((lawful inner).faulty p)

    target_below_faulty : (b : Held-FormatAccess-backing D) (q : ℕ) → IsFaultOf (target_below view b q).place
    target_below_faulty None' q = λ o e h. let z : ⊥ = cc in absurd z
    target_below_faulty (Some' k x) q = target_faulty x q

-- what a mapping names, as a value
pub zero_value : (explicit : Bool) (i : ℕ) (t : Target) (v : Value) → v ≡ shown (λ (z : ℕ). Byte 0) t.place → LeadsTo (M.Zero explicit) i t → v ≡ Byte 0
zero_value explicit i t v e h = ⊎_elim
    (λ top. e ∙ ap (shown (λ (z : ℕ). Byte 0)) top.0)
    (λ deep. ⊎_elim (λ zeroed. e ∙ ap (shown (λ (z : ℕ). Byte 0)) zeroed.1) (λ end. e ∙ ap (shown (λ (z : ℕ). Byte 0)) end.0) deep)
    h

special_value : (b : Value) (place : Place) (o : ℕ) (v : Value) → v ≡ shown (λ (z : ℕ). Byte 0) place → place ≡ Special b o → ((e : Error) → b ≡ Unreadable e → e ≡ Error.InvalidData)
    → ((x : ℕ) × (v ≡ Byte x)) ⊎ (v ≡ Unreadable Error.InvalidData)
special_value (Byte x) place o v e h fault = inl (x, e ∙ ap (shown (λ (z : ℕ). Byte 0)) h)
special_value (Unreadable r) place o v e h fault = inr (e ∙ ap (shown (λ (z : ℕ). Byte 0)) h ∙ ap Unreadable (fault r refl))

pub mapped_value : (m : Mapping) (i : ℕ) (t : Target) (v : Value) → IsFaultOf t.place → v ≡ shown (λ (z : ℕ). Byte 0) t.place → LeadsTo m i t → IsMappedTo m v
mapped_value (M.Raw layer s f w) i t v fault e h = (h.1.0, e ∙ ap (shown (λ (z : ℕ). Byte 0)) h.1.2)
mapped_value (M.Special layer f) i t v fault e h = special_value h.1.0 t.place (f + i) v e h.1.1 (λ x k. fault (f + i) x (h.1.1 ∙ ap (λ (b : Value). Special b (f + i)) k))
mapped_value (M.Zero explicit) i t v fault e h = zero_value explicit i t v e h
mapped_value M.Eof i t v fault e h = absurd h
