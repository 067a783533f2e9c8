-- SPDX-License-Identifier: MIT
use Rattle.std.proofs.Common.{◌≡◌, ℕ, ◌+◌, ◌-◌, ◌<◌, ◌≤◌, ◌⊎◌, inl, inr, ⊎_elim, Bool, List, Option, length, refl, sym, ap, ◌∙◌, subst, arith, max}
use Rattle.std.specs.Prelude.{slice_index}
use Rattle.std.proofs.lemmas.Bool.{cases_lt}
use Rattle.imago_storage.specs.declared.error.Error.{Error}
use Rattle.imago_drivers.specs.Operation.{Map, Read}
use Rattle.imago_drivers.specs.Place.{Value, Byte, Place, shown, own_values, HasValues}
use Rattle.imago_drivers.specs.View.{View}
use Rattle.imago_drivers.specs.Reasons.{allowed}
use Rattle.imago_drivers.specs.Laws.{IsLawful, AreCauses}
use Rattle.imago_drivers.specs.Done.{stored_read_reasons, special_read_reasons}
use Rattle.imago_drivers.specs.declared.mapping.ShallowMapping.{ShallowMapping}
use Rattle.imago_drivers.specs.declared.mapping.ShallowMapping.TheVariants as S
use Rattle.imago_access.specs.declared.access.FormatAccess.{FormatAccess}
use Rattle.imago_access.specs.declared.chain.Way.{Way}
use Rattle.imago_access.specs.Chain.{driver, backing, disk_value, chain_cause, chain_no_memory, may_take_memory, lent_image, read_reasons, inside_part}
use Rattle.imago_access.specs.ChainLaws.{chain_part}
use Rattle.imago_access.specs.Resolved.{chain_map_reasons}
use Rattle.imago_access.specs.Ways.{NamesOrEnds, IsBottom, HasLanded}
use Rattle.imago_access.specs.Named.{IsKnown, IsNamedAt, named_read_reasons, chunk_read_reasons}
use Rattle.imago_access.proofs.Chains.{value_out, reliable_here, cause_here, memory_here, memory_part, no_memory_here}
use Rattle.imago_access.proofs.Weaker.{IsWeaker, allowed_more}

-- the bytes of a storage, or special ones, are what the places show
pub stored_values : {St : Type 0} (v : View St) → IsLawful v → (s f : ℕ) (w : Bool) (at : ℕ) (buf : List ℕ) → ((k : ℕ) → k < length buf → slice_index buf k ≡ slice_index (v.stores.bytes s) (f + k)) → IsNamedAt v.place (S.Raw s f w) at (length buf) → HasValues (own_values v.place) at buf
stored_values v law s f w at buf h named k lt =
    let n = named k lt in
    ap (shown (λ (q : ℕ). Byte 0)) n.1 ∙ ap Byte (sym (law.stored (at + k) n.0 s (f + k) w n.1).1 ∙ sym (h k lt))

pub special_values : {St : Type 0} (v : View St) → IsLawful v → (f at : ℕ) (buf : List ℕ) → HasValues v.special f buf → IsNamedAt v.place (S.Special f) at (length buf) → HasValues (own_values v.place) at buf
special_values v law f at buf h named k lt =
    let n = named k lt in
    ap (shown (λ (q : ℕ). Byte 0)) n.1 ∙ sym (law.special (at + k) n.0 (f + k) n.1) ∙ h k lt

abbrev pub IsInStorage : ShallowMapping → Type 0
IsInStorage (S.Raw s f w) = Unit {0}
IsInStorage (S.Special f) = Unit {0}
IsInStorage _ = ⊥

zero_shown : (m : ShallowMapping) (i : ℕ) (pl : Place) → (IsInStorage m → ⊥) → NamesOrEnds m i pl → shown (λ (q : ℕ). Byte 0) pl ≡ Byte 0
zero_shown S.Eof i pl other h = ap (shown (λ (q : ℕ). Byte 0)) h
zero_shown (S.Zero e) i pl other h = ap (shown (λ (q : ℕ). Byte 0)) h
zero_shown (S.Indirect q w) i pl other h = ap (shown (λ (q : ℕ). Byte 0)) h
zero_shown (S.Raw s f w) i pl other h = absurd (other tt)
zero_shown (S.Special f) i pl other h = absurd (other tt)

pub zero_values : {St : Type 0} (v : View St) (m : ShallowMapping) → (IsInStorage m → ⊥) → (at : ℕ) (buf : List ℕ) → ((k : ℕ) → k < length buf → slice_index buf k ≡ 0) → IsNamedAt v.place m at (length buf) → HasValues (own_values v.place) at buf
zero_values v m other at buf h named k lt = zero_shown m k (v.place (at + k)) other (named k lt) ∙ ap Byte (sym (h k lt))

pub stored_refused : {St : Type 0} (v : View St) (s f : ℕ) (w : Bool) (n : ℕ) → IsWeaker (stored_read_reasons v s f n) (named_read_reasons v (S.Raw s f w) n)
stored_refused v s f w n = record {
  read_only = λ h. h;
  beyond_disk = λ h. h;
  range_overflow = λ h. h;
  cause = λ e h at named. h.1 at (λ i lt. let x = named i lt in (x.0, w, x.1));
  device = λ h. h;
  memory = λ h at named. h at (λ i lt. let x = named i lt in (x.0, w, x.1));
  foreign_mapping = λ h. h;
}

pub special_refused : {St : Type 0} (v : View St) (f n : ℕ) → IsWeaker (special_read_reasons v f n) (named_read_reasons v (S.Special f) n)
special_refused v f n = record {
  read_only = λ h. h;
  beyond_disk = λ h. h;
  range_overflow = λ h. h;
  cause = λ e h at named. h.1 at named;
  device = λ h. h;
  memory = λ h at named. h at named;
  foreign_mapping = λ h. h;
}

-- at the bottom of a way nothing below shows
bottom_shown : (below : ℕ → Value) (m : ShallowMapping) (i : ℕ) (pl : Place) → ((q : ℕ) (w : Bool) → m ≡ S.Indirect q w → below (q + i) ≡ Byte 0) → NamesOrEnds m i pl → shown below pl ≡ shown (λ (q : ℕ). Byte 0) pl
bottom_shown below S.Eof i pl none h = rw h refl
bottom_shown below (S.Zero e) i pl none h = rw h refl
bottom_shown below (S.Raw s f w) i pl none h = let e = h.1 in rw e refl
bottom_shown below (S.Special f) i pl none h = let e = h.1 in rw e refl
bottom_shown below (S.Indirect q w) i pl none h = rw h (none q w refl)

bottom_below : {D St : Type 0} (view : D → View St) (layer : FormatAccess D) (m : ShallowMapping) (q i : ℕ) (w : Bool) → IsBottom m layer → m ≡ S.Indirect q w → (lent_image view (backing layer)).at (q + i) ≡ Byte 0
bottom_below {D = D} view layer m q i w b e =
    let c = subst (λ (z : ShallowMapping). IsBottom z layer) e b in
    ap (λ (y : Option (FormatAccess D)). (lent_image view y).at (q + i)) c

landed_length : {D St : Type 0} (view : D → View St) (x : FormatAccess D) (o most : ℕ) (layer : FormatAccess D) (way : Way) (m : ShallowMapping) → HasLanded view x o most layer way m → 0 < most → 0 < way.length
landed_length view x o most layer way m h lt = ⊎_elim (λ (z : 0 < way.length). z) (λ (z : way.length ≤ 0). let e = h.leads.empty (omega arith) in absurd (omega arith)) (cases_lt 0 way.length)

module _ {D St : Type 0} (view : D → View St) (laws : (d : D) → IsLawful (view d)) (causes : (d : D) → AreCauses (view d)) (x : FormatAccess D) (o most : ℕ) (layer : FormatAccess D) (way : Way) (m : ShallowMapping) (h : HasLanded view x o most layer way m) where
  -- what the driver's own places show is what the image shows
  pub landed_values : (buf : List ℕ) → length buf ≡ way.length → HasValues (own_values (view (driver layer)).place) way.offset buf → HasValues (disk_value view x) o buf
  landed_values buf len own k lt =
      let below : k < way.length = omega arith in
      h.leads.shows k below
      ∙ ap (λ (f : ℕ → Value). f (way.offset + k)) (value_out view layer)
      ∙ bottom_shown (lent_image view (backing layer)).at m k ((view (driver layer)).place (way.offset + k)) (λ q w e. bottom_below view layer m q k w h.bottom e) (h.part.names k below)
      ∙ own k lt

  pub landed_named : IsNamedAt (view (driver layer)).place m way.offset way.length
  landed_named = h.part.names

  landed_weaker : 0 < most → IsWeaker (named_read_reasons (view (driver layer)) m way.length) (chunk_read_reasons view x o most)
  landed_weaker some = record {
    read_only = λ z. z;
    beyond_disk = λ z. z;
    range_overflow = λ z. z;
    cause = λ e c.
        let a : way.offset ≡ way.offset + 0 = omega arith in
        let b : o + 0 ≡ o = omega arith in
        let here = subst (λ (p : ℕ). chain_cause view layer Read p way.length e) a (cause_here view layer Read way.offset way.length e (c way.offset h.part.names)) in
        let up = subst (λ (p : ℕ). chain_cause view x Read p way.length e) b (h.leads.causes Read 0 way.length e (landed_length view x o most layer way m h some) (omega arith) here) in
        inl (chain_part view causes x Read o most o way.length e (omega arith) (omega (arith, h.leads.within)) up);
    device = λ z. h.leads.reliable (reliable_here view layer z);
    memory = λ c all. ⊎_elim
        (λ every. let w = h.leads.whole every in c way.offset h.part.names (no_memory_here view layer way.offset way.length w.1))
        (λ none.
        let a : way.offset ≡ way.offset + 0 = omega arith in
        let b : o + 0 ≡ o = omega arith in
        let lt = landed_length view x o most layer way m h some in
        let here = subst (λ (p : ℕ). may_take_memory view layer p way.length) a (memory_here view layer way.offset way.length lt (c way.offset h.part.names)) in
        let up = subst (λ (p : ℕ). may_take_memory view x p way.length) b (h.leads.memory 0 way.length lt (omega arith) here) in
        none (memory_part view x o most o way.length (omega arith) (omega (arith, h.leads.within)) up))
        all;
    foreign_mapping = λ z. z;
  }

-- a refused read of the layer, as one of the image
pub landed_refused : {D St : Type 0} (view : D → View St) (laws : (d : D) → IsLawful (view d)) (causes : (d : D) → AreCauses (view d)) (x : FormatAccess D) (o most : ℕ) (layer : FormatAccess D) (way : Way) (m : ShallowMapping) → HasLanded view x o most layer way m
    → 0 < most → (n : ℕ) (e : Error) → allowed (named_read_reasons (view (driver layer)) m n) e → n ≡ way.length → allowed (chunk_read_reasons view x o most) e
landed_refused view laws causes x o most layer way m h some n e c len =
    let k = subst (λ (a : ℕ). allowed (named_read_reasons (view (driver layer)) m a) e) len c in
    allowed_more _ _ (landed_weaker view laws causes x o most layer way m h some) e k

pub known_storage : {D St : Type 0} (view : D → View St) (laws : (d : D) → IsLawful (view d)) (x : FormatAccess D) (o most : ℕ) (layer : FormatAccess D) (way : Way) (m : ShallowMapping) → HasLanded view x o most layer way m → 0 < most → IsKnown m (view (driver layer)).stores.count
known_storage view laws x o most layer way S.Eof h lt = tt
known_storage view laws x o most layer way (S.Zero e) h lt = tt
known_storage view laws x o most layer way (S.Indirect q w) h lt = tt
known_storage view laws x o most layer way (S.Special f) h lt = tt
known_storage view laws x o most layer way (S.Raw s f w) h lt =
    let n = h.part.names 0 (landed_length view x o most layer way (S.Raw s f w) h lt) in
    ((laws (driver layer)).stored (way.offset + 0) n.0 s (f + 0) w n.1).0

-- the refusal of a mapping is one of a read of some bytes
pub map_refused : {D St : Type 0} (view : D → View St) (x : FormatAccess D) (o n : ℕ) → 0 < n → IsWeaker (chain_map_reasons view x o n) (chunk_read_reasons view x o n)
map_refused view x o n some = record {
  read_only = λ h. h;
  beyond_disk = λ h. h;
  range_overflow = λ h. h;
  cause = λ e c. let k : max n 1 ≡ n = omega arith in inr (subst (λ (m : ℕ). chain_cause view x Map o m e) k c);
  device = λ h. h;
  memory = λ h. absurd h;
  foreign_mapping = λ h. h;
}

-- the refusal of a part of a read is one of the whole
pub chunk_refused : {D St : Type 0} (view : D → View St) → ((d : D) → AreCauses (view d)) → (x : FormatAccess D) (o n done m len : ℕ)
    → m ≡ inside_part (view (driver x)).size o n → done < m → (chain_no_memory view x o m → (done ≡ 0) ⊎ (done ≡ m))
    → (e : Error) → allowed (chunk_read_reasons view x (o + done) len) e → len ≡ m - done → allowed (read_reasons view x o n) e
chunk_refused view laws x o n done m len inside lt first e c same = allowed_more _ _ weaker e c
  where
    weaker : IsWeaker (chunk_read_reasons view x (o + done) len) (read_reasons view x o n)
    weaker = record {
      read_only = λ h. h;
      beyond_disk = λ h. h;
      range_overflow = λ h. h;
      cause = λ e c. ⊎_elim
          (λ a. inl (chain_part view laws x Read o n (o + done) len e (omega arith) (omega arith) a))
          (λ a. inr (chain_part view laws x Map o n (o + done) len e (omega arith) (omega arith) a)) c;
      device = λ h. h;
      memory = λ h none. ⊎_elim
          (λ z. absurd (omega arith))
          (λ all. ⊎_elim (λ every.
          let k : chain_no_memory view x o m = subst (λ (i : ℕ). chain_no_memory view x o i) (sym inside) every in
          ⊎_elim
          (λ z.
          let a : o + done ≡ o = omega arith in
          let b : len ≡ m = omega arith in
          absurd (h (inl (rw (a, b) k))))
          (λ z. absurd (omega arith))
          (first k))
          (λ takes.
          let t : may_take_memory view x o m → ⊥ = subst (λ (i : ℕ). may_take_memory view x o i → ⊥) (sym inside) takes in
          absurd (h (inr (λ part. t (memory_part view x o m (o + done) len (omega arith) (omega arith) part)))))
          all)
          none;
      foreign_mapping = λ h. h;
    }

-- where no driver takes memory, one part is the whole
pub once_more : {D St : Type 0} (view : D → View St) (x : FormatAccess D) (o m done n len : ℕ) → (chain_no_memory view x (o + done) len → n ≡ len) → (chain_no_memory view x o m → (done ≡ 0) ⊎ (done ≡ m)) → done < m → len ≡ m - done
    → chain_no_memory view x o m → (done + n ≡ 0) ⊎ (done + n ≡ m)
once_more view x o m done n len whole first lt same all = ⊎_elim
    (λ z.
    let a : o + done ≡ o = omega arith in
    let b : len ≡ m = omega arith in
    let k : chain_no_memory view x (o + done) len = rw (a, b) all in
    inr (omega (arith, whole k)))
    (λ z. absurd (omega arith))
    (first all)
