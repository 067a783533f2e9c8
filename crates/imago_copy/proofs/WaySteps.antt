-- What a layer has, as it shows on the disk of an image that leads to it.
-- SPDX-License-Identifier: MIT
use Rattle.std.proofs.Common.{◌≡◌, ℕ, ◌+◌, ◌-◌, ◌<◌, ◌≤◌, ◌⊎◌, inl, inr, ⊎_elim, ◌&&◌, Bool, true, false, Option, Some, None, min, refl, sym, ap, ◌∙◌, subst, arith}
use Rattle.std.proofs.lemmas.Bool.{cases_lt}
use Rattle.imago_drivers.specs.Laws.{IsLawful}
use Rattle.imago_drivers.specs.Mapping.{Names, IsEof, IsRight}
use Rattle.imago_drivers.specs.Place.{Value, Place, Stored, Zeroed, Special, Lower, End}
use Rattle.imago_drivers.specs.View.{View}
use Rattle.imago_drivers.specs.declared.mapping.ShallowMapping.{ShallowMapping}
use Rattle.imago_drivers.specs.declared.mapping.ShallowMapping.TheVariants as S
use Rattle.imago_access.specs.declared.access.FormatAccess.{FormatAccess}
use Rattle.imago_access.specs.Chain.{driver, backing}
use Rattle.imago_access.specs.Target.{Target, target, followed, deeper, target_here, told_depth}
use Rattle.imago_access.proofs.Chains.{target_at, target_nothing, target_lower}
use Rattle.imago_access.proofs.Descent.{deeper_here}
use Rattle.imago_copy.specs.declared.runs.Kind.{Kind}
use Rattle.imago_copy.specs.declared.runs.Kind.TheVariants as K
use Rattle.imago_copy.specs.declared.allocation.Allocation.{Allocation}
use Rattle.imago_copy.specs.declared.layers.LayerRun.{LayerRun}
use Rattle.imago_copy.specs.Allocations.{in_layer, in_none, allocated, allocation_of, AreAllocated}
use Rattle.imago_copy.specs.LayerRuns.{IsLayerRunAt}
use Rattle.imago_copy.specs.Runs.{Stands}
use Rattle.imago_copy.specs.Ways.{LeadAlong}

and_assoc : (a b c : Bool) → (a && (b && c)) ≡ ((a && b) && c)
and_assoc true b c = refl
and_assoc false b c = refl

deeper_deeper : (d : ℕ) (g w : Bool) (t : Target) → deeper d g (deeper 1 w t) ≡ deeper (d + 1) (g && w) t
deeper_deeper d g w t =
    let e : d + (1 + t.depth) ≡ d + 1 + t.depth = omega arith in
    rw (e, and_assoc) refl

deeper_none : (t : Target) → deeper 0 true t ≡ t
deeper_none t = let e : 0 + t.depth ≡ t.depth = omega arith in rw e refl

-- a mapping that is followed no further, of a layer that doesn't end there, is of what the layer has
own_place : (hops : ℕ) (m : ShallowMapping) (i : ℕ) (p : Place) → ((q : ℕ) (v : Bool) → m ≡ S.Indirect q v → ⊥) → (m ≡ S.Eof → ⊥) → Names m i p
    → (allocated hops p ≡ in_layer (told_depth hops)) × ((b : ℕ → Target) → followed b p ≡ target_here p)
own_place hops (S.Raw s f v) i p no_lower no_end (b, h) = rw h (refl, λ k. refl)
own_place hops (S.Indirect q v) i p no_lower no_end h = absurd (no_lower q v refl)
own_place hops (S.Zero e) i p no_lower no_end h = rw h (refl, λ k. refl)
own_place hops S.Eof i p no_lower no_end h = absurd (no_end refl)
own_place hops (S.Special f) i p no_lower no_end (v, h) = rw h (refl, λ k. refl)

not_eof : (m : ShallowMapping) → (m ≡ S.Eof → ⊥) → IsEof m → ⊥
not_eof (S.Raw s f v) h e = e
not_eof (S.Indirect q v) h e = e
not_eof (S.Zero x) h e = e
not_eof S.Eof h e = h refl
not_eof (S.Special f) h e = e

-- what is reached by so many references
deep : (hops n : ℕ) (w : Bool) (t : Target) (p : Place) → t.place ≡ p → hops + t.depth ≡ n → allocation_of (deeper hops w t) ≡ allocated n p
deep hops n w t p stands is = ap (λ (k : ℕ). allocated k t.place) is ∙ ap (allocated n) stands

-- what a driver's mapping is, of the layer of that depth, if it is followed no further
abbrev pub own_kind : ℕ → ShallowMapping → Option Kind
own_kind d (S.Raw s f v) = Some (K.Stored d s f)
own_kind d (S.Zero e) = Some K.Zero
own_kind d (S.Special f) = Some (K.Special d f)
own_kind d (S.Indirect q v) = None
own_kind d S.Eof = None

some_is : {A : Type 0} (a b : A) → Some a ≡ Some b → a ≡ b
some_is a b e = cc e

no_kind : (k : Kind) → None ≡ Some k → ⊥
no_kind k e = cc e

indirect_end : (q : ℕ) (v : Bool) → S.Indirect q v ≡ S.Eof → ⊥
indirect_end q v e = cc e

no_lower : (d q : ℕ) (v : Bool) (m : ShallowMapping) (k : Kind) → own_kind d m ≡ Some k → m ≡ S.Indirect q v → ⊥
no_lower d q v m k own is = no_kind k (ap (own_kind d) (sym is) ∙ own)

no_end : (d : ℕ) (m : ShallowMapping) (k : Kind) → own_kind d m ≡ Some k → m ≡ S.Eof → ⊥
no_end d m k own is = no_kind k (ap (own_kind d) (sym is) ∙ own)

-- bytes from an offset on, of a kind and of the layer that has them
abbrev pub run_at : ℕ → ℕ → Kind → Allocation → LayerRun
run_at o n k a = record { run = record { at = o; count = n; kind = k }; allocation = a }

module _ {D St : Type 0} (view : D → View St) (x : FormatAccess D) (o : ℕ) where
  -- before any step
  pub along_top : (n : ℕ) → LeadAlong view x o x 0 o n true
  along_top n i lt = sym (deeper_none (target view x (o + i)))

  -- no range at all leads anywhere
  pub along_none : (layer : FormatAccess D) (hops p n : ℕ) (w : Bool) → n ≤ 0 → LeadAlong view x o layer hops p n w
  along_none layer hops p n w none i lt = absurd (omega (arith, none, lt))

  -- what comes behind some bytes of a range
  pub along_behind : (layer : FormatAccess D) (hops p n m a b k : ℕ) (w : Bool) → LeadAlong view x o layer hops p n w → a ≡ o + m → b ≡ p + m → k ≤ n - m → LeadAlong view x a layer hops b k w
  along_behind layer hops p n m a b k w along at there left i lt =
      let inside : m + i < n = omega (arith, lt, left) in
      let here : o + (m + i) ≡ a + i = omega (arith, at) in
      let below : p + (m + i) ≡ b + i = omega (arith, there) in
      ap (target view x) (sym here) ∙ along (m + i) inside ∙ ap (λ (q : ℕ). deeper hops w (target view layer q)) below

module _ {D St : Type 0} (view : D → View St) (lawful : (d : D) → IsLawful (view d)) (x : FormatAccess D) (o : ℕ)
    (layer : FormatAccess D) (hops at left : ℕ) (w : Bool) (along : LeadAlong view x o layer hops at left w) (some : 0 < left) where
  abbrev place : ℕ → Place
  place = (view (driver layer)).place

  landed_at : (i : ℕ) (pl : Place) → i < left → place (at + i) ≡ pl → ((b : ℕ → Target) → followed b pl ≡ target_here pl) → target view x (o + i) ≡ record { depth = hops; writable = w; place = pl }
  landed_at i pl lt h k = along i lt ∙ ap (deeper hops w) (target_at view layer (at + i) pl h k) ∙ deeper_here hops w pl

  -- what stands in the layer
  stands : (i : ℕ) (p : Place) → i < left → place (at + i) ≡ p → ((b : ℕ → Target) → followed b p ≡ target_here p) → allocation_of (target view x (o + i)) ≡ allocated hops p
  stands i p lt is own = ap allocation_of (landed_at i p lt is own)

  raw_stands : (d i s f : ℕ) (v : Bool) → d ≡ told_depth hops → i < left → Names (S.Raw s f v) i (place (at + i)) → Stands (K.Stored d s f) i (target view x (o + i))
  raw_stands d i s f v told lt (b, h) = let t = landed_at i (Stored b s (f + i) v) lt h (λ z. refl) in rw t (told, (b, v, refl))

  special_stands : (d i f : ℕ) → d ≡ told_depth hops → i < left → Names (S.Special f) i (place (at + i)) → Stands (K.Special d f) i (target view x (o + i))
  special_stands d i f told lt (b, h) = let t = landed_at i (Special b (f + i)) lt h (λ z. refl) in rw t (told, (b, refl))

  zero_stands : (i : ℕ) (e : Bool) → i < left → place (at + i) ≡ Zeroed e → Stands K.Zero i (target view x (o + i))
  zero_stands i e lt h =
      let t = landed_at i (Zeroed e) lt h (λ z. refl) in
      ⊎_elim
      (λ (below : 0 < hops). rw t (false, inr (inl (e, refl, below, refl))))
      (λ (top : hops ≤ 0). let n : hops ≡ 0 = omega (arith, top) in rw t (e, inl (refl, n)))
      (cases_lt 0 hops)

  -- past the end of a layer below
  past_stands : (i : ℕ) → 0 < hops → i < left → place (at + i) ≡ End → Stands K.Zero i (target view x (o + i))
  past_stands i n lt h = let t = landed_at i End lt h (λ z. refl) in rw t (false, inr (inr (refl, n, refl)))

  -- a reference to a layer that is missing
  nothing_stands : (i q : ℕ) (v : Bool) → backing layer ≡ None → i < left → place (at + i) ≡ Lower (q + i) v → Stands K.Zero i (target view x (o + i))
  nothing_stands i q v b lt h =
      let t = along i lt ∙ ap (deeper hops w) (target_nothing view layer (at + i) (q + i) v b h) in
      let n : 0 < hops + (1 + 0) = omega arith in
      rw t (false, inr (inr (refl, n, refl)))

  -- behind a layer's end
  pub run_ended : (d : ℕ) (r : LayerRun) (a : Allocation) → r ≡ run_at o left K.Zero a → a ≡ in_none (d - 1) → d ≡ told_depth hops → 0 < d
      → place at ≡ End → IsLayerRunAt (target view x) o r
  run_ended d r a is none told deep e =
      let below : 0 < hops = omega (arith, told, deep) in
      subst (IsLayerRunAt (target view x) o) (sym is) (
        (refl, some, λ i lt. past_stands i below lt (behind i)),
        λ i lt. stands i End lt (behind i) (λ b. refl) ∙ ap (λ (k : ℕ). in_none (k - 1)) (sym told) ∙ sym none,
      )
    where
      behind : (i : ℕ) → place (at + i) ≡ End
      behind i =
          let from : at ≤ at + i = omega arith in
          (lawful (driver layer)).ends at (at + i) from e

  module _ (m : ShallowMapping) (n : ℕ) (right : IsRight place at left m n) (within : n ≤ left) where
    mapped_some : (m ≡ S.Eof → ⊥) → 0 < n
    mapped_some no_end = ⊎_elim
        (λ (more : 0 < n). more)
        (λ (none : n ≤ 0).
        let zero : n ≡ 0 = omega (arith, none) in
        ⊎_elim (λ e. absurd (not_eof m no_end (right.eof.1 e))) (λ z. absurd (omega (arith, z, some))) (right.empty zero))
        (cases_lt 0 n)

    -- what a layer leaves to one that is missing
    pub run_missing : (q d : ℕ) (v : Bool) (r : LayerRun) (a : Allocation) → r ≡ run_at o n K.Zero a → a ≡ in_none (d - 1) → d ≡ told_depth (hops + 1)
        → m ≡ S.Indirect q v → backing layer ≡ None → IsLayerRunAt (target view x) o r
    run_missing q d v r a is none told lower bottom =
        let not_last : m ≡ S.Eof → ⊥ = λ e. indirect_end q v (sym lower ∙ e) in
        subst (IsLayerRunAt (target view x) o) (sym is) (
          (refl, mapped_some not_last, λ i lt. nothing_stands i q v bottom (omega (arith, lt, within)) (left_to i lt)),
          λ i lt.
              let inside : i < left = omega (arith, lt, within) in
              let t : target view layer (at + i) ≡ deeper 1 v (target_here End) = target_nothing view layer (at + i) (q + i) v bottom (left_to i lt) in
              let same : hops + (1 + 0) ≡ hops + 1 = omega arith in
              ap allocation_of (along i inside) ∙ ap (λ (z : Target). allocation_of (deeper hops w z)) t
              ∙ ap (λ (k : ℕ). allocated k End) same ∙ ap (λ (k : ℕ). in_none (k - 1)) (sym told) ∙ sym none,
        )
      where
        left_to : (i : ℕ) → i < n → place (at + i) ≡ Lower (q + i) v
        left_to i lt = subst (λ (z : ShallowMapping). Names z i (place (at + i))) lower (right.names i lt)

    -- what a layer has itself stands there
    own_stands : (d : ℕ) (k : Kind) (z : ShallowMapping) → m ≡ z → own_kind d z ≡ Some k → d ≡ told_depth hops → (i : ℕ) → i < n → Stands k i (target view x (o + i))
    own_stands d k z is own told i lt = each z own (subst (λ (y : ShallowMapping). Names y i (place (at + i))) is (right.names i lt))
      where
        inside : i < left
        inside = omega (arith, lt, within)

        each : (y : ShallowMapping) → own_kind d y ≡ Some k → Names y i (place (at + i)) → Stands k i (target view x (o + i))
        each (S.Raw s f v) e h = subst (λ (y : Kind). Stands y i (target view x (o + i))) (some_is _ _ e) (raw_stands d i s f v told inside h)
        each (S.Zero b) e h = subst (λ (y : Kind). Stands y i (target view x (o + i))) (some_is _ _ e) (zero_stands i b inside h)
        each (S.Special f) e h = subst (λ (y : Kind). Stands y i (target view x (o + i))) (some_is _ _ e) (special_stands d i f told inside h)
        each (S.Indirect q v) e h = absurd (no_kind k e)
        each S.Eof e h = absurd (no_kind k e)

    pub run_owned : (d : ℕ) (k : Kind) (r : LayerRun) (a : Allocation) → r ≡ run_at o n k a → a ≡ in_layer d → d ≡ told_depth hops
        → own_kind d m ≡ Some k → IsLayerRunAt (target view x) o r
    run_owned d k r a is own told kind =
        subst (IsLayerRunAt (target view x) o) (sym is) (
          (refl, mapped_some (no_end d m k kind), own_stands d k m refl kind told),
          λ i lt.
              let inside : i < left = omega (arith, lt, within) in
              let has = own_place hops m i (place (at + i)) (λ q v. no_lower d q v m k kind) (no_end d m k kind) (right.names i lt) in
              stands i (place (at + i)) inside refl has.1 ∙ has.0 ∙ ap in_layer (sym told) ∙ sym own,
        )

    -- one layer further down
    pub along_down : (y : FormatAccess D) (q : ℕ) (v : Bool) → backing layer ≡ Some y → m ≡ S.Indirect q v → LeadAlong view x o y (hops + 1) q n (w && v)
    along_down y q v below is i lt =
        let inside : i < left = omega (arith, lt, within) in
        let lower : place (at + i) ≡ Lower (q + i) v = subst (λ (z : ShallowMapping). Names z i (place (at + i))) is (right.names i lt) in
        along i inside ∙ ap (deeper hops w) (target_lower view layer y (at + i) (q + i) v below lower) ∙ deeper_deeper hops w v (target view y (q + i))

    -- what is left to a layer below is some bytes
    pub down_some : (q : ℕ) (v : Bool) → m ≡ S.Indirect q v → 0 < n
    down_some q v is = mapped_some (λ e. indirect_end q v (sym is ∙ e))
