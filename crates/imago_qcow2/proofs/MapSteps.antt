-- Places of the disk, and how mappings name them.
-- SPDX-License-Identifier: MIT
use Rattle.std.proofs.Common.{◌≡◌, ℕ, ◌+◌, ◌-◌, ◌*◌, ◌/◌, ◌%◌, ◌<◌, ◌≤◌, ◌⊎◌, ⊎_elim, inl, inr, Bool, false, List, slice_index, refl, sym, ap, ◌∙◌, arith, min}
use Rattle.std.proofs.lemmas.Nat.{div-add-mod', div-mul-add, mod-mul-add}
use Rattle.std.proofs.lemmas.Bool.{cases_lt}
use Rattle.std.proofs.Math.Nat.{mod-lt}
use Rattle.imago_storage.specs.declared.error.Error.{Error}
use Rattle.imago_drivers.specs.declared.mapping.ShallowMapping.{ShallowMapping}
use Rattle.imago_drivers.specs.declared.mapping.ShallowMapping.TheVariants as M
use Rattle.imago_storage.specs.Features.{Features}
use Rattle.imago_drivers.specs.Place.{Value, Place, Stored, Zeroed, Special, Lower, Refused, End}
use Rattle.imago_drivers.specs.Mapping.{IsRight, Names, IsEof}
use Rattle.imago_qcow2.specs.declared.entry.GuestCluster.{GuestCluster}
use Rattle.imago_qcow2.specs.declared.entry.GuestCluster.TheVariants as C
use Rattle.imago_qcow2.specs.Entry.{place_by}
use Rattle.imago_qcow2.specs.Tables.{LoadedImage, loaded_cluster, loaded_disk, loaded_place}
use Rattle.imago_qcow2.specs.Qcow2.{IsLongest, IsOneMapping}
use Rattle.imago_qcow2.specs.Qcow2Laws.{packed_of, in_disk, past_disk}

module _ (block : ℕ) (positive : 0 < block) where
  pub rest_small : (p : ℕ) → p % block < block
  rest_small p = mod-lt p positive

  -- offsets of one block
  pub same_block : (o i : ℕ) → i < block - o % block → (o + i) / block ≡ o / block
  same_block o i h =
      let e : o + i ≡ o / block * block + (o % block + i) = omega (arith, div-add-mod' o block) in
      let t : o % block + i < block = omega (arith, h) in
      ap (λ x. x / block) e ∙ div-mul-add (o / block) block (o % block + i) t

  pub same_rest : (o i : ℕ) → i < block - o % block → (o + i) % block ≡ o % block + i
  same_rest o i h =
      let e : o + i ≡ o / block * block + (o % block + i) = omega (arith, div-add-mod' o block) in
      let t : o % block + i < block = omega (arith, h) in
      ap (λ x. x % block) e ∙ mod-mul-add (o / block) block (o % block + i) t

-- a refused place, and an end, are named by no mapping
pub no_refused : (m : ShallowMapping) (i : ℕ) (e : Error) → Names m i (Refused e) → ⊥
no_refused (M.Raw storage offset writable) i e h = let x = h.1 in let z : ⊥ = cc in z
no_refused (M.Indirect offset writable) i e h = let z : ⊥ = cc in z
no_refused (M.Zero explicit) i e h = let z : ⊥ = cc in z
no_refused M.Eof i e h = h
no_refused (M.Special offset) i e h = let x = h.1 in let z : ⊥ = cc in z

pub no_ending : (m : ShallowMapping) (i : ℕ) → Names m i End → ⊥
no_ending (M.Raw storage offset writable) i h = let x = h.1 in let z : ⊥ = cc in z
no_ending (M.Indirect offset writable) i h = let z : ⊥ = cc in z
no_ending (M.Zero explicit) i h = let z : ⊥ = cc in z
no_ending M.Eof i h = h
no_ending (M.Special offset) i h = let x = h.1 in let z : ⊥ = cc in z

-- what names something isn't the end
pub names_no_eof : (m : ShallowMapping) (i : ℕ) (p : Place) → Names m i p → IsEof m → ⊥
names_no_eof (M.Raw storage offset writable) i p h e = e
names_no_eof (M.Indirect offset writable) i p h e = e
names_no_eof (M.Zero explicit) i p h e = e
names_no_eof M.Eof i p h e = h
names_no_eof (M.Special offset) i p h e = e

-- two mappings that name one place go on alike
pub names_same : (a b : ShallowMapping) (p q : Place) (n : ℕ) → Names a 0 p → Names b 0 p → Names a n q → Names b n q
names_same (M.Raw s o w) (M.Raw t x v) p q n h k g =
    let first = h.1 in let other = k.1 in let there = g.1 in
    let is_s : s ≡ t = cc in
    let is_w : w ≡ v = cc in
    let is_o : o + 0 ≡ x + 0 = cc in
    let at : o + n ≡ x + n = omega (arith, is_o) in
    (g.0, there ∙ ap (λ y. Stored (g.0) y (o + n) w) is_s ∙ ap (λ y. Stored (g.0) t y w) at ∙ ap (Stored (g.0) t (x + n)) is_w)
names_same (M.Indirect o w) (M.Indirect x v) p q n h k g =
    let is_w : w ≡ v = cc in
    let is_o : o + 0 ≡ x + 0 = cc in
    let at : o + n ≡ x + n = omega (arith, is_o) in
    g ∙ ap (λ y. Lower y w) at ∙ ap (Lower (x + n)) is_w
names_same (M.Zero w) (M.Zero v) p q n h k g = let is_w : w ≡ v = cc in g ∙ ap (λ y. Zeroed y) is_w
names_same (M.Special o) (M.Special x) p q n h k g =
    let first = h.1 in let other = k.1 in let there = g.1 in
    let is_o : o + 0 ≡ x + 0 = cc in
    let at : o + n ≡ x + n = omega (arith, is_o) in
    (g.0, there ∙ ap (λ y. Special (g.0) y) at)
names_same M.Eof b p q n h k g = absurd h
names_same (M.Raw s o w) (M.Indirect x v) p q n h k g = let first = h.1 in let z : ⊥ = cc in absurd z
names_same (M.Raw s o w) (M.Zero v) p q n h k g = let first = h.1 in let z : ⊥ = cc in absurd z
names_same (M.Raw s o w) M.Eof p q n h k g = absurd k
names_same (M.Raw s o w) (M.Special x) p q n h k g = let first = h.1 in let other = k.1 in let z : ⊥ = cc in absurd z
names_same (M.Indirect o w) (M.Raw t x v) p q n h k g = let other = k.1 in let z : ⊥ = cc in absurd z
names_same (M.Indirect o w) (M.Zero v) p q n h k g = let z : ⊥ = cc in absurd z
names_same (M.Indirect o w) M.Eof p q n h k g = absurd k
names_same (M.Indirect o w) (M.Special x) p q n h k g = let other = k.1 in let z : ⊥ = cc in absurd z
names_same (M.Zero w) (M.Raw t x v) p q n h k g = let other = k.1 in let z : ⊥ = cc in absurd z
names_same (M.Zero w) (M.Indirect x v) p q n h k g = let z : ⊥ = cc in absurd z
names_same (M.Zero w) M.Eof p q n h k g = absurd k
names_same (M.Zero w) (M.Special x) p q n h k g = let other = k.1 in let z : ⊥ = cc in absurd z
names_same (M.Special o) (M.Raw t x v) p q n h k g = let first = h.1 in let other = k.1 in let z : ⊥ = cc in absurd z
names_same (M.Special o) (M.Indirect x v) p q n h k g = let first = h.1 in let z : ⊥ = cc in absurd z
names_same (M.Special o) (M.Zero v) p q n h k g = let first = h.1 in let z : ⊥ = cc in absurd z
names_same (M.Special o) M.Eof p q n h k g = absurd k

-- where in its guest cluster a place stands matters only where that is stored or compressed
rest_free : (packed : ℕ → ℕ → ℕ → Value) (bytes : List ℕ) (a b p : ℕ) (k : GuestCluster) → ((at : ℕ) → k ≡ GuestCluster.Stored at → a ≡ b) → ((at n : ℕ) → k ≡ GuestCluster.Compressed at n → a ≡ b)
    → place_by packed bytes a p k ≡ place_by packed bytes b p k
rest_free packed bytes a b p C.Absent h g = refl
rest_free packed bytes a b p C.Zero h g = refl
rest_free packed bytes a b p (C.Stored at) h g = ap (λ x. place_by packed bytes x p (GuestCluster.Stored at)) (h at refl)
rest_free packed bytes a b p (C.Compressed at n) h g = ap (λ x. place_by packed bytes x p (GuestCluster.Compressed at n)) (g at n refl)
rest_free packed bytes a b p C.Invalid h g = refl

module _ (f : Features) (bytes : List ℕ) (loaded : LoadedImage) (o : ℕ) where
  -- what the bytes of compressed clusters are
  abbrev pub packed_bytes : ℕ → ℕ → ℕ → Value
  packed_bytes = packed_of f.tells_bytes bytes (loaded_disk loaded)

  -- a place by what its guest cluster is, from what that of an earlier place is
  pub place_of : 0 < loaded.cluster → (k : GuestCluster) (i : ℕ) → loaded_cluster loaded ((o + i) / loaded.cluster) ≡ k → ((at : ℕ) → k ≡ GuestCluster.Stored at → i < loaded.cluster - o % loaded.cluster)
      → ((at n : ℕ) → k ≡ GuestCluster.Compressed at n → i < loaded.cluster - o % loaded.cluster) → o + i < loaded.size
      → loaded_place f loaded bytes (o + i) ≡ place_by packed_bytes bytes (o % loaded.cluster + i) (o + i) k
  place_of positive k i is near packed under =
      in_disk f.tells_bytes bytes (loaded_disk loaded) (o + i) under
      ∙ ap (place_by packed_bytes bytes ((o + i) % loaded.cluster) (o + i)) is
      ∙ rest_free packed_bytes bytes ((o + i) % loaded.cluster) (o % loaded.cluster + i) (o + i) k (λ at e. same_rest loaded.cluster positive o i (near at e)) (λ at n e. same_rest loaded.cluster positive o i (packed at n e))

  -- past the end
  pub right_end : (most : ℕ) → loaded.size ≤ o → IsRight (loaded_place f loaded bytes) o most ShallowMapping.Eof 0
  right_end most h =
      let e : loaded_place f loaded bytes o ≡ End = past_disk f.tells_bytes bytes (loaded_disk loaded) o h in
      record {
        names = λ i l. absurd (omega arith);
        first = λ no. absurd (no e);
        eof = (λ y. e, λ y. tt);
        no_refusal = λ r y. let x : End ≡ Refused r = sym e ∙ y in let z : ⊥ = cc in z;
        empty = λ y. inl e;
      }

-- inside, a mapping that names the first places is right
pub right_inside : (place : ℕ → Place) (o most known n : ℕ) (m : ShallowMapping) → 0 < known → ((i : ℕ) → i < known → Names m i (place (o + i))) → ((i : ℕ) → i < n → Names m i (place (o + i)))
    → (n ≡ 0 → most ≡ 0) → IsRight place o most m n
right_inside place o most known n m some firsts names empty =
    let e : o + 0 ≡ o = omega arith in
    let x : Names m 0 (place (o + 0)) = firsts 0 some in
    let named : Names m 0 (place o) = rw e at x in
    record {
      names = names;
      first = λ y. named;
      eof = (λ y. absurd (names_no_eof m 0 (place o) named y), λ y. absurd (no_ending m 0 (rw y at named)));
      no_refusal = λ r y. no_refused m 0 r (rw y at named);
      empty = λ y. inr (empty y);
    }

-- it is the longest one, where it goes as far as it may or doesn't name the next place
pub longest_of : (place : ℕ → Place) (size o n most known m : ℕ) (mapping : ShallowMapping) → most ≡ min n (size - o) → 0 < known → ((i : ℕ) → i < known → Names mapping i (place (o + i)))
    → m ≤ most → (m ≡ most) ⊎ (Names mapping m (place (o + m)) → ⊥) → IsLongest place size o n m
longest_of place size o n most known m mapping is some firsts within ends =
    let e : o + 0 ≡ o = omega arith in
    let x : Names mapping 0 (place (o + 0)) = firsts 0 some in
    let named : Names mapping 0 (place o) = rw e at x in
    record {
      asked = omega (arith, within, is);
      inside = omega (arith, within, is);
      ends = ⊎_elim
          (λ all. ⊎_elim (λ l. inl (omega (arith, all, is, l))) (λ l. inr (inl (omega (arith, all, is, l)))) (cases_lt n (size - o)))
          (λ no. inr (inr (λ other first there. no (names_same other mapping (place o) (place (o + m)) m first named there))))
          ends;
    }

-- one mapping that names a range is no longer than the longest one
pub whole_longest : (place : ℕ → Place) (size o n m : ℕ) → IsOneMapping place size o n → IsLongest place size o n m → n ≤ m
whole_longest place size o n m one longest = ⊎_elim
    (λ short. absurd (⊎_elim
    (λ e. omega (arith, e, short))
    (λ other. ⊎_elim
    (λ e. omega (arith, e, short, one.0))
    (λ no.
    let e : o + 0 ≡ o = omega arith in
    let x : Names (one.1.0) 0 (place (o + 0)) = one.1.1 0 (omega (arith, short)) in
    no (one.1.0) (rw e at x) (one.1.1 m short))
    other)
    longest.ends))
    (λ enough. enough)
    (cases_lt m n)

-- a mapping that goes on as the next one names the places of both
pub names_more : (place : ℕ → Place) (o n more : ℕ) (a b : ShallowMapping) → ((i : ℕ) → i < n → Names a i (place (o + i))) → ((i : ℕ) → i < more → Names b i (place (o + n + i)))
    → ((i : ℕ) (p : Place) → Names b i p → Names a (n + i) p) → (i : ℕ) → i < n + more → Names a i (place (o + i))
names_more place o n more a b old next on i h = ⊎_elim
    (λ below. old i below)
    (λ above.
    let e : n + (i - n) ≡ i = omega (arith, above) in
    let f : o + n + (i - n) ≡ o + i = omega (arith, above) in
    let x : Names a (n + (i - n)) (place (o + n + (i - n))) = on (i - n) (place (o + n + (i - n))) (next (i - n) (omega (arith, above, h))) in
    rw (e, f) at x)
    (cases_lt i n)

-- the first of them is named
pub names_first : (place : ℕ → Place) (o n : ℕ) (m : ShallowMapping) → 0 < n → ((i : ℕ) → i < n → Names m i (place (o + i))) → Names m 0 (place o)
names_first place o n m some names =
    let e : o + 0 ≡ o = omega arith in
    let x : Names m 0 (place (o + 0)) = names 0 some in
    rw e at x

-- a mapping that is as long as it may be is empty only where nothing is asked for
pub asked_for : (place : ℕ → Place) (o size asked most known n : ℕ) (m : ShallowMapping) → o < size → most ≡ min asked (size - o) → 0 < known → ((i : ℕ) → i < known → Names m i (place (o + i)))
    → (n ≡ most) ⊎ (Names m n (place (o + n)) → ⊥) → n ≡ 0 → asked ≡ 0
asked_for place o size asked most known n m inside is some names ends none = ⊎_elim
    (λ all. omega (arith, all, none, is, inside))
    (λ no.
    let e : o + n ≡ o = omega (arith, none) in
    let named : Names m 0 (place o) = names_first place o known m some names in
    absurd (no (rw (e, none) named)))
    ends

-- a mapping of stored bytes, and the one that begins further on
pub raw_on : (storage at n i : ℕ) (writable : Bool) (p : Place) → Names (M.Raw storage (at + n) writable) i p → Names (M.Raw storage at writable) (n + i) p
raw_on storage at n i writable p h =
    let e : at + n + i ≡ at + (n + i) = omega arith in
    (h.0, h.1 ∙ ap (λ x. Stored (h.0) storage x writable) e)

pub raw_back : (storage at n : ℕ) (writable : Bool) (p : Place) → Names (M.Raw storage at writable) n p → Names (M.Raw storage (at + n) writable) 0 p
raw_back storage at n writable p h =
    let e : at + n ≡ at + n + 0 = omega arith in
    (h.0, h.1 ∙ ap (λ x. Stored (h.0) storage x writable) e)

-- a place of stored bytes stands in a guest cluster that is stored, and tells where
stored_by : (packed : ℕ → ℕ → ℕ → Value) (bytes : List ℕ) (rest p at : ℕ) (k : GuestCluster) → Names (M.Raw 0 at false) 0 (place_by packed bytes rest p k) → (start : ℕ) × (k ≡ GuestCluster.Stored start) × (start + rest ≡ at)
stored_by packed bytes rest p at (C.Stored start) h =
    let there = h.1 in
    let is : start + rest ≡ at + 0 = cc in
    (start, refl, omega (arith, is))
stored_by packed bytes rest p at C.Absent h = let there = h.1 in let z : ⊥ = cc in absurd z
stored_by packed bytes rest p at C.Zero h = let there = h.1 in let z : ⊥ = cc in absurd z
stored_by packed bytes rest p at (C.Compressed from n) h = let there = h.1 in let z : ⊥ = cc in absurd z
stored_by packed bytes rest p at C.Invalid h = let there = h.1 in let z : ⊥ = cc in absurd z

module _ (f : Features) (bytes : List ℕ) (loaded : LoadedImage) (positive : 0 < loaded.cluster) (o at : ℕ) where
  -- the places of a guest cluster that is stored
  pub stored_named : (start i : ℕ) → loaded_cluster loaded (o / loaded.cluster) ≡ GuestCluster.Stored start → start + o % loaded.cluster ≡ at → i < loaded.cluster - o % loaded.cluster → o + i < loaded.size
      → Names (M.Raw 0 at false) i (loaded_place f loaded bytes (o + i))
  stored_named start i is from near under =
      let e : start + (o % loaded.cluster + i) ≡ at + i = omega (arith, from) in
      let k : loaded_cluster loaded ((o + i) / loaded.cluster) ≡ GuestCluster.Stored start = ap (loaded_cluster loaded) (same_block loaded.cluster positive o i near) ∙ is in
      let b = slice_index bytes (start + (o % loaded.cluster + i)) in
      (b, place_of f bytes loaded o positive (GuestCluster.Stored start) i k (λ x y. near) (λ x n y. near) under ∙ ap (λ x. Stored b 0 x false) e)

  -- one that is named as stored bytes stands in such a guest cluster
  pub named_stored : o < loaded.size → Names (M.Raw 0 at false) 0 (loaded_place f loaded bytes o) → (start : ℕ) × (loaded_cluster loaded (o / loaded.cluster) ≡ GuestCluster.Stored start) × (start + o % loaded.cluster ≡ at)
  named_stored under h =
      let place = in_disk f.tells_bytes bytes (loaded_disk loaded) o under in
      stored_by (packed_bytes f bytes loaded o) bytes (o % loaded.cluster) o at (loaded_cluster loaded (o / loaded.cluster)) (rw place at h)
