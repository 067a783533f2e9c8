-- Where a storage ends, and the values behind its end.
-- SPDX-License-Identifier: MIT
use Rattle.std.proofs.Common.{◌≡◌, ℕ, suc, ◌+◌, ◌-◌, ◌<◌, ◌≤◌, min, List, length, slice_index, Option, Some, None, Box, Global, refl, sym, ap, ◌∙◌, subst, arith}
use Rattle.std.specs.Prelude.{IfSome, IfOk, OnOk, IsTrue, Result, Ok, Err}
use Rattle.std.specs.Result.{result_ok}
use Rattle.std.proofs.lemmas.List.{get_or_past}
use Rattle.imago_storage.specs.declared.error.Error.{Error}
use Rattle.imago_storage.specs.Bytes.{IsReadAt}
use Rattle.imago_drivers.specs.Laws.{IsLawful}
use Rattle.imago_drivers.specs.Place.{Value, Byte, Place, Stored, Zeroed, Special, Lower, Refused, End, shown, HasValues}
use Rattle.imago_drivers.specs.View.{View}
use Rattle.imago_access.specs.declared.access.FormatAccess.{FormatAccess, FormatAccess', out-FormatAccess, is-FormatAccess', back-FormatAccess-backing}
use Rattle.imago_access.specs.Chain.{driver, backing, unboxed, disk_value, tells_bytes}
use Rattle.imago_access.specs.Target.{Target, target, followed, target_here, told_depth}
use Rattle.imago_access.proofs.Chains.{told_here, told_lower}
use Rattle.imago_access.proofs.Targets.{target_shows}
use Rattle.imago_copy.specs.declared.runs.Kind.{Kind}
use Rattle.imago_copy.specs.declared.runs.Kind.TheVariants as K
use Rattle.imago_copy.specs.declared.runs.Run.{Run}
use Rattle.imago_copy.specs.Runs.{Stands, IsRunAt}
use Rattle.imago_copy.specs.Ends.{IsEndOf, IsLayerAt, AreZeroBehind}
use Rattle.imago_copy.proofs.Copies.{zero_shown}

none_deep : (n : ℕ) → 0 ≡ suc n → ⊥
none_deep n e = cc e

-- what is reached with no step down stands in the layer itself
here : (leads : ℕ → Target) (pl known : Place) → (followed leads pl).depth ≡ 0 → (followed leads pl).place ≡ known → pl ≡ known
here leads (Lower q v) known d e = absurd (omega (arith, d))
here leads (Stored b s o w) known d e = e
here leads (Zeroed x) known d e = e
here leads (Special b o) known d e = e
here leads (Refused x) known d e = e
here leads End known d e = e

-- what is reached with a step down stands in a layer below
below : (leads : ℕ → Target) (pl known : Place) (n : ℕ) → (followed leads pl).depth ≡ suc n → (followed leads pl).place ≡ known
    → (q : ℕ) × ((leads q).depth ≡ n) × ((leads q).place ≡ known)
below leads (Lower q v) known n d e = (q, omega (arith, d), e)
below leads (Stored b s o w) known n d e = absurd (none_deep n d)
below leads (Zeroed x) known n d e = absurd (none_deep n d)
below leads (Special b o) known n d e = absurd (none_deep n d)
below leads (Refused x) known n d e = absurd (none_deep n d)
below leads End known n d e = absurd (none_deep n d)

module _ {D St : Type 0} (view : D → View St) where
  abbrev leads_of : Option (FormatAccess D) → ℕ → Target
  leads_of None p = target_here End
  leads_of (Some x) p = target view x p

  leads_back : (inner : D) (b : Option (Box (FormatAccess D) Global)) (p : ℕ) → target view (FormatAccess' (back-FormatAccess-backing D b) inner) p ≡ followed (leads_of (unboxed b)) ((view inner).place p)
  leads_back inner None p = refl
  leads_back inner (Some b) p = refl

  leads_out : (x : FormatAccess D) (p : ℕ) → target view x p ≡ followed (leads_of (backing x)) ((view (driver x)).place p)
  leads_out x p = ap (λ (y : FormatAccess D). target view y p) (is-FormatAccess' x) ∙ leads_back (driver x) (out-FormatAccess D x).backing p

  -- a layer lies that many layers below an image: what the image leads to there, or further down,
  -- the layer leads to
  abbrev pub LiesBelow : FormatAccess D → ℕ → FormatAccess D → Type 0
  LiesBelow x depth y =
      ((p k : ℕ) → (target view x p).depth ≡ depth + k
      → (q : ℕ) × ((target view y q).depth ≡ k) × ((target view y q).place ≡ (target view x p).place))
      × (IsTrue (tells_bytes view x) → IsTrue (tells_bytes view y))

  pub lies_here : (x : FormatAccess D) → LiesBelow x 0 x
  lies_here x = ((λ p k h. (p, omega (arith, h), refl)), λ t. t)

  pub lies_lower : (x y z : FormatAccess D) (depth : ℕ) → backing y ≡ Some z → LiesBelow x depth y → LiesBelow x (depth + 1) z
  lies_lower x y z depth is h = (
    (λ p k deep.
        let one : (target view x p).depth ≡ depth + suc k = omega (arith, deep) in
        let (q, d, e) = h.0 p (suc k) one in
        let out = leads_out y q in
        let (r, d2, e2) = below (leads_of (backing y)) ((view (driver y)).place q) (target view x p).place k
        (ap (λ (t : Target). t.depth) (sym out) ∙ d) (ap (λ (t : Target). t.place) (sym out) ∙ e) in
        let same : leads_of (backing y) r ≡ target view z r = ap (λ (c : Option (FormatAccess D)). leads_of c r) is in
        (r, ap (λ (t : Target). t.depth) (sym same) ∙ d2, ap (λ (t : Target). t.place) (sym same) ∙ e2)),
    λ t. told_lower view y z is (h.1 t),
  )

  pub lies_at : (x y : FormatAccess D) (depth done : ℕ) → done ≤ depth → depth ≤ done → LiesBelow x done y → IsLayerAt view x depth y
  lies_at x y depth done within reached h = (
    (λ p deep.
        let at : (target view x p).depth ≡ done + 0 = omega (arith, deep, within, reached) in
        let (q, d, e) = h.0 p 0 at in
        let out = leads_out y q in (
          q,
          here (leads_of (backing y)) ((view (driver y)).place q) (target view x p).place
              (ap (λ (t : Target). t.depth) (sym out) ∙ d) (ap (λ (t : Target). t.place) (sym out) ∙ e),
        )),
    λ t. told_here view y (h.1 t),
  )

-- a length that may be told is that of the bytes
pub told_length : (told : Option ℕ) (size : Result ℕ Error) (bytes own : List ℕ) → told ≡ result_ok size → bytes ≡ own → IfOk size (λ n. n ≡ length bytes) → IfSome told (λ n. n ≡ length own)
told_length told (Ok n) bytes own e same len = subst (λ (z : Option ℕ). IfSome z (λ n. n ≡ length own)) (sym e) (len ∙ ap length same)
told_length told (Err _) bytes own e same len = subst (λ (z : Option ℕ). IfSome z (λ n. n ≡ length own)) (sym e) tt

told : (depth d : ℕ) → depth < 18446744073709551615 → depth ≡ told_depth d → d ≡ depth
told depth d small is = omega (arith, small, is)

module _ {D St : Type 0} (view : D → View St) (lawful : (d : D) → IsLawful (view d)) (x y : FormatAccess D) where
  -- a storage of the layer of that depth ends for the image where its bytes do
  ends_at_layer : (depth storage n : ℕ) → IsLayerAt view x depth y → n ≡ length ((view (driver y)).stores.bytes storage) → IsEndOf (target view x) depth storage n
  ends_at_layer depth storage n layer len p b o w deep stands past =
      let (q, e) = layer.0 p deep in
      let bytes : List ℕ = (view (driver y)).stores.bytes storage in
      let behind : length bytes ≤ o = omega (arith, len, past) in
      let law = (lawful (driver y)).stored q b storage o w (e ∙ stands) in
      sym law.1 ∙ get_or_past bytes o 0 behind

  -- the same of a length that may be told
  pub end_at_layer : (depth storage : ℕ) (known : Option ℕ) → IsLayerAt view x depth y → IfSome known (λ n. n ≡ length ((view (driver y)).stores.bytes storage)) → IfSome known (IsEndOf (target view x) depth storage)
  end_at_layer depth storage None layer len = tt
  end_at_layer depth storage (Some n) layer len = ends_at_layer depth storage n layer len

  module _ (run : Run) (layer storage offset : ℕ) (e : run.kind ≡ K.Stored layer storage offset) (small : layer < 18446744073709551615) (h : IsRunAt (target view x) run.at run) (is : IsLayerAt view x layer y) where
    -- a byte of a stored run is one of the layer's storage
    stored_byte : (i : ℕ) → i < run.count → (storage < (view (driver y)).stores.count)
        × (disk_value view x (run.at + i) ≡ Byte (slice_index ((view (driver y)).stores.bytes storage) (offset + i)))
    stored_byte i lt =
        let t : Target = target view x (run.at + i) in
        let stands = subst (λ (k : Kind). Stands k i t) e (h.2 i lt) in
        let (q, place) = is.0 (run.at + i) (told layer t.depth small stands.0) in
        let law = (lawful (driver y)).stored q stands.1.0 storage (offset + i) stands.1.1 (place ∙ stands.1.2) in
        (law.0, target_shows view x (run.at + i) ∙ ap (shown (λ (z : ℕ). Byte 0)) stands.1.2 ∙ ap Byte (sym law.1))

    pub stored_known : storage < (view (driver y)).stores.count
    stored_known = (stored_byte 0 h.1).0

    -- bytes that were read of the storage are those of the run
    pub stored_read : (skipped first : ℕ) (buf : List ℕ) → first ≡ offset + skipped → skipped + length buf ≤ run.count
        → IsReadAt ((view (driver y)).stores.bytes storage) first buf → HasValues (disk_value view x) (run.at + skipped) buf
    stored_read skipped first buf at inside read k lt =
        let i : ℕ = skipped + k in
        let within : i < run.count = omega (arith, inside, lt) in
        let here : run.at + i ≡ run.at + skipped + k = omega arith in
        let there : offset + i ≡ first + k = omega (arith, at) in
        let bytes = (view (driver y)).stores.bytes storage in
        ap (disk_value view x) (sym here) ∙ (stored_byte i within).1 ∙ ap (λ (z : ℕ). Byte (slice_index bytes z)) there ∙ ap Byte (sym (read k lt))

    -- the same of the driver's answer
    pub stored_answer : (d : D) → d ≡ driver y → (skipped first : ℕ) (buf : List ℕ) (result : Result Unit Error) → first ≡ offset + skipped → skipped + length buf ≤ run.count
        → IsTrue (tells_bytes view x) → (IsTrue (view d).abilities.tells_bytes → OnOk result (IsReadAt ((view d).stores.bytes storage) first buf))
        → OnOk result (HasValues (disk_value view x) (run.at + skipped) buf)
    stored_answer d same skipped first buf (Ok u) at inside tells read =
        stored_read skipped first buf at inside (subst (λ (z : D). IsReadAt ((view z).stores.bytes storage) first buf) same
        (read (subst (λ (z : D). IsTrue (view z).abilities.tells_bytes) (sym same) (is.1 tells))))
    stored_answer d same skipped first buf (Err e) at inside tells read = tt

module _ {D St : Type 0} (view : D → View St) (x : FormatAccess D) where
  -- a run of zeroes is zero
  pub zero_kind : (run : Run) → run.kind ≡ K.Zero → IsRunAt (target view x) run.at run → AreZeroBehind (disk_value view x) run.at 0 run.count
  zero_kind run e h i from to =
      let zero = subst (λ (k : Kind). Stands k i (target view x (run.at + i))) e (h.2 i to) in
      target_shows view x (run.at + i) ∙ zero_shown zero.0 (target view x (run.at + i)) zero.1

  -- a run that is stored is zero from the end of its storage on
  pub zero_stored : (run : Run) (layer storage offset n : ℕ) → run.kind ≡ K.Stored layer storage offset → layer < 18446744073709551615 → IsRunAt (target view x) run.at run
      → IsEndOf (target view x) layer storage n → AreZeroBehind (disk_value view x) run.at (n - offset) run.count
  zero_stored run layer storage offset n e small h end i from to =
      let t : Target = target view x (run.at + i) in
      let stands = subst (λ (k : Kind). Stands k i t) e (h.2 i to) in
      let past : n ≤ offset + i = omega (arith, from) in
      let zero = end (run.at + i) stands.1.0 (offset + i) stands.1.1 (told layer t.depth small stands.0) stands.1.2 past in
      target_shows view x (run.at + i) ∙ ap (shown (λ (q : ℕ). Byte 0)) stands.1.2 ∙ ap Byte zero

module _ {D St : Type 0} (view : D → View St) (x : FormatAccess D) where
  -- zeroes are the bytes of a run of zeroes
  pub zeroes_read : (run : Run) (skipped : ℕ) (buf : List ℕ) → run.kind ≡ K.Zero → IsRunAt (target view x) run.at run → skipped + length buf ≤ run.count
      → ((k : ℕ) → k < length buf → slice_index buf k ≡ 0) → HasValues (disk_value view x) (run.at + skipped) buf
  zeroes_read run skipped buf e h inside zero k lt =
      let i : ℕ = skipped + k in
      let within : i < run.count = omega (arith, inside, lt) in
      let here : run.at + i ≡ run.at + skipped + k = omega arith in
      let from : 0 ≤ i = omega arith in
      ap (disk_value view x) (sym here) ∙ zero_kind view x run e h i from within ∙ ap Byte (sym (zero k lt))

-- what is zero behind some bytes is zero behind as many, or more, and all of a run has nothing behind
pub behind_more : (at : ℕ → Value) (o m k n : ℕ) → min n m ≤ k → AreZeroBehind at o m n → AreZeroBehind at o k n
behind_more at o m k n le zero i from to = zero i (omega (arith, le, from, to)) to
