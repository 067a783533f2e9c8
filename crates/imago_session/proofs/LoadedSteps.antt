-- Files of which some blocks are in memory.
-- SPDX-License-Identifier: MIT
use Rattle.std.proofs.Common.{◌≡◌, ℕ, ◌+◌, ◌-◌, ◌*◌, ◌%◌, ◌/◌, ◌<◌, ◌≤◌, ⊎_elim, inl, List, length, Result, Ok, Err, OnOk, refl, sym, ap, subst, ◌∙◌, arith, false}
use Rattle.std.specs.Prelude.{slice_index, max, Option, Some, None, IsSome, IsTrue}
use Rattle.std.specs.declared.sync.ArcSlice.{ArcSlice}
use Rattle.std.specs.Arc.{arc_slice_items}
use Rattle.std.specs.declared.alloc.Global.{Global}
use Rattle.std.specs.BTreeMap.{is_at, Updates}
use Rattle.std.specs.Ordering.{nat_cmp}
use Rattle.std.proofs.lemmas.Bool.{cases_eq, cases_lt}
use Rattle.std.proofs.lemmas.Bool.Decides.{nat_tests}
use Rattle.std.proofs.lemmas.Nat.{le-div, div-mul-add}
use Rattle.std.proofs.lemmas.List.{get_or_past}
use Rattle.std.proofs.lemmas.List.FromFn.{length-map-range_with_len, get_or-map-range_with_len}
use Rattle.std.proofs.Math.Nat.{mod-lt, mod-add-div', div-mul-le_self}
use Rattle.imago_storage.specs.declared.error.Error.{Error}
use Rattle.imago_storage.specs.Bytes.{splice, OldOrNew, WriteOutcome, IsReadAt, bytes_at}
use Rattle.imago_storage.proofs.Splices.{splice_length}
use Rattle.imago_session.specs.declared.loaded.LoadedFile.{LoadedFile}
use Rattle.imago_session.specs.Loaded.{byte_in, block_at, loaded_byte, loaded_bytes, IsBlockOf, HasBytesOf, IsThere, AreThere, Keeps}

pub loaded_length : (f : LoadedFile) → length (loaded_bytes f) ≡ f.length
loaded_length f = length-map-range_with_len (loaded_byte f) 0 f.length

-- a byte inside the file, and one behind its end
pub byte_inside : (f : LoadedFile) (p : ℕ) → p < f.length → slice_index (loaded_bytes f) p ≡ loaded_byte f p
byte_inside f p h = get_or-map-range_with_len (loaded_byte f) 0 f.length p p 0 h (omega arith)

pub byte_behind : (f : LoadedFile) (p : ℕ) → f.length ≤ p → slice_index (loaded_bytes f) p ≡ 0
byte_behind f p h = get_or_past (loaded_bytes f) p 0 (let e = loaded_length f in omega (arith, e, h))

-- the length once something was written
pub written_length : (f : LoadedFile) (at : ℕ) (new : List ℕ) → length (splice (loaded_bytes f) at new) ≡ max f.length (at + length new)
written_length f at new = splice_length (loaded_bytes f) at new ∙ ap (λ n. max n (at + length new)) (loaded_length f)

no_false : IsTrue false → ⊥
no_false e = cc e

any_ok : {T : Type 0} (r : Result T Error) (P : Type 0) → P → OnOk r P
any_ok (Ok x) P h = h
any_ok (Err e) P h = tt

-- a write raises the length, and keeps nothing
pub raised : {T : Type 0} (old new : LoadedFile) (at : ℕ) (source : List ℕ) (r : Result T Error) → new.length ≡ max old.length (at + length source)
    → WriteOutcome false (loaded_bytes old) (splice (loaded_bytes old) at source) (loaded_bytes new) r
raised old new at source r e =
    let target = splice (loaded_bytes old) at source in
    let far : length target ≡ max old.length (at + length source) = written_length old at source in
    let before : length (loaded_bytes old) ≡ old.length = loaded_length old in
    let after : length (loaded_bytes new) ≡ new.length = loaded_length new in
    record {
      done = λ no. absurd (no_false no);
      len = any_ok r (length (loaded_bytes new) ≡ length target) (after ∙ e ∙ sym far);
      refused = λ no. absurd (no_false no);
      no_shorter = omega (arith, before, after, e);
      no_longer = omega (arith, far, after, e);
    }

-- a refused one changes nothing
pub torn : (f : LoadedFile) (at : ℕ) (source : List ℕ) → OldOrNew (loaded_bytes f) (splice (loaded_bytes f) at source) (loaded_bytes f)
torn f at source =
    let far : length (splice (loaded_bytes f) at source) ≡ max f.length (at + length source) = written_length f at source in
    let here : length (loaded_bytes f) ≡ f.length = loaded_length f in
    record { each = λ p. inl refl; no_shorter = omega arith; no_longer = omega (arith, far, here) }

pub refused : {T : Type 0} (f : LoadedFile) (at : ℕ) (source : List ℕ) (e : Error)
    → WriteOutcome {T = T} false (loaded_bytes f) (splice (loaded_bytes f) at source) (loaded_bytes f) (Err e)
refused f at source e =
    let h = torn f at source in
    record {
      done = λ no. absurd (no_false no);
      len = tt;
      refused = λ no. absurd (no_false no);
      no_shorter = h.no_shorter;
      no_longer = h.no_longer;
    }

block_byte : (file : List ℕ) (k n i : ℕ) (o : Option (ArcSlice ℕ Global)) → IsSome o → IsBlockOf file k n o → i < k → byte_in o i ≡ slice_index file (n * k + i)
block_byte file k n i None there h lt = absurd (no_false there)
block_byte file k n i (Some v) there h lt = h i lt

-- what is in memory is the file's
pub same_byte : (file : List ℕ) (f : LoadedFile) → HasBytesOf file f → length file ≡ f.length → 0 < f.block
    → (p : ℕ) → IsThere f (p / f.block) → slice_index file p ≡ slice_index (loaded_bytes f) p
same_byte file f has len positive p there = ⊎_elim
    (λ inside.
    let parts : p % f.block + p / f.block * f.block ≡ p = mod-add-div' p f.block in
    let split : p / f.block * f.block + p % f.block ≡ p = omega (arith, parts) in
    sym (byte_inside f p inside
    ∙ block_byte file f.block (p / f.block) (p % f.block) (block_at f (p / f.block)) there (has (p / f.block)) (mod-lt p positive)
    ∙ ap (slice_index file) split))
    (λ behind.
    let far : length file ≤ p = omega (arith, len, behind) in
    get_or_past file p 0 far ∙ sym (byte_behind f p behind))
    (cases_lt p f.length)

-- the bytes from an offset on, one by one
pub byte_at : (xs buf : List ℕ) (o n i : ℕ) → buf ≡ bytes_at xs o n → i < n → slice_index buf i ≡ slice_index xs (o + i)
byte_at xs buf o n i e h = ap (λ ys. slice_index ys i) e ∙ get_or-map-range_with_len (slice_index xs) o n i (o + i) 0 h refl

not_at : (a q : ℕ) → (a ≡ q → ⊥) → is_at (nat_cmp a) q ≡ false
not_at a q apart = grind (arith, nat_tests)

-- one block more
module _ (old new : LoadedFile) (n : ℕ) (v : ArcSlice ℕ Global) (same : new.block ≡ old.block) (u : Updates nat_cmp old.blocks new.blocks n (Some v)) where
  here : block_at new n ≡ Some v
  here = u.1

  elsewhere : (q : ℕ) → (n ≡ q → ⊥) → block_at new q ≡ block_at old q
  elsewhere q apart = u.2 q (not_at n q apart)

  pub has_more : (file : List ℕ) → ((i : ℕ) → i < old.block → slice_index (arc_slice_items v) i ≡ slice_index file (n * old.block + i)) → HasBytesOf file old → HasBytesOf file new
  has_more file read has q = ⊎_elim
      (λ e. subst (λ k. IsBlockOf file new.block k (block_at new k)) e (rw (here, same) read))
      (λ apart. rw (elsewhere q apart, same) (has q))
      (cases_eq n q)

-- a block number isn't greater for a lower offset
pub div_mono : (p q k : ℕ) → 0 < k → p ≤ q → p / k ≤ q / k
div_mono p q k positive h =
    let e : p / k * k ≤ p = div-mul-le_self p k in
    let f : p / k * k ≤ q = omega (arith, e, h) in
    le-div (p / k) q k positive f

-- the blocks from the first byte's to the last one's have all
pub blocks_there : (f : LoadedFile) (at n : ℕ) → 0 < f.block → 0 < n
    → ((q : ℕ) → at / f.block ≤ q → q < (at + (n - 1)) / f.block → IsThere f q)
    → IsThere f ((at + (n - 1)) / f.block) → AreThere f at n
blocks_there f at n positive some before last p low high =
    let k = f.block in
    let far : p ≤ at + (n - 1) = omega (arith, high, some) in
    let under : p / k ≤ (at + (n - 1)) / k = div_mono p (at + (n - 1)) k positive far in
    ⊎_elim
    (λ inside. before (p / k) (div_mono at p k positive low) inside)
    (λ at_end. let e : (at + (n - 1)) / k ≡ p / k = omega (arith, under, at_end) in subst (IsThere f) e last)
    (cases_lt (p / k) ((at + (n - 1)) / k))

pub keeps_refl : (f : LoadedFile) → Keeps f f
keeps_refl f = record { len = refl; block = refl; kept = λ n h. h }

-- what is in memory stays so
pub there_stays : (a b : LoadedFile) (at n : ℕ) → Keeps a b → AreThere a at n → AreThere b at n
there_stays a b at n keeps h p low high = let e : b.block ≡ a.block = keeps.block in rw e (keeps.kept (p / a.block) (h p low high))

-- bytes behind an offset, in its block
same_block : (p i k : ℕ) → p % k + i < k → (p + i) / k ≡ p / k
same_block p i k h =
    let split : p % k + p / k * k ≡ p = mod-add-div' p k in
    let e : p + i ≡ p / k * k + (p % k + i) = omega (arith, split) in
    ap (λ (n : ℕ). n / k) e ∙ div-mul-add (p / k) k (p % k + i) h

same_rest : (p i k : ℕ) → p % k + i < k → (p + i) % k ≡ p % k + i
same_rest p i k h =
    let split : p % k + p / k * k ≡ p = mod-add-div' p k in
    let further : (p + i) % k + (p + i) / k * k ≡ p + i = mod-add-div' (p + i) k in
    let same : (p + i) / k * k ≡ p / k * k = ap (λ (n : ℕ). n * k) (same_block p i k h) in
    omega (arith, split, further, same)

byte_in_part : (f : LoadedFile) (p i : ℕ) → p + i < f.length → p % f.block + i < f.block
    → slice_index (loaded_bytes f) (p + i) ≡ byte_in (block_at f (p / f.block)) (p % f.block + i)
byte_in_part f p i inside within =
    byte_inside f (p + i) inside
    ∙ ap (λ (n : ℕ). byte_in (block_at f n) ((p + i) % f.block)) (same_block p i f.block within)
    ∙ ap (byte_in (block_at f (p / f.block))) (same_rest p i f.block within)

-- what is read of a block is read of the file
pub in_block : (f : LoadedFile) (p : ℕ) (xs buf : List ℕ) (v : ArcSlice ℕ Global) → p + length buf ≤ f.length → p % f.block + length buf ≤ f.block
    → Some v ≡ block_at f (p / f.block) → xs ≡ arc_slice_items v → IsReadAt xs (p % f.block) buf → IsReadAt (loaded_bytes f) p buf
in_block f p xs buf v inside within e is read i lt =
    read i lt
    ∙ ap (λ (ys : List ℕ). slice_index ys (p % f.block + i)) is
    ∙ ap (λ (o : Option (ArcSlice ℕ Global)). byte_in o (p % f.block + i)) e
    ∙ sym (byte_in_part f p i (omega (arith, inside, lt)) (omega (arith, within, lt)))

-- what is a whole block, and its copy, is read of the file
pub whole_block : (f : LoadedFile) (p : ℕ) (v copy : ArcSlice ℕ Global) → p % f.block ≡ 0 → p + f.block ≤ f.length → Some v ≡ block_at f (p / f.block)
    → length (arc_slice_items v) ≡ f.block → arc_slice_items copy ≡ arc_slice_items v → IsReadAt (loaded_bytes f) p (arc_slice_items copy)
whole_block f p v copy zero inside there whole same =
    let len : length (arc_slice_items copy) ≡ f.block = ap length same ∙ whole in
    in_block f p (arc_slice_items v) (arc_slice_items copy) v (omega (arith, len, inside)) (omega (arith, len, zero)) there refl
    (λ i lt. let e : p % f.block + i ≡ i = omega (arith, zero) in ap (λ (ys : List ℕ). slice_index ys i) same ∙ sym (ap (slice_index (arc_slice_items v)) e))

pub in_none : (f : LoadedFile) (p : ℕ) (buf : List ℕ) → p + length buf ≤ f.length → p % f.block + length buf ≤ f.block
    → None ≡ block_at f (p / f.block) → ((i : ℕ) → i < length buf → slice_index buf i ≡ 0) → IsReadAt (loaded_bytes f) p buf
in_none f p buf inside within e zero i lt =
    zero i lt
    ∙ ap (λ (o : Option (ArcSlice ℕ Global)). byte_in o (p % f.block + i)) e
    ∙ sym (byte_in_part f p i (omega (arith, inside, lt)) (omega (arith, within, lt)))

-- a range of a file that is in memory
pub same_range : (file : List ℕ) (f : LoadedFile) (at n : ℕ) → HasBytesOf file f → length file ≡ f.length → 0 < f.block
    → AreThere f at n → (i : ℕ) → i < n → slice_index file (at + i) ≡ slice_index (loaded_bytes f) (at + i)
same_range file f at n has len positive there i h = same_byte file f has len positive (at + i) (there (at + i) (omega arith) (omega (arith, h)))
