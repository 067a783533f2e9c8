-- SPDX-License-Identifier: MIT
use Rattle.std.proofs.Common.{◌≡◌, ◌≢◌, ℕ, ◌+◌, ◌-◌, ◌*◌, ◌/◌, ◌%◌, ◌<◌, ◌≤◌, ◌⊎◌, ⊎_elim, inl, inr, Bool, true, false, List, length, Option, Some, refl, sym, ap, ◌∙◌, arith, min, max, Result, Ok, Err, nat_lt}
use Rattle.std.specs.Prelude.{slice_get, slice_index, IsTrue, IfErr}
use Rattle.std.proofs.lemmas.Bool.{cases_Bool}
use Rattle.std.proofs.lemmas.Bool.Decides.{nat_tests}
use Rattle.std.proofs.lemmas.Nat.{div-add-mod'}
use Rattle.imago_storage.specs.declared.error.Error.{Error}
use Rattle.imago_storage.specs.declared.error.Error.TheVariants as E
use Rattle.imago_storage.specs.Features.{Features, AreLawful, len_align}
use Rattle.imago_storage.proofs.Padding.{wrap_causes}
use Rattle.imago_drivers.specs.Lengths.{padded_to}
use Rattle.imago_drivers.specs.declared.format.PreallocateMode.{PreallocateMode}
use Rattle.imago_drivers.specs.declared.format.PreallocateMode.TheVariants as Mode
use Rattle.imago_drivers.specs.Place.{Value, Byte, IsIn, Stored, shown}
use Rattle.imago_storage.specs.Padding.{Wraps}
use Rattle.imago_drivers.specs.Ranges.{HasWrappingPart}
use Rattle.imago_drivers.specs.Reasons.{allowed}
use Rattle.imago_drivers.specs.LayerBelow.{LayerBelow}
use Rattle.imago_drivers.specs.Resized.{grown_into}
use Rattle.imago_cow.specs.declared.table.GuestBlock.{GuestBlock}
use Rattle.imago_cow.specs.Guest.{entry_place, origin_in, NamedOnce}
use Rattle.imago_cow.specs.GuestLaws.{rest_small, lies_in}
use Rattle.imago_cow.specs.Copies.{old_value, copy_reasons}
use Rattle.imago_cow.specs.Growth.{SameOutside, fill_reasons}
use Rattle.imago_cow.specs.Cut.{shows_at, shows_below, IsCutRead, IsCutFilled, IsTaken}
use Rattle.imago_cow.proofs.WholeSteps.{times_more}
use Rattle.imago_cow.proofs.MapSteps.{number_ends}
use Rattle.imago_cow.proofs.RoundSteps.{padded_within}
use Rattle.imago_cow.proofs.CommitSteps.{same_or_not}
use Rattle.imago_cow.proofs.GrowSteps.{other_place}

-- a copy is refused for what the whole filling is
pub copy_refused : (f : Features) (l : LayerBelow) (absent : Bool) (o n to limit : ℕ) (reads : ℕ → Type 0) (e : Error) → to + n ≤ limit → (absent ≡ true → (p : ℕ) → IsIn o n p → reads p)
    → allowed (copy_reasons f l absent o n to) e → allowed (fill_reasons f l limit reads) e
copy_refused f l absent o n to limit reads E.WrapAround h k c = ⊎_elim (λ w. inl (refl, record { from = to; count = n; above = omega arith; below = omega (arith, h); wraps = w.1 })) (λ d. inr (o, n, c.0, k (d.0), d.1)) (c.1)
copy_refused f l absent o n to limit reads E.InvalidData h k c = ⊎_elim (λ w. let x : Error.InvalidData ≡ Error.WrapAround = w.0 in let z : ⊥ = cc in absurd z) (λ d. inr (o, n, c.0, k (d.0), d.1)) (c.1)
copy_refused f l absent o n to limit reads E.Unsupported h k c = ⊎_elim (λ w. let x : Error.Unsupported ≡ Error.WrapAround = w.0 in let z : ⊥ = cc in absurd z) (λ d. inr (o, n, c.0, k (d.0), d.1)) (c.1)
copy_refused f l absent o n to limit reads E.NoAccess h k c = ⊎_elim (λ w. let x : Error.NoAccess ≡ Error.WrapAround = w.0 in let z : ⊥ = cc in absurd z) (λ d. inr (o, n, c.0, k (d.0), d.1)) (c.1)
copy_refused f l absent o n to limit reads E.Device h k c = c
copy_refused f l absent o n to limit reads E.Memory h k c = c
copy_refused f l absent o n to limit reads E.ReadOnly h k c = c
copy_refused f l absent o n to limit reads E.BeyondDisk h k c = c
copy_refused f l absent o n to limit reads E.RangeOverflow h k c = c
copy_refused f l absent o n to limit reads E.ForeignMapping h k c = c
copy_refused f l absent o n to limit reads E.Denied h k c = c
copy_refused f l absent o n to limit reads E.NotFound h k c = c

-- the places of the cut guest block before the old end are read where it is absent
pub reads_before : (block size new_size : ℕ) (entries : List GuestBlock) (absent lower : Bool) → 0 < block → (absent ≡ true → slice_get entries (size / block) ≡ Some GuestBlock.Absent) → absent ≡ true → (p : ℕ) → IsIn (size - size % block) (size % block) p → IsCutRead block size entries lower new_size p
reads_before block size new_size entries absent lower positive here t p i =
    let a = div-add-mod' size block in
    let r = rest_small block positive size in
    let same : p / block ≡ size / block = lies_in block positive (size / block) p (omega (arith, a, i.0)) (omega (arith, a, r, i.1)) in
    let x : p < size = omega (arith, a, i.1) in
    inl (x, same, ap (slice_get entries) same ∙ here t)

pub reads_behind : (block size count new_size : ℕ) (entries : List GuestBlock) (lower : Bool) → size + count ≤ new_size → lower ≡ true → (p : ℕ) → IsIn size count p → IsCutRead block size entries lower new_size p
reads_behind block size count new_size entries lower fits t p i = let x : p < new_size = omega (arith, fits, i.1) in inr (t, i.0, x)

-- what a mode that adds bytes shows at a new place
pub grown_as : (mode : PreallocateMode) (lower : Bool) (at : ℕ → Value) (p : ℕ) (w : Value) → lower ≡ shows_below mode → (mode ≡ PreallocateMode.None → ⊥) → w ≡ old_value at lower p → grown_into mode true at p w
grown_as Mode.None lower at p w e some h = absurd (some refl)
grown_as Mode.Zero lower at p w e some h = h ∙ ap (λ b. old_value at b p) e
grown_as Mode.FormatAllocate lower at p w e some h = h ∙ ap (λ b. old_value at b p) e
grown_as Mode.FullAllocate lower at p w e some h = h ∙ ap (λ b. old_value at b p) e
grown_as Mode.WriteData lower at p w e some h = h ∙ ap (λ b. old_value at b p) e

-- a place of a data block that wasn't written stays
pub other_bytes : (block : ℕ) → 0 < block → (old new : List ℕ) (j p : ℕ) (entry : Option GuestBlock) → (entry ≡ Some (GuestBlock.Data j) → ⊥) → SameOutside (j * block) block old new → entry_place new block p entry ≡ entry_place old block p entry
other_bytes block positive old new j p entry other same = other_place block positive old new j 0 block p entry (omega arith) other (λ x h. same x (⊎_elim (λ a. inl (omega (arith, a))) (λ a. inr (omega (arith, a))) h))

module _ (at : ℕ → Value) (mode : PreallocateMode) (keeps told : Bool) (block size new_size : ℕ) (positive : 0 < block) where
  -- where in its guest block a place of the cut one stands
  at_rest : (p : ℕ) → p / block ≡ size / block → p + size % block ≡ size + p % block
  at_rest p same = let a = div-add-mod' size block in let b = div-add-mod' p block in let c : p / block * block ≡ size / block * block = ap (λ x. x * block) same in omega (arith, a, b, c)

  -- nothing is to be filled
  pub whole_filled : (entries : List GuestBlock) (bytes : List ℕ) → size % block ≡ 0 → IsCutFilled at mode keeps told block size new_size entries entries bytes bytes
  whole_filled entries bytes none = record {
    len = refl;
    kept = λ k t p h. refl;
    cut = λ k t p a b c d. absurd (omega (arith, d, none));
    others = λ k p h. refl;
  }

  pub left_filled : (entries : List GuestBlock) (bytes : List ℕ) → mode ≡ PreallocateMode.None → IsCutFilled at mode keeps told block size new_size entries entries bytes bytes
  left_filled entries bytes none = record {
    len = refl;
    kept = λ k t p h. refl;
    cut = λ k t p a b c d. rw none tt;
    others = λ k p h. refl;
  }

  -- an explicit zero stays one where the mode adds zeroes
  pub zero_filled : (entries : List GuestBlock) (bytes : List ℕ) → slice_get entries (size / block) ≡ Some GuestBlock.Zero → shows_below mode ≡ false → (mode ≡ PreallocateMode.None → ⊥) → IsCutFilled at mode keeps told block size new_size entries entries bytes bytes
  zero_filled entries bytes zero low some = record {
    len = refl;
    kept = λ k t p h. refl;
    cut = λ k t p a b c d. grown_as mode false at p (shows_at at bytes block entries p) (sym low) some (ap (λ x. shown at (entry_place bytes block p (slice_get entries x))) c ∙ ap (λ x. shown at (entry_place bytes block p x)) zero);
    others = λ k p h. refl;
  }

  -- bytes behind the old end were written into its data block
  pub data_filled : (entries : List GuestBlock) (bytes now : List ℕ) (j count : ℕ) (lower : Bool) → 0 < size % block → NamedOnce entries → slice_get entries (size / block) ≡ Some (GuestBlock.Data j) → count ≡ min (block - size % block) (new_size - size) → lower ≡ shows_below mode → (mode ≡ PreallocateMode.None → ⊥)
      → (IsTrue keeps → IsTrue told → (k : ℕ) → k < count → old_value at lower (size + k) ≡ Byte (slice_index now (j * block + size % block + k))) → (IsTrue keeps → SameOutside (j * block + size % block) count bytes now)
      → IsCutFilled at mode keeps told block size new_size entries entries bytes now
  data_filled entries bytes now j count lower cutting once named is low some copied outside =
      let r = rest_small block positive size in
      let same_place : IsTrue keeps → (p : ℕ) → ((p / block ≡ size / block) → p < size) → shows_at at now block entries p ≡ shows_at at bytes block entries p = λ k p h. ⊎_elim
      (λ same.
      let under = h same in
      let e : entry_place now block p (slice_get entries (p / block)) ≡ entry_place bytes block p (slice_get entries (p / block)) =
      ap (λ x. entry_place now block p (slice_get entries x)) same ∙ ap (entry_place now block p) named
      ∙ ap (λ b. Stored b 0 (origin_in block j p) true) (outside k (origin_in block j p) (inl (omega (arith, at_rest p same, under))))
      ∙ sym (ap (λ x. entry_place bytes block p (slice_get entries x)) same ∙ ap (entry_place bytes block p) named) in
      ap (shown at) e)
      (λ other. ap (shown at) (other_place block positive bytes now j (size % block) count p (slice_get entries (p / block)) (omega (arith, is, r)) (λ x. other (once (p / block) (size / block) j x named)) (outside k)))
      (same_or_not (p / block) (size / block)) in
      record {
        len = refl;
        kept = λ k t p h. same_place k p (λ s. h);
        cut = λ k t p a b c d.
            let e : shows_at at now block entries p ≡ Byte (slice_index now (origin_in block j p)) = ap (λ x. shown at (entry_place now block p (slice_get entries x))) c ∙ ap (λ x. shown at (entry_place now block p x)) named in
            let rest = at_rest p c in
            let q = rest_small block positive p in
            let i : origin_in block j p ≡ j * block + size % block + (p - size) = omega (arith, rest, a) in
            let s : size + (p - size) ≡ p = omega (arith, a) in
            let l : p - size < count = omega (arith, is, a, b, rest, q) in
            grown_as mode lower at p (shows_at at now block entries p) low some (e ∙ ap (λ x. Byte (slice_index now x)) i ∙ sym (copied k t (p - size) l) ∙ ap (old_value at lower) s);
        others = λ k p h. same_place k p (λ s. ⊎_elim (λ o. absurd (o s)) (λ z. absurd (omega (arith, z, cutting))) h);
      }

  -- the guest block was entered in a data block that was filled
  pub taken_filled : (old new : List GuestBlock) (bytes now : List ℕ) (count : ℕ) (absent lower : Bool) → 0 < size % block → length new ≡ length old → (absent ≡ true → slice_get old (size / block) ≡ Some GuestBlock.Absent) → (absent ≡ false → slice_get old (size / block) ≡ Some GuestBlock.Zero)
      → count ≡ min (block - size % block) (new_size - size) → lower ≡ shows_below mode → (mode ≡ PreallocateMode.None → ⊥) → (IsTrue keeps → IsTaken at told block size count absent lower old new bytes now) → IsCutFilled at mode keeps told block size new_size old new bytes now
  taken_filled old new bytes now count absent lower cutting len here there is low some taken =
      let others : IsTrue keeps → (p : ℕ) → p / block ≢ size / block → shows_at at now block new p ≡ shows_at at bytes block old p = λ k p other.
      let t = taken k in
      ap (λ x. shown at (entry_place now block p x)) (t.entered.others (p / block) other) ∙ ap (shown at) (other_bytes block positive bytes now t.number p (slice_get old (p / block)) (t.unnamed (p / block)) t.outside) in
      let there_now : (k : IsTrue keeps) (p : ℕ) → p / block ≡ size / block → shows_at at now block new p ≡ Byte (slice_index now (origin_in block ((taken k).number) p)) = λ k p same.
      ap (λ x. shown at (entry_place now block p (slice_get new x))) same ∙ ap (λ x. shown at (entry_place now block p x)) (taken k).entered.at in
      let was : (p : ℕ) → p / block ≡ size / block → shows_at at bytes block old p ≡ old_value at absent p = λ p same.
      ap (λ x. shown at (entry_place bytes block p (slice_get old x))) same ∙ ⊎_elim
      (λ t. ap (λ x. shown at (entry_place bytes block p x)) (here t) ∙ ap (λ b. old_value at b p) (sym t))
      (λ t. ap (λ x. shown at (entry_place bytes block p x)) (there t) ∙ ap (λ b. old_value at b p) (sym t))
      (cases_Bool absent) in
      record {
        len = len;
        kept = λ k t p h. ⊎_elim
            (λ same.
            let rest = at_rest p same in
            let l : p % block < size % block = omega (arith, rest, h) in
            let e : size - size % block + p % block ≡ p = omega (arith, rest, div-add-mod' size block) in
            there_now k p same ∙ sym ((taken k).before t (p % block) l) ∙ ap (old_value at absent) e ∙ sym (was p same))
            (λ other. others k p other)
            (same_or_not (p / block) (size / block));
        cut = λ k t p a b c d.
            let rest = at_rest p c in
            let q = rest_small block positive p in
            let own = taken k in
            let i : origin_in block own.number p ≡ own.number * block + size % block + (p - size) = omega (arith, rest, a) in
            let s : size + (p - size) ≡ p = omega (arith, a) in
            let l : p - size < count = omega (arith, is, a, b, rest, q) in
            grown_as mode lower at p (shows_at at now block new p) low some (there_now k p c ∙ ap (λ x. Byte (slice_index now x)) i ∙ sym (own.behind t (p - size) l) ∙ ap (old_value at lower) s);
        others = λ k p h. ⊎_elim (λ o. others k p o) (λ z. absurd (omega (arith, z, cutting))) h;
      }

-- a data block that can't be taken
pub take_refused : (f : Features) (l : LayerBelow) (block blocks named : ℕ) (reads : ℕ → Type 0) (e : Error) → AreLawful f → (e ≡ Error.WrapAround) ⊎ (e ≡ Error.Memory) → (e ≡ Error.WrapAround → 18446744073709551616 ≤ (named + 1) * block) → allowed (fill_reasons f l (max blocks (named + 1) * block) reads) e
take_refused f l block blocks named reads e lawful only wraps = ⊎_elim
    (λ w.
    let big = wraps w in
    let some : 0 < (named + 1) * block = omega (arith, big) in
    let less : (named + 1) * block ≤ max blocks (named + 1) * block = times_more block (named + 1) (max blocks (named + 1)) (omega arith) in
    rw w (inl (refl, record { from = 0; count = (named + 1) * block; above = omega arith; below = omega (arith, less); wraps = (wrap_causes f lawful 0 ((named + 1) * block) some).1 (inl (omega (arith, big))) })))
    (λ m. rw m tt)
    only

-- a data block below a limit ends by it
pub filled_length : (block number limit len old align : ℕ) → number < limit → len ≤ max old (number * block + block + align) → len ≤ max old (limit * block + align)
filled_length block number limit len old align known h = let x = number_ends block number limit known in omega (arith, x, h)

pub part_length : (f : Features) (block number limit a count len old : ℕ) → number < limit → a + count ≤ block → len ≤ max old (padded_to f (number * block + a) count) → len ≤ max old (limit * block + (len_align f - 1))
part_length f block number limit a count len old known inside h =
    let x = number_ends block number limit known in
    let y = padded_within f (number * block + a) count (limit * block) (omega (arith, x, inside)) in
    omega (arith, h, y)

-- what a torn filling of the cut data block leaves before the old end
pub data_torn : (block size count j : ℕ) (entries : List GuestBlock) (bytes now : List ℕ) → 0 < block → NamedOnce entries → slice_get entries (size / block) ≡ Some (GuestBlock.Data j) → size % block + count ≤ block → SameOutside (j * block + size % block) count bytes now
    → (p : ℕ) → p < size → entry_place now block p (slice_get entries (p / block)) ≡ entry_place bytes block p (slice_get entries (p / block))
data_torn block size count j entries bytes now positive once named inside outside p h = ⊎_elim
    (λ same.
    let a = div-add-mod' size block in let b = div-add-mod' p block in let c : p / block * block ≡ size / block * block = ap (λ x. x * block) same in
    ap (λ x. entry_place now block p (slice_get entries x)) same ∙ ap (entry_place now block p) named
    ∙ ap (λ x. Stored x 0 (origin_in block j p) true) (outside (origin_in block j p) (inl (omega (arith, a, b, c, h))))
    ∙ sym (ap (λ x. entry_place bytes block p (slice_get entries x)) same ∙ ap (entry_place bytes block p) named))
    (λ other. other_place block positive bytes now j (size % block) count p (slice_get entries (p / block)) inside (λ x. other (once (p / block) (size / block) j x named)) outside)
    (same_or_not (p / block) (size / block))

pub if_refused : (f : Features) (l : LayerBelow) (absent : Bool) (o n to limit : ℕ) (reads : ℕ → Type 0) (r : Result Unit Error) → to + n ≤ limit → (absent ≡ true → (p : ℕ) → IsIn o n p → reads p)
    → IfErr r (allowed (copy_reasons f l absent o n to)) → IfErr r (allowed (fill_reasons f l limit reads))
if_refused f l absent o n to limit reads (Ok x) h k c = tt
if_refused f l absent o n to limit reads (Err e) h k c = copy_refused f l absent o n to limit reads e h k c

-- a greater limit
pub limit_length : (block limit most len old align : ℕ) → limit ≤ most → len ≤ max old (limit * block + align) → len ≤ max old (most * block + align)
limit_length block limit most len old align more h = let x = times_more block limit most more in omega (arith, h, x)

wrap_limit : (f : Features) (a b : ℕ) → a ≤ b → HasWrappingPart (Wraps f) 0 a → HasWrappingPart (Wraps f) 0 b
wrap_limit f a b h w = record { from = w.from; count = w.count; above = w.above; below = omega (arith, w.below, h); wraps = w.wraps }

pub limit_refused : (f : Features) (l : LayerBelow) (a b : ℕ) (reads more : ℕ → Type 0) (e : Error) → a ≤ b → ((p : ℕ) → reads p → more p) → allowed (fill_reasons f l a reads) e → allowed (fill_reasons f l b more) e
limit_refused f l a b reads more E.WrapAround h k c = ⊎_elim (λ w. inl (refl, wrap_limit f a b h (w.1))) (λ d. inr (d.0, d.1, d.2, λ p i. k p (d.3 p i), d.4)) c
limit_refused f l a b reads more E.InvalidData h k c = ⊎_elim (λ w. let x : Error.InvalidData ≡ Error.WrapAround = w.0 in let z : ⊥ = cc in absurd z) (λ d. inr (d.0, d.1, d.2, λ p i. k p (d.3 p i), d.4)) c
limit_refused f l a b reads more E.Unsupported h k c = ⊎_elim (λ w. let x : Error.Unsupported ≡ Error.WrapAround = w.0 in let z : ⊥ = cc in absurd z) (λ d. inr (d.0, d.1, d.2, λ p i. k p (d.3 p i), d.4)) c
limit_refused f l a b reads more E.NoAccess h k c = ⊎_elim (λ w. let x : Error.NoAccess ≡ Error.WrapAround = w.0 in let z : ⊥ = cc in absurd z) (λ d. inr (d.0, d.1, d.2, λ p i. k p (d.3 p i), d.4)) c
limit_refused f l a b reads more E.Device h k c = c
limit_refused f l a b reads more E.Memory h k c = c
limit_refused f l a b reads more E.ReadOnly h k c = c
limit_refused f l a b reads more E.BeyondDisk h k c = c
limit_refused f l a b reads more E.RangeOverflow h k c = c
limit_refused f l a b reads more E.ForeignMapping h k c = c
limit_refused f l a b reads more E.Denied h k c = c
limit_refused f l a b reads more E.NotFound h k c = c

pub if_limit_refused : (f : Features) (l : LayerBelow) (a b : ℕ) (reads more : ℕ → Type 0) (r : Result Unit Error) → a ≤ b → ((p : ℕ) → reads p → more p) → IfErr r (allowed (fill_reasons f l a reads)) → IfErr r (allowed (fill_reasons f l b more))
if_limit_refused f l a b reads more (Ok x) h k c = tt
if_limit_refused f l a b reads more (Err e) h k c = limit_refused f l a b reads more e h k c

some_padded : (f : Features) (n : ℕ) → 0 < n → padded_to f 0 n ≡ n + (len_align f - 1)
some_padded f n some = let t : nat_lt 0 n ≡ true = grind (arith, nat_tests) in rw t (omega arith)

pub limit_padded : (f : Features) (block limit most len old : ℕ) → 0 < block → 0 < limit → limit ≤ most → len ≤ max old (limit * block + (len_align f - 1)) → len ≤ max old (padded_to f 0 (most * block))
limit_padded f block limit most len old positive some more h =
    let x = times_more block limit most more in
    let y = times_more block 1 limit (omega (arith, some)) in
    let z : 0 < most * block = omega (arith, x, y, positive) in
    let w = some_padded f (most * block) z in
    omega (arith, h, x, w)

pub part_padded : (f : Features) (block number most a count len old : ℕ) → 0 < block → number < most → a + count ≤ block → len ≤ max old (padded_to f (number * block + a) count) → len ≤ max old (padded_to f 0 (most * block))
part_padded f block number most a count len old positive known inside h = limit_padded f block most most len old positive (omega (arith, known)) (omega arith) (part_length f block number most a count len old known inside h)
