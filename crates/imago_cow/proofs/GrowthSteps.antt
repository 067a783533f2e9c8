-- SPDX-License-Identifier: MIT
use Rattle.std.proofs.Common.{◌≡◌, ◌≢◌, ℕ, ◌+◌, ◌-◌, ◌*◌, ◌/◌, ◌%◌, ◌<◌, ◌≤◌, ◌&&◌, ⊎_elim, inl, inr, Bool, true, false, List, length, max, Some, None, Result, Ok, Err, refl, sym, subst, ap, ◌∙◌, arith}
use Rattle.std.specs.Prelude.{slice_get, IsTrue, IfErr}
use Rattle.std.proofs.lemmas.Bool.{cases_lt}
use Rattle.std.proofs.lemmas.Nat.{div-add-mod'}
use Rattle.imago_storage.specs.declared.error.Error.{Error}
use Rattle.imago_storage.specs.Faults.{CountsFaults}
use Rattle.imago_storage.specs.Features.{Features}
use Rattle.imago_drivers.specs.Calls.{IsGrowth}
use Rattle.imago_drivers.specs.Done.{lending_reasons}
use Rattle.imago_drivers.specs.Lengths.{padded_to}
use Rattle.imago_drivers.specs.LayerBelow.{LayerBelow}
use Rattle.imago_drivers.specs.Operation.{Grow}
use Rattle.imago_drivers.specs.Place.{shown}
use Rattle.imago_drivers.specs.Reasons.{allowed}
use Rattle.imago_drivers.specs.Resized.{IsSameDisk, grown_into}
use Rattle.imago_drivers.specs.declared.format.PreallocateMode.{PreallocateMode}
use Rattle.imago_drivers.specs.declared.format.PreallocateMode.TheVariants as Mode
use Rattle.imago_cow.specs.declared.table.GuestBlock.{GuestBlock}
use Rattle.imago_cow.specs.Guest.{IsExact, Covers, entry_place, cow_place, is_data}
use Rattle.imago_cow.specs.GuestLaws.{rest_small, place_in, touched_by}
use Rattle.imago_cow.specs.Growth.{KeepsBytes, IsExtended, fill_reasons}
use Rattle.imago_cow.specs.Cut.{shows_at, shows_below, IsCutRead, IsCutFilled, IsCutEntered}
use Rattle.imago_cow.specs.Table.{named_count}
use Rattle.imago_cow.specs.Cow.{cow_view, cow_copies, data_count, uses_data, grown_until, touched_until, IsInAbsent}
use Rattle.imago_cow.proofs.WholeSteps.{times_more, times_next}
use Rattle.imago_cow.proofs.CommitSteps.{same_or_not}
use Rattle.imago_cow.proofs.CutSteps.{grown_as}
use Rattle.imago_cow.proofs.ResizeSteps.{needs_no_fewer}
use Rattle.imago_cow.proofs.BoundSteps.{new_ones_fit}
use Rattle.imago_cow.proofs.GrowBounds.{cut_inside, cut_fits, zero_reaches}
use Rattle.imago_cow.proofs.CutEntries.{data_stays, data_was}
use Rattle.imago_cow.proofs.GrowSteps.{grown_filled, refused_filled}
use Rattle.imago_cow.proofs.GrownSteps.{kept_place, grow_refused}

-- where the entries of the old disk end
ends_far : (size block : ℕ) (old : List GuestBlock) → 0 < block → IsExact size block old → 0 < size % block → length old ≤ size / block + 1
ends_far size block old positive exact cutting = ⊎_elim
    (λ over. let x = times_more block (size / block + 2) (length old) (omega (arith, over)) in absurd (omega (arith, x, exact.near, div-add-mod' size block, rest_small block positive size)))
    (λ under. under)
    (cases_lt (size / block + 1) (length old))

ends_near : (size block : ℕ) (old : List GuestBlock) → 0 < block → IsExact size block old → size % block ≡ 0 → length old * block ≤ size
ends_near size block old positive exact whole = ⊎_elim
    (λ over. let x = times_next block (size / block) (length old) over in absurd (omega (arith, x, exact.near, div-add-mod' size block, whole)))
    (λ under. let x = times_more block (length old) (size / block) under in omega (arith, x, div-add-mod' size block))
    (cases_lt (size / block) (length old))

-- new blocks begin behind the one that the end cuts
begins_behind : (size block : ℕ) (old : List GuestBlock) (p : ℕ) → 0 < block → IsExact size block old → 0 < size % block → size ≤ p → p / block ≢ size / block → length old * block ≤ p
begins_behind size block old p positive exact cutting h other = ⊎_elim
    (λ less. let x = times_next block (p / block) (size / block) less in absurd (omega (arith, x, h, div-add-mod' size block, div-add-mod' p block, rest_small block positive p)))
    (λ more. ⊎_elim
    (λ greater. let x = times_more block (length old) (p / block) (omega (arith, greater, ends_far size block old positive exact cutting)) in omega (arith, x, div-add-mod' p block))
    (λ equal. absurd (other (omega (arith, more, equal))))
    (cases_lt (size / block) (p / block)))
    (cases_lt (p / block) (size / block))

module _ (f : Features) (faults now_faults : ℕ) (x y z : List ℕ) (size block new_size : ℕ) (old mid new : List GuestBlock) (blocks now_blocks : ℕ) (l : LayerBelow) (mode : PreallocateMode) (lower : Bool)
    (positive : 0 < block) (grows : size < new_size) (exact : IsExact size block old) (low : lower ≡ shows_below mode) (some : mode ≡ PreallocateMode.None → ⊥) where
  -- the cut guest block was filled, and then new ones were added
  pub grown_whole : IsCutFilled l.at mode f.keeps_data l.tells_bytes block size new_size old mid x y → IsExtended l.at lower f.keeps_data l.tells_bytes block (length mid * block) new_size mid new y z → Covers new_size block new
      → length z ≤ max (length x) (padded_to f 0 (data_count block size old blocks None (Grow mode) new_size 0 * block)) → CountsFaults {T = Unit {0}} (f.is_reliable && l.is_reliable) faults now_faults (Ok tt)
      → IsGrowth mode l new_size (cow_view f faults x size block old blocks None) (cow_view f now_faults z new_size block new now_blocks None) (Ok tt)
  grown_whole cut extended covers longer counted =
      let ends : length mid * block ≡ length old * block = ap (λ n. n * block) cut.len in
      let shows : (p : ℕ) → p < new_size → shown l.at (cow_place z new_size block new p) ≡ shows_at l.at z block new p = λ p h. ap (shown l.at) (place_in z new_size block new p h) in
      grown_filled f faults now_faults x z size block old new blocks now_blocks new_size positive l mode (omega (arith, grows)) covers
      (λ k t p h. shows p (omega (arith, h, grows)) ∙ extended.kept k p (omega (arith, h, exact.covers, ends)) ∙ cut.kept k t p h ∙ ap (shown l.at) (sym (place_in x size block old p h)))
      (λ k t p a b.
      let added : length old * block ≤ p → grown_into mode true l.at p (shown l.at (cow_place z new_size block new p)) = λ behind.
      grown_as mode lower l.at p (shown l.at (cow_place z new_size block new p)) low some (shows p b ∙ extended.added k t p (omega (arith, ends, behind)) b) in
      ⊎_elim
      (λ cutting. ⊎_elim
      (λ same.
      let last = times_more block (size / block + 1) (length old) (omega (arith, cut_inside block size old positive exact cutting)) in
      let within : p / block * block ≡ size / block * block = ap (λ n. n * block) same in
      let before : p < length mid * block = omega (arith, last, ends, within, div-add-mod' p block, rest_small block positive p) in
      subst (λ w. grown_into mode true l.at p w) (sym (shows p b ∙ extended.kept k p before)) (cut.cut k t p a b same cutting))
      (λ other. added (begins_behind size block old p positive exact cutting a other))
      (same_or_not (p / block) (size / block)))
      (λ whole. let w : size % block ≡ 0 = omega (arith, whole) in added (omega (arith, ends_near size block old positive exact w, a)))
      (cases_lt 0 (size % block)))
      longer counted

  -- the cut guest block couldn't be filled
  pub cut_refused : (IsTrue f.keeps_data → (p : ℕ) → p < size → entry_place z block p (slice_get old (p / block)) ≡ entry_place x block p (slice_get old (p / block))) → length x ≤ length z
      → IsSameDisk (cow_view f faults x size block old blocks None) (cow_view f now_faults z size block old now_blocks None)
  cut_refused places longer = refused_filled f faults now_faults x z size block old blocks now_blocks positive exact.covers
      (λ k p h. place_in z size block old p h ∙ places k p h ∙ sym (place_in x size block old p h))
      longer

  -- it was filled, but new guest blocks couldn't be added, and it got its entry back
  pub add_refused : IsCutEntered block size old mid → length mid ≡ length old → (IsTrue f.keeps_data → (p : ℕ) → p < size → entry_place y block p (slice_get old (p / block)) ≡ entry_place x block p (slice_get old (p / block)))
      → KeepsBytes f.keeps_data block (length mid * block) mid y z → length x ≤ length z
      → IsSameDisk (cow_view f faults x size block old blocks None) (cow_view f now_faults z size block old now_blocks None)
  add_refused entered len places bytes longer =
      let ends : length mid * block ≡ length old * block = ap (λ n. n * block) len in
      let same : KeepsBytes f.keeps_data block (length mid * block) old y z = λ k i j r e. bytes k i j r (data_stays block size old mid entered i j e) in
      cut_refused
      (λ k p h. kept_place f.keeps_data block (length mid * block) old y z positive same k p (omega (arith, h, exact.covers, ends)) (slice_get old (p / block)) refl ∙ places k p h)
      longer

  -- a refused growth
  pub not_grown : (e : Error) → IsSameDisk (cow_view f faults x size block old blocks None) (cow_view f now_faults z size block old now_blocks None)
      → length z ≤ max (length x) (padded_to f 0 (data_count block size old blocks None (Grow mode) new_size 0 * block)) → CountsFaults {T = Unit {0}} (f.is_reliable && l.is_reliable) faults now_faults (Err e)
      → allowed (record (lending_reasons (cow_view f faults x size block old blocks None) l (Grow mode) new_size 0) { beyond_disk = ⊥ }) e
      → IsGrowth mode l new_size (cow_view f faults x size block old blocks None) (cow_view f now_faults z size block old now_blocks None) (Err e)
  not_grown e same longer counted reasons = record {
    grown = tt;
    idle = λ h. absurd (omega (arith, h, grows));
    unchanged = same;
    nothing_pending = refl;
    no_longer = λ i. longer;
    kind = record { abilities = refl; store_count = refl; store_features = λ i. refl };
    faults = counted;
    refusals = reasons;
  }

-- a mode that isn't without preallocation uses data blocks
pub mode_uses : (mode : PreallocateMode) → (mode ≡ PreallocateMode.None → ⊥) → uses_data (Grow mode) ≡ true
mode_uses Mode.None some = absurd (some refl)
mode_uses Mode.Zero some = refl
mode_uses Mode.FormatAllocate some = refl
mode_uses Mode.FullAllocate some = refl
mode_uses Mode.WriteData some = refl

-- what is read of the layer below for new guest blocks
pub new_read : (block size new_size : ℕ) (old : List GuestBlock) (mode : PreallocateMode) (lower : Bool) (p : ℕ) → lower ≡ shows_below mode → lower ≡ true → size ≤ p → p < new_size → cow_copies block size old (Grow mode) new_size 0 p
new_read block size new_size old Mode.None lower p low t h k = let x : true ≡ false = sym t ∙ low in let z : ⊥ = cc in absurd z
new_read block size new_size old Mode.Zero lower p low t h k = let x : true ≡ false = sym t ∙ low in let z : ⊥ = cc in absurd z
new_read block size new_size old Mode.FormatAllocate lower p low t h k = let x : p < new_size + 0 = omega (arith, k) in inr (h, x)
new_read block size new_size old Mode.FullAllocate lower p low t h k = let x : p < new_size + 0 = omega (arith, k) in inr (h, x)
new_read block size new_size old Mode.WriteData lower p low t h k = let x : p < new_size + 0 = omega (arith, k) in inr (h, x)

-- how many guest blocks a disk of that size has
pub blocks_for : ℕ → ℕ → ℕ
blocks_for block n = (n + (block - 1)) / block

pub blocks_cover : (block n : ℕ) → 0 < block → n ≤ blocks_for block n * block
unfolding blocks_for
blocks_cover block n positive = omega (arith, div-add-mod' (n + (block - 1)) block, rest_small block positive (n + (block - 1)), positive)

pub blocks_near : (block n : ℕ) → 0 < block → blocks_for block n * block < n + block
unfolding blocks_for
blocks_near block n positive = omega (arith, div-add-mod' (n + (block - 1)) block, positive)

lower_until : (block size new_size : ℕ) (mode : PreallocateMode) → shows_below mode ≡ true → grown_until block size mode (new_size + 0) ≡ new_size
lower_until block size new_size Mode.None e = let z : ⊥ = cc in absurd z
lower_until block size new_size Mode.Zero e = let z : ⊥ = cc in absurd z
lower_until block size new_size Mode.FormatAllocate e = omega arith
lower_until block size new_size Mode.FullAllocate e = omega arith
lower_until block size new_size Mode.WriteData e = omega arith

module _ (block size new_size : ℕ) (old : List GuestBlock) (blocks : ℕ) (mode : PreallocateMode) (lower : Bool) (positive : 0 < block) (grows : size < new_size) (exact : IsExact size block old) (low : lower ≡ shows_below mode) (some : mode ≡ PreallocateMode.None → ⊥) where
  abbrev most : ℕ
  most = data_count block size old blocks None (Grow mode) new_size 0

  abbrev wanted : ℕ
  wanted = blocks_for block new_size

  fewer : length old ≤ wanted
  fewer = needs_no_fewer block size new_size (length old) wanted (omega (arith, grows)) (blocks_cover block new_size positive) exact.near

  -- new guest blocks fit, with the cut one in data
  pub new_fit : (mid : List GuestBlock) → length mid ≡ length old → IsCutEntered block size old mid → lower ≡ true → named_count mid + (wanted - length mid) ≤ most
  new_fit mid len entered t = new_ones_fit block size old mid blocks mode new_size wanted positive exact grows (lower_until block size new_size mode (sym low ∙ t)) len (data_was block size old mid positive new_size grows entered) (blocks_cover block new_size positive) (blocks_near block new_size positive) fewer

  far : (mode : PreallocateMode) → (mode ≡ PreallocateMode.None → ⊥) → 0 < size % block → size < touched_until block size (Grow mode) new_size 0
  far Mode.None some cutting = absurd (some refl)
  far Mode.Zero some cutting = zero_reaches block size new_size positive cutting grows
  far Mode.FormatAllocate some cutting = omega (arith, grows)
  far Mode.FullAllocate some cutting = omega (arith, grows)
  far Mode.WriteData some cutting = omega (arith, grows)

  -- the cut guest block fits too
  pub cut_fit : 0 < size % block → is_data (slice_get old (size / block)) ≡ false → named_count old + 1 ≤ most
  cut_fit cutting empty = cut_fits block size old blocks mode new_size positive exact cutting empty (far mode some cutting)

  absent_there : (p until : ℕ) → size < until → p < size → p / block ≡ size / block → slice_get old (p / block) ≡ Some GuestBlock.Absent → IsInAbsent block size old size until p
  absent_there p until h under same absent =
      let e = div-add-mod' size block in
      let r = rest_small block positive size in
      let b : p / block * block ≡ size / block * block = ap (λ x. x * block) same in
      (under, absent, touched_by block size until (p / block) (record { some = h; begins = omega (arith, e, b, h); ends = omega (arith, e, r, b) }))

  cut_absent : (mode : PreallocateMode) → (mode ≡ PreallocateMode.None → ⊥) → (p : ℕ) → p < size → p / block ≡ size / block → slice_get old (p / block) ≡ Some GuestBlock.Absent → cow_copies block size old (Grow mode) new_size 0 p
  cut_absent Mode.None some p under same absent = absurd (some refl)
  cut_absent Mode.Zero some p under same absent =
      let b : p / block * block ≡ size / block * block = ap (λ x. x * block) same in
      let cutting : 0 < size % block = omega (arith, div-add-mod' size block, div-add-mod' p block, b, under) in
      absent_there p (grown_until block size PreallocateMode.Zero (new_size + 0)) (zero_reaches block size new_size positive cutting grows) under same absent
  cut_absent Mode.FormatAllocate some p under same absent = inl (absent_there p (new_size + 0) (omega (arith, grows)) under same absent)
  cut_absent Mode.FullAllocate some p under same absent = inl (absent_there p (new_size + 0) (omega (arith, grows)) under same absent)
  cut_absent Mode.WriteData some p under same absent = inl (absent_there p (new_size + 0) (omega (arith, grows)) under same absent)

  -- what the filling of the cut guest block reads, a growth may
  pub cut_read : (p : ℕ) → IsCutRead block size old (shows_below mode) new_size p → cow_copies block size old (Grow mode) new_size 0 p
  cut_read p (inl a) = cut_absent mode some p (a.0) (a.1) (a.2)
  cut_read p (inr b) = new_read block size new_size old mode (shows_below mode) p refl (b.0) (b.1) (b.2)

  pub added_read : (mid : List GuestBlock) → length mid ≡ length old → (p : ℕ) → (lower ≡ true) × (length mid * block ≤ p) × (p < new_size) → cow_copies block size old (Grow mode) new_size 0 p
  added_read mid len p b =
      let ends : length mid * block ≡ length old * block = ap (λ n. n * block) len in
      new_read block size new_size old mode lower p low (b.0) (omega (arith, b.1, exact.covers, ends)) (b.2)

-- a refusal of a filling is one of the growth
pub if_grow_refused : (f : Features) (faults : ℕ) (bytes : List ℕ) (size block : ℕ) (old : List GuestBlock) (blocks : ℕ) (l : LayerBelow) (mode : PreallocateMode) (new_size : ℕ) (copied : ℕ → Type 0) → uses_data (Grow mode) ≡ true → ((p : ℕ) → copied p → cow_copies block size old (Grow mode) new_size 0 p)
    → (e : Error) → allowed (fill_reasons f l (data_count block size old blocks None (Grow mode) new_size 0 * block) copied) e → allowed (record (lending_reasons (cow_view f faults bytes size block old blocks None) l (Grow mode) new_size 0) { beyond_disk = ⊥ }) e
if_grow_refused f faults bytes size block old blocks l mode new_size copied uses so e c = grow_refused f faults bytes size block old blocks l mode new_size copied uses so e c

pub if_err_of : {T : Type 0} (r : Result T Error) {P : Error → Type 0} → ((e : Error) → r ≡ Err e → P e) → IfErr r P
if_err_of (Ok x) h = tt
if_err_of (Err e) h = h e refl

pub err_is : {T : Type 0} {r : Result T Error} (P : Error → Type 0) (e : Error) → r ≡ Err e → IfErr r P → P e
err_is P e is h = rw is at h

pub same_exact : (size block : ℕ) (old new : List GuestBlock) → length new ≡ length old → IsExact size block old → IsExact size block new
same_exact size block old new len exact = let x : length new * block ≡ length old * block = ap (λ n. n * block) len in record { covers = omega (arith, x, exact.covers); near = omega (arith, x, exact.near) }

pub faults_of : (r : Bool) (a b : ℕ) (x y : Result Unit Error) → x ≡ y → CountsFaults r a b x → CountsFaults r a b y
faults_of r a b x y e f = rw (← e) f
