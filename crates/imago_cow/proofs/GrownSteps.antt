-- SPDX-License-Identifier: MIT
use Rattle.std.proofs.Common.{◌≡◌, ℕ, ◌*◌, ◌/◌, ◌%◌, ◌<◌, ◌≤◌, ◌&&◌, ⊎_elim, inl, inr, Bool, true, List, length, max, Option, Some, None, Ok, refl, sym, ap, ◌∙◌, arith}
use Rattle.std.specs.Prelude.{slice_get, IsTrue}
use Rattle.std.proofs.lemmas.Nat.{div-add-mod'}
use Rattle.imago_storage.specs.declared.error.Error.{Error}
use Rattle.imago_storage.specs.declared.error.Error.TheVariants as E
use Rattle.imago_storage.specs.Faults.{CountsFaults}
use Rattle.imago_storage.specs.Features.{Features}
use Rattle.imago_drivers.specs.Calls.{IsGrowth}
use Rattle.imago_drivers.specs.Causes.{CauseOver}
use Rattle.imago_drivers.specs.Done.{lending_reasons}
use Rattle.imago_drivers.specs.Lengths.{padded_to}
use Rattle.imago_drivers.specs.LayerBelow.{LayerBelow}
use Rattle.imago_drivers.specs.Operation.{Grow}
use Rattle.imago_drivers.specs.Place.{Value, IsIn, Stored, shown}
use Rattle.imago_drivers.specs.Reasons.{allowed}
use Rattle.imago_drivers.specs.Resized.{IsSameDisk, grown_into}
use Rattle.imago_drivers.specs.declared.format.PreallocateMode.{PreallocateMode}
use Rattle.imago_cow.specs.declared.table.GuestBlock.{GuestBlock}
use Rattle.imago_cow.specs.declared.table.GuestBlock.TheVariants as G
use Rattle.imago_cow.specs.Copies.{old_value}
use Rattle.imago_cow.specs.Guest.{origin_in, entry_place, cow_place, Covers}
use Rattle.imago_cow.specs.GuestLaws.{rest_small, place_in}
use Rattle.imago_cow.specs.Growth.{KeepsBytes, IsExtended, fill_reasons}
use Rattle.imago_cow.specs.Cow.{cow_view, cow_cause, cow_copies, data_count, uses_data}
use Rattle.imago_cow.proofs.GrowSteps.{grown_filled, refused_filled}

-- a disk that goes on is one that grew
pub grown_extended : (f : Features) (faults faults' : ℕ) (bytes bytes' : List ℕ) (size block : ℕ) (old new : List GuestBlock) (blocks blocks' new_size : ℕ) (l : LayerBelow) (mode : PreallocateMode) (lower : Bool)
    → 0 < block → size ≤ new_size → Covers new_size block new
    → ((p : ℕ) (w : Value) → w ≡ old_value l.at lower p → grown_into mode true l.at p w)
    → IsExtended l.at lower f.keeps_data l.tells_bytes block size new_size old new bytes bytes'
    → length bytes' ≤ max (length bytes) (padded_to f 0 (data_count block size old blocks None (Grow mode) new_size 0 * block))
    → CountsFaults {T = Unit {0}} (f.is_reliable && l.is_reliable) faults faults' (Ok tt)
    → IsGrowth mode l new_size (cow_view f faults bytes size block old blocks None) (cow_view f faults' bytes' new_size block new blocks' None) (Ok tt)
grown_extended f faults faults' bytes bytes' size block old new blocks blocks' new_size l mode lower positive grows covers shows more longer counted =
    grown_filled f faults faults' bytes bytes' size block old new blocks blocks' new_size positive l mode grows covers
    (λ k t p h. ap (shown l.at) (place_in bytes' new_size block new p (omega (arith, h, grows))) ∙ more.kept k p h ∙ ap (shown l.at) (sym (place_in bytes size block old p h)))
    (λ k t p h i. shows p (shown l.at (cow_place bytes' new_size block new p)) (ap (shown l.at) (place_in bytes' new_size block new p i) ∙ more.added k t p h i))
    longer counted

pub kept_place : (keeps : Bool) (block end : ℕ) (entries : List GuestBlock) (old new : List ℕ) → 0 < block → KeepsBytes keeps block end entries old new → IsTrue keeps → (p : ℕ) → p < end → (e : Option GuestBlock) → slice_get entries (p / block) ≡ e → entry_place new block p e ≡ entry_place old block p e
kept_place keeps block end entries old new positive same k p h None is = refl
kept_place keeps block end entries old new positive same k p h (Some G.Absent) is = refl
kept_place keeps block end entries old new positive same k p h (Some G.Zero) is = refl
kept_place keeps block end entries old new positive same k p h (Some (G.Data j)) is =
    let r = rest_small block positive p in
    let e = div-add-mod' p block in
    ap (λ b. Stored b 0 (origin_in block j p) true) (same k (p / block) j (p % block) is r (omega (arith, e, h)))

-- what a refused growth leaves
pub same_disk : (f : Features) (faults faults' : ℕ) (bytes bytes' : List ℕ) (size block : ℕ) (entries : List GuestBlock) (blocks blocks' : ℕ) → 0 < block → Covers size block entries → KeepsBytes f.keeps_data block size entries bytes bytes' → length bytes ≤ length bytes'
    → IsSameDisk (cow_view f faults bytes size block entries blocks None) (cow_view f faults' bytes' size block entries blocks' None)
same_disk f faults faults' bytes bytes' size block entries blocks blocks' positive covers same longer =
    refused_filled f faults faults' bytes bytes' size block entries blocks blocks' positive covers
    (λ k p h. place_in bytes' size block entries p h ∙ kept_place f.keeps_data block size entries bytes bytes' positive same k p h (slice_get entries (p / block)) refl ∙ sym (place_in bytes size block entries p h))
    longer

module _ (f : Features) (faults : ℕ) (bytes : List ℕ) (size block : ℕ) (old : List GuestBlock) (blocks : ℕ) (l : LayerBelow) (mode : PreallocateMode) (new_size : ℕ) (copied : ℕ → Type 0)
    (uses : uses_data (Grow mode) ≡ true) (so : (p : ℕ) → copied p → cow_copies block size old (Grow mode) new_size 0 p) where
  grow_lower : (e : Error) → ((q : ℕ) × (m : ℕ) × (0 < m) × ((p : ℕ) → IsIn q m p → copied p) × l.cause q m e) → CauseOver (cow_cause f block size old blocks None) (cow_copies block size old) l (Grow mode) new_size 0 e
  grow_lower e r = inr (r.0, r.1, r.2, (λ p i. so p (r.3 p i)), r.4)

  -- why a growth may be refused
  pub grow_refused : (e : Error) → allowed (fill_reasons f l (data_count block size old blocks None (Grow mode) new_size 0 * block) copied) e
      → allowed (record (lending_reasons (cow_view f faults bytes size block old blocks None) l (Grow mode) new_size 0) { beyond_disk = ⊥ }) e
  grow_refused E.WrapAround c = ⊎_elim (λ w. inl (uses, w.1)) (λ r. grow_lower Error.WrapAround r) c
  grow_refused E.InvalidData c = ⊎_elim (λ w. let x : Error.InvalidData ≡ Error.WrapAround = w.0 in let z : ⊥ = cc in absurd z) (λ r. grow_lower Error.InvalidData r) c
  grow_refused E.Unsupported c = ⊎_elim (λ w. let x : Error.Unsupported ≡ Error.WrapAround = w.0 in let z : ⊥ = cc in absurd z) (λ r. grow_lower Error.Unsupported r) c
  grow_refused E.NoAccess c = ⊎_elim (λ w. let x : Error.NoAccess ≡ Error.WrapAround = w.0 in let z : ⊥ = cc in absurd z) (λ r. grow_lower Error.NoAccess r) c
  grow_refused E.Device c = tt
  grow_refused E.Memory c = λ z. z
  grow_refused E.ReadOnly c = c
  grow_refused E.BeyondDisk c = c
  grow_refused E.RangeOverflow c = c
  grow_refused E.ForeignMapping c = c
  grow_refused E.Denied c = c
  grow_refused E.NotFound c = c
