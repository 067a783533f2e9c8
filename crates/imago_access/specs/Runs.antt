-- SPDX-License-Identifier: MIT
use Rattle.std.specs.Prelude.{◌≡◌, ℕ, ◌<◌, ◌⊎◌, Bool, List, [], ◌∷◌, length, max, Result, Ok, Err}
use Rattle.std.specs.Prelude.{IsOk, IfOk, IfErr, IsTrue}
use Rattle.std.specs.declared.vec.Vec.{Vec}
use Rattle.std.specs.declared.alloc.Global.{Global}
use Rattle.imago_storage.specs.declared.error.Error.{Error}
use Rattle.imago_drivers.specs.Operation.{Write, Grow, Shrink, Zero, DiscardToZero}
use Rattle.imago_drivers.specs.Place.{Unreadable, HasValues}
use Rattle.imago_drivers.specs.Reasons.{allowed}
use Rattle.imago_drivers.specs.Lengths.{GrowTo}
use Rattle.imago_drivers.specs.Prepared.{IsDataMapping}
use Rattle.imago_drivers.specs.View.{View}
use Rattle.imago_drivers.specs.CallRelations.{Calls}
use Rattle.imago_access.specs.declared.access.FormatAccess.{FormatAccess}
use Rattle.imago_access.specs.declared.mapping.Mapping.{Mapping}
use Rattle.imago_access.specs.declared.run.Call.{Call}
use Rattle.imago_access.specs.declared.run.Call.TheVariants as C
use Rattle.imago_access.specs.declared.run.Reply.{Reply}
use Rattle.imago_access.specs.declared.run.Reply.TheVariants as R
use Rattle.imago_access.specs.declared.discard.DiscardCall.TheVariants as D
use Rattle.imago_access.specs.declared.zero.ZeroCall.TheVariants as Z
use Rattle.imago_access.specs.Zeroing.{IsZeroWrite}
use Rattle.imago_access.specs.Discarding.{IsImageDiscard}
use Rattle.imago_access.specs.ZeroCalls.{IsZeroedBy}
use Rattle.imago_access.specs.Chain.{driver, disk_value, tells_bytes, read_reasons, chain_no_memory}
use Rattle.imago_access.specs.Resolved.{IsResolved, IsEndOfImage, chain_map_reasons}
use Rattle.imago_access.specs.Lengths.{IsFullLength}
use Rattle.imago_access.specs.Calls.{IsWrite, IsEnsured, IsMappedWrite}
use Rattle.imago_access.specs.Sizes.{IsResize, IsResizeTo, HasGrown, HasShrunk, IsFlushed}
use Rattle.imago_access.specs.Answered.{IsMapRefusal, IsReadBy}
use Rattle.imago_access.specs.Performed.{IsGrownBy, IsCutBy, IsResizedBy, IsWrittenBy, IsMappedBy}
use Rattle.imago_access.specs.Performed.{IsEnsuredBy}

-- the reply to a call with that result: `told` is the reply to what a success answers
abbrev pub reply_of : {T : Type 0} → (T → Reply) → Result T Error → Reply
reply_of told (Ok t) = told t
reply_of told (Err e) = R.Refused e

-- how a success is told that answers nothing
abbrev pub told_done : Unit {0} → Reply
told_done u = R.Done

-- how a mapping and its length are told
abbrev pub told_mapping : Mapping × ℕ → Reply
told_mapping m = R.Mapped m.0 m.1

-- how a data mapping is told: its storage, the offset there, and its length
abbrev pub told_data : ℕ × ℕ × ℕ → Reply
told_data m = R.DataMapped m.0 m.1 m.2

-- how a prepared mapping is told: its length, and whether it had no state
abbrev pub told_prepared : ℕ × Bool → Reply
told_prepared m = R.Prepared m.0 m.1

-- the reply is that to a call with such a result
abbrev pub Answers : {T : Type 0} → (T → Reply) → Reply → (Result T Error → Type 0) → Type 0
Answers {T} told r outcome = (result : Result T Error) × (r ≡ reply_of told result) × outcome result

-- a read into a buffer of its own is refused as the read is, or for want of memory, where the
-- buffer isn't empty
abbrev pub IsReadRefusal : {D St : Type 0} → (D → View St) → FormatAccess D → ℕ → ℕ → Error → Type 0
IsReadRefusal view x o n e = ((e ≡ Error.Memory) × (0 < n)) ⊎ allowed (read_reasons view x o n) e

-- A read of n bytes into a buffer of its own: what the disk shows there. It is the read of the
-- image, once there is a buffer.
pub record IsBufferRead {D St : Type 0} (view : D → View St) (its : Calls D St) (x : FormatAccess D)
    (o n : ℕ) (result : Result (Vec ℕ Global) Error) : Type 0 where
  pub empty : n ≡ 0 → IsOk result
  pub long : IfOk result (λ v. length v.items ≡ n)
  pub bytes : IsTrue (tells_bytes view x) → IfOk result (λ v. HasValues (disk_value view x) o v.items)
  pub refusals : IfErr result (IsReadRefusal view x o n)
  pub asked : IfOk result (λ v. IsReadBy view its x o n (Ok tt))
  pub answered : IfErr result (λ e. ((e ≡ Error.Memory) × (0 < n))
      ⊎ IsReadBy view its x o n (Err e))

-- A resolved mapping: that of the image, as long as its drivers let it be. A refusal is that of a
-- layer that the range reaches.
pub record IsMapped {D St : Type 0} (view : D → View St) (its : Calls D St) (x : FormatAccess D)
    (o n : ℕ) (result : Result (Mapping × ℕ) Error) : Type 0 where
  pub right : IfOk result (λ m. IsResolved view x o n m.0 m.1)
  pub size : IfOk result (λ m. IsFullLength view x o n m.0 m.1)
  pub whole : chain_no_memory view x o n → IfOk result (λ m. (m.1 ≡ n) ⊎ IsEndOfImage m.0)
  pub refused_place : IfErr result (λ e. (e ≡ Error.InvalidData) ⊎ (e ≡ Error.NoAccess)
      → disk_value view x o ≡ Unreadable e)
  pub refusals : IfErr result (allowed (chain_map_reasons view x o n))
  pub answered : IfErr result (IsMapRefusal its x o (max n 1))

-- A data mapping: each of its places is writable, and stands where it says.
pub record IsDataMapped {D St : Type 0} (view : D → View St) (old new : FormatAccess D) (o n : ℕ)
    (overwrite : Bool) (result : Result (ℕ × ℕ × ℕ) Error) : Type 0 where
  pub mapped : IfOk result (λ m. IsDataMapping o n m.0 m.1 m.2 (view (driver old))
      (view (driver new)))
  pub call : IsEnsured view old new o n overwrite result
  pub lengths : GrowTo ((view (driver old)).limits.longest Write o n) (view (driver old)).stores
      (view (driver new)).stores

-- From one image to the next, a call may have this reply: it did what it promises, or left what its
-- refusal does.
abbrev pub IsStep : {D St : Type 0} → (D → View St) → Calls D St → FormatAccess D → Call → Reply
    → FormatAccess D → Type 0
IsStep view its old (C.Read o n) r new = (new ≡ old)
    × Answers R.Data r (IsBufferRead view its old o n)
IsStep view its old (C.GetMapping o n) r new = (new ≡ old)
    × Answers told_mapping r (IsMapped view its old o n)
IsStep view its old C.Size r new = (new ≡ old) × (r ≡ R.Size (view (driver old)).size)
IsStep view its old (C.Write o bytes) r new = Answers told_done r
    (λ result. IsWrite view old new o bytes.items result
    × IsWrittenBy view its old new o bytes.items result)
IsStep view its old (C.WriteZeroes o n) r new = Answers told_done r
    (λ result. IsZeroWrite view Zero old new o n result
    × IsZeroedBy view its Z.EnsureZero o n old new result)
IsStep view its old (C.DiscardToZero o n) r new = Answers told_done r
    (λ result. IsZeroWrite view DiscardToZero old new o n result
    × IsZeroedBy view its Z.DiscardToZero o n old new result)
IsStep view its old (C.DiscardToAny o n) r new = Answers told_done r
    (IsImageDiscard view its D.ToAny old new o n)
IsStep view its old (C.DiscardToBacking o n) r new = Answers told_done r
    (IsImageDiscard view its D.ToBacking old new o n)
IsStep view its old (C.EnsureData o n overwrite) r new = Answers told_data r
    (λ result. IsDataMapped view old new o n overwrite result
    × IsEnsuredBy view its old new o n overwrite result)
IsStep view its old (C.Prepared o n overwrite bytes commit) r new = Answers told_prepared r
    (λ result. IsMappedWrite view old new o n overwrite bytes.items commit result
    × IsMappedBy view its old new o n overwrite bytes.items commit result)
IsStep view its old (C.ResizeGrow n mode) r new = Answers told_done r
    (λ result. IsResize view (Grow mode) n (HasGrown view mode n old new) old new result
    × IsGrownBy view its n mode old new result)
IsStep view its old (C.ResizeShrink n) r new = Answers told_done r
    (λ result. IsResize view Shrink n (HasShrunk view n old new) old new result
    × IsCutBy view its n old new result)
IsStep view its old (C.Resize n mode) r new = Answers told_done r
    (λ result. IsResizeTo view n mode old new result × IsResizedBy view its n mode old new result)
IsStep view its old C.Flush r new = Answers told_done r (IsFlushed view its.flushed old new)
IsStep view its old C.Sync r new = Answers told_done r (IsFlushed view its.synced old new)
IsStep view its old C.InvalidateCache r new = Answers told_done r
    (IsFlushed view its.invalidated old new)

-- The calls may have these replies, one each: there are images, one more than calls, from the first
-- to the last, with a step between each and the next.
abbrev pub IsRun : {D St : Type 0} → (D → View St) → Calls D St → FormatAccess D → List Call
    → List Reply → FormatAccess D → Type 0
IsRun view its old [] [] new = new ≡ old
IsRun {D} view its old (call ∷ calls) (reply ∷ replies) new = (mid : FormatAccess D)
    × IsStep view its old call reply mid × IsRun view its mid calls replies new
IsRun view its old [] (reply ∷ replies) new = ⊥
IsRun view its old (call ∷ calls) [] new = ⊥
