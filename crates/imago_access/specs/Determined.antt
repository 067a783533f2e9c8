-- SPDX-License-Identifier: MIT
use Rattle.std.specs.Prelude.{◌≡◌, ◌≢◌, ℕ, ◌≤◌, ◌⊎◌, ◌&&◌, not, Bool, true, false, List, ◌∷◌}
use Rattle.std.specs.Prelude.{length, take, map}
use Rattle.imago_storage.specs.declared.error.Error.{Error}
use Rattle.imago_drivers.specs.declared.format.PreallocateMode.{PreallocateMode}
use Rattle.imago_drivers.specs.declared.format.PreallocateMode.TheVariants as Mode
use Rattle.imago_drivers.specs.Place.{Value, Byte}
use Rattle.imago_access.specs.declared.run.Call.{Call}
use Rattle.imago_access.specs.declared.run.Call.TheVariants as C
use Rattle.imago_access.specs.declared.run.Reply.{Reply}
use Rattle.imago_access.specs.declared.run.Reply.TheVariants as R
use Rattle.imago_access.specs.Disk.{splice, zeroed, filled_in, IsTestRefusal, IsEndRefusal}
use Rattle.imago_access.specs.Disk.{extended}
use Rattle.imago_access.specs.Writing.{shown_length}
use Rattle.imago_access.specs.Runs.{told_prepared}
use Rattle.imago_access.specs.Histories.{IsFlatStep}

-- new values of a growth to n are known: there are none, or the mode says what they are
abbrev pub IsFilled : PreallocateMode → ℕ → List Value → Type 0
IsFilled mode n xs = (n ≤ length xs) ⊎ (mode ≢ Mode.None)

-- the call is refused by its tests
abbrev pub IsRefusedByTest : List Value → ℕ → ℕ → Reply → Type 0
IsRefusedByTest xs o n r = (e : Error) × (r ≡ R.Refused e) × IsEndRefusal xs o n e

-- the call is of no bytes, or is refused by its tests
abbrev pub IsOfNoneOrRefused : List Value → ℕ → ℕ → Reply → Type 0
IsOfNoneOrRefused xs o n r = (n ≡ 0) ⊎ IsRefusedByTest xs o n r

-- a refusal, if it is one, is by the tests of a write or a mapping
abbrev pub IsTestRefusalIfRefused : List Value → ℕ → ℕ → Reply → Type 0
IsTestRefusalIfRefused xs o n r = (e : Error) → r ≡ R.Refused e → IsTestRefusal xs o n e

-- The reply says what the list is afterwards: all but a write or zero write that is refused past
-- its tests, a growth without preallocation, a mapping that may be overwritten and isn't filled,
-- and a discard to any or to backing that isn't refused by its tests. A mapping or such a discard
-- of no bytes changes nothing.
abbrev pub IsDetermined : List Value → Call → Reply → Type 0
IsDetermined xs (C.Write o bytes) r = IsTestRefusalIfRefused xs o (length bytes.items) r
IsDetermined xs (C.EnsureData o n overwrite) r = overwrite ≡ true → (n ≡ 0)
    ⊎ ((e : Error) × (r ≡ R.Refused e) × IsTestRefusal xs o n e)
IsDetermined xs (C.Prepared o n overwrite bytes commit) r =
    ((m : ℕ × Bool) → r ≡ told_prepared m → ((overwrite && not m.1) ≡ false)
    ⊎ (shown_length commit m ≤ length bytes.items))
    × ((n ≡ 0) ⊎ IsTestRefusalIfRefused xs o n r)
IsDetermined xs (C.WriteZeroes o n) r = (e : Error) → r ≡ R.Refused e → IsEndRefusal xs o n e
IsDetermined xs (C.DiscardToZero o n) r = (e : Error) → r ≡ R.Refused e → IsEndRefusal xs o n e
IsDetermined xs (C.DiscardToAny o n) r = IsOfNoneOrRefused xs o n r
IsDetermined xs (C.DiscardToBacking o n) r = IsOfNoneOrRefused xs o n r
IsDetermined xs (C.Resize n mode) r = r ≡ R.Done → IsFilled mode n xs
IsDetermined xs (C.ResizeGrow n mode) r = r ≡ R.Done → IsFilled mode n xs
IsDetermined xs (C.ResizeShrink n) r = Unit {0}
IsDetermined xs (C.Read o n) r = Unit {0}
IsDetermined xs (C.GetMapping o n) r = Unit {0}
IsDetermined xs C.Size r = Unit {0}
IsDetermined xs C.Flush r = Unit {0}
IsDetermined xs C.Sync r = Unit {0}
IsDetermined xs C.InvalidateCache r = Unit {0}

-- the one list after a success that answers nothing, the other after any other reply
abbrev pub if_done : Reply → List Value → List Value → List Value
if_done R.Done ys xs = ys
if_done (R.Refused e) ys xs = xs
if_done (R.Data bytes) ys xs = xs
if_done (R.Size size) ys xs = xs
if_done (R.Mapped mapping count) ys xs = xs
if_done (R.DataMapped storage offset count) ys xs = xs
if_done (R.Prepared count nonblocking) ys xs = xs

-- the list after a write through a prepared mapping
abbrev pub if_prepared : Reply → Bool → ℕ → List ℕ → List Value → List Value
if_prepared (R.Prepared c nonblocking) commit o bytes xs = filled_in xs o
    (shown_length commit (c, nonblocking)) bytes
if_prepared R.Done commit o bytes xs = xs
if_prepared (R.Refused e) commit o bytes xs = xs
if_prepared (R.Data read) commit o bytes xs = xs
if_prepared (R.Size size) commit o bytes xs = xs
if_prepared (R.Mapped mapping count) commit o bytes xs = xs
if_prepared (R.DataMapped storage offset count) commit o bytes xs = xs

-- the list after a call that is determined
abbrev pub after : (ℕ → Value) → Call → Reply → List Value → List Value
after below (C.Write o bytes) r xs = if_done r (splice xs o (map Byte bytes.items)) xs
after below (C.EnsureData o n overwrite) r xs = xs
after below (C.Prepared o n overwrite bytes commit) r xs = if_prepared r commit o bytes.items xs
after below (C.WriteZeroes o n) r xs = if_done r (zeroed xs o n) xs
after below (C.DiscardToZero o n) r xs = if_done r (zeroed xs o n) xs
after below (C.DiscardToAny o n) r xs = xs
after below (C.DiscardToBacking o n) r xs = xs
after below (C.Resize n mode) r xs = if_done r (extended mode below n (take n xs)) xs
after below (C.ResizeGrow n mode) r xs = if_done r (extended mode below n xs) xs
after below (C.ResizeShrink n) r xs = if_done r (take n xs) xs
after below (C.Read o n) r xs = xs
after below (C.GetMapping o n) r xs = xs
after below C.Size r xs = xs
after below C.Flush r xs = xs
after below C.Sync r xs = xs
after below C.InvalidateCache r xs = xs

-- each call is determined, on the list that stands at its point of the run
abbrev pub AreDetermined : (ℕ → Value) → List Value → List Call → List Reply → Type 0
AreDetermined below xs (call ∷ calls) (reply ∷ replies) = IsDetermined xs call reply
    × AreDetermined below (after below call reply xs) calls replies
AreDetermined below xs calls replies = Unit {0}

-- the list after calls that are determined: each successful one applied, in order
abbrev pub after_all : (ℕ → Value) → List Call → List Reply → List Value → List Value
after_all below (call ∷ calls) (reply ∷ replies) xs = after_all below calls replies
    (after below call reply xs)
after_all below calls replies xs = xs

-- each call, with its reply, takes the list that stands at its point of the run to the one after it
abbrev pub AllFit : (ℕ → Value) → List Value → List Call → List Reply → Type 0
AllFit below xs (call ∷ calls) (reply ∷ replies) = let ys = after below call reply xs in
    IsFlatStep below xs call reply ys × AllFit below ys calls replies
AllFit below xs calls replies = Unit {0}

-- Calls and replies on one list, each of which is determined: the list at the end is the first one
-- with each successful call applied, in order, and each reply is that of a step from the list as it
-- stands then: a read, a size and a mapping answer it, and what a call changes lies in it.
pub record IsFlatRun (below : ℕ → Value) (xs : List Value) (calls : List Call)
    (replies : List Reply) (zs : List Value) : Type 0 where
  pub list_after : zs ≡ after_all below calls replies xs
  pub replies_fit : AllFit below xs calls replies
