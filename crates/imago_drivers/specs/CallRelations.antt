-- SPDX-License-Identifier: MIT
use Rattle.std.specs.Prelude.{◌≡◌, ℕ, ◌⊎◌, Bool, List, Result, Ok, Err, MatchOption}
use Rattle.imago_storage.specs.declared.error.Error.{Error}
use Rattle.imago_storage.specs.declared.error.Error.TheVariants.{Unsupported, ForeignMapping}
use Rattle.imago_drivers.specs.declared.format.PreallocateMode.{PreallocateMode}
use Rattle.imago_drivers.specs.declared.mapping.PreparedDataMapping.{PreparedDataMapping}
use Rattle.imago_drivers.specs.declared.mapping.ShallowMapping.{ShallowMapping}
use Rattle.imago_drivers.specs.LayerBelow.{LayerBelow}

-- A shared call: a relation of the driver's value and the answer.
abbrev pub Asking : Type 0 → Type 0 → Type 1
Asking Self T = Self → Result T Error → Type 0

-- A changing call: a relation of the driver's value before, its value after, and the answer.
abbrev pub Changing : Type 0 → Type 0 → Type 1
Changing Self T = Self → Self → Result T Error → Type 0

-- A changing call on a range, by its offset and length, which answers the part that is done.
abbrev pub OnRange : Type 0 → Type 1
OnRange Self = ℕ → ℕ → Changing Self (ℕ × ℕ)

-- A preparing over the layer below, by the range's offset and length, for overwriting or not.
abbrev pub Preparing : Type 0 → Type 0 → Type 1
Preparing Self St = LayerBelow → ℕ → ℕ → Bool → Changing Self (PreparedDataMapping St)

-- A data mapping over the layer below, by the same: it answers the storage, the offset there and
-- the length.
abbrev pub Ensuring : Type 0 → Type 1
Ensuring Self = LayerBelow → ℕ → ℕ → Bool → Changing Self (ℕ × ℕ × ℕ)

abbrev pub Committing : Type 0 → Type 0 → Type 1
Committing Self St = PreparedDataMapping St → Changing Self (Unit {0})

-- A data mapping that is a preparing and a commit.
abbrev pub IsEnsuredInParts : {Self St : Type 0} → Preparing Self St → Committing Self St
    → Ensuring Self
IsEnsuredInParts {Self} {St} prepared committed below o n overwrite old new (Ok r) =
    (m : PreparedDataMapping St) × (mid : Self) × prepared below o n overwrite old mid (Ok m)
    × committed m mid new (Ok tt) × (r.0 ≡ m.storage) × (r.1 ≡ m.offset) × (r.2 ≡ m.length)
IsEnsuredInParts {Self} {St} prepared committed below o n overwrite old new (Err e) = prepared below
    o n overwrite old new (Err e)
    ⊎ ((m : PreparedDataMapping St) × (mid : Self) × prepared below o n overwrite old mid (Ok m)
    × committed m mid new (Err e))

-- What each call of a driver is. Nothing but the call itself gives its relation over a driver that
-- isn't known: so over any driver a call that is promised by its relation was made, once, with
-- these arguments, and its answer is the one that is told.
pub record Calls (Self St : Type 0) : Type 1 where
  -- where the bytes of a range stand, by its offset and the length that is asked for
  pub mapped : ℕ → ℕ → Asking Self (ShallowMapping × ℕ)
  -- a read of a storage, by its index, and one of special bytes: the offset and the length
  pub read : ℕ → ℕ → ℕ → Asking Self (Unit {0})
  pub read_special : ℕ → ℕ → Asking Self (Unit {0})
  -- a write to a storage's bytes: its index, the bytes and the offset
  pub put : ℕ → List ℕ → ℕ → Changing Self (Unit {0})
  pub zeroed : OnRange Self
  pub discarded_to_zero : OnRange Self
  pub discarded_to_any : OnRange Self
  pub discarded_to_backing : OnRange Self
  -- a mapping is prepared, filled with bytes from a place of it on, and committed or cancelled; or
  -- it is ensured, which may be a preparing and a commit
  pub prepared : Preparing Self St
  pub filled : PreparedDataMapping St → List ℕ → ℕ → Changing Self (Unit {0})
  pub committed : Committing Self St
  pub cancelled : PreparedDataMapping St → Self → Self → Type 0
  pub ensured : Ensuring Self
  pub by_parts : (below : LayerBelow) (o n : ℕ) (overwrite : Bool) (old new : Self)
      (result : Result (ℕ × ℕ × ℕ) Error) → IsEnsuredInParts prepared committed below o n overwrite
      old new result → ensured below o n overwrite old new result
  -- to that size; a growth in that mode, over the layer below
  pub grown : ℕ → PreallocateMode → LayerBelow → Changing Self (Unit {0})
  pub cut : ℕ → Changing Self (Unit {0})
  pub flushed : Changing Self (Unit {0})
  pub synced : Changing Self (Unit {0})
  pub invalidated : Changing Self (Unit {0})

-- nothing is told by them
abbrev pub any_calls : {Self St : Type 0} → Calls Self St
any_calls = record {
  mapped = λ o n self result. Unit {0};
  read = λ index o n self result. Unit {0};
  read_special = λ o n self result. Unit {0};
  put = λ index bytes o old new result. Unit {0};
  zeroed = λ o n old new result. Unit {0};
  discarded_to_zero = λ o n old new result. Unit {0};
  discarded_to_any = λ o n old new result. Unit {0};
  discarded_to_backing = λ o n old new result. Unit {0};
  prepared = λ below o n overwrite old new result. Unit {0};
  filled = λ m bytes at old new result. Unit {0};
  committed = λ m old new result. Unit {0};
  cancelled = λ m old new. Unit {0};
  ensured = λ below o n overwrite old new result. Unit {0};
  by_parts = λ below o n overwrite old new result h. tt;
  grown = λ n mode below old new result. Unit {0};
  cut = λ n old new result. Unit {0};
  flushed = λ old new result. Unit {0};
  synced = λ old new result. Unit {0};
  invalidated = λ old new result. Unit {0};
}

-- it is refused as not offered, and nothing changes
abbrev pub IsNotOffered : {Self T : Type 0} → Changing Self T
IsNotOffered old new result = (new ≡ old) × (result ≡ Err Unsupported)

-- A commit by a driver that prepares no mapping with a state: it changes nothing, and is refused
-- only where the mapping has one, which is another driver's.
abbrev pub IsIdleCommit : {Self St : Type 0} → Committing Self St
IsIdleCommit m old new result = (new ≡ old)
    × MatchOption m.state (result ≡ Ok tt) (λ s. result ≡ Err ForeignMapping)
