-- SPDX-License-Identifier: MIT
use Rattle.std.specs.Prelude.{◌≡◌, ℕ, ◌+◌, ◌<◌, Bool, List, [], length, slice_index_or, Result, Ok}
use Rattle.std.specs.Prelude.{Err, IsErrOf, refl}
use Rattle.std.proofs.Common.{⊎_elim}
use Rattle.imago_storage.specs.declared.error.Error.{Error}
use Rattle.imago_storage.specs.declared.error.Error.TheVariants.{ForeignMapping, Memory}
use Rattle.imago_storage.specs.declared.error.Error.TheVariants.{Unsupported}
use Rattle.imago_storage.specs.Features.{Features, MayRunOut, IsAlignedRequest}
use Rattle.imago_storage.specs.Maintenance.{IsNothing}
use Rattle.imago_storage.specs.Mem.{null_features}
use Rattle.imago_drivers.specs.LayerBelow.{LayerBelow}
use Rattle.imago_drivers.specs.CallRelations.{Calls, IsEnsuredInParts, any_calls, IsNotOffered}
use Rattle.imago_drivers.specs.CallRelations.{IsIdleCommit}
use Rattle.imago_drivers.specs.declared.mapping.Ticket.{Ticket}

-- a read of a storage of that length takes memory: it isn't aligned, or the storage takes some for
-- it
abbrev pub ReadTakesMemory : Features → ℕ → ℕ → ℕ → Type 0
ReadTakesMemory f len at n = IsAlignedRequest f at n → MayRunOut f.read_memory len (at + n)

-- a data mapping is refused as its preparing is
pub ensured_by_parts : {Self : Type 0} (below : LayerBelow) (o n : ℕ) (overwrite : Bool)
    (old new : Self) (result : Result (ℕ × ℕ × ℕ) Error)
    → IsEnsuredInParts {St = Ticket} (λ below o n overwrite. IsNotOffered) IsIdleCommit below o n
    overwrite old new result → IsNotOffered old new result
ensured_by_parts below o n overwrite old new (Ok r) p = let no = p.2.1 in let z : ⊥ = cc in absurd z
ensured_by_parts below o n overwrite old new (Err e) p = ⊎_elim
    (λ q. let same = q.1 in let is : e ≡ Unsupported = cc in (q.0, rw is refl))
    (λ q. let no = q.2.1 in let z : ⊥ = cc in absurd z)
    p

-- What the calls of an image are, by the features and the bytes of its storages. It can't be
-- written to: a call that would change something is refused, and no call changes the driver.
abbrev pub vmdk_calls : {Self : Type 0} → (Self → List Features) → (Self → List (List ℕ))
    → Calls Self Ticket
vmdk_calls features bytes = record any_calls {
  read = λ index o n self result. IsErrOf result Memory
      → ReadTakesMemory (slice_index_or (features self) index null_features)
      (length (slice_index_or (bytes self) index [])) o n;
  read_special = λ o n self result. 0 < n → IsErrOf result Unsupported;
  put = λ index source o. IsNotOffered;
  zeroed = λ o n. IsNotOffered;
  discarded_to_zero = λ o n. IsNotOffered;
  discarded_to_any = λ o n. IsNotOffered;
  discarded_to_backing = λ o n. IsNotOffered;
  prepared = λ below o n overwrite. IsNotOffered;
  filled = λ m source at old new result. (new ≡ old) × (result ≡ Err ForeignMapping);
  committed = IsIdleCommit;
  cancelled = λ m old new. new ≡ old;
  ensured = λ below o n overwrite. IsNotOffered;
  by_parts = ensured_by_parts;
  grown = λ n mode below. IsNotOffered;
  cut = λ n. IsNotOffered;
  flushed = IsNothing;
  synced = IsNothing;
  invalidated = IsNothing;
}
