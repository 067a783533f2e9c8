-- SPDX-License-Identifier: MIT
use Rattle.std.specs.Prelude.{◌≡◌, ℕ, ◌*◌, ◌^◌, ◌<◌, ◌≤◌, ◌⊎◌, ◌++◌, Bool, false, List, [], ◌∷◌}
use Rattle.std.specs.Prelude.{Some, Ok, Err}
use Rattle.imago_storage.specs.declared.error.Error.{Error}
use Rattle.imago_storage.specs.declared.error.Error.TheVariants as E
use Rattle.imago_storage.specs.Features.{Features}
use Rattle.imago_storage.specs.Options.{OpenOptions}
use Rattle.imago_drivers.specs.Opening.{Opening}
use Rattle.imago_vmdk.specs.declared.line.Extent.{Extent}

-- which name an extent's stands for, relative to the descriptor
abbrev pub Resolution : Type 0 → Type 1
Resolution N = N → List ℕ → Type 0

-- the options that the storage of an extent is opened with: its own name, never writable, and
-- direct as it was set
abbrev pub extent_options : Bool → List ℕ → OpenOptions
extent_options direct name = record { filename = Some name; writable = false; direct = direct }

-- one storage is opened by the gate, under the name that the descriptor's storage resolves the
-- extent's to
abbrev pub IsStorageOpened : {N Gate S : Type 0} → Opening Gate S → Resolution N → Bool → N → Gate
    → Gate → List S → Type 0
IsStorageOpened {N} {Gate} {S} opened resolved direct name before after own =
    (path : List ℕ) × (storage : S) × resolved name path
    × opened (extent_options direct path) before after (Ok storage) × (own ≡ storage ∷ [])

-- An extent is opened. Only a FLAT one has a storage of its own, and its offset in bytes fits 64
-- bits.
abbrev pub IsExtentOpened : {N Gate S : Type 0} → Opening Gate S → Resolution N → Bool → Extent N
    → Gate → Gate → List S → Type 0
IsExtentOpened opened resolved direct (Extent.Zero sectors) before after own = (own ≡ [])
    × (after ≡ before)
IsExtentOpened opened resolved direct (Extent.NoAccess sectors) before after own = (own ≡ [])
    × (after ≡ before)
IsExtentOpened opened resolved direct (Extent.Flat sectors name offset writable vmfs) before after
    own = (offset * 512 < 2 ^ 64) × IsStorageOpened opened resolved direct name before after own

-- Extents are opened in order, each by the gate that the one before left, and their storages stand
-- in that order.
abbrev pub AreOpened : {N Gate S : Type 0} → Opening Gate S → Resolution N → Bool → List (Extent N)
    → Gate → Gate → List S → Type 0
AreOpened opened resolved direct [] before after storages = (storages ≡ []) × (after ≡ before)
AreOpened {N} {Gate} {S} opened resolved direct (extent ∷ extents) before after storages =
    (between : Gate) × (own : List S) × (others : List S)
    × IsExtentOpened opened resolved direct extent before between own
    × AreOpened opened resolved direct extents between after others × (storages ≡ own ++ others)

-- why a storage doesn't resolve a name
abbrev pub MayResolvingBeRefused : Features → Error → Type 0
MayResolvingBeRefused f E.Unsupported = f.resolves_paths ≡ false
MayResolvingBeRefused f E.Device = f.is_reliable ≡ false
MayResolvingBeRefused f E.Memory = Unit {0}
MayResolvingBeRefused f E.NotFound = Unit {0}
MayResolvingBeRefused f E.InvalidData = Unit {0}
MayResolvingBeRefused f E.Denied = Unit {0}
MayResolvingBeRefused f _ = ⊥

-- The refusal is the gate's own. Else the gate wasn't asked, and the name isn't resolved; or it
-- opened a storage that no memory was left for.
abbrev pub IsStorageRefused : {N Gate S : Type 0} → Opening Gate S → Resolution N → Bool → Features
    → N → Gate → Gate → Error → Type 0
IsStorageRefused {N} {Gate} {S} opened resolved direct f name before after e =
    ((path : List ℕ) × resolved name path × opened (extent_options direct path) before after
    (Err e))
    ⊎ ((after ≡ before) × MayResolvingBeRefused f e)
    ⊎ ((own : List S) × IsStorageOpened opened resolved direct name before after own
    × (e ≡ E.Memory))

-- An extent isn't opened: the begin of a FLAT one doesn't fit 64 bits, or its storage is refused.
abbrev pub IsExtentRefused : {N Gate S : Type 0} → Opening Gate S → Resolution N → Bool → Features
    → Extent N → Gate → Gate → Error → Type 0
IsExtentRefused opened resolved direct f (Extent.Zero sectors) before after e = ⊥
IsExtentRefused opened resolved direct f (Extent.NoAccess sectors) before after e = ⊥
IsExtentRefused opened resolved direct f (Extent.Flat sectors name offset writable vmfs) before
    after e =
    ((2 ^ 64 ≤ offset * 512) × (after ≡ before) × (e ≡ E.InvalidData))
    ⊎ ((offset * 512 < 2 ^ 64) × IsStorageRefused opened resolved direct f name before after e)

-- The first extent that isn't opened is the answer; those before it were, and those behind it
-- aren't asked for.
abbrev pub AreRefused : {N Gate S : Type 0} → Opening Gate S → Resolution N → Bool → Features
    → List (Extent N) → Gate → Gate → Error → Type 0
AreRefused opened resolved direct f [] before after e = ⊥
AreRefused {N} {Gate} {S} opened resolved direct f (extent ∷ extents) before after e =
    IsExtentRefused opened resolved direct f extent before after e
    ⊎ ((between : Gate) × (own : List S) × IsExtentOpened opened resolved direct extent before
    between own × AreRefused opened resolved direct f extents between after e)
