-- SPDX-License-Identifier: MIT
use Rattle.std.specs.Prelude.{◌≡◌, ◌≢◌, ◌<◌, ℕ, List, [], ◌∷◌, Option, Some, None, MatchOption}
use Rattle.std.specs.Prelude.{Result, Ok, Err}
use Rattle.std.specs.Option.{option_map_or}
use Rattle.std.specs.BTreeMap.{get_by_text}
use Rattle.std.specs.VecDeque.{deque_len, deque_capacity}
use Rattle.imago_storage.specs.declared.error.Error.{Error}
use Rattle.imago_storage.specs.declared.error.Error.TheVariants.{NotFound}
use Rattle.imago_drivers.specs.declared.gate.NamedGate.{NamedGate}

-- the storages of that name, the first added first
abbrev pub storages_named : {S : Type 0} → NamedGate S → List ℕ → List S
storages_named g name = option_map_or (λ queue. queue.items) (get_by_text g.queues name) []

-- There is room for one more storage of that name, so that none has to be asked for.
abbrev pub HasRoomFor : {S : Type 0} → NamedGate S → List ℕ → Type 0
HasRoomFor g name = MatchOption (get_by_text g.queues name) ⊥
    (λ queue. deque_len queue < deque_capacity queue)

-- A name that no storage is left of takes no place in the gate.
abbrev pub IsForgotten : {S : Type 0} → NamedGate S → List ℕ → Type 0
IsForgotten g name = storages_named g name ≡ [] → get_by_text g.queues name ≡ None

-- every other name has the storages that it had
abbrev pub KeepsOtherNames : {S : Type 0} → NamedGate S → NamedGate S → List ℕ → Type 0
KeepsOtherNames old new name = (other : List ℕ) → other ≢ name → storages_named new other
    ≡ storages_named old other

-- every name has the storages that it had
abbrev pub KeepsNames : {S : Type 0} → NamedGate S → NamedGate S → Type 0
KeepsNames old new = (name : List ℕ) → storages_named new name ≡ storages_named old name

-- the first of these storages, if there is one
abbrev pub first_of : {S : Type 0} → List S → Option S
first_of [] = None
first_of (s ∷ rest) = Some s

-- The first storage of the name is handed out, and is in the gate no more; all others stay, and
-- with the last one the name goes. Where there is none, or no name is asked for, that is the
-- answer, and the gate has what it had.
abbrev pub IsHandedOut : {S : Type 0} → Option (List ℕ) → NamedGate S → NamedGate S → Result S Error
    → Type 0
IsHandedOut (Some name) old new (Ok s) = (storages_named old name ≡ s ∷ storages_named new name)
    × KeepsOtherNames old new name × IsForgotten new name
IsHandedOut (Some name) old new (Err e) = (e ≡ NotFound) × (storages_named old name ≡ [])
    × KeepsNames old new
IsHandedOut None old new (Ok s) = ⊥
IsHandedOut None old new (Err e) = (e ≡ NotFound) × KeepsNames old new
