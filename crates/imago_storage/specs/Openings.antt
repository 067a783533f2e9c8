-- SPDX-License-Identifier: MIT
use Rattle.std.specs.Prelude.{◌≡◌, ℕ, ◌⊎◌, List, Result, Ok, Err}
use Rattle.imago_storage.specs.declared.error.Error.{Error}
use Rattle.imago_storage.specs.declared.error.Error.TheVariants.{Unsupported}
use Rattle.imago_storage.specs.Options.{OpenOptions, CreateOptions}

-- What is opened and created by options, and which name a relative one stands for: relations
-- between what is asked for and the answer. Nothing but the call itself gives its relation for a
-- storage that isn't known, so an answer can't be another than that call's.
pub record Openings (Self : Type 0) : Type 1 where
  pub opened : OpenOptions → Result Self Error → Type 0
  pub created : CreateOptions → Result Self Error → Type 0
  -- a creation of its own for what isn't opened, beside to create, open, and let go
  pub made : CreateOptions → Result (Unit {0}) Error → Type 0
  -- beside that storage: the relative name, and the one that it stands for
  pub resolved : Self → List ℕ → List ℕ → Type 0

-- the answer without the storage
abbrev pub let_go : {Self : Type 0} → Result Self Error → Result (Unit {0}) Error
let_go (Ok storage) = Ok tt
let_go (Err e) = Err e

-- What is created without being opened: it is created and opened by one call, and let go; or
-- created as the storage does by itself.
abbrev pub IsMade : {Self : Type 0} → Openings Self → CreateOptions → Result (Unit {0}) Error
    → Type 0
IsMade {Self} openings options result = ((answer : Result Self Error)
    × openings.created options answer × (result ≡ let_go answer)) ⊎ openings.made options result

-- neither opened nor created by options
abbrev pub IsUnsupported : {Self Options : Type 0} → Options → Result Self Error → Type 0
IsUnsupported options result = result ≡ Err Unsupported

-- no options open or create such a storage, and a relative name that it resolves stands for itself
abbrev pub no_openings : {Self : Type 0} → Openings Self
no_openings = record {
  opened = IsUnsupported;
  created = IsUnsupported;
  made = λ options result. ⊥;
  resolved = λ storage relative name. name ≡ relative;
}
