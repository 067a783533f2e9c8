-- SPDX-License-Identifier: MIT
use Rattle.std.specs.Prelude.{◌≡◌, ℕ, List, length, replicate, Option, Some, None, Result, Ok, Err}
use Rattle.imago_storage.specs.declared.error.Error.{Error}
use Rattle.imago_storage.specs.declared.error.Error.TheVariants.{NotFound}
use Rattle.imago_storage.specs.Options.{OpenOptions, CreateOptions}
use Rattle.imago_storage.specs.Openings.{Openings}

-- by a name: so many zeroes; without one nothing is found
abbrev pub IsByName : {S : Type 0} → (S → List ℕ) → (List ℕ → ℕ) → Option (List ℕ) → Result S Error
    → Type 0
IsByName bytes size (Some name) (Ok s) = bytes s ≡ replicate (size name) 0
IsByName bytes size (Some name) (Err e) = ⊥
IsByName bytes size None (Ok s) = ⊥
IsByName bytes size None (Err e) = e ≡ NotFound

-- What is opened has as many bytes as its name; what is created, the size that was asked for.
abbrev pub by_name : {S : Type 0} → (S → List ℕ) → Openings S
by_name bytes = record {
  opened = λ options. IsByName bytes (λ name. length name) options.filename;
  created = λ options. IsByName bytes (λ name. options.size) options.to_open.filename;
  made = λ options result. ⊥;
  resolved = λ storage relative name. name ≡ relative;
}
