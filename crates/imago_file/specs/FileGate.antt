-- What a gate over files opens.
-- SPDX-License-Identifier: MIT
use Rattle.std.specs.Prelude.{◌≡◌, Bool, true, false, ℕ, List, Option, Some, None}
use Rattle.std.specs.Prelude.{Result, Ok, Err}
use Rattle.std.specs.IoError.{error_kind}
use Rattle.std.specs.declared.io.Error.{Error as IoError}
use Rattle.imago_storage.specs.declared.error.Error.{Error}
use Rattle.imago_storage.specs.declared.error.Error.TheVariants as E
use Rattle.imago_file.specs.Names.{lies_below}
use Rattle.imago_file.specs.Opening.{opening_error}

-- Whether a gate lets a path through: any, or those of files in a folder, or below.
abbrev pub lets_through : Option (List ℕ) → List ℕ → Bool
lets_through None path = true
lets_through (Some folder) path = lies_below folder path

-- what a gate answers where a file was opened so, or refused
abbrev pub gate_answer : {S : Type 0} → Result S IoError → Result S Error
gate_answer (Ok storage) = Ok storage
gate_answer (Err cause) = Err (opening_error (error_kind cause))

-- what a gate keeps of such an opening: the cause of a refusal
abbrev pub cause_kept : {S : Type 0} → Result S IoError → Option IoError
cause_kept (Ok storage) = None
cause_kept (Err cause) = Some cause

-- An opening by a gate that lets the paths of that folder through, or any. Without a path nothing
-- is found, and one that isn't let through is denied: for neither the host is asked, and nothing is
-- kept. Otherwise the host opens the file, and its answer is passed on; what it refused for is
-- kept, and nothing of a success.
pub record IsGateOpening {Host S : Type 0} (folder : Option (List ℕ))
    (opening : Host → Host → Result S IoError → Type 0) (filename : Option (List ℕ))
    (old new : Host) (kept : Option IoError) (result : Result S Error) : Type 0 where
  pub unnamed : filename ≡ None → (new ≡ old) × (kept ≡ None) × (result ≡ Err E.NotFound)
  pub outside : (path : List ℕ) → filename ≡ Some path → lets_through folder path ≡ false
      → (new ≡ old) × (kept ≡ None) × (result ≡ Err E.Denied)
  pub inside : (path : List ℕ) → filename ≡ Some path → lets_through folder path ≡ true
      → (answer : Result S IoError) × opening old new answer × (result ≡ gate_answer answer)
      × (kept ≡ cause_kept answer)
