-- What the calls of the file of a path are.
-- SPDX-License-Identifier: MIT
use Rattle.std.specs.Prelude.{◌≡◌, ℕ, ◌≤◌, List, Ok, IsErr, OnOk, OnErr, Result}
use Rattle.std.specs.declared.io.Error.{Error as IoError}
use Rattle.imago_file.specs.FileCalls.{FileCalls, Answer}
use Rattle.imago_images.specs.declared.file.Access.{Access}
use Rattle.imago_images.specs.declared.file.Access.TheVariants.{ByPath, Open}
use Rattle.imago_images.specs.declared.file.PathFile.{PathFile}

-- by its path its length is the number of bytes that are shown
abbrev pub IsMeasured :
    {File : Type 0} → FileCalls File → Access File → Result ℕ IoError → Type 0
IsMeasured calls (ByPath shown) answer = answer ≡ Ok shown
IsMeasured calls (Open file) answer = calls.measured file answer

-- of a read by its path nothing is said here
abbrev pub IsRead :
    {File : Type 0} → FileCalls File → ℕ → List ℕ → Access File → Answer → Type 0
IsRead calls at buffer (ByPath shown) answer = Unit {0}
IsRead calls at buffer (Open file) answer = calls.read at buffer file answer

-- the call of an open file, which stays open
abbrev pub IsPassedOn :
    {File : Type 0} → (File → File → Answer → Type 0) → File → Access File → Answer → Type 0
IsPassedOn {File} call old new answer = (now : File) × (new ≡ Open now) × call old now answer

-- by its path it is never written
abbrev pub IsWritten :
    {File : Type 0} → FileCalls File → ℕ → List ℕ → Access File → Access File → Answer → Type 0
IsWritten calls at source (ByPath shown) new answer = (new ≡ ByPath shown) × IsErr answer
IsWritten calls at source (Open file) new answer =
    IsPassedOn (calls.written at source) file new answer

-- by its path fewer of its bytes are shown, or as many as before where that is refused
abbrev pub IsResized :
    {File : Type 0} → FileCalls File → ℕ → Access File → Access File → Answer → Type 0
IsResized calls n (ByPath shown) new answer =
    OnOk answer ((n ≤ shown) × (new ≡ ByPath n)) × OnErr answer (new ≡ ByPath shown)
IsResized calls n (Open file) new answer = IsPassedOn (calls.resized n) file new answer

-- by its path there is nothing to sync
abbrev pub IsSynced :
    {File : Type 0} → FileCalls File → Access File → Access File → Answer → Type 0
IsSynced calls (ByPath shown) new answer = (new ≡ ByPath shown) × (answer ≡ Ok tt)
IsSynced calls (Open file) new answer = IsPassedOn calls.synced file new answer

-- it is the same path of the same host, looked at once
pub record IsOfSamePath {H File : Type 0} (old new : PathFile H File) : Type 0 where
  pub host : new.host ≡ old.host
  pub path : new.path ≡ old.path
  pub status : new.status ≡ old.status

-- its calls, over those of an open file
abbrev pub path_calls : {H File : Type 0} → FileCalls File → FileCalls (PathFile H File)
path_calls calls = record {
  measured = λ f answer. IsMeasured calls f.access answer;
  read = λ at buffer f answer. IsRead calls at buffer f.access answer;
  written = λ at source old new answer. IsOfSamePath old new
      × IsWritten calls at source old.access new.access answer;
  resized = λ n old new answer. IsOfSamePath old new
      × IsResized calls n old.access new.access answer;
  synced = λ old new answer. IsOfSamePath old new × IsSynced calls old.access new.access answer;
}
