-- What is seen of a gate over files.
-- SPDX-License-Identifier: MIT
use Rattle.std.specs.Prelude.{ℕ, List, Option, option_map}
use Rattle.std.specs.String.{string_bytes}
use Rattle.std.specs.declared.io.Error.{Error as IoError}
use Rattle.imago_file.specs.declared.gate.FileGate.{FileGate}

-- the host that it opens files by
abbrev pub host_of : {H File : Type 0} → FileGate H File → H
host_of gate = gate.host

-- the folder whose files it opens, if not those of every folder are
abbrev pub folder_of : {H File : Type 0} → FileGate H File → Option (List ℕ)
folder_of gate = option_map string_bytes gate.folder

-- what it keeps of the last opening: the cause, where that was refused behind the gate's own tests
abbrev pub kept_in : {H File : Type 0} → FileGate H File → Option IoError
kept_in gate = gate.last_error
