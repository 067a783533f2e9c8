-- Which refusals are not for what a file says: those of the host, and for want of memory.
-- SPDX-License-Identifier: MIT
use Rattle.imago_storage.specs.Error.{IsExtRefusal}
use Rattle.imago_images.specs.declared.failure.OpenError.{OpenError}
use Rattle.imago_images.specs.declared.failure.Reason.{Reason}
use Rattle.imago_img_files.specs.declared.failure.Failure.{Failure}

-- Why a file isn't opened, if not for what it says: the host doesn't hand it out or doesn't read it,
-- its storage failed, or it is no file.
abbrev pub IsOfHost : Reason → Type 0
IsOfHost (Reason.System answer) = Unit {0}
IsOfHost (Reason.Image error) = IsExtRefusal error
IsOfHost Reason.NotAFile = Unit {0}
IsOfHost reason = ⊥

-- a refusal is for such a reason, or memory was refused
abbrev pub IsHostRefusal : OpenError → Type 0
IsHostRefusal (OpenError.OfFile named reason) = IsOfHost reason
IsHostRefusal OpenError.Memory = Unit {0}

-- a command isn't done for such a reason
abbrev pub IsHostFailure : Failure → Type 0
IsHostFailure (Failure.NotOpened cause) = IsHostRefusal cause
IsHostFailure (Failure.Needed image cause) = IsHostRefusal cause
IsHostFailure Failure.Memory = Unit {0}
IsHostFailure failure = ⊥
