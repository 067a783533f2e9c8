-- What a step found.
-- SPDX-License-Identifier: MIT
use Rattle.std.specs.Prelude.{ℕ}
use Rattle.imago_session.specs.declared.block.Step.{Step}
use Rattle.imago_session.specs.declared.block.Step.TheVariants as S

-- of the number of the block that is missing, if one is
abbrev pub IfMissing : {T : Type 0} → (ℕ → Type 0) → Step T → Type 0
IfMissing P (S.Missing number) = P number
IfMissing P (S.Ready x) = Unit {0}

-- of what was found, if it was
abbrev pub IfReady : {T : Type 0} → (T → Type 0) → Step T → Type 0
IfReady P (S.Missing number) = Unit {0}
IfReady P (S.Ready x) = P x
