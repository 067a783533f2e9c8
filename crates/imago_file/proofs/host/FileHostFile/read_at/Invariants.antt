-- SPDX-License-Identifier: MIT
use Rattle.std.proofs.Common.{◌≡◌, ◌≤◌, length}
use Rattle.imago_file.proofs.host.FileHostFile.read_at.Given as goal

-- what is read lies inside the buffer, whose length stays
abbrev pub invariant-loop : goal.invariant-loop
invariant-loop l = (l.done ≤ length l.buf) × (length l.buf ≡ length l.initial.buf)
