-- SPDX-License-Identifier: MIT
use Rattle.std.proofs.Common.{◌≡◌, ◌+◌, ◌-◌, ◌≤◌, ◌++◌, List, length, take, None, vec_len, vec_capacity}
use Rattle.imago_access.specs.declared.run.Reply.{Reply}
use Rattle.imago_access.specs.Chain.{driver}
use Rattle.imago_access.specs.Runs.{IsRun}
use Rattle.imago_access.proofs.run.run.Given as goal

abbrev pub invariant-loop-call : goal.invariant-loop-call
invariant-loop-call g l =
    record {
      spent : (g.D.FormatDriverInstance.view (driver l.image)).pending ≡ None;
      room : vec_len l.replies + (length l.calls - l.call-index) ≤ vec_capacity l.replies;
      run : (rs : List Reply) × (l.replies.items ≡ l.fn.replies.items ++ rs) × IsRun g.D.FormatDriverInstance.view g.D.FormatDriverInstance.calls l.fn.image (take l.call-index l.calls) rs l.image;
    }
