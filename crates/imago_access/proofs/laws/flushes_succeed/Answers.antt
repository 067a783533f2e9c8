-- SPDX-License-Identifier: MIT
use Rattle.imago_access.proofs.Successes.{flush_succeeds}
use Rattle.imago_access.proofs.laws.flushes_succeed.Goals as goal

pub returns-clause-flushed : goal.returns-clause-flushed
returns-clause-flushed g c = flush_succeeds g.D.FormatDriverInstance.view g.D.FormatDriverInstance.calls.flushed

pub returns-clause-synced : goal.returns-clause-synced
returns-clause-synced g c = flush_succeeds g.D.FormatDriverInstance.view g.D.FormatDriverInstance.calls.synced

pub returns-clause-invalidated : goal.returns-clause-invalidated
returns-clause-invalidated g c = flush_succeeds g.D.FormatDriverInstance.view g.D.FormatDriverInstance.calls.invalidated
