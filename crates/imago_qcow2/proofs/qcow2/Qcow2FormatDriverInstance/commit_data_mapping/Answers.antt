-- SPDX-License-Identifier: MIT
use Rattle.std.proofs.Common.{sym, ◌∙◌}
use Rattle.imago_qcow2.specs.Tables.{loaded_of}
use Rattle.imago_qcow2.specs.Qcow2Laws.{qcow2_causes}
use Rattle.imago_qcow2.proofs.CommitSteps.{commit_nothing}
use Rattle.imago_qcow2.proofs.qcow2.Qcow2FormatDriverInstance.commit_data_mapping.Goals as goal

pub returns-in-None-clause-call : goal.returns-in-None-clause-call
returns-in-None-clause-call g c =
    let s = c.args.self.now in
    commit_nothing _ s c.args.mapping (sym c.into_state.ensures ∙ c.in-None.is) (qcow2_causes (g.S.Storage.features s.storage) (g.S.Storage.bytes s.storage) (loaded_of s.header s.cluster.length s.tables))
