-- SPDX-License-Identifier: MIT
use Rattle.imago_access.proofs.Shown.{commit_shown}
use Rattle.imago_access.proofs.access.FormatAccess.commit_data_mapping.Goals as goal

pub returns-clause-disk : goal.returns-clause-disk
returns-clause-disk g c = λ keeps.
    let r = c.commit_data_mapping in
    commit_shown g.D.FormatDriverInstance.view c.args.self.now r.new.self keeps c.args.mapping r.result r.ensures.call
