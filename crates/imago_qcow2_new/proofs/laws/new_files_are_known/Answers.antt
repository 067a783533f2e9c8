-- SPDX-License-Identifier: MIT
use Rattle.imago_qcow2_new.proofs.NameSteps.{known_none, none_fit}
use Rattle.imago_qcow2_new.proofs.laws.new_files_are_known.Goals as goal

pub returns : goal.returns
returns c = λ l values file is has. known_none l values file is (none_fit l.header.names.bytes.items has.0) has.0 has.1
