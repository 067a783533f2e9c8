-- SPDX-License-Identifier: MIT
use Rattle.imago_qcow2_new.proofs.Reading.{opens}
use Rattle.imago_qcow2_new.proofs.laws.new_files_open.Goals as goal

pub returns : goal.returns
returns c = λ l values file is. opens l values file is
