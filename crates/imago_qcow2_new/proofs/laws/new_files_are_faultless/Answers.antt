-- SPDX-License-Identifier: MIT
use Rattle.imago_qcow2_new.proofs.Valid.{faultless}
use Rattle.imago_qcow2_new.proofs.laws.new_files_are_faultless.Goals as goal

pub returns : goal.returns
returns c = λ l values file is. faultless l values file is
