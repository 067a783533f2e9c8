-- SPDX-License-Identifier: MIT
use Rattle.imago_qcow2_new.proofs.Valid.{used_once}
use Rattle.imago_qcow2_new.proofs.laws.new_files_use_clusters_once.Goals as goal

pub returns : goal.returns
returns c = λ l values file is. used_once l values file is
