-- SPDX-License-Identifier: MIT
use Rattle.imago_qcow2_new.proofs.FewestSteps.{fewest}
use Rattle.imago_qcow2_new.proofs.laws.new_files_have_fewest_counts.Goals as goal

pub returns : goal.returns
returns c = λ format size l is. fewest l is.counts
