-- SPDX-License-Identifier: MIT
use Rattle.imago_qcow2_new.proofs.Reading.{size_is, shown_byte}
use Rattle.imago_qcow2_new.proofs.laws.new_files_show_disks.Goals as goal

pub returns : goal.returns
returns c = λ l values file is below none. record {
  size_is = size_is l values file is;
  bytes = λ p inside. shown_byte l values file is p inside below none;
}
