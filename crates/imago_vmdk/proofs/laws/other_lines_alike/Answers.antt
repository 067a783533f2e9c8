-- SPDX-License-Identifier: MIT
use Rattle.imago_vmdk.proofs.Vmfs.{line_same, text_same}
use Rattle.imago_vmdk.proofs.laws.other_lines_alike.Goals as goal

pub returns : goal.returns
returns c = record {
  line = line_same;
  text = text_same;
}
