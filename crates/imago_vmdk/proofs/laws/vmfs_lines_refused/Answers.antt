-- SPDX-License-Identifier: MIT
use Rattle.std.proofs.Common.{ap, ◌∙◌}
use Rattle.imago_storage.specs.declared.error.Error.TheVariants.{Unsupported}
use Rattle.imago_vmdk.specs.Reading.{lines_say}
use Rattle.imago_vmdk.proofs.Vmfs.{line_refused, text_refused}
use Rattle.imago_vmdk.proofs.laws.vmfs_lines_refused.Goals as goal

pub returns : goal.returns
returns c = record {
  line = line_refused;
  text = λ accepted text line before after off long parts fine is.
      text_refused accepted text long (ap (lines_say accepted) parts
      ∙ c.first_fault.ensures accepted before after line Unsupported fine (line_refused accepted line off is));
}
