-- SPDX-License-Identifier: MIT
use Rattle.std.proofs.Common.{◌∙◌}
use Rattle.imago_vmdk.proofs.Numbers.{number_from_parse}
use Rattle.imago_vmdk.proofs.line.number.Goals as goal

pub returns : goal.returns
returns c = c.ok.ensures.value ∙ number_from_parse 64 c.args.text.now c.parse.result c.parse.ensures.value.0
