-- SPDX-License-Identifier: MIT
use Rattle.imago_words.proofs.LineLaws.{differ}
use Rattle.imago_words.proofs.laws.options_differ.Goals as goal

pub returns : goal.returns
returns c = differ c.args.kind
