-- SPDX-License-Identifier: MIT
use Rattle.std.proofs.Common.{◌∙◌, sym}
use Rattle.imago_formats.proofs.SignatureSteps.{told_by_mark, told_unmarked}
use Rattle.imago_formats.proofs.signature.Signature.of_first.Goals as goal

pub returns-in-Some : goal.returns-in-Some
returns-in-Some c =
    told_by_mark c.args.besides c.args.block.now c.in-Some.found (sym c.first_found.ensures ∙ c.in-Some.is)

pub returns-in-None : goal.returns-in-None
returns-in-None c =
    c.told_by_text.ensures ∙ told_unmarked c.args.besides c.args.block.now (sym c.first_found.ensures ∙ c.in-None.is)
