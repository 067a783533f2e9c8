-- SPDX-License-Identifier: MIT
use Rattle.std.proofs.Common.{◌∙◌}
use Rattle.imago_formats.proofs.TextSteps.{told}
use Rattle.imago_formats.proofs.text.is_descriptor.Goals as goal

pub returns-then-not-is_passed_over : goal.returns-then-not-is_passed_over
returns-then-not-is_passed_over c = c.names_version.ensures
    ∙ told c.loop-line.rest.now c.in-Some.line.now c.in-Some.behind.now c.is_passed_over.result
    c.in-Some.ensures.1 c.is_passed_over.ensures c.if-not-is_passed_over.true ∙ c.loop-line.invariant
