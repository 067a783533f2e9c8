-- SPDX-License-Identifier: MIT
use Rattle.std.proofs.Common.{true, false, sym, ◌∙◌}
use Rattle.imago_images.proofs.BackingSteps.{behind_file, without_file}
use Rattle.imago_images.proofs.backing_name.file_named.Goals as goal

pub returns-in-Some : goal.returns-in-Some
returns-in-Some c = behind_file c.args.name.now c.in-Some.file.now c.in-Some.ensures.cases

pub returns-then-names_protocol : goal.returns-then-names_protocol
returns-then-names_protocol c =
    without_file c.args.name.now true c.in_default.ensures.cases (sym c.if-names_protocol.true ∙ c.names_protocol.ensures)

pub returns : goal.returns
returns c =
    without_file c.args.name.now false c.in_default.ensures.cases (sym c.if-names_protocol.false ∙ c.names_protocol.ensures)
