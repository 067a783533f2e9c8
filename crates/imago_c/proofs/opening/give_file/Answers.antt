-- SPDX-License-Identifier: MIT
use Rattle.imago_session.specs.Opening.{wanted}
use Rattle.imago_c.proofs.Refusals.{backing_of, extent_of}
use Rattle.imago_c.proofs.opening.give_file.Goals as goal

pub returns-in-Ok-clause-over : goal.returns-in-Ok-clause-over
returns-in-Ok-clause-over c = λ asks known. backing_of (wanted c.args.session.now) _ asks (λ k is. c.give_file.ensures.refused k is)

pub returns-in-Ok-clause-extent : goal.returns-in-Ok-clause-extent
returns-in-Ok-clause-extent c = λ asks known. extent_of (wanted c.args.session.now) _ asks (λ k is. c.give_file.ensures.extent k is)
