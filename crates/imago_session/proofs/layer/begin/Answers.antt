-- SPDX-License-Identifier: MIT
use Rattle.std.proofs.Common.{◌∙◌, sym}
use Rattle.imago_session.proofs.ReadSteps.{if_ok_more, if_err_more}
use Rattle.imago_session.proofs.layer.begin.Goals as goal

pub returns-clause-agrees : goal.returns-clause-agrees
returns-clause-agrees c = if_ok_more c.load.result _ _ c.load.ensures.agrees (λ r h f len says. h f (c.new.ensures.bytes f.bytes, len ∙ sym c.new.ensures.length) tt says)

pub returns-clause-refused : goal.returns-clause-refused
returns-clause-refused c = if_err_more c.load.result _ _ c.load.ensures.refused (λ e h f len says. h f (c.new.ensures.bytes f.bytes, len ∙ sym c.new.ensures.length) tt says)
