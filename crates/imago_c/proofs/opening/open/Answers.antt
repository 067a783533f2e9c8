-- SPDX-License-Identifier: MIT
use Rattle.imago_c.proofs.opening.open.Goals as goal

pub returns-in-Err-clause-cause : goal.returns-in-Err-clause-cause
returns-in-Err-clause-cause c = λ known some. (c.in-Err.refusal, c.code.ensures, c.in-Err.ensures.refused known)
