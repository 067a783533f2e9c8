-- SPDX-License-Identifier: MIT
use Rattle.imago_img_files.proofs.PrintedSteps.{if_ok}
use Rattle.imago_img_parts.proofs.Told.{still_answered}
use Rattle.imago_img_parts.proofs.run.flushed.Goals as goal

pub returns-in-Ok : goal.returns-in-Ok
returns-in-Ok g c =
    if_ok c.answer-outcome.result
    (λ outcome h. still_answered c.args.question (g.H.Files.contents c.args.host.now) (g.W.Write.contents c.args.output.now)
    (g.W.Write.contents c.answer-outcome.new.output) (g.W.Write.contents c.flush.new.self) outcome c.flush.ensures.bytes h)
    c.answer-outcome.ensures
