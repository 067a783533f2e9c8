-- SPDX-License-Identifier: MIT
use Rattle.imago_copy.proofs.Copies.{on_error, gathered_put, partly_gathered, put_gathered}
use Rattle.imago_copy.proofs.copy.make_room.Goals as goal

pub returns-in_err-put_held-clause-refused : goal.returns-in_err-put_held-clause-refused
returns-in_err-put_held-clause-refused g c = λ at p s held.
    on_error _ _ (partly_gathered at p c.args.held s _ _ c.args.buf.now held c.in_err-put_held.ensures.refused)

pub returns-clause-put : goal.returns-clause-put
returns-clause-put g c = λ at p s held.
    gathered_put at p s _ c.args.buf.now (put_gathered at p c.args.held s _ _ c.args.buf.now held c.in_ok-put_held.ensures.appended)
