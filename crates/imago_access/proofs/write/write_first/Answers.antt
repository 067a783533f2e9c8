-- SPDX-License-Identifier: MIT
use Rattle.std.proofs.lemmas.Result.{err_from_is_err_and}
use Rattle.imago_drivers.specs.LayerBelow.{lent}
use Rattle.imago_access.proofs.Parts.{first_written, first_refused}
use Rattle.imago_access.proofs.write.write_first.Goals as goal

pub returns-clause-written : goal.returns-clause-written
returns-clause-written g c = first_written (lent g.B.LowerLayer.as_layer_below c.args.below) _ _ _ c.args.offset c.args.source.now _ _ c.requires.some c.in_ok-count.ensures.mapped

pub returns-in_err-count-clause-written : goal.returns-in_err-count-clause-written
returns-in_err-count-clause-written g c =
    let q = err_from_is_err_and c.from_residual.result c.from_residual.ensures.1 in
    rw (q.1, q.2) (first_refused (lent g.B.LowerLayer.as_layer_below c.args.below) _ _ _ c.args.offset c.args.source.now c.in_err-count.field-0.0 c.in_err-count.ensures.mapped)

pub returns-clause-performed : goal.returns-clause-performed
returns-clause-performed g c = (_, c.in_ok-count.ensures.performed)

pub returns-in_err-count-clause-performed : goal.returns-in_err-count-clause-performed
returns-in_err-count-clause-performed g c =
    let q = err_from_is_err_and c.from_residual.result c.from_residual.ensures.1 in
    rw (q.1, q.2) c.in_err-count.ensures.performed
