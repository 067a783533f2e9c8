-- SPDX-License-Identifier: MIT
use Rattle.imago_access.specs.Chain.{backing}
use Rattle.imago_access.proofs.Images.{lent_is}
use Rattle.imago_access.proofs.ZeroSteps.{piece_written}
use Rattle.imago_access.specs.Performed.{IsFirstBy}
use Rattle.imago_access.proofs.ZeroCallSteps.{on_driver}
use Rattle.imago_access.proofs.access.FormatAccess.write_zero_piece.Goals as goal

pub returns-clause-zeroed : goal.returns-clause-zeroed
returns-clause-zeroed g c =
    let v = g.D.FormatDriverInstance.view in
    let x = c.args.self.now in
    piece_written v x c.write_first.new.inner c.args.offset c.args.zeroes.now c.write_first.result _ _ (lent_is v c.below.result (backing x) c.below.ensures) c.requires.zeroes c.write_first.ensures.written

pub returns-clause-performed : goal.returns-clause-performed
returns-clause-performed g c =
    let v = g.D.FormatDriverInstance.view in
    let x = c.args.self.now in
    on_driver v x c.write_first.new.inner _ (lent_is v c.below.result (backing x) c.below.ensures) (λ l. IsFirstBy g.D.FormatDriverInstance.calls l c.args.offset c.args.zeroes.now) c.write_first.result c.write_first.ensures.performed
