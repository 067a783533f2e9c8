-- SPDX-License-Identifier: MIT
use Rattle.imago_access.specs.Chain.{driver, backing, lent_image}
use Rattle.imago_access.proofs.Shown.{write_shown}
use Rattle.imago_access.proofs.SizeSteps.{round_image}
use Rattle.imago_access.proofs.access.FormatAccess.write_prepared.Goals as goal

pub returns-clause-disk : goal.returns-clause-disk
returns-clause-disk g c = λ keeps.
    let r = c.write_prepared in
    let x = c.args.self.now in
    write_shown g.D.FormatDriverInstance.view x r.new.self keeps (g.met.D.FormatDriverInstance.lawful (driver x)) c.args.mapping.now c.args.at c.args.source.now r.result r.ensures.call.written r.ensures.call.torn

pub returns-clause-round : goal.returns-clause-round
returns-clause-round g c = λ keeps.
    let r = c.write_prepared in
    let v = g.D.FormatDriverInstance.view in
    let x = c.args.self.now in
    round_image v x r.new.self (r.ensures.call.round keeps (lent_image v (backing x)).at)
