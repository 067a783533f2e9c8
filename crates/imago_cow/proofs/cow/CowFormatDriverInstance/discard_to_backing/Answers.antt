-- SPDX-License-Identifier: MIT
use Rattle.std.proofs.Common.{◌≡◌, ◌+◌, None, refl}
use Rattle.imago_cow.proofs.DriverSteps.{none_waits}
use Rattle.imago_cow.proofs.cow.CowFormatDriverInstance.discard_to_backing.Goals as goal

pub returns-clause-call : goal.returns-clause-call
returns-clause-call g c =
    let s = c.args.self.now in
    let none : s.waiting ≡ None = none_waits s.block.length s.size (g.S.Storage.bytes s.storage) s.waiting c.requires.spent in
    rw none (c.make_absent.ensures.to_backing (g.S.Storage.features s.storage) (g.S.Storage.fault_count s.storage + s.faults) (g.S.Storage.bytes s.storage))

pub returns-clause-performed : goal.returns-clause-performed
returns-clause-performed g c = ((refl, refl, c.make_absent.ensures.count, refl, refl), refl, refl, c.make_absent.ensures.made)
