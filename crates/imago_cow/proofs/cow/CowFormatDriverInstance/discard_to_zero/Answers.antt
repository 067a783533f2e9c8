-- SPDX-License-Identifier: MIT
use Rattle.std.proofs.Common.{◌≡◌, ◌+◌, None, refl}
use Rattle.imago_cow.proofs.DriverSteps.{none_waits}
use Rattle.imago_cow.proofs.cow.CowFormatDriverInstance.discard_to_zero.Goals as goal

pub returns-clause-call : goal.returns-clause-call
returns-clause-call g c =
    let s = c.args.self.now in
    let none : s.waiting ≡ None = none_waits s.block.length s.size (g.S.Storage.bytes s.storage) s.waiting c.requires.spent in
    rw none (c.make_zero.ensures.to_zero (g.S.Storage.features s.storage) (g.S.Storage.fault_count s.storage + s.faults) (g.S.Storage.bytes s.storage))

pub returns-clause-made : goal.returns-clause-made
returns-clause-made g c = c.make_zero.ensures.made

pub returns-clause-storage : goal.returns-clause-storage
returns-clause-storage g c = refl

pub returns-clause-performed : goal.returns-clause-performed
returns-clause-performed g c = ((refl, refl, c.make_zero.ensures.count, refl, refl), refl, refl, c.make_zero.ensures.made)
