-- SPDX-License-Identifier: MIT
use Rattle.std.proofs.Common.{◌≡◌, None, refl, arith}
use Rattle.std.proofs.lemmas.Result.{err_from_is_err_and}
use Rattle.imago_cow.proofs.DriverSteps.{none_waits}
use Rattle.imago_cow.proofs.cow.CowFormatDriverInstance.resize_grow.Goals as goal

pub returns-in_err-grow-clause-call : goal.returns-in_err-grow-clause-call
returns-in_err-grow-clause-call g c =
    let s = c.args.self.now in
    let none : s.waiting ≡ None = none_waits s.block.length s.size (g.S.Storage.bytes s.storage) s.waiting c.requires.spent in
    let p = err_from_is_err_and c.from_residual.result c.from_residual.ensures.1 in
    rw (p.1, p.2, none, c.grow.ensures.features) c.in_err-grow.ensures.call

pub returns-clause-call : goal.returns-clause-call
returns-clause-call g c =
    let s = c.args.self.now in
    let none : s.waiting ≡ None = none_waits s.block.length s.size (g.S.Storage.bytes s.storage) s.waiting c.requires.spent in
    rw (none, c.grow.ensures.features) c.in_ok-grow.ensures.call

pub returns-clause-performed : goal.returns-clause-performed
returns-clause-performed g c = (c.in_ok-grow.ensures.copies, refl, refl, refl, λ h. let z : ⊥ = omega (arith, h, c.if-new_size-self.false) in absurd z, λ h. c.in_ok-grow.ensures.blocks, tt)
