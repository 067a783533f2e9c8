-- SPDX-License-Identifier: MIT
use Rattle.std.proofs.Common.{◌≡◌, ◌+◌, None, arith}
use Rattle.imago_cow.specs.TableView.{entries_of, count_of}
use Rattle.imago_cow.proofs.DriverSteps.{none_waits}
use Rattle.imago_cow.proofs.ResizeSteps.{small_disk}
use Rattle.imago_cow.proofs.cow.CowFormatDriverInstance.resize_shrink.Goals as goal

pub returns-then-new_size-self-clause-call : goal.returns-then-new_size-self-clause-call
returns-then-new_size-self-clause-call g c =
    let s = c.args.self.now in
    let none : s.waiting ≡ None = none_waits s.block.length s.size (g.S.Storage.bytes s.storage) s.waiting c.requires.spent in
    rw none (small_disk (g.S.Storage.features s.storage) (g.S.Storage.fault_count s.storage + s.faults) (g.S.Storage.bytes s.storage) s.size s.block.length (entries_of s.table) (count_of s.table) c.args.new_size s.positive (omega (arith, c.if-new_size-self.true)))

pub returns-clause-call : goal.returns-clause-call
returns-clause-call g c =
    let s = c.args.self.now in
    let none : s.waiting ≡ None = none_waits s.block.length s.size (g.S.Storage.bytes s.storage) s.waiting c.requires.spent in
    rw none (c.shrink.ensures.shrunk (g.S.Storage.features s.storage) (g.S.Storage.fault_count s.storage + s.faults) (g.S.Storage.bytes s.storage))
