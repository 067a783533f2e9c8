-- SPDX-License-Identifier: MIT
use Rattle.std.proofs.Common.{◌≡◌, ◌+◌, arith}
use Rattle.imago_cow.specs.TableView.{entries_of, count_of}
use Rattle.imago_cow.specs.TableLaws.{named_below}
use Rattle.imago_cow.proofs.cow.CowFormatDriverInstance.read_mapped.Goals as goal

pub returns-clause-refusals : goal.returns-clause-refusals
returns-clause-refusals g c =
    let s = c.args.self.now in
    let z : c.args._storage ≡ 0 = omega (arith, c.requires) in
    rw z (c.read_stored.ensures.refusals (g.S.Storage.fault_count s.storage + s.faults) s.size s.block.length (entries_of s.table) (count_of s.table) s.waiting s.positive (λ i j h. named_below s.table i j h))

pub returns-clause-answered : goal.returns-clause-answered
returns-clause-answered g c = (c.read_stored.new.buf, c.read_stored.ensures.read)
