-- SPDX-License-Identifier: MIT
use Rattle.std.proofs.Common.{◌≡◌, arith}
use Rattle.imago_test_tables.proofs.PairSteps.{of_first, of_second, first_stays, grow_first, grow_second}
use Rattle.imago_test_tables.proofs.pair.Pair.write.Goals as goal

pub returns-then-index-eq0-clause-lengths : goal.returns-then-index-eq0-clause-lengths
returns-then-index-eq0-clause-lengths g c = let e = c.write_bytes.ensures in grow_first _ _ _ _ _ _ _ _ _ c.args.index e.no_shorter e.near c.if-index-eq0.true

pub returns-then-index-eq0-clause-torn : goal.returns-then-index-eq0-clause-torn
returns-then-index-eq0-clause-torn g c = λ keeps.
    rw c.if-index-eq0.true (c.write_bytes.ensures.torn (of_first _ _ keeps))

pub returns-clause-written : goal.returns-clause-written
returns-clause-written g c = λ keeps.
    let one : c.args.index ≡ 1 = omega (arith, c.if-index-eq0.false, c.requires) in
    let f = (g.S.Storage.features c.args.self.now.first).keeps_data in
    rw one (c.write_bytes-2.ensures.written (of_second f _ keeps))

pub returns-clause-torn : goal.returns-clause-torn
returns-clause-torn g c = λ keeps.
    let one : c.args.index ≡ 1 = omega (arith, c.if-index-eq0.false, c.requires) in
    let f = (g.S.Storage.features c.args.self.now.first).keeps_data in
    rw one (c.write_bytes-2.ensures.torn (of_second f _ keeps))

pub returns-clause-other : goal.returns-clause-other
returns-clause-other g c = first_stays _ _ _ c.args.index c.if-index-eq0.false c.requires

pub returns-clause-lengths : goal.returns-clause-lengths
returns-clause-lengths g c = let e = c.write_bytes-2.ensures in grow_second _ _ _ _ _ _ _ _ _ c.args.index e.no_shorter e.near c.if-index-eq0.false c.requires
