-- SPDX-License-Identifier: MIT
use Rattle.std.proofs.Common.{◌+◌, inr, arith}
use Rattle.imago_qcow2.specs.Tables.{loaded_of, loaded_place}
use Rattle.imago_qcow2.proofs.MapSteps.{names_more, names_first}
use Rattle.imago_qcow2.proofs.qcow2.Qcow2.longest_of_any.Goals as goal

pub returns-then-not-goes_on-clause-ends : goal.returns-then-not-goes_on-clause-ends
returns-then-not-goes_on-clause-ends g c =
    let place = loaded_place (g.S.Storage.features c.args.self.now.storage) (loaded_of c.args.self.now.header c.args.self.now.cluster.length c.args.self.now.tables) (g.S.Storage.bytes c.args.self.now.storage) in
    let o = c.args.offset + c.loop-count.count in
    inr (λ named. c.goes_on.ensures.no c.if-not-goes_on.true (place o) (names_first place o c.in-Ok.more c.in-Ok.next c.in-Ok.ensures.some c.in-Ok.ensures.names) named)

pub loop-count-preserved : goal.loop-count-preserved
loop-count-preserved g c =
    let place = loaded_place (g.S.Storage.features c.args.self.now.storage) (loaded_of c.args.self.now.header c.args.self.now.cluster.length c.args.self.now.tables) (g.S.Storage.bytes c.args.self.now.storage) in
    let l = c.loop-count in
    record {
      names = names_more place c.args.offset l.count c.in-Ok.more c.args.mapping c.in-Ok.next l.invariant.names c.in-Ok.ensures.names (c.goes_on.ensures.yes c.if-not-goes_on.false);
      fits = let x = c.in-Ok.ensures.inside in omega (arith, x);
    }
