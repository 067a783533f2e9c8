-- SPDX-License-Identifier: MIT
use Rattle.std.proofs.Common.{◌+◌, inr, false, arith}
use Rattle.imago_drivers.specs.declared.mapping.ShallowMapping.{ShallowMapping}
use Rattle.imago_qcow2.specs.Tables.{loaded_of, loaded_place}
use Rattle.imago_qcow2.proofs.MapSteps.{names_more, raw_on, raw_back}
use Rattle.imago_qcow2.proofs.qcow2.Qcow2.longest_stored.Goals as goal

pub returns-then-more-eq0-clause-ends : goal.returns-then-more-eq0-clause-ends
returns-then-more-eq0-clause-ends g c =
    let s = c.args.self.now in
    let place = loaded_place (g.S.Storage.features s.storage) (loaded_of s.header s.cluster.length s.tables) (g.S.Storage.bytes s.storage) in
    let count = c.loop-count.count in
    inr (λ named. c.stored_part-more.ensures.none c.if-more-eq0.true (raw_back 0 c.args.at count false (place (c.args.offset + count)) named))

pub loop-count-preserved : goal.loop-count-preserved
loop-count-preserved g c =
    let s = c.args.self.now in
    let place = loaded_place (g.S.Storage.features s.storage) (loaded_of s.header s.cluster.length s.tables) (g.S.Storage.bytes s.storage) in
    let l = c.loop-count in
    let part = c.stored_part-more in
    record {
      names = names_more place c.args.offset l.count part.result (ShallowMapping.Raw 0 c.args.at false) (ShallowMapping.Raw 0 (c.args.at + l.count) false) l.invariant.names part.ensures.names (λ i p. raw_on 0 c.args.at l.count i false p);
      fits = let x = part.ensures.inside in omega (arith, x);
    }
