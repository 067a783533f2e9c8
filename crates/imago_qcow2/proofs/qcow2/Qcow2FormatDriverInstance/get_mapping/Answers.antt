-- SPDX-License-Identifier: MIT
use Rattle.std.proofs.Common.{◌<◌, arith}
use Rattle.imago_qcow2.specs.Tables.{loaded_of, loaded_place}
use Rattle.imago_qcow2.proofs.MapSteps.{right_inside, right_end, longest_of, whole_longest, asked_for}
use Rattle.imago_qcow2.proofs.qcow2.Qcow2FormatDriverInstance.get_mapping.Goals as goal

pub returns-clause-right : goal.returns-clause-right
returns-clause-right g c =
    let s = c.args.self.now in
    let place = loaded_place (g.S.Storage.features s.storage) (loaded_of s.header s.cluster.length s.tables) (g.S.Storage.bytes s.storage) in
    let m = c.in_ok-mapping in
    let inside : c.args.offset < s.header.size = omega (arith, c.if-offset-self.false) in
    right_inside place c.args.offset c.args.max_length m.known c.longest.result m.mapping m.ensures.some m.ensures.names c.longest.ensures.names
    (asked_for place c.args.offset s.header.size c.args.max_length c.min-most.result m.known c.longest.result m.mapping inside c.min-most.ensures m.ensures.some m.ensures.names c.longest.ensures.ends)

pub returns-clause-part : goal.returns-clause-part
returns-clause-part g c =
    let s = c.args.self.now in
    let place = loaded_place (g.S.Storage.features s.storage) (loaded_of s.header s.cluster.length s.tables) (g.S.Storage.bytes s.storage) in
    let m = c.in_ok-mapping in
    longest_of place s.header.size c.args.offset c.args.max_length c.min-most.result m.known c.longest.result m.mapping c.min-most.ensures m.ensures.some m.ensures.names c.longest.ensures.most c.longest.ensures.ends

pub returns-clause-whole : goal.returns-clause-whole
returns-clause-whole g c = λ one.
    let s = c.args.self.now in
    let place = loaded_place (g.S.Storage.features s.storage) (loaded_of s.header s.cluster.length s.tables) (g.S.Storage.bytes s.storage) in
    whole_longest place s.header.size c.args.offset c.args.max_length c.longest.result one (returns-clause-part g c)

pub returns-then-offset-self-clause-right : goal.returns-then-offset-self-clause-right
returns-then-offset-self-clause-right g c =
    let s = c.args.self.now in
    right_end (g.S.Storage.features s.storage) (g.S.Storage.bytes s.storage) (loaded_of s.header s.cluster.length s.tables) c.args.offset c.args.max_length (omega (arith, c.if-offset-self.true))
