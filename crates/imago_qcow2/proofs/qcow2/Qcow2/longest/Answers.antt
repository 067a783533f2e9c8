-- SPDX-License-Identifier: MIT
use Rattle.std.proofs.Common.{subst}
use Rattle.imago_drivers.specs.declared.mapping.ShallowMapping.{ShallowMapping}
use Rattle.imago_qcow2.specs.Qcow2.{NamesFirst}
use Rattle.imago_qcow2.specs.Tables.{loaded_of, loaded_place}
use Rattle.imago_qcow2.proofs.qcow2.Qcow2.longest.Goals as goal

pub longest_stored-requires-clause-names : goal.longest_stored-requires-clause-names
longest_stored-requires-clause-names g c =
    let s = c.args.self.now in
    let place = loaded_place (g.S.Storage.features s.storage) (loaded_of s.header s.cluster.length s.tables) (g.S.Storage.bytes s.storage) in
    subst (λ (m : ShallowMapping). NamesFirst place c.args.offset m c.args.known) (c.in-Some.ensures.0) c.requires.names
