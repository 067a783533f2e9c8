-- SPDX-License-Identifier: MIT
use Rattle.std.proofs.Common.{◌≡◌, ◌+◌, ◌-◌, ◌%◌, ◌<◌, ap, ◌∙◌, arith}
use Rattle.imago_qcow2.specs.declared.entry.GuestCluster.{GuestCluster}
use Rattle.imago_qcow2.specs.Tables.{loaded_of}
use Rattle.imago_qcow2.proofs.MapSteps.{stored_named, named_stored}
use Rattle.imago_qcow2.proofs.qcow2.Qcow2.stored_part.Goals as goal
use Rattle.imago_qcow2.proofs.qcow2.Qcow2.stored_part.Goals.{then-at-rest-via-then-at-rest, then-at-rest-via-else-at-rest+then-not-is_stored_at}

pub returns-then-at-rest-clause-none : goal.returns-then-at-rest-clause-none
returns-then-at-rest-clause-none g c = λ _ named.
    let s = c.args.self.now in
    let loaded = loaded_of s.header s.cluster.length s.tables in
    let positive : 0 < s.cluster.length = omega (arith, s.cluster.shortest) in
    let stored = named_stored (g.S.Storage.features s.storage) (g.S.Storage.bytes s.storage) loaded positive c.args.offset c.args.at c.requires named in
    let start = stored.0 in
    let from = stored.2 in
    let rest = c.rest-rest.ensures.value in
    let is : start ≡ c.args.at - c.rest-rest.result = omega (arith, from, rest) in
    elim c.then-at-rest.branch [
      | then-at-rest-via-then-at-rest w ↦ omega (arith, from, rest, w.if-at-rest.true)
      | then-at-rest-via-else-at-rest+then-not-is_stored_at w ↦ w.is_stored_at.ensures.no w.if-not-is_stored_at.true (stored.1 ∙ ap (λ x. GuestCluster.Stored x) is)
    ]

pub returns-clause-names : goal.returns-clause-names
returns-clause-names g c = λ i h.
    let s = c.args.self.now in
    let loaded = loaded_of s.header s.cluster.length s.tables in
    let positive : 0 < s.cluster.length = omega (arith, s.cluster.shortest) in
    let start = c.args.at - c.rest-rest.result in
    let rest = c.rest-rest.ensures.value in
    let from : start + c.args.offset % s.cluster.length ≡ c.args.at = omega (arith, rest, c.if-at-rest.false) in
    let near : i < s.cluster.length - c.args.offset % s.cluster.length = omega (arith, h, c.min.ensures, rest) in
    let under : c.args.offset + i < s.header.size = omega (arith, h, c.min.ensures, c.requires) in
    stored_named (g.S.Storage.features s.storage) (g.S.Storage.bytes s.storage) loaded positive c.args.offset c.args.at start i (c.is_stored_at.ensures.yes c.if-not-is_stored_at.false) from near under
