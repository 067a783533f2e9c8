-- SPDX-License-Identifier: MIT
use Rattle.std.proofs.Common.{◌*◌, ◌/◌, ◌<◌, length}
use Rattle.imago_qcow2.proofs.HeldSteps.{entry_within, span_positive}
use Rattle.imago_qcow2.proofs.qcow2.Qcow2.l1_index.Goals as goal

pub returns-clause-within : goal.returns-clause-within
returns-clause-within g c =
    let s = c.args.self.now in
    let span = s.cluster.length / 8 * s.cluster.length in
    let h : c.args.offset / span < length s.tables.l1.items = entry_within s.header.size (length s.tables.l1.items) span c.args.offset (span_positive s.cluster.length s.cluster.shortest) c.requires s.covers in
    rw c.l1_index.ensures h
