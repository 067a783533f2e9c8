-- SPDX-License-Identifier: MIT
use Rattle.std.specs.String.{string_bytes}
use Rattle.imago_vmdk.proofs.Opened.{answer_opened, answer_counted, answer_refused}
use Rattle.imago_vmdk.proofs.vmdk.Vmdk.opened_storages.Goals as goal

pub returns-clause-count : goal.returns-clause-count
returns-clause-count g c =
    let s = c.args.self.now in
    answer_counted string_bytes g.G.ImplicitOpenGate.opened (g.S.Storage.openings.resolved s.descriptor) s.direct s.extents.items c.args.gate.now c.open_extents.new.gate c.open_extents.result (λ v. v.items) (rw c.deref.ensures.value at c.open_extents.ensures.opened)

pub returns-clause-opened : goal.returns-clause-opened
returns-clause-opened g c =
    let s = c.args.self.now in
    answer_opened string_bytes g.G.ImplicitOpenGate.opened (g.S.Storage.openings.resolved s.descriptor) s.direct s.extents.items c.args.gate.now c.open_extents.new.gate c.open_extents.result (λ v. v.items) (rw c.deref.ensures.value at c.open_extents.ensures.opened)

pub returns-clause-refused : goal.returns-clause-refused
returns-clause-refused g c =
    let s = c.args.self.now in
    answer_refused string_bytes g.G.ImplicitOpenGate.opened (g.S.Storage.openings.resolved s.descriptor) s.direct s.extents.items c.args.gate.now c.open_extents.new.gate (g.S.Storage.features s.descriptor) c.open_extents.result (rw c.deref.ensures.value at c.open_extents.ensures.refused)
