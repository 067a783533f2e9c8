-- SPDX-License-Identifier: MIT
use Rattle.std.proofs.Common.{take}
use Rattle.std.specs.String.{string_bytes}
use Rattle.imago_vmdk.specs.Opened.{AreOpened}
use Rattle.imago_vmdk.proofs.vmdk.open_extents.Given as goal

abbrev pub invariant-loop-extent : goal.invariant-loop-extent
invariant-loop-extent g l = AreOpened g.G.ImplicitOpenGate.opened (λ n. g.S.Storage.openings.resolved l.descriptor (string_bytes n)) l.direct (take l.extent-index l.extents) l.fn.gate l.gate l.storages.items
