-- SPDX-License-Identifier: MIT
use Rattle.std.proofs.Common.{◌≡◌, true, subst, sym, arith}
use Rattle.imago_qcow2_new.specs.declared.extents.Extents.{Extents}
use Rattle.imago_qcow2_new.specs.Space.{stores}
use Rattle.imago_qcow2_new.proofs.scan.layout_of_size.Goals as goal

pub returns-clause-all : goal.returns-clause-all
returns-clause-all c = λ yes p lt.
    let size = c.in_ok-layout.ensures.layout.disk in
    subst (λ (e : Extents). stores e p ≡ true) (sym c.in_ok-layout.ensures.clusters) (c.in_ok-stored.ensures.all yes p (omega (arith, lt, size)))
