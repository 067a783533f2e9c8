-- SPDX-License-Identifier: MIT
use Rattle.imago_drivers.proofs.RawSteps.{if_ok, ok_of}
use Rattle.imago_drivers.specs.LayerBelow.{lent}
use Rattle.imago_test_tables.proofs.PrepareSteps.{copied_bytes, ext_refused}
use Rattle.imago_test_tables.proofs.sparse.copy_shown.Goals as goal

pub returns-in-Ok-clause-copied : goal.returns-in-Ok-clause-copied
returns-in-Ok-clause-copied g c = λ k tells over.
    if_ok c.write_bytes.result (λ x e. copied_bytes _ _ _ c.in-Ok.bytes.items c.args.stretch.offset c.args.stretch.count c.args.stretch.origin c.in-Ok.ensures.count (c.in-Ok.ensures.bytes tells)
    (rw c.deref.ensures.value at (ok_of x e (c.write_bytes.ensures.written k))))

pub returns-in-Ok-clause-refusals : goal.returns-in-Ok-clause-refusals
returns-in-Ok-clause-refusals g c = ext_refused (lent g.B.LowerLayer.as_layer_below c.args.below) c.args.stretch.origin c.args.stretch.offset c.args.stretch.count c.write_bytes.result c.write_bytes.ensures.only
