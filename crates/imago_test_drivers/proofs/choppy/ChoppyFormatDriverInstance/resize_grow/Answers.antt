-- SPDX-License-Identifier: MIT
use Rattle.imago_drivers.specs.LayerBelow.{lent}
use Rattle.imago_test_drivers.specs.Choppy.{told, raw_over}
use Rattle.imago_test_drivers.proofs.ChoppySteps.{grown}
use Rattle.imago_test_drivers.proofs.choppy.ChoppyFormatDriverInstance.resize_grow.Goals as goal

pub returns-clause-call : goal.returns-clause-call
returns-clause-call g c =
    let s = c.args.self.now in
    let st = g.S.Storage in
    let v = raw_over st.features st.fault_count st.bytes in
    let x = c.resize_grow in
    grown (told s.is_granular s.cut) (v s.raw) (v x.new.self) c.args.mode (lent g.B.LowerLayer.as_layer_below c.args.below) c.args.new_size x.result x.ensures.call
