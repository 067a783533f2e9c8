-- SPDX-License-Identifier: MIT
use Rattle.imago_test_drivers.specs.Choppy.{told, raw_over}
use Rattle.imago_test_drivers.proofs.ChoppySteps.{shrunk}
use Rattle.imago_test_drivers.proofs.choppy.ChoppyFormatDriverInstance.resize_shrink.Goals as goal

pub returns-clause-call : goal.returns-clause-call
returns-clause-call g c =
    let s = c.args.self.now in
    let st = g.S.Storage in
    let v = raw_over st.features st.fault_count st.bytes in
    let x = c.resize_shrink in
    shrunk (told s.is_granular s.cut) (v s.raw) (v x.new.self) c.args.new_size x.result x.ensures.call
