-- SPDX-License-Identifier: MIT
use Rattle.imago_test_drivers.specs.Choppy.{told, raw_over}
use Rattle.imago_test_drivers.proofs.Variants.{cancel_of}
use Rattle.imago_test_drivers.proofs.ChoppySteps.{cancelled}
use Rattle.imago_test_drivers.proofs.choppy.ChoppyFormatDriverInstance.cancel_data_mapping.Goals as goal

pub returns-clause-call : goal.returns-clause-call
returns-clause-call g c =
    let s = c.args.self.now in
    let st = g.S.Storage in
    let v = raw_over st.features st.fault_count st.bytes in
    let x = c.cancel_data_mapping in
    cancel_of (λ r. record s { raw = r }) _ s.raw x.new.self c.args.mapping (cancelled (told s.is_granular s.cut) v s.raw x.new.self c.args.mapping x.ensures.call)
