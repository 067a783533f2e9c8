-- SPDX-License-Identifier: MIT
use Rattle.std.proofs.Common.{rules, ap}
use Rattle.imago_test_drivers.specs.Choppy.{told, raw_over}
use Rattle.imago_test_drivers.specs.declared.choppy.Choppy.{Choppy}
use Rattle.imago_test_drivers.proofs.ChoppySteps.{framed}
use Rattle.imago_test_drivers.proofs.choppy.ChoppyFormatDriverInstance.write_prepared.Goals as goal

pub returns-clause-untouched : goal.returns-clause-untouched
returns-clause-untouched g c e =
    let s = c.args.self.now in
    ap {B = Choppy _ _ _} (λ r. record s { raw = r }) (c.write_prepared.ensures.untouched e)

pub returns-clause-call : goal.returns-clause-call
returns-clause-call g c = record {
  written = search rules;
  torn = search rules;
  round = search rules;
  causes = search rules;
  reaches = search rules;
  storages = search rules;
  framed =
      let s = c.args.self.now in
      let st = g.S.Storage in
      let v = raw_over st.features st.fault_count st.bytes in
      framed (told s.is_granular s.cut) (v s.raw) (v c.write_prepared.new.self) c.write_prepared.ensures.call.framed;
  refusals = search rules;
}
