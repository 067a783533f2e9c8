-- SPDX-License-Identifier: MIT
use Rattle.std.proofs.Common.{rules}
use Rattle.imago_test_drivers.specs.Choppy.{told, raw_over}
use Rattle.imago_test_drivers.proofs.ChoppySteps.{framed}
use Rattle.imago_test_drivers.proofs.choppy.ChoppyFormatDriverInstance.write_mapped.Goals as goal

pub returns-clause-call : goal.returns-clause-call
returns-clause-call g c = record {
  written = search rules;
  torn = search rules;
  causes = search rules;
  leaves = search rules;
  storages = search rules;
  framed =
      let s = c.args.self.now in
      let st = g.S.Storage in
      let v = raw_over st.features st.fault_count st.bytes in
      framed (told s.is_granular s.cut) (v s.raw) (v c.write_mapped.new.self) c.write_mapped.ensures.call.framed;
  refusals = search rules;
}
