-- SPDX-License-Identifier: MIT
use Rattle.std.proofs.Common.{rules, ◌≡◌, arith}
use Rattle.imago_test_drivers.proofs.CopySteps.{copy_put_on_ok, copy_put_on_err}
use Rattle.imago_test_drivers.proofs.copy_once.CopyOnceFormatDriverInstance.write_mapped.Goals as goal

pub returns-clause-call : goal.returns-clause-call
returns-clause-call g c = record {
  written =
      let z : c.args._storage ≡ 0 = omega (arith, c.requires.known) in
      rw z (copy_put_on_ok _ _ _ c.args.self.now.copied _ _ _ c.write_copy.result c.write_copy.ensures.written);
  torn =
      let z : c.args._storage ≡ 0 = omega (arith, c.requires.known) in
      rw z (copy_put_on_err _ _ _ c.args.self.now.copied _ _ _ c.write_copy.result c.write_copy.ensures.torn);
  causes = search rules;
  leaves = search rules;
  storages = search rules;
  framed = search rules;
  refusals = search rules;
}
