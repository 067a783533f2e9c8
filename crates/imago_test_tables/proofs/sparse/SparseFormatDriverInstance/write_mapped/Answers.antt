-- SPDX-License-Identifier: MIT
use Rattle.std.proofs.Common.{rules}
use Rattle.imago_drivers.proofs.RawSteps.{if_ok, if_err, ok_of, err_of}
use Rattle.imago_test_tables.proofs.SparseSteps.{sparse_put}
use Rattle.imago_test_tables.proofs.sparse.SparseFormatDriverInstance.write_mapped.Goals as goal

pub returns-clause-call : goal.returns-clause-call
returns-clause-call g c = record {
  written = if_ok c.write.result (λ x e. sparse_put _ _ c.args.self.now.table.items c.args.storage c.args.offset c.args.source.now _ _ c.requires.known (λ k. ok_of x e (c.write.ensures.written k)) c.write.ensures.other);
  torn = if_err c.write.result (λ x e. sparse_put _ _ c.args.self.now.table.items c.args.storage c.args.offset c.args.source.now _ _ c.requires.known (λ k. err_of x e (c.write.ensures.torn k)) c.write.ensures.other);
  causes = search rules;
  leaves = search rules;
  storages = search rules;
  framed = search rules;
  refusals = search rules;
}
