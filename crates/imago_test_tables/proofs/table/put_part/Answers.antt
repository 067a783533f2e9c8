-- SPDX-License-Identifier: MIT
use Rattle.imago_test_tables.proofs.TableSteps.{filled_part}
use Rattle.imago_test_tables.proofs.table.put_part.Goals as goal

pub returns-then-barred-clause-torn : goal.returns-then-barred-clause-torn
returns-then-barred-clause-torn c = filled_part c.args.offset c.clear_run-run.result c.args.count _ _ _ c.put_run.ensures c.clear_run-run.ensures.most

pub returns-clause-torn : goal.returns-clause-torn
returns-clause-torn c = filled_part c.args.offset c.clear_run-run.result c.args.count _ _ _ c.put_run.ensures c.clear_run-run.ensures.most
