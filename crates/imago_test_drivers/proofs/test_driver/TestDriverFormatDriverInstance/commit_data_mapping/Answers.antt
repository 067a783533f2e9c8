-- SPDX-License-Identifier: MIT
use Rattle.imago_test_drivers.specs.declared.test_driver.TestDriver.TheVariants as T
use Rattle.imago_test_drivers.proofs.Variants.{commit_of}
use Rattle.imago_test_drivers.proofs.test_driver.TestDriverFormatDriverInstance.commit_data_mapping.Goals as goal

pub returns-in-Raw-clause-call : goal.returns-in-Raw-clause-call
returns-in-Raw-clause-call g c = rw c.in-Raw.is (commit_of (λ r. T.Raw r) _ _ _ _ _ c.commit_data_mapping.ensures.call)

pub returns-in-Pattern-clause-call : goal.returns-in-Pattern-clause-call
returns-in-Pattern-clause-call g c = rw c.in-Pattern.is (commit_of (λ p. T.Pattern p) _ _ _ _ _ c.commit_data_mapping-in-Pattern.ensures.call)

pub returns-in-Choppy-clause-call : goal.returns-in-Choppy-clause-call
returns-in-Choppy-clause-call g c = rw c.in-Choppy.is (commit_of (λ d. T.Choppy d) _ _ _ _ _ c.commit_data_mapping-in-Choppy.ensures.call)
