-- SPDX-License-Identifier: MIT
use Rattle.imago_test_drivers.specs.declared.test_driver.TestDriver.TheVariants as T
use Rattle.imago_test_drivers.proofs.Variants.{flush_of}
use Rattle.imago_test_drivers.proofs.test_driver.TestDriverFormatDriverInstance.invalidate_cache.Goals as goal

pub returns-in-Raw : goal.returns-in-Raw
returns-in-Raw g c = rw c.in-Raw.is (flush_of (λ r. T.Raw r) _ _ _ _ _ _ (λ p. p) c.invalidate_cache.ensures)

pub returns-in-Pattern : goal.returns-in-Pattern
returns-in-Pattern g c = rw c.in-Pattern.is (flush_of (λ p. T.Pattern p) _ _ _ _ _ _ (λ p. p) c.invalidate_cache-in-Pattern.ensures)

pub returns-in-Choppy : goal.returns-in-Choppy
returns-in-Choppy g c = rw c.in-Choppy.is (flush_of (λ d. T.Choppy d) _ _ _ _ _ _ (λ p. p) c.invalidate_cache-in-Choppy.ensures)
