-- SPDX-License-Identifier: MIT
use Rattle.imago_any_driver.specs.declared.any.AnyDriver.TheVariants as T
use Rattle.imago_any_driver.proofs.Variants.{flush_of}
use Rattle.imago_any_driver.proofs.any.AnyDriverFormatDriverInstance.sync.Goals as goal

pub returns-in-Raw : goal.returns-in-Raw
returns-in-Raw g c = rw c.in-Raw.is (flush_of (λ r. T.Raw r) _ _ _ _ _ _ (λ p. p) c.sync.ensures)

pub returns-in-Vmdk : goal.returns-in-Vmdk
returns-in-Vmdk g c = rw c.in-Vmdk.is (flush_of (λ v. T.Vmdk v) _ _ _ _ _ _ (λ p. p) c.sync-in-Vmdk.ensures)

pub returns-in-Cow : goal.returns-in-Cow
returns-in-Cow g c = rw c.in-Cow.is (flush_of (λ d. T.Cow d) _ _ _ _ _ _ (λ p. p) c.sync-in-Cow.ensures)
