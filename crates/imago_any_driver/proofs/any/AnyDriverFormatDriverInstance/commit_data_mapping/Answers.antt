-- SPDX-License-Identifier: MIT
use Rattle.imago_any_driver.specs.declared.any.AnyDriver.TheVariants as T
use Rattle.imago_any_driver.proofs.Variants.{commit_of}
use Rattle.imago_any_driver.proofs.any.AnyDriverFormatDriverInstance.commit_data_mapping.Goals as goal

pub returns-in-Raw-clause-call : goal.returns-in-Raw-clause-call
returns-in-Raw-clause-call g c = rw c.in-Raw.is (commit_of (λ r. T.Raw r) _ _ _ _ _ c.commit_data_mapping.ensures.call)

pub returns-in-Vmdk-clause-call : goal.returns-in-Vmdk-clause-call
returns-in-Vmdk-clause-call g c = rw c.in-Vmdk.is (commit_of (λ v. T.Vmdk v) _ _ _ _ _ c.commit_data_mapping-in-Vmdk.ensures.call)

pub returns-in-Cow-clause-call : goal.returns-in-Cow-clause-call
returns-in-Cow-clause-call g c = rw c.in-Cow.is (commit_of (λ d. T.Cow d) _ _ _ _ _ c.commit_data_mapping-in-Cow.ensures.call)

pub returns-in-Qcow2-clause-call : goal.returns-in-Qcow2-clause-call
returns-in-Qcow2-clause-call g c = rw c.in-Qcow2.is (commit_of (λ q. T.Qcow2 q) _ _ _ _ _ c.commit_data_mapping-in-Qcow2.ensures.call)
