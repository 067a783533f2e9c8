-- SPDX-License-Identifier: MIT
use Rattle.imago_any_driver.proofs.any.AnyDriverFormatDriverInstance.read_mapped.Goals as goal

pub returns-in-Raw-clause-refusals : goal.returns-in-Raw-clause-refusals
returns-in-Raw-clause-refusals g c = rw c.in-Raw.is c.read_mapped.ensures.refusals

pub returns-in-Vmdk-clause-refusals : goal.returns-in-Vmdk-clause-refusals
returns-in-Vmdk-clause-refusals g c = rw c.in-Vmdk.is c.read_mapped-in-Vmdk.ensures.refusals

pub returns-in-Cow-clause-refusals : goal.returns-in-Cow-clause-refusals
returns-in-Cow-clause-refusals g c = rw c.in-Cow.is c.read_mapped-in-Cow.ensures.refusals

pub returns-in-Qcow2-clause-refusals : goal.returns-in-Qcow2-clause-refusals
returns-in-Qcow2-clause-refusals g c = rw c.in-Qcow2.is c.read_mapped-in-Qcow2.ensures.refusals
