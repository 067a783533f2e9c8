-- SPDX-License-Identifier: MIT
use Rattle.imago_any_driver.proofs.any.AnyDriverFormatDriverInstance.readv_special.Goals as goal

pub returns-in-Raw-clause-refusals : goal.returns-in-Raw-clause-refusals
returns-in-Raw-clause-refusals g c = rw c.in-Raw.is c.readv_special.ensures.refusals

pub returns-in-Vmdk-clause-refusals : goal.returns-in-Vmdk-clause-refusals
returns-in-Vmdk-clause-refusals g c = rw c.in-Vmdk.is c.readv_special-in-Vmdk.ensures.refusals

pub returns-in-Cow-clause-refusals : goal.returns-in-Cow-clause-refusals
returns-in-Cow-clause-refusals g c = rw c.in-Cow.is c.readv_special-in-Cow.ensures.refusals

pub returns-in-Qcow2-clause-refusals : goal.returns-in-Qcow2-clause-refusals
returns-in-Qcow2-clause-refusals g c = rw c.in-Qcow2.is c.readv_special-in-Qcow2.ensures.refusals
