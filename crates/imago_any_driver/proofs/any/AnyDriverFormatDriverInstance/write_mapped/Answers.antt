-- SPDX-License-Identifier: MIT
use Rattle.imago_any_driver.proofs.any.AnyDriverFormatDriverInstance.write_mapped.Goals as goal

pub write_mapped-requires-clause-mapped : goal.write_mapped-requires-clause-mapped
write_mapped-requires-clause-mapped g c = rw c.in-Raw.is at c.requires.mapped

pub returns-in-Raw-clause-call : goal.returns-in-Raw-clause-call
returns-in-Raw-clause-call g c = rw c.in-Raw.is c.write_mapped.ensures.call

pub write_mapped-requires-in-Cow-clause-mapped : goal.write_mapped-requires-in-Cow-clause-mapped
write_mapped-requires-in-Cow-clause-mapped g c = rw c.in-Cow.is at c.requires.mapped

pub returns-in-Cow-clause-call : goal.returns-in-Cow-clause-call
returns-in-Cow-clause-call g c = rw c.in-Cow.is c.write_mapped-in-Cow.ensures.call
