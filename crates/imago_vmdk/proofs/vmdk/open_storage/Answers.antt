-- SPDX-License-Identifier: MIT
use Rattle.std.proofs.Common.{rules}
use Rattle.imago_vmdk.proofs.vmdk.open_storage.Goals as goal

pub returns-clause-opened : goal.returns-clause-opened
returns-clause-opened g c = search rules

pub returns-clause-refused : goal.returns-clause-refused
returns-clause-refused g c = search rules
