-- SPDX-License-Identifier: MIT
use Rattle.imago_access.proofs.access.FormatAccess.writev.Goals as goal

pub returns-clause-written : goal.returns-clause-written
returns-clause-written g c = c.write.ensures.written

pub returns-clause-performed : goal.returns-clause-performed
returns-clause-performed g c = c.write.ensures.performed

pub returns-clause-disk : goal.returns-clause-disk
returns-clause-disk g c = c.write.ensures.disk
