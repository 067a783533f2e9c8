-- SPDX-License-Identifier: MIT
use Rattle.imago_access.proofs.access.FormatAccess.readv.Goals as goal

pub returns-clause-disk : goal.returns-clause-disk
returns-clause-disk g c = c.read.ensures.disk
