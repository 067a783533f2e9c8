-- SPDX-License-Identifier: MIT
use Rattle.imago_storage.proofs.lent.RefMutStorage.resize.Goals as goal

pub returns-clause-unchanged : goal.returns-clause-unchanged
returns-clause-unchanged g c = c.resize.ensures.unchanged

pub returns-clause-performed : goal.returns-clause-performed
returns-clause-performed g c = c.resize.ensures.performed
