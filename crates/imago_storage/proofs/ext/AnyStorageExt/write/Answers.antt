-- SPDX-License-Identifier: MIT
use Rattle.imago_storage.proofs.ext.AnyStorageExt.write.Goals as goal

pub returns : goal.returns
returns g c = search c.write_any.ensures
